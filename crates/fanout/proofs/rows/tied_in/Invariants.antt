use Rattle.std.proofs.Common.{◌≡◌, drop, length}
use Rattle.fanout.specs.Rows as of_rows
use Rattle.fanout.proofs.rows.tied_in.Given as goal

abbrev pub invariant-loop-place : goal.invariant-loop-place
invariant-loop-place g l =
    (of_rows.tie_all l.plan l.tied.items l.place (drop l.place l.instrs) ≡ of_rows.tied_in l.plan l.fn.inputs l.instrs)
    × (length l.tied.items ≡ length l.instrs)
