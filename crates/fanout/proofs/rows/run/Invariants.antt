use Rattle.std.proofs.Common.{◌≡◌, ◌+◌, drop}
use Rattle.fanout.specs.Rows as of_rows
use Rattle.fanout.proofs.rows.run.Given as goal

abbrev pub invariant-loop-place : goal.invariant-loop-place
invariant-loop-place l = l.place + of_rows.run (drop l.place l.tied) ≡ of_rows.run l.tied
