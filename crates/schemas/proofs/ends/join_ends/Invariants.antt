use Rattle.std.proofs.Common.{◌≡◌, ◌+◌, ◌≤◌, drop, length}
use Rattle.schemas.specs.Ends as Ends
use Rattle.schemas.proofs.ends.join_ends.Given as goal

abbrev pub invariant-loop-end : goal.invariant-loop-end
invariant-loop-end g l =
    (Ends.join_ends l.builder l.signal l.region (drop l.end-index l.ends) ≡ Ends.join_ends l.fn.builder Ends.no_signal l.region l.ends)
    × (length l.builder.instrs ≤ length l.fn.builder.instrs + l.end-index)
