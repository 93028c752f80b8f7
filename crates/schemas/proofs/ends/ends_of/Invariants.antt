use Rattle.std.proofs.Common.{◌≡◌, ◌*◌, ◌≤◌, drop, length}
use Rattle.schemas.specs.Ends as Ends
use Rattle.schemas.proofs.ends.ends_of.Given as goal

abbrev pub invariant-loop-place : goal.invariant-loop-place
invariant-loop-place g l =
    (Ends.ends_from l.ends.items l.builder l.place (drop l.place l.builder.instrs) ≡ Ends.ends_of l.builder)
    × (length l.ends.items ≤ 2 * l.place)
