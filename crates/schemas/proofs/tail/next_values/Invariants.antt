use Rattle.std.proofs.Common.{◌≡◌, ◌+◌, length}
use Rattle.schemas.specs.Tails.{next_values}
use Rattle.schemas.proofs.tail.next_values.Given as goal

abbrev pub invariant-loop-number : goal.invariant-loop-number
invariant-loop-number g l =
    (l.builder ≡ next_values l.fn.builder l.block l.region l.frame l.values l.number)
    × (length l.builder.instrs ≡ length l.fn.builder.instrs + l.number)
