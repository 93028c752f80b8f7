use Rattle.std.proofs.Common.{◌≡◌, ◌+◌, length}
use Rattle.schemas.specs.Tails.{last_values}
use Rattle.schemas.proofs.tail.last_values.Given as goal

abbrev pub invariant-loop-number : goal.invariant-loop-number
invariant-loop-number g l =
    (l.builder ≡ last_values l.fn.builder l.region l.continuation l.values l.number)
    × (length l.builder.instrs ≡ length l.fn.builder.instrs + l.number)
