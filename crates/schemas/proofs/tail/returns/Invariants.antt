use Rattle.std.proofs.Common.{◌≡◌, ◌+◌, drop, length}
use Rattle.schemas.specs.Tails.{returns}
use Rattle.schemas.proofs.tail.returns.Given as goal

abbrev pub invariant-loop-output : goal.invariant-loop-output
invariant-loop-output g l =
    (returns l.builder l.output (drop l.output l.results) ≡ returns l.fn.builder 0 l.results)
    × (length l.builder.instrs ≡ length l.fn.builder.instrs + l.output)
