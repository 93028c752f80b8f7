use Rattle.std.proofs.Common.{◌≡◌, ◌+◌, length}
use Rattle.schemas.specs.Blocks as Blocks
use Rattle.schemas.proofs.block.push_inputs.Given as goal

abbrev pub invariant-loop-number : goal.invariant-loop-number
invariant-loop-number g l =
    (l.builder ≡ Blocks.with_inputs l.fn.builder l.scope l.number)
    × (length l.builder.instrs ≡ length l.fn.builder.instrs + l.number)
