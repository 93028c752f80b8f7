use Rattle.std.proofs.Common.{◌≡◌, ◌++◌, length}
use Rattle.lowering.specs.Functions.{of_function}
use Rattle.lowering.proofs.functions.add_blocks.Given as goal

abbrev pub invariant-loop-block : goal.invariant-loop-block
invariant-loop-block g l = l.done.items ++ of_function l.function l.rest.items ≡ l.fn.done.items ++ of_function l.function l.fn.blocks.items

abbrev pub decreases-loop-block : goal.decreases-loop-block
decreases-loop-block g l = length l.rest.items
