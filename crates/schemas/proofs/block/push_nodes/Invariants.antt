use Rattle.std.proofs.Common.{◌≡◌, ◌+◌, ◌*◌, ◌≤◌, drop, length}
use Rattle.schemas.specs.Blocks as Blocks
use Rattle.schemas.proofs.block.push_nodes.Given as goal

abbrev pub invariant-loop-index : goal.invariant-loop-index
invariant-loop-index g l =
    (Blocks.with_nodes l.builder l.scope (l.first + l.index) (drop l.index l.nodes) ≡ Blocks.with_nodes l.fn.builder l.scope l.first l.nodes)
    × (length l.builder.instrs ≤ length l.fn.builder.instrs + 64 * l.index)
