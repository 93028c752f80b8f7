use Rattle.std.proofs.Common.{◌≡◌, ◌+◌, drop}
use Rattle.schemas.specs.UseCounts.{noted_nodes}
use Rattle.schemas.proofs.uses.note_nodes.Given as goal

abbrev pub invariant-loop-index : goal.invariant-loop-index
invariant-loop-index g l = noted_nodes l.uses l.block l.triggers (l.first + l.index) (drop l.index l.nodes) ≡ noted_nodes l.fn.uses l.block l.triggers
    l.first l.nodes
