use Rattle.std.proofs.Common.{◌≡◌, drop}
use Rattle.schemas.specs.Triggers as Triggers
use Rattle.schemas.proofs.triggers.note_nodes.Given as goal

abbrev pub invariant-loop-node : goal.invariant-loop-node
invariant-loop-node g l = Triggers.with_nodes l.triggers (drop l.node-index l.nodes) ≡ Triggers.with_nodes l.fn.triggers l.nodes
