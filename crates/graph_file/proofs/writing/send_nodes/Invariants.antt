use Rattle.std.proofs.Common.{take}
use Rattle.std.specs.Prelude.{flat_map}
use Rattle.std.specs.Io.KnownBytes.{Appends}
use Rattle.semantics.specs.Text.{node_line}
use Rattle.graph_file.proofs.writing.send_nodes.Given as goal

abbrev pub invariant-loop-node : goal.invariant-loop-node
invariant-loop-node g l = Appends (g.W.Write.contents l.fn.writer) (g.W.Write.contents l.writer) (flat_map node_line (take l.node-index l.nodes))
