use Rattle.std.proofs.Common.{take}
use Rattle.std.specs.Io.KnownBytes.{Appends}
use Rattle.sink.specs.Numbered.{numbered}
use Rattle.dot.specs.GraphDot.{edge, node_dot, result_dot, block_dot}
use Rattle.dot.proofs.graph_dot.send_nodes.Given as goal

abbrev pub invariant-loop-line : goal.invariant-loop-line
invariant-loop-line g l = Appends (g.W.Write.contents l.fn.writer) (g.W.Write.contents l.writer) (numbered (node_dot l.place l.block.1) 0 (take l.line l.nodes))
