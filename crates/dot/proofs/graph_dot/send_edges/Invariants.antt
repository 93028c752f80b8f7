use Rattle.std.proofs.Common.{take}
use Rattle.std.specs.Io.KnownBytes.{Appends}
use Rattle.sink.specs.Numbered.{numbered}
use Rattle.dot.specs.GraphDot.{edge, node_dot, result_dot, block_dot}
use Rattle.dot.proofs.graph_dot.send_edges.Given as goal

abbrev pub invariant-loop-operand : goal.invariant-loop-operand
invariant-loop-operand g l = Appends (g.W.Write.contents l.fn.writer) (g.W.Write.contents l.writer)
    (numbered (edge l.place l.node l.style) 0 (take l.operand l.sources))
