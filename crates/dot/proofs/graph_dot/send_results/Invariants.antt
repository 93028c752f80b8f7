use Rattle.std.proofs.Common.{take}
use Rattle.std.specs.Io.KnownBytes.{Appends}
use Rattle.sink.specs.Numbered.{numbered}
use Rattle.dot.specs.GraphDot.{edge, node_dot, result_dot, block_dot}
use Rattle.dot.proofs.graph_dot.send_results.Given as goal

abbrev pub invariant-loop-output : goal.invariant-loop-output
invariant-loop-output g l = Appends (g.W.Write.contents l.fn.writer) (g.W.Write.contents l.writer) (numbered (result_dot l.place) 0 (take l.output l.results))
