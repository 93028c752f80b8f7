use Rattle.std.proofs.Common.{take}
use Rattle.std.specs.Io.KnownBytes.{Appends}
use Rattle.sink.specs.Numbered.{numbered}
use Rattle.dot.specs.GraphDot.{edge, node_dot, result_dot, block_dot}
use Rattle.dot.proofs.graph_dot.send_blocks.Given as goal

abbrev pub invariant-loop-place : goal.invariant-loop-place
invariant-loop-place g l = Appends (g.W.Write.contents l.fn.writer) (g.W.Write.contents l.writer) (numbered (block_dot) 0 (take l.place l.blocks))
