use Rattle.std.proofs.Common.{take}
use Rattle.std.specs.Io.KnownBytes.{Appends}
use Rattle.dot.specs.CodeDot.{code_block_dot}
use Rattle.sink.specs.Numbered.{numbered}
use Rattle.dot.proofs.code_dot.send_blocks.Given as goal

abbrev pub invariant-loop-place : goal.invariant-loop-place
invariant-loop-place g l = Appends (g.W.Write.contents l.fn.writer) (g.W.Write.contents l.writer)
    (numbered code_block_dot 0 (take l.place l.object.code.program.blocks))
