use Rattle.std.proofs.Common.{take}
use Rattle.std.specs.Io.KnownBytes.{Appends}
use Rattle.sink.specs.Numbered.{numbered}
use Rattle.source_tokens.specs.Placing.{IsReached}
use Rattle.map_text.specs.MapText.{code_line}
use Rattle.map_text.proofs.map.send_block.Given as goal

abbrev pub invariant-loop-instr : goal.invariant-loop-instr
invariant-loop-instr g l = record {
  appended : Appends (g.W.Write.contents l.fn.writer) (g.W.Write.contents l.writer) (numbered (code_line l.names l.code) 0 (take l.instr l.owners));
  reached : IsReached l.names.program l.last;
}
