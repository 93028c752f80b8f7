use Rattle.std.proofs.Common.{take}
use Rattle.std.specs.Io.KnownBytes.{Appends}
use Rattle.sink.specs.Numbered.{numbered}
use Rattle.source_tokens.specs.Placing.{IsReached}
use Rattle.lowered_text.specs.Texts.{block_lines}
use Rattle.lowered_text.proofs.map.send_map.Given as goal

abbrev pub invariant-loop-block : goal.invariant-loop-block
invariant-loop-block g l = record {
  appended : Appends (g.W.Write.contents l.fn.writer) (g.W.Write.contents l.writer) (numbered (block_lines l.program) 0 (take l.block l.places));
  reached : IsReached l.program l.last;
}
