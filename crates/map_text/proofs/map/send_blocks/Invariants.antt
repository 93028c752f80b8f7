use Rattle.std.proofs.Common.{take}
use Rattle.std.specs.Io.KnownBytes.{Appends}
use Rattle.sink.specs.Numbered.{numbered}
use Rattle.source_tokens.specs.Placing.{IsReached}
use Rattle.map_text.specs.MapText.{block_lines, owners_in}
use Rattle.map_text.proofs.map.send_blocks.Given as goal

abbrev pub invariant-loop-code : goal.invariant-loop-code
invariant-loop-code g l = record {
  appended : Appends (g.W.Write.contents l.fn.writer) (g.W.Write.contents l.writer)
      (numbered (λ code b. block_lines l.names code (owners_in l.object.code.program l.owners code b)) 0 (take l.code l.object.code.program.blocks));
  reached : IsReached l.names.program l.last;
}
