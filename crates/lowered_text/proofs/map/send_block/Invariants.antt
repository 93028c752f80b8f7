use Rattle.std.proofs.Common.{◌+◌, take}
use Rattle.std.specs.Io.KnownBytes.{Appends}
use Rattle.sink.specs.Numbered.{numbered}
use Rattle.source.specs.Tokens.{position}
use Rattle.source_tokens.specs.Placing.{IsReached}
use Rattle.lowered_text.specs.Texts.{node_line}
use Rattle.lowered_text.proofs.map.send_block.Given as goal

abbrev pub invariant-loop-line : goal.invariant-loop-line
invariant-loop-line g l = record {
  appended : Appends (g.W.Write.contents l.fn.writer) (g.W.Write.contents l.writer)
      (numbered (λ line at. node_line l.block (l.places.inputs + line) (position l.program at)) 0 (take l.line l.at-items));
  reached : IsReached l.program l.last;
}
