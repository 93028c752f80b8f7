use Rattle.std.proofs.Common.{take}
use Rattle.std.specs.Io.KnownBytes.{Appends}
use Rattle.sink.specs.Numbered.{numbered}
use Rattle.html_text.specs.Escape.{byte_at}
use Rattle.html_text.proofs.escape.send_escaped.Given as goal

abbrev pub invariant-loop-place : goal.invariant-loop-place
invariant-loop-place g l = Appends (g.W.Write.contents l.fn.writer) (g.W.Write.contents l.writer) (numbered byte_at 0 (take l.place l.bytes))
