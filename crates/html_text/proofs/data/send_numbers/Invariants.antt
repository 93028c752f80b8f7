use Rattle.std.proofs.Common.{take}
use Rattle.std.specs.Io.KnownBytes.{Appends}
use Rattle.sink.specs.Numbered.{numbered}
use Rattle.html_text.specs.DataText.{listed_number}
use Rattle.html_text.proofs.data.send_numbers.Given as goal

abbrev pub invariant-loop-place : goal.invariant-loop-place
invariant-loop-place g l = Appends (g.W.Write.contents l.fn.writer) (g.W.Write.contents l.writer) (numbered listed_number 0 (take l.place l.numbers))
