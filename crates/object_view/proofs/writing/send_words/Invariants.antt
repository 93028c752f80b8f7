use Rattle.std.proofs.Common.{take}
use Rattle.std.specs.Prelude.{flat_map}
use Rattle.std.specs.Io.KnownBytes.{Appends}
use Rattle.object_view.specs.Sending.{bytes_of_word}
use Rattle.object_view.proofs.writing.send_words.Given as goal

abbrev pub invariant-loop-word : goal.invariant-loop-word
invariant-loop-word g l = Appends (g.W.Write.contents l.fn.writer) (g.W.Write.contents l.writer) (flat_map bytes_of_word (take l.word-index l.words))
