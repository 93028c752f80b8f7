use Rattle.std.proofs.Common.{take}
use Rattle.std.specs.Prelude.{flat_map}
use Rattle.std.specs.Io.KnownBytes.{Appends}
use Rattle.object_view.specs.Sending.{bytes_of_word}
use Rattle.object_view.proofs.writing.send_arrays.Given as goal

abbrev pub invariant-loop-len : goal.invariant-loop-len
invariant-loop-len g l = Appends (g.W.Write.contents l.fn.writer) (g.W.Write.contents l.writer) (flat_map bytes_of_word (take l.len-index l.arrays))
