use Rattle.std.proofs.Common.{take}
use Rattle.std.specs.Prelude.{flat_map}
use Rattle.std.specs.Io.KnownBytes.{Appends}
use Rattle.files.specs.Files.{integer_line}
use Rattle.files.proofs.lines.send_integers.Given as goal

abbrev pub invariant-loop-integer : goal.invariant-loop-integer
invariant-loop-integer g l = Appends (g.W.Write.contents l.fn.writer) (g.W.Write.contents l.writer) (flat_map integer_line (take l.integer-index l.integers))
