use Rattle.std.proofs.Common.{take}
use Rattle.std.specs.Prelude.{flat_map}
use Rattle.std.specs.Io.KnownBytes.{Appends}
use Rattle.semantics.specs.Text.{array_line}
use Rattle.graph_file.proofs.writing.send_arrays.Given as goal

abbrev pub invariant-loop-array : goal.invariant-loop-array
invariant-loop-array g l = Appends (g.W.Write.contents l.fn.writer) (g.W.Write.contents l.writer) (flat_map array_line (take l.array-index l.arrays))
