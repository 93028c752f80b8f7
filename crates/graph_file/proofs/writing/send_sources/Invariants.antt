use Rattle.std.proofs.Common.{take}
use Rattle.std.specs.Prelude.{flat_map}
use Rattle.std.specs.Io.KnownBytes.{Appends}
use Rattle.graph_file.specs.Sending.{source_text}
use Rattle.graph_file.proofs.writing.send_sources.Given as goal

abbrev pub invariant-loop-source : goal.invariant-loop-source
invariant-loop-source g l = Appends (g.W.Write.contents l.fn.writer) (g.W.Write.contents l.writer) (flat_map source_text (take l.source-index l.sources))
