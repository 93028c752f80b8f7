use Rattle.std.proofs.Common.{take}
use Rattle.std.specs.Prelude.{flat_map}
use Rattle.std.specs.Io.KnownBytes.{Appends}
use Rattle.semantics.specs.Text.{block_text}
use Rattle.graph_file.proofs.writing.send_blocks.Given as goal

abbrev pub invariant-loop-block : goal.invariant-loop-block
invariant-loop-block g l = Appends (g.W.Write.contents l.fn.writer) (g.W.Write.contents l.writer) (flat_map block_text (take l.block-index l.blocks))
