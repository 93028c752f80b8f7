use Rattle.std.proofs.Common.{take}
use Rattle.std.specs.Prelude.{flat_map}
use Rattle.std.specs.Io.KnownBytes.{Appends}
use Rattle.object_view.specs.Sending.{bytes_of_block}
use Rattle.object_view.proofs.writing.send_blocks.Given as goal

abbrev pub invariant-loop-block : goal.invariant-loop-block
invariant-loop-block g l = Appends (g.W.Write.contents l.fn.writer) (g.W.Write.contents l.writer)
    (flat_map (bytes_of_block l.literals) (take l.block-index l.blocks))
