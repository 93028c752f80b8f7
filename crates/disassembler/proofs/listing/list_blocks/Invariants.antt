use Rattle.std.proofs.Common.{take}
use Rattle.std.specs.Io.KnownBytes.{Appends}
use Rattle.disassembler.specs.Listing.{block_lines}
use Rattle.sink.specs.Numbered.{numbered}
use Rattle.disassembler.proofs.listing.list_blocks.Given as goal

abbrev pub invariant-loop-number : goal.invariant-loop-number
invariant-loop-number g l = Appends (g.W.Write.contents l.fn.writer) (g.W.Write.contents l.writer)
    (numbered block_lines 0 (take l.number l.object.code.program.blocks))
