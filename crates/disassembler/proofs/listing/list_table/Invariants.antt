use Rattle.std.proofs.Common.{take}
use Rattle.std.specs.Io.KnownBytes.{Appends}
use Rattle.disassembler.specs.Listing.{literal_line}
use Rattle.sink.specs.Numbered.{numbered}
use Rattle.disassembler.proofs.listing.list_table.Given as goal

abbrev pub invariant-loop-number : goal.invariant-loop-number
invariant-loop-number g l = Appends (g.W.Write.contents l.fn.writer) (g.W.Write.contents l.writer)
    (numbered literal_line 0 (take l.number l.object.code.literals))
