use Rattle.std.proofs.Common.{take}
use Rattle.std.specs.Io.KnownBytes.{Appends}
use Rattle.disassembler.specs.Listing.{array_line}
use Rattle.sink.specs.Numbered.{numbered}
use Rattle.disassembler.proofs.listing.list_arrays.Given as goal

abbrev pub invariant-loop-number : goal.invariant-loop-number
invariant-loop-number g l = Appends (g.W.Write.contents l.fn.writer) (g.W.Write.contents l.writer)
    (numbered array_line 0 (take l.number l.object.code.program.arrays))
