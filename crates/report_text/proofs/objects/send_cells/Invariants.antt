use Rattle.std.proofs.Common.{take}
use Rattle.std.specs.Prelude.{flat_map}
use Rattle.std.specs.Io.KnownBytes.{Appends}
use Rattle.report_text.specs.ReportText.{cell_line, named_by_number}
use Rattle.report_text.proofs.objects.send_cells.Given as goal

abbrev pub invariant-loop-cell : goal.invariant-loop-cell
invariant-loop-cell g l = Appends (g.W.Write.contents l.fn.writer) (g.W.Write.contents l.writer)
    (flat_map (cell_line (named_by_number 0 l.object.code.program.arrays)) (take l.cell-index l.cells))
