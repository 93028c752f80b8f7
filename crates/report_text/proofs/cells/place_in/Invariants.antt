use Rattle.std.proofs.Common.{◌≡◌, drop}
use Rattle.report_text.specs.ReportText.{place_in}
use Rattle.report_text.proofs.cells.place_in.Given as goal

abbrev pub invariant-loop-array : goal.invariant-loop-array
invariant-loop-array l = place_in l.arrays l.cell ≡ place_in (drop l.array-index l.arrays) l.index
