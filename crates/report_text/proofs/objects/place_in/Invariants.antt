use Rattle.std.proofs.Common.{◌≡◌, drop}
use Rattle.report_text.specs.ReportText.{named_by_number, place_in}
use Rattle.report_text.proofs.objects.place_in.Given as goal

abbrev pub invariant-loop-number : goal.invariant-loop-number
invariant-loop-number l = place_in (named_by_number l.number (drop l.number l.object.code.program.arrays)) l.index
    ≡ place_in (named_by_number 0 l.object.code.program.arrays) l.cell
