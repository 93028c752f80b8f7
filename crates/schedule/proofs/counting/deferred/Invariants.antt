use Rattle.std.proofs.Common.{◌≡◌, map}
use Rattle.semantics.specs.Report.{sum_below}
use Rattle.element.specs.Holding.{held_of}
use Rattle.schedule.specs.Reported.{cell_readers}
use Rattle.schedule.proofs.counting.deferred.Given as goal

abbrev pub invariant-loop-cell : goal.invariant-loop-cell
invariant-loop-cell g l = l.count ≡ sum_below l.cell (λ x. cell_readers l.elements (map held_of l.lanes) x)
