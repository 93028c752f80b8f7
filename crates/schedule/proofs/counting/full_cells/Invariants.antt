use Rattle.std.proofs.Common.{◌≡◌, map}
use Rattle.element.specs.Holding.{held_of}
use Rattle.schedule.specs.Reported.{full_below}
use Rattle.schedule.proofs.counting.full_cells.Given as goal

abbrev pub invariant-loop-cell : goal.invariant-loop-cell
invariant-loop-cell g l = l.full.items ≡ full_below l.elements (map held_of l.lanes) l.cell
