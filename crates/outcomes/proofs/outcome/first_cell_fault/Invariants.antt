use Rattle.std.proofs.Common.{◌≡◌, drop}
use Rattle.outcomes.specs.Outcomes.{first_cell_fault}
use Rattle.outcomes.proofs.outcome.first_cell_fault.Given as goal

abbrev pub invariant-loop-cell : goal.invariant-loop-cell
invariant-loop-cell l = first_cell_fault l.cells ≡ first_cell_fault (drop l.cell-index l.cells)
