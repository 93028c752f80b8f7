use Rattle.std.proofs.Common.{◌≡◌, map, take}
use Rattle.ets_core.specs.Values.{cell_of}
use Rattle.ets_core.proofs.values.cells_of.Given as goal

abbrev pub invariant-loop-cell : goal.invariant-loop-cell
invariant-loop-cell l = l.full.items ≡ map cell_of (take l.cell-index l.cells)
