use Rattle.std.proofs.Common.{◌≡◌, ◌++◌, drop}
use Rattle.oracle.specs.Running.{no_cells}
use Rattle.oracle.proofs.runs.empty_cells.Given as goal

abbrev pub invariant-loop-array : goal.invariant-loop-array
invariant-loop-array g l = no_cells l.arrays ≡ l.cells.items ++ no_cells (drop l.array-index l.arrays)
