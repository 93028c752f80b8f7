use Rattle.std.proofs.Common.{◌≡◌, ◌+◌, ◌≤◌, ◌++◌, drop}
use Rattle.oracle.specs.Lines.{total_of}
use Rattle.oracle.specs.Running.{full_in}
use Rattle.oracle.proofs.runs.full_cells.Given as goal

abbrev pub invariant-loop-i : goal.invariant-loop-i
invariant-loop-i g l =
    (full_in l.cells 0 0 l.arrays ≡ l.full.items ++ full_in l.cells l.i l.first (drop l.i l.arrays))
    × (l.first + total_of (drop l.i l.arrays) ≤ 65536)
