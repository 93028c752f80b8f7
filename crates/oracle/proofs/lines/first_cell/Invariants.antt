use Rattle.std.proofs.Common.{◌≡◌, ◌+◌, ◌≤◌, drop}
use Rattle.oracle.specs.Lines.{first_of, total_of}
use Rattle.oracle.proofs.lines.first_cell.Given as goal

abbrev pub invariant-loop-array : goal.invariant-loop-array
invariant-loop-array l =
    (first_of l.arrays l.fn.array ≡ l.first + first_of (drop l.array-index l.arrays) l.left)
    × (l.first + total_of (drop l.array-index l.arrays) ≤ 65536)
