use Rattle.std.proofs.Common.{◌≡◌, ◌+◌, ◌≤◌, drop}
use Rattle.assembler.specs.Checks.{arrays_checked}
use Rattle.assembler.proofs.checks.check_arrays.Given as goal

abbrev pub invariant-loop-length : goal.invariant-loop-length
invariant-loop-length l = record {
  so_far : arrays_checked l.line l.cells (drop l.length-index l.arrays) ≡ arrays_checked l.index 0 l.arrays;
  few :
      l.cells ≤ 65536;
  line : l.line ≡ l.index + l.length-index;
}
