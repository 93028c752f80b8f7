use Rattle.std.proofs.Common.{◌≡◌, take, drop}
use Rattle.graph_check.specs.Names.{names_of_arrays, IsIndexOf}
use Rattle.graph_check.specs.FirstFault.{first_in, array_name_fault}
use Rattle.graph_check.proofs.names.index_arrays.Given as goal

abbrev pub invariant-loop-i : goal.invariant-loop-i
invariant-loop-i g l = record {
  index : IsIndexOf l.index (take l.i (names_of_arrays l.arrays.items));
  before : first_in (array_name_fault (names_of_arrays l.arrays.items)) 0 (names_of_arrays l.arrays.items)
      ≡ first_in (array_name_fault (names_of_arrays l.arrays.items)) l.i (drop l.i (names_of_arrays l.arrays.items));
}
