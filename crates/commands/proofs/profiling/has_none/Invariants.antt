use Rattle.std.proofs.Common.{◌≡◌, ◌≤◌, []}
use Rattle.commands.specs.Profiled.{sizes_below}
use Rattle.commands.proofs.profiling.has_none.Given as goal

abbrev pub invariant-loop-elements : goal.invariant-loop-elements
invariant-loop-elements l = record {
  few : l.elements ≤ 64;
  none : sizes_below l.sizes l.elements ≡ [];
}
