use Rattle.std.proofs.Common.{◌≡◌, ◌-◌, ◌++◌}
use Rattle.oracle.specs.Running.{nones}
use Rattle.oracle.proofs.runs.push_empty.Given as goal

abbrev pub invariant-loop-made : goal.invariant-loop-made
invariant-loop-made g l = l.fn.places.items ++ nones l.count ≡ l.places.items ++ nones (l.count - l._made)
