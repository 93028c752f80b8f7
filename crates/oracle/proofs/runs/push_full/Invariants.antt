use Rattle.std.proofs.Common.{◌≡◌, ◌+◌, ◌-◌, ◌++◌}
use Rattle.oracle.specs.Running.{full_from}
use Rattle.oracle.proofs.runs.push_full.Given as goal

abbrev pub invariant-loop-index : goal.invariant-loop-index
invariant-loop-index g l = l.fn.full.items ++ full_from l.cells l.array l.fn.first 0 l.len ≡ l.full.items
    ++ full_from l.cells l.array (l.first + l.index) l.index (l.len - l.index)
