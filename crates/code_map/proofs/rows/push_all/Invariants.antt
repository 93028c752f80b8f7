use Rattle.std.proofs.Common.{◌≡◌, ◌++◌, replicate}
use Rattle.code_map.proofs.rows.push_all.Given as goal

abbrev pub invariant-loop-once : goal.invariant-loop-once
invariant-loop-once g l = l.list.items ≡ l.fn.list.items ++ replicate l._once l.value
