use Rattle.std.proofs.Common.{◌≡◌, ◌++◌, drop, filter}
use Rattle.lowering.specs.Uses.{shown, lacks}
use Rattle.lowering.proofs.scan.all_shown.Given as goal

abbrev pub invariant-loop-i : goal.invariant-loop-i
invariant-loop-i g l = l.kept.items ++ filter (lacks l.hidden.names) (shown (drop l.i l.marks.items)) ≡ shown l.marks.items
