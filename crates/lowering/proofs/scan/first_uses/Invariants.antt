use Rattle.std.proofs.Common.{◌≡◌, ◌++◌, drop, filter}
use Rattle.source.specs.Outside.{once}
use Rattle.lowering.specs.Uses.{shown, lacks}
use Rattle.lowering.proofs.scan.first_uses.Given as goal

abbrev pub invariant-loop-i : goal.invariant-loop-i
invariant-loop-i g l = l.kept.items ++ filter (lacks l.known.names) (once (shown (drop l.i l.marks.items))) ≡ once (shown l.marks.items)
