use Rattle.std.proofs.Common.{◌≡◌, ◌++◌, length}
use Rattle.lowering.specs.Uses.{shown}
use Rattle.lowering.proofs.scan.used_before.Given as goal

abbrev pub invariant-loop-name : goal.invariant-loop-name
invariant-loop-name g l = l.first.items ++ shown l.marks.items ≡ l.fn.first.items ++ shown l.fn.marks.items

abbrev pub decreases-loop-name : goal.decreases-loop-name
decreases-loop-name g l = length l.first.items
