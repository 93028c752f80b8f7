use Rattle.std.proofs.Common.{◌≡◌, ◌++◌, replicate}
use Rattle.surface_check.proofs.opened.push_zeros.Given as goal

abbrev pub invariant-loop : goal.invariant-loop
invariant-loop g l = l.found.items ≡ l.initial.found.items ++ replicate l.counter 0
