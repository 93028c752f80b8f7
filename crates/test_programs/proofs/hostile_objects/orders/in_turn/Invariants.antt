use Rattle.std.proofs.Common.{ℕ, ◌<◌, All}
use Rattle.test_programs.proofs.hostile_objects.orders.in_turn.Given as goal

abbrev pub invariant-loop-number : goal.invariant-loop-number
invariant-loop-number l = All (λ (pick : ℕ × ℕ). pick.0 < l.elements) l.picks.items
