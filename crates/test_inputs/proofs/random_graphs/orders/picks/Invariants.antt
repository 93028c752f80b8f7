use Rattle.std.proofs.Common.{ℕ, ◌<◌, All}
use Rattle.test_inputs.proofs.random_graphs.orders.picks.Given as goal

abbrev pub invariant-loop : goal.invariant-loop
invariant-loop l = All (λ (pick : ℕ × ℕ). pick.0 < l.elements) l.picks.items
