use Rattle.std.proofs.Common.{ℕ, ◌<◌, All}
use Rattle.test_machines.proofs.running.picks_in.Given as goal

abbrev pub invariant-loop-word : goal.invariant-loop-word
invariant-loop-word l = All (λ (pick : ℕ × ℕ). pick.0 < l.elements) l.picks.items
