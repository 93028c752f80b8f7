use Rattle.std.proofs.Common.{ℕ, ◌<◌, All}
use Rattle.test_rows.proofs.lists.picks.Given as goal

abbrev pub invariant-loop-i : goal.invariant-loop-i
invariant-loop-i l = All (λ (pick : ℕ × ℕ). pick.0 < l.elements) l.picks.items
