use Rattle.std.proofs.Common.{◌≡◌, ◌<◌, ℕ, Some}
use Rattle.std.specs.Prelude.{slice_get}
use Rattle.replay.proofs.ledger.Ledger.number_of.Given as goal

-- No token so far is the one that is looked for.
abbrev pub invariant-loop-number : goal.invariant-loop-number
invariant-loop-number g l = (i : ℕ) → i < l.number → slice_get l.self.places.items i ≡ Some (Some l.token) → ⊥
