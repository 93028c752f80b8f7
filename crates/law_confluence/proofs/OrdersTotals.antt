-- A test counts one or nothing.
use Rattle.std.proofs.Common.{◌≡◌, Bool, true, false, refl, inl, inr, ◌⊎◌}
use Rattle.law_confluence.specs.OrdersTotals.{one}

pub one-cases : (t : Bool) → ((t ≡ true) × (one t ≡ 1)) ⊎ ((t ≡ false) × (one t ≡ 0))
one-cases true = inl (refl, refl)
one-cases false = inr (refl, refl)
