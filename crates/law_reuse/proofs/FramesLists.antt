-- What each element of a list has, and what each two have.
use Rattle.std.proofs.Common.{◌≡◌, refl, ap, subst, ℕ, zero, suc, List, [], ◌∷◌, Some, slice_get}
use Rattle.lemmas.proofs.Permutations.{Each, Spread}
use Rattle.semantics.specs.Handed.{EachOnce}

abbrev pub Differ : ℕ → ℕ → Type 0
Differ f g = f ≡ g → ⊥

each_at : (P : ℕ → Type 0) (xs : List ℕ) (i f : ℕ) → Each P xs → slice_get xs i ≡ Some f → P f
each_at P [] i f h e = cc
each_at P (x ∷ xs) zero f h e = let same : x ≡ f = cc in subst P same h.0
each_at P (x ∷ xs) (suc i) f h e = each_at P xs i f h.1 e

pub all_differ : (xs : List ℕ) → Spread Differ xs → EachOnce xs
all_differ [] h i j f e g = cc
all_differ (x ∷ xs) h zero zero f e g = refl
all_differ (x ∷ xs) h zero (suc j) f e g = let same : x ≡ f = cc in absurd (each_at (Differ x) xs j f h.0 g same)
all_differ (x ∷ xs) h (suc i) zero f e g = let same : x ≡ f = cc in absurd (each_at (Differ x) xs i f h.0 e same)
all_differ (x ∷ xs) h (suc i) (suc j) f e g = ap suc (all_differ xs h.1 i j f e g)
