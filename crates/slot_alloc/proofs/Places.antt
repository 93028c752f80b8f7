-- What is true of each instruction with its place, by recursion on the list and by place.
use Rattle.std.proofs.Common.{◌≡◌, refl, ℕ, zero, suc, ◌+◌, List, [], ◌∷◌, Some, subst, arith}
use Rattle.std.specs.Prelude.{slice_get, ⊤}
use Rattle.std.proofs.lemmas.Option.{same_Some}

module _ {A : Type 0} (P : ℕ → A → Type 0) where
  abbrev pub ByPlace : ℕ → List A → Type 0
  ByPlace n [] = ⊤
  ByPlace n (i ∷ is) = P n i × ByPlace (n + 1) is

  pub at_place : (n : ℕ) (is : List A) → ByPlace n is → (k : ℕ) (i : A) → slice_get is k ≡ Some i → P (n + k) i
  at_place n [] h k i e = cc
  at_place n (j ∷ is) h zero i e = let m : n ≡ n + zero = omega arith in subst (λ (x : ℕ). P x i) m (subst (P n) (same_Some j i e) h.0)
  at_place n (j ∷ is) h (suc k) i e = let m : (n + 1) + k ≡ n + suc k = omega arith in subst (λ (x : ℕ). P x i) m (at_place (n + 1) is h.1 k i e)

  pub from_places : (n : ℕ) (is : List A) → ((k : ℕ) (i : A) → slice_get is k ≡ Some i → P (n + k) i) → ByPlace n is
  from_places n [] h = tt
  from_places n (j ∷ is) h = (
    (let m : n + zero ≡ n = omega arith in subst (λ (x : ℕ). P x j) m (h zero j refl)),
    from_places (n + 1) is (λ k i e. let m : n + suc k ≡ (n + 1) + k = omega arith in subst (λ (x : ℕ). P x i) m (h (suc k) i e)),
  )
