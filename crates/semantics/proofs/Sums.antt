-- Sums over the numbers below a number.
use Rattle.std.proofs.Common.{◌<◌, ◌∙◌, ◌≡◌, ◌≤◌, ◌⊎◌, Bool, ap, arith, false, inl, inr, refl, suc, true, zero, ℕ}
use Rattle.std.proofs.lemmas.Bool.{cases_lt}
use Rattle.semantics.specs.Report.{sum_below, one_if}

pub sum_same : (n : ℕ) (f g : ℕ → ℕ) → ((k : ℕ) → k < n → f k ≡ g k) → sum_below n f ≡ sum_below n g
sum_same zero f g h = refl
sum_same (suc n) f g h = let a = sum_same n f g (λ k l. h k (omega (arith, l))) in let b = h n (omega arith) in omega (arith, a, b)

pub sum_of_zeros : (n : ℕ) (f : ℕ → ℕ) → ((k : ℕ) → f k ≡ 0) → sum_below n f ≡ 0
sum_of_zeros zero f h = refl
sum_of_zeros (suc n) f h = omega (arith, sum_of_zeros n f h, h n)

pub sum_zero : (n : ℕ) (f : ℕ → ℕ) → sum_below n f ≡ 0 → (k : ℕ) → k < n → f k ≡ 0
sum_zero zero f e k low = absurd (omega arith)
sum_zero (suc n) f e k low = by_place (cases_lt k n) (λ (l : k < n). sum_zero n f (omega arith) k l)
  where
    by_place : (k < n) ⊎ (n ≤ k) → (k < n → f k ≡ 0) → f k ≡ 0
    by_place (inl l) rest = rest l
    by_place (inr l) rest = let same : k ≡ n = omega arith in let z : f n ≡ 0 = omega arith in ap f same ∙ z

pub one_if_le : (b : Bool) → one_if b ≤ 1
one_if_le true = omega arith
one_if_le false = omega arith
