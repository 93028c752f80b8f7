-- One of a list counts in its sum.
use Rattle.std.proofs.Common.{[], ◌∷◌, ◌≡◌, ◌≤◌, Bool, List, Some, ap, arith, if◌then◌else◌, slice_get, suc, sum_by, true, zero, ℕ}
use Rattle.std.specs.Prelude.{count_by}
use Rattle.std.proofs.lemmas.List.Sums.{sum_by-cons}

pub one_of_sum : {X : Type 0} (f : X → ℕ) (xs : List X) (i : ℕ) (x : X) → slice_get xs i ≡ Some x → f x ≤ sum_by f xs
one_of_sum f [] i x e = absurd (cc)
one_of_sum f (y ∷ xs) zero x e = let same : y ≡ x = cc in let k = ap f same in let c = sum_by-cons f y xs in omega (arith, k, c)
one_of_sum f (y ∷ xs) (suc i) x e = let k = one_of_sum f xs i x e in let c = sum_by-cons f y xs in omega (arith, k, c)

abbrev pub count_if : Bool → ℕ
count_if t = if t then 1 else 0

pub one_of_count : {X : Type 0} (test : X → Bool) (xs : List X) (i : ℕ) (x : X) → slice_get xs i ≡ Some x → test x ≡ true → 1 ≤ count_by test xs
one_of_count test xs i x e t = let k = one_of_sum (λ (x : _). count_if (test x)) xs i x e in let one = ap count_if t in omega (arith, k, one)
