-- Stacks of names.
use Rattle.std.specs.Prelude.{◌≡◌, refl, ℕ, ◌+◌, ◌-◌, ◌≤◌, List, [], ◌∷◌, ◌++◌, length}
use Rattle.std.proofs.Common.{arith}
use Rattle.std.proofs.lemmas.List.{length-append}
use Rattle.std.proofs.Math.Seq.{drop-append_seam, take-append_seam, drop-append-add, take-append-add}
use Rattle.source_check.specs.Steps.{since, back, onto}

above : (m n : ℕ) → (m + n) - n ≡ m
above m n = omega arith

pub since-append : {N : Type 0} (xs ys : List N) → since (length ys) (xs ++ ys) ≡ xs
since-append xs ys = rw (length-append xs ys, above (length xs) (length ys)) (take-append_seam xs ys)

pub back-append : {N : Type 0} (xs ys : List N) → back (length ys) (xs ++ ys) ≡ ys
back-append xs ys = rw (length-append xs ys, above (length xs) (length ys)) (drop-append_seam xs ys)

pub onto-onto : {N : Type 0} (xs ys zs : List N) → onto (onto xs ys) zs ≡ onto ys (xs ++ zs)
onto-onto [] ys zs = refl
onto-onto (x ∷ xs) ys zs = onto-onto xs (x ∷ ys) zs

-- what lies deeper than all of a stack's new names
below : (k m n : ℕ) → k ≤ n → (m + n) - k ≡ m + (n - k)
below k m n h = omega arith

pub since-deeper : {N : Type 0} (k : ℕ) (xs ys : List N) → k ≤ length ys → since k (xs ++ ys) ≡ xs ++ since k ys
since-deeper k xs ys h = rw (length-append xs ys, below k (length xs) (length ys) h) (take-append-add xs ys (length ys - k))

pub back-deeper : {N : Type 0} (k : ℕ) (xs ys : List N) → k ≤ length ys → back k (xs ++ ys) ≡ back k ys
back-deeper k xs ys h = rw (length-append xs ys, below k (length xs) (length ys) h) (drop-append-add xs ys (length ys - k))

pub back-itself : {N : Type 0} (ys : List N) → back (length ys) ys ≡ ys
back-itself ys = back-append [] ys

pub onto-append : {N : Type 0} (xs ys zs : List N) → onto xs (ys ++ zs) ≡ onto xs ys ++ zs
onto-append [] ys zs = refl
onto-append (x ∷ xs) ys zs = onto-append xs (x ∷ ys) zs

pub length-onto : {N : Type 0} (xs ys : List N) → length (onto xs ys) ≡ length xs + length ys
length-onto [] ys = omega arith
length-onto (x ∷ xs) ys = omega (arith, length-onto xs (x ∷ ys))
