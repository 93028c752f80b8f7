-- Arrays that are named by their numbers instead of names.
use Rattle.std.proofs.Common.{◌≡◌, ◌<◌, ◌≤◌, ◌+◌, ◌-◌, ℕ, zero, suc, List, [], ◌∷◌, length, drop, Bool, true, false, Option, Some, None, refl, sym}
use Rattle.std.proofs.Common.{ap, ◌∙◌, arith}
use Rattle.std.proofs.lemmas.List.{drop_all}
use Rattle.std.specs.Prelude.{decimal, nat_lt, slice_get, if◌then◌else◌}
use Rattle.report_text.specs.ReportText.{Arrays, name_of, name_at, named_by_number, place_in}

-- the array with a given number
from_place : (lens : List ℕ) (n : ℕ) (len : ℕ) → slice_get lens n ≡ Some len → drop n lens ≡ len ∷ drop (suc n) lens
from_place [] n len e = cc
from_place (l ∷ lens) zero len e = cc
from_place (l ∷ lens) (suc n) len e = from_place lens n len e

pub named : (lens : List ℕ) (k n : ℕ) → n < length lens → name_at (named_by_number k lens) n ≡ decimal (k + n)
unfolding named_by_number
named [] k n lt = absurd (omega (arith, lt))
named (l ∷ lens) k zero lt = let sums : k ≡ k + 0 = omega arith in ap decimal sums
named (l ∷ lens) k (suc n) lt =
    let sums : k + 1 + n ≡ k + suc n = omega arith in
    named lens (k + 1) n (omega (arith, lt)) ∙ ap decimal sums

pub unnamed : (lens : List ℕ) (k n : ℕ) → length lens ≤ n → name_at (named_by_number k lens) n ≡ []
unfolding named_by_number
unnamed [] k n le = refl
unnamed (l ∷ lens) k zero le = absurd (omega (arith, le))
unnamed (l ∷ lens) k (suc n) le = unnamed lens (k + 1) n (omega (arith, le))

-- a cell in the first array of the list, or in one after it
step : (lens rest : List ℕ) (n len i : ℕ) (b : Bool) → lens ≡ len ∷ rest → nat_lt i len ≡ b
    → place_in (named_by_number n lens) i ≡ (if b then Some (decimal n, i) else place_in (named_by_number (n + 1) rest) (i - len))
unfolding named_by_number
step lens rest n len i b e h = rw (e, h) refl

pub lies_in : (lens : List ℕ) (n len i : ℕ) (total : Option (List ℕ × ℕ)) → slice_get lens n ≡ Some len → nat_lt i len ≡ true
    → place_in (named_by_number n (drop n lens)) i ≡ total → Some (decimal n, i) ≡ total
lies_in lens n len i total e h so_far = sym (step (drop n lens) (drop (suc n) lens) n len i true (from_place lens n len e) h) ∙ so_far

pub lies_behind : (lens : List ℕ) (n len i : ℕ) (total : Option (List ℕ × ℕ)) → slice_get lens n ≡ Some len → nat_lt i len ≡ false
    → place_in (named_by_number n (drop n lens)) i ≡ total → place_in (named_by_number (n + 1) (drop (suc n) lens)) (i - len) ≡ total
lies_behind lens n len i total e h so_far = sym (step (drop n lens) (drop (suc n) lens) n len i false (from_place lens n len e) h) ∙ so_far

pub lies_nowhere : (lens : List ℕ) (n i : ℕ) (total : Option (List ℕ × ℕ)) → length lens ≤ n
    → place_in (named_by_number n (drop n lens)) i ≡ total → None ≡ total
unfolding named_by_number
lies_nowhere lens n i total le so_far = sym (ap (λ (l : List ℕ). place_in (named_by_number n l) i) (drop_all n lens le)) ∙ so_far
