-- Rows in a list of lists.
use Rattle.std.proofs.Common.{◌≡◌, ℕ, zero, suc, ◌<◌, Bool, true, false, ◌==◌, List, [], ◌∷◌, ◌++◌, map, length, slice_set, slice_index_or}
use Rattle.std.proofs.Common.{if◌then◌else◌, refl, sym, ap, ◌∙◌, arith, eqb-true}
use Rattle.std.proofs.lemmas.Bool.{eqb-false}
use Rattle.std.proofs.lemmas.List.{map-append}
use Rattle.oracle.specs.declared.tokens.Token.{Token}
use Rattle.oracle.specs.Rows.{rows_of, with_row}

last_empty : (ls : List (List Token)) (c : ℕ) → rows_of (ls ++ [] ∷ []) c ≡ rows_of ls c
last_empty [] zero = refl
last_empty [] (suc c) = refl
last_empty (l ∷ ls) zero = refl
last_empty (l ∷ ls) (suc c) = last_empty ls c

-- an empty row more
pub row_added : {V : Type 0} (f : V → List Token) (vs : List V) (v : V) → f v ≡ [] → rows_of (map f (vs ++ v ∷ [])) ≡ rows_of (map f vs)
row_added f vs v e =
    ap rows_of (map-append f vs (v ∷ [])) ∙ ap (λ r. rows_of (map f vs ++ r ∷ [])) e ∙ (λ i c. last_empty (map f vs) c i)

pub set_here : {V : Type 0} (f : V → List Token) (vs : List V) (i : ℕ) (v : V) → i < length vs → rows_of (map f (slice_set vs i v)) i ≡ f v
set_here f [] i v h = absurd (omega (arith, h))
set_here f (w ∷ vs) zero v h = refl
set_here f (w ∷ vs) (suc i) v h = set_here f vs i v (omega (arith, h))

set_other : {V : Type 0} (f : V → List Token) (vs : List V) (i d : ℕ) (v : V) → (d ≡ i → ⊥) → rows_of (map f (slice_set vs i v)) d ≡ rows_of (map f vs) d
set_other f [] i d v other = refl
set_other f (w ∷ vs) zero zero v other = absurd (other refl)
set_other f (w ∷ vs) zero (suc d) v other = refl
set_other f (w ∷ vs) (suc i) zero v other = refl
set_other f (w ∷ vs) (suc i) (suc d) v other = set_other f vs i d v (λ e. other (ap suc e))

-- a row is written
pub row_set : {V : Type 0} (f : V → List Token) (vs : List V) (i : ℕ) (v : V) → i < length vs → with_row (rows_of (map f vs)) i (f v)
    ≡ rows_of (map f (slice_set vs i v))
row_set f vs i v h = λ k d. at d k
  where
    at : (d : ℕ) → with_row (rows_of (map f vs)) i (f v) d ≡ rows_of (map f (slice_set vs i v)) d
    at d = go (d == i) refl
      where
        go : (b : Bool) → (d == i) ≡ b → (if b then f v else rows_of (map f vs) d) ≡ rows_of (map f (slice_set vs i v)) d
        go true p = sym (ap (λ k. rows_of (map f (slice_set vs i v)) k) (eqb-true d i p) ∙ set_here f vs i v h)
        go false p = sym (set_other f vs i d v (eqb-false d i p))

-- the row of an invocation is at its number
pub row_here : {V : Type 0} (f : V → List Token) (vs : List V) (i : ℕ) (d : V) → i < length vs → rows_of (map f vs) i ≡ f (slice_index_or vs i d)
row_here f [] i d h = absurd (omega (arith, h))
row_here f (v ∷ vs) zero d h = refl
row_here f (v ∷ vs) (suc i) d h = row_here f vs i d (omega (arith, h))
