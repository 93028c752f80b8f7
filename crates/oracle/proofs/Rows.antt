-- A run over rows is the run over one list: only tokens of its own invocation are partners of a token.
use Rattle.std.proofs.Common.{◌≡◌, ℕ, suc, ◌+◌, Bool, true, false, ◌&&◌, ◌||◌, ◌==◌, List, [], ◌∷◌, ◌++◌, Option, Some, None, slice_get}
use Rattle.std.proofs.Common.{if◌then◌else◌, refl, sym, ap, ap₂, ◌∙◌, subst, arith, eqb-true}
use Rattle.std.specs.Prelude.{remove, is_some}
use Rattle.tags.specs.declared.value.Value.{Value}
use Rattle.oracle.specs.declared.tokens.Spot.{Spot}
use Rattle.oracle.specs.declared.tokens.Token.{Token}
use Rattle.oracle.specs.Lines.{same_spot}
use Rattle.oracle.specs.Acting.{is_at, find_from, without, value_of, value_at, all_there, remaining_after, value_here, remaining_of, values_of}

-- TOKENS OF ONE INVOCATION

abbrev pub keep : Bool → Token → List Token → List Token
keep true t r = t ∷ r
keep false t r = r

abbrev pub mine : ℕ → List Token → List Token
mine c [] = []
mine c (t ∷ ts) = keep (t.context == c) t (mine c ts)

abbrev leave : Bool → Token → List Token → List Token → List Token
leave true t ts r = ts
leave false t ts r = t ∷ r

-- the first token at a spot is out
abbrev out : ℕ → Spot → List Token → List Token
out c s [] = []
out c s (t ∷ ts) = leave (is_at c s t) t ts (out c s ts)

abbrev give : Bool → Token → List Value → List Value
give true t r = t.value ∷ []
give false t r = r

abbrev first : ℕ → Spot → List Token → List Value
first c s [] = []
first c s (t ∷ ts) = give (is_at c s t) t (first c s ts)

abbrev has : ℕ → Spot → List Token → Bool
has c s [] = false
has c s (t ∷ ts) = is_at c s t || has c s ts

-- WHAT IS FOUND

abbrev Seen : ℕ → Spot → ℕ → List Token → Option ℕ → Type 0
Seen c s i ts None = (out c s ts ≡ ts) × (first c s ts ≡ []) × (has c s ts ≡ false)
Seen c s i ts (Some k) = (j : ℕ) × (k ≡ i + j) × (remove ts j ≡ out c s ts) × (value_of (slice_get ts j) ≡ first c s ts) × (has c s ts ≡ true)

seen_later : (c : ℕ) (s : Spot) (i : ℕ) (t : Token) (ts : List Token) → is_at c s t ≡ false → (o : Option ℕ) → Seen c s (i + 1) ts o → Seen c s i (t ∷ ts) o
seen_later c s i t ts e None h =
    (ap (λ b. leave b t ts (out c s ts)) e ∙ ap (λ r. t ∷ r) h.0, ap (λ b. give b t (first c s ts)) e ∙ h.1, ap (λ b. b || has c s ts) e ∙ h.2)
seen_later c s i t ts e (Some k) h =
    let is = h.1 in (
      suc h.0,
      omega (arith, is),
      ap (λ r. t ∷ r) h.2 ∙ sym (ap (λ b. leave b t ts (out c s ts)) e),
      h.3 ∙ sym (ap (λ b. give b t (first c s ts)) e),
      ap (λ b. b || has c s ts) e ∙ h.4,
    )

seen : (c : ℕ) (s : Spot) (i : ℕ) (ts : List Token) → Seen c s i ts (find_from c s i ts)
seen c s i [] = (refl, refl, refl)
seen c s i (t ∷ ts) =
    let cases : (b : Bool) → is_at c s t ≡ b → Seen c s i (t ∷ ts) (if b then Some i else find_from c s (i + 1) ts)
    = λ b. elim b as (λ b. is_at c s t ≡ b → Seen c s i (t ∷ ts) (if b then Some i else find_from c s (i + 1) ts)) [
      | true ↦ λ e. (0, omega arith, sym (ap (λ b. leave b t ts (out c s ts)) e), sym (ap (λ b. give b t (first c s ts)) e), ap (λ b. b || has c s ts) e)
      | false ↦ λ e. seen_later c s i t ts e (find_from c s (i + 1) ts) (seen c s (i + 1) ts)
    ] in
    cases (is_at c s t) refl

without_out : (c : ℕ) (s : Spot) (ts : List Token) → without ts (find_from c s 0 ts) ≡ out c s ts
without_out c s ts = go (find_from c s 0 ts) (seen c s 0 ts)
  where
    go : (o : Option ℕ) → Seen c s 0 ts o → without ts o ≡ out c s ts
    go None h = sym h.0
    go (Some k) h =
        let is = h.1 in
        let same : k ≡ h.0 = omega (arith, is) in
        ap (λ k. remove ts k) same ∙ h.2

value_first : (c : ℕ) (s : Spot) (ts : List Token) → value_at ts (find_from c s 0 ts) ≡ first c s ts
value_first c s ts = go (find_from c s 0 ts) (seen c s 0 ts)
  where
    go : (o : Option ℕ) → Seen c s 0 ts o → value_at ts o ≡ first c s ts
    go None h = sym h.1
    go (Some k) h =
        let is = h.1 in
        let same : k ≡ h.0 = omega (arith, is) in
        ap (λ k. value_of (slice_get ts k)) same ∙ h.3

some_has : (c : ℕ) (s : Spot) (ts : List Token) → is_some (find_from c s 0 ts) ≡ has c s ts
some_has c s ts = go (find_from c s 0 ts) (seen c s 0 ts)
  where
    go : (o : Option ℕ) → Seen c s 0 ts o → is_some o ≡ has c s ts
    go None h = sym h.2
    go (Some k) h = sym h.4

-- ROWS
module _ (c : ℕ) (s : Spot) where
  other_at : (t : Token) → (t.context == c) ≡ false → is_at c s t ≡ false
  other_at t p = ap (λ b. b && same_spot t.spot s) p

  out_mine : (ts : List Token) → out c s (mine c ts) ≡ mine c (out c s ts)
  out_mine [] = refl
  out_mine (t ∷ ts) = go (out_mine ts) (t.context == c) refl
    where
      inner : out c s (mine c ts) ≡ mine c (out c s ts) → (t.context == c) ≡ true → (a : Bool) → leave a t (mine c ts) (out c s (mine c ts))
          ≡ mine c (leave a t ts (out c s ts))
      inner ih p true = refl
      inner ih p false = ap (λ r. t ∷ r) ih ∙ sym (ap (λ b. keep b t (mine c (out c s ts))) p)

      go : out c s (mine c ts) ≡ mine c (out c s ts) → (b : Bool) → (t.context == c) ≡ b → out c s (mine c (t ∷ ts)) ≡ mine c (out c s (t ∷ ts))
      go ih true p = ap (λ b. out c s (keep b t (mine c ts))) p ∙ inner ih p (is_at c s t)
      go ih false p =
          ap (λ b. out c s (keep b t (mine c ts))) p ∙ ih ∙ sym (ap (λ b. keep b t (mine c (out c s ts))) p)
          ∙ sym (ap (λ a. mine c (leave a t ts (out c s ts))) (other_at t p))

  first_mine : (ts : List Token) → first c s (mine c ts) ≡ first c s ts
  first_mine [] = refl
  first_mine (t ∷ ts) = go (first_mine ts) (t.context == c) refl
    where
      go : first c s (mine c ts) ≡ first c s ts → (b : Bool) → (t.context == c) ≡ b → first c s (mine c (t ∷ ts)) ≡ first c s (t ∷ ts)
      go ih true p = ap (λ b. first c s (keep b t (mine c ts))) p ∙ ap (λ r. give (is_at c s t) t r) ih
      go ih false p = ap (λ b. first c s (keep b t (mine c ts))) p ∙ ih ∙ sym (ap (λ a. give a t (first c s ts)) (other_at t p))

  has_mine : (ts : List Token) → has c s (mine c ts) ≡ has c s ts
  has_mine [] = refl
  has_mine (t ∷ ts) = go (has_mine ts) (t.context == c) refl
    where
      go : has c s (mine c ts) ≡ has c s ts → (b : Bool) → (t.context == c) ≡ b → has c s (mine c (t ∷ ts)) ≡ has c s (t ∷ ts)
      go ih true p = ap (λ b. has c s (keep b t (mine c ts))) p ∙ ap (λ r. is_at c s t || r) ih
      go ih false p = ap (λ b. has c s (keep b t (mine c ts))) p ∙ ih ∙ sym (ap (λ a. a || has c s ts) (other_at t p))

  -- the rows of others stay
  out_other : (d : ℕ) → (d == c) ≡ false → (ts : List Token) → mine d (out c s ts) ≡ mine d ts
  out_other d e [] = refl
  out_other d e (t ∷ ts) = go (out_other d e ts) (is_at c s t) refl
    where
      mate : (b : Bool) → (t.context == d) ≡ b → is_at c s t ≡ true → mine d ts ≡ keep b t (mine d ts)
      mate false p q = refl
      mate true p q =
          let here = eqb-true t.context d p in
          let there : (t.context == c) ≡ true = half (t.context == c) (same_spot t.spot s) q in
          let no : (d == c) ≡ true = subst (λ k. (k == c) ≡ true) here there in
          cc
        where
          half : (a b : Bool) → (a && b) ≡ true → a ≡ true
          half true b h = refl
          half false b h = cc

      go : mine d (out c s ts) ≡ mine d ts → (a : Bool) → is_at c s t ≡ a → mine d (out c s (t ∷ ts)) ≡ mine d (t ∷ ts)
      go ih true q = ap (λ a. mine d (leave a t ts (out c s ts))) q ∙ mate (t.context == d) refl q
      go ih false q = ap (λ a. mine d (leave a t ts (out c s ts))) q ∙ ap (λ r. keep (t.context == d) t r) ih

-- PARTNERS
module _ (t : Token) where
  after_mine : (s : Spot) (ts : List Token) → remaining_after t s (mine t.context ts) ≡ mine t.context (remaining_after t s ts)
  after_mine s ts = go (same_spot s t.spot)
    where
      go : (b : Bool) → (if b then mine t.context ts else without (mine t.context ts) (find_from t.context s 0 (mine t.context ts)))
          ≡ mine t.context (if b then ts else without ts (find_from t.context s 0 ts))
      go true = refl
      go false = without_out t.context s (mine t.context ts) ∙ out_mine t.context s ts ∙ sym (ap (λ r. mine t.context r) (without_out t.context s ts))

  after_other : (d : ℕ) → (d == t.context) ≡ false → (s : Spot) (ts : List Token) → mine d (remaining_after t s ts) ≡ mine d ts
  after_other d e s ts = go (same_spot s t.spot)
    where
      go : (b : Bool) → mine d (if b then ts else without ts (find_from t.context s 0 ts)) ≡ mine d ts
      go true = refl
      go false = ap (λ r. mine d r) (without_out t.context s ts) ∙ out_other t.context s d e ts

  here_mine : (s : Spot) (ts : List Token) → value_here t s (mine t.context ts) ≡ value_here t s ts
  here_mine s ts = go (same_spot s t.spot)
    where
      go : (b : Bool) → (if b then t.value ∷ [] else value_at (mine t.context ts) (find_from t.context s 0 (mine t.context ts)))
          ≡ (if b then t.value ∷ [] else value_at ts (find_from t.context s 0 ts))
      go true = refl
      go false = value_first t.context s (mine t.context ts) ∙ first_mine t.context s ts ∙ sym (value_first t.context s ts)

  pub there_mine : (ss : List Spot) (ts : List Token) → all_there t ss (mine t.context ts) ≡ all_there t ss ts
  there_mine [] ts = refl
  there_mine (s ∷ ss) ts =
      ap₂ (λ (a b : Bool). if same_spot s t.spot || a then b else false)
      (some_has t.context s (mine t.context ts) ∙ has_mine t.context s ts ∙ sym (some_has t.context s ts)) (there_mine ss ts)

  pub left_mine : (ss : List Spot) (ts : List Token) → remaining_of t ss (mine t.context ts) ≡ mine t.context (remaining_of t ss ts)
  left_mine [] ts = refl
  left_mine (s ∷ ss) ts = ap (λ r. remaining_of t ss r) (after_mine s ts) ∙ left_mine ss (remaining_after t s ts)

  pub left_other : (d : ℕ) → (d == t.context) ≡ false → (ss : List Spot) (ts : List Token) → mine d (remaining_of t ss ts) ≡ mine d ts
  left_other d e [] ts = refl
  left_other d e (s ∷ ss) ts = left_other d e ss (remaining_after t s ts) ∙ after_other d e s ts

  pub values_mine : (ss : List Spot) (ts : List Token) → values_of t ss (mine t.context ts) ≡ values_of t ss ts
  values_mine [] ts = refl
  values_mine (s ∷ ss) ts =
      ap₂ (λ (a b : List Value). a ++ b) (here_mine s ts) (ap (λ r. values_of t ss r) (after_mine s ts) ∙ values_mine ss (remaining_after t s ts))
