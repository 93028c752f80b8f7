-- The tokens that are on their way, in the places of their numbers.
use Rattle.std.proofs.Common.{◌≡◌, refl, sym, ◌∙◌, ap, subst, ℕ, zero, suc, ◌+◌, ◌<◌, List, [], ◌∷◌, ◌++◌, length, map, set, take, drop, get_or, Option, Some, None}
use Rattle.std.proofs.Common.{arith, length-set, length-append, length-take-le}
use Rattle.std.specs.Prelude.{remove, slice_get, All, Contains, IsPermutation}
use Rattle.std.specs.List.{range_with_len}
use Rattle.std.proofs.lemmas.List.{take_more, length-map}
use Rattle.std.proofs.lemmas.List.Elements.{All-take, All-drop, All-append}
use Rattle.std.proofs.lemmas.List.Sorted.{IsPermutation-remove}
use Rattle.std.proofs.lemmas.Option.{slice_get_within, slice_get-get_or, get_or_from_slice_get}
use Rattle.tags.specs.declared.token.Token.{Token}
use Rattle.replay.specs.Entering.{on_way, numbers_from}

-- how many tokens are on their way in the places before a number
abbrev pub before : ℕ → List (Option Token) → ℕ
before zero ps = 0
before (suc n) [] = 0
before (suc n) (None ∷ ps) = before n ps
before (suc n) (Some t ∷ ps) = suc (before n ps)

no_token : (t : Token) → None ≡ Some (Some t) → ⊥
no_token t e = let both : None ≡ Some (Some t) = e in let no : ⊥ = cc in no

empty_place : (t : Token) → Some None ≡ Some (Some t) → ⊥
empty_place t e = let both : Some None ≡ Some (Some t) = e in let no : ⊥ = cc in no

-- A TOKEN OF A NUMBER. It is the one after those before it, and so is its number.
pub token_at : (ps : List (Option Token)) (n : ℕ) (t : Token) → slice_get ps n ≡ Some (Some t) → slice_get (on_way ps) (before n ps) ≡ Some t
token_at [] n t e = absurd (no_token t e)
token_at (None ∷ ps) zero t e = absurd (empty_place t e)
token_at (Some u ∷ ps) zero t e = let both : Some (Some u) ≡ Some (Some t) = e in let same : u ≡ t = cc (both) in ap (λ (x : Token). Some x) same
token_at (None ∷ ps) (suc n) t e = token_at ps n t e
token_at (Some u ∷ ps) (suc n) t e = token_at ps n t e

pub number_at : (from : ℕ) (ps : List (Option Token)) (n : ℕ) (t : Token) → slice_get ps n ≡ Some (Some t)
    → slice_get (numbers_from from ps) (before n ps) ≡ Some (from + n)
number_at from [] n t e = absurd (no_token t e)
number_at from (None ∷ ps) zero t e = absurd (empty_place t e)
number_at from (Some u ∷ ps) zero t e = let is : from ≡ from + 0 = omega arith in ap (λ (x : ℕ). Some x) is
number_at from (None ∷ ps) (suc n) t e = let is : (from + 1) + n ≡ from + suc n = omega arith in number_at (from + 1) ps n t e ∙ ap (λ (x : ℕ). Some x) is
number_at from (Some u ∷ ps) (suc n) t e = let is : (from + 1) + n ≡ from + suc n = omega arith in number_at (from + 1) ps n t e ∙ ap (λ (x : ℕ). Some x) is

-- once it is taken, the others close up
pub token_taken : (ps : List (Option Token)) (n : ℕ) (t : Token) → slice_get ps n ≡ Some (Some t) → on_way (set ps n None) ≡ remove (on_way ps) (before n ps)
token_taken [] n t e = absurd (no_token t e)
token_taken (None ∷ ps) zero t e = absurd (empty_place t e)
token_taken (Some u ∷ ps) zero t e = refl
token_taken (None ∷ ps) (suc n) t e = token_taken ps n t e
token_taken (Some u ∷ ps) (suc n) t e = ap (λ (ts : List Token). u ∷ ts) (token_taken ps n t e)

pub number_taken : (from : ℕ) (ps : List (Option Token)) (n : ℕ) (t : Token) → slice_get ps n ≡ Some (Some t)
    → numbers_from from (set ps n None) ≡ remove (numbers_from from ps) (before n ps)
number_taken from [] n t e = absurd (no_token t e)
number_taken from (None ∷ ps) zero t e = absurd (empty_place t e)
number_taken from (Some u ∷ ps) zero t e = refl
number_taken from (None ∷ ps) (suc n) t e = number_taken (from + 1) ps n t e
number_taken from (Some u ∷ ps) (suc n) t e = ap (λ (is : List ℕ). from ∷ is) (number_taken (from + 1) ps n t e)

-- MORE TOKENS
pub on_way_append : (ps qs : List (Option Token)) → on_way (ps ++ qs) ≡ on_way ps ++ on_way qs
on_way_append [] qs = refl
on_way_append (None ∷ ps) qs = on_way_append ps qs
on_way_append (Some t ∷ ps) qs = ap (λ (ts : List Token). t ∷ ts) (on_way_append ps qs)

pub numbers_append : (from : ℕ) (ps qs : List (Option Token)) → numbers_from from (ps ++ qs) ≡ numbers_from from ps ++ numbers_from (from + length ps) qs
numbers_append from [] qs = let is : from ≡ from + 0 = omega arith in ap (λ (n : ℕ). numbers_from n qs) is
numbers_append from (None ∷ ps) qs =
    let is : (from + 1) + length ps ≡ from + suc (length ps) = omega arith in
    numbers_append (from + 1) ps qs ∙ ap (λ (n : ℕ). numbers_from (from + 1) ps ++ numbers_from n qs) is
numbers_append from (Some t ∷ ps) qs =
    let is : (from + 1) + length ps ≡ from + suc (length ps) = omega arith in
    ap (λ (ns : List ℕ). from ∷ ns) (numbers_append (from + 1) ps qs ∙ ap (λ (n : ℕ). numbers_from (from + 1) ps ++ numbers_from n qs) is)

pub all_on_way : (ts : List Token) → on_way (map Some ts) ≡ ts
all_on_way [] = refl
all_on_way (t ∷ ts) = ap (λ (us : List Token). t ∷ us) (all_on_way ts)

pub all_numbers : (from : ℕ) (ts : List Token) → numbers_from from (map Some ts) ≡ range_with_len from (length ts)
all_numbers from [] = refl
all_numbers from (t ∷ ts) = ap (λ (ns : List ℕ). from ∷ ns) (all_numbers (from + 1) ts)

-- AN EVENT takes the token of a number, and makes these.
module _ (ps qs : List (Option Token)) (n : ℕ) (t : Token) (made : List Token) (there : slice_get ps n ≡ Some (Some t))
    (is : qs ≡ set ps n None ++ map Some made) where
  pub pool_after : on_way qs ≡ remove (on_way ps) (before n ps) ++ made
  pool_after = ap on_way is ∙ on_way_append (set ps n None) (map Some made) ∙ ap (λ (ts : List Token). ts ++ on_way (map Some made)) (token_taken ps n t there)
      ∙ ap (λ (ts : List Token). remove (on_way ps) (before n ps) ++ ts) (all_on_way made)

  pub numbers_after : numbers_from 0 qs ≡ remove (numbers_from 0 ps) (before n ps) ++ range_with_len (length ps) (length made)
  numbers_after =
      let long : 0 + length (set ps n None) ≡ length ps = let same = length-set ps n None in omega (arith, same) in
      ap (numbers_from 0) is ∙ numbers_append 0 (set ps n None) (map Some made)
      ∙ ap (λ (ns : List ℕ). ns ++ numbers_from (0 + length (set ps n None)) (map Some made)) (number_taken 0 ps n t there)
      ∙ ap (λ (i : ℕ). remove (numbers_from 0 ps) (before n ps) ++ numbers_from i (map Some made)) long
      ∙ ap (λ (ns : List ℕ). remove (numbers_from 0 ps) (before n ps) ++ ns) (all_numbers (length ps) made)

  pub next_after : length qs ≡ length ps + length made
  next_after =
      let sum = length-append (set ps n None) (map Some made) in
      let one = length-set ps n None in
      let other = length-map made Some in
      let whole : length qs ≡ length (set ps n None ++ map Some made) = ap (λ (l : List (Option Token)). length l) is in
      omega (arith, sum, one, other, whole)

  pub low : before n ps < length (on_way ps)
  low = slice_get_within (on_way ps) (before n ps) t (token_at ps n t there)

  pub taken_out : IsPermutation (on_way ps) (t ∷ remove (on_way ps) (before n ps))
  taken_out = IsPermutation-remove (on_way ps) (before n ps) t low (sym (get_or_from_slice_get (on_way ps) (before n ps) t t (token_at ps n t there)))

  pub all_after : (P : Token → Type 0) → All P (on_way ps) → All P made → All P (on_way qs)
  all_after P old new = subst (All P) (sym pool_after) (All-append P (remove (on_way ps) (before n ps)) made
      (All-append P (take (before n ps) (on_way ps)) (drop (suc (before n ps)) (on_way ps)) (All-take P (before n ps) (on_way ps) old)
      (All-drop P (suc (before n ps)) (on_way ps) old)) new)

-- a token of a number has what all have
pub one_of_all : (P : Token → Type 0) (ps : List (Option Token)) (n : ℕ) (t : Token) → slice_get ps n ≡ Some (Some t) → All P (on_way ps) → P t
one_of_all P ps n t there all = subst P (get_or_from_slice_get (on_way ps) (before n ps) t t (token_at ps n t there))
    (all (before n ps) t (slice_get_within (on_way ps) (before n ps) t (token_at ps n t there)))

-- EACH TOKEN that is on its way has a number.
pub numbered : (ps : List (Option Token)) (i : ℕ) (t : Token) → slice_get (on_way ps) i ≡ Some t → (n : ℕ) × (slice_get ps n ≡ Some (Some t))
numbered [] i t e = absurd (let both : None ≡ Some t = e in let no : ⊥ = cc in no)
numbered (None ∷ ps) i t e = let found = numbered ps i t e in (suc found.0, found.1)
numbered (Some u ∷ ps) zero t e = let both : Some u ≡ Some t = e in let same : u ≡ t = cc (both) in (0, ap (λ (x : Token). Some (Some x)) same)
numbered (Some u ∷ ps) (suc i) t e = let found = numbered ps i t e in (suc found.0, found.1)

pub contained : (ps : List (Option Token)) (t : Token) → Contains (on_way ps) t → (n : ℕ) × (slice_get ps n ≡ Some (Some t))
contained ps t c = numbered ps c.0 t (slice_get-get_or (on_way ps) c.0 t c.1 ∙ ap (λ (x : Token). Some x) c.2)

-- ONE PLACE MORE is looked at.
one_more : (ps : List (Option Token)) (i : ℕ) (p : Option Token) → i < length ps → p ≡ get_or ps i p → take (i + 1) ps ≡ take i ps ++ p ∷ []
one_more ps i p low is = take_more ps i p low ∙ ap (λ (q : Option Token). take i ps ++ q ∷ []) (sym is)

pub tokens_more : (ps : List (Option Token)) (i : ℕ) (p : Option Token) (old new : List Token) → i < length ps → p ≡ get_or ps i p → old ≡ on_way (take i ps)
    → new ≡ old ++ on_way (p ∷ []) → new ≡ on_way (take (i + 1) ps)
tokens_more ps i p old new low is was now = now ∙ ap (λ (ts : List Token). ts ++ on_way (p ∷ [])) was ∙ sym (ap on_way (one_more ps i p low is)
    ∙ on_way_append (take i ps) (p ∷ []))

pub numbers_more : (ps : List (Option Token)) (i : ℕ) (p : Option Token) (old new : List ℕ) → i < length ps → p ≡ get_or ps i p
    → old ≡ numbers_from 0 (take i ps) → new ≡ old ++ numbers_from i (p ∷ []) → new ≡ numbers_from 0 (take (i + 1) ps)
numbers_more ps i p old new low is was now =
    let long : length (take i ps) ≡ i = length-take-le i ps (omega (arith, low)) in
    let first : 0 + length (take i ps) ≡ i = omega (arith, long) in
    now ∙ ap (λ (ns : List ℕ). ns ++ numbers_from i (p ∷ [])) was ∙ sym (ap (numbers_from 0) (one_more ps i p low is) ∙ numbers_append 0 (take i ps) (p ∷ [])
    ∙ ap (λ (n : ℕ). numbers_from 0 (take i ps) ++ numbers_from n (p ∷ [])) first)
