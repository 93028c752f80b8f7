-- A token's partners: those that are there are all taken, each once, and nothing is left that did not wait.
use Rattle.std.proofs.Common.{◌≡◌, ℕ, zero, suc, ◌+◌, ◌<◌, inl, inr, Bool, true, false, ◌&&◌, ◌||◌, List, [], ◌∷◌, ◌++◌, length, Option, Some, None}
use Rattle.std.proofs.Common.{if◌then◌else◌, IsPermutation, refl, sym, ap, ◌∙◌, subst, arith, eq-eqb, ⊎_elim}
use Rattle.std.specs.Prelude.{remove, is_some}
use Rattle.std.proofs.lemmas.List.{length-append}
use Rattle.std.proofs.lemmas.List.Sorted.{IsPermutation-sym}
use Rattle.std.proofs.lemmas.Bool.{or_cases, or_left, or_right}
use Rattle.tags.specs.declared.value.Value.{Value}
use Rattle.lemmas.proofs.Permutations.{Within, Each, Spread, put_first, within_permutation}
use Rattle.lemmas.proofs.Bools.{if_parts}
use Rattle.oracle.specs.declared.shapes.Shape.{Shape}
use Rattle.oracle.specs.declared.shapes.Shape.TheVariants.{Fires, Gates, Passes, Returns, Turns, Outputs}
use Rattle.oracle.specs.declared.tokens.Spot.{Spot}
use Rattle.oracle.specs.declared.tokens.Spot.TheVariants.{Operand}
use Rattle.oracle.specs.declared.tokens.Token.{Token}
use Rattle.oracle.specs.Lines.{same_spot, operand_spots, spots_in}
use Rattle.oracle.specs.Agreeing.{token_of, own}
use Rattle.oracle.specs.Acting.{is_at, find_from, without, value_of, value_at, is_there, all_there, remaining_after, value_here, remaining_of, values_of}
use Rattle.oracle.proofs.Partners.{removed, spot_same}
use Rattle.oracle.proofs.ShapeLaws.{spot_refl}

-- a token is at that spot of that invocation
abbrev pub HasAt : ℕ → Spot → List Token → Type 0
HasAt c s ts = (v : Value) × Within (token_of c s v) ts

abbrev pub SpotsDiffer : Spot → Spot → Type 0
SpotsDiffer s r = s ≡ r → ⊥

at_self : (c : ℕ) (s : Spot) (v : Value) → is_at c s (token_of c s v) ≡ true
at_self c s v = ap (λ b. b && same_spot s s) (eq-eqb c c refl) ∙ ap (λ b. true && b) (spot_refl s)

pub find_some : (c : ℕ) (s : Spot) (v : Value) (i : ℕ) (ts : List Token) → Within (token_of c s v) ts → is_some (find_from c s i ts) ≡ true
find_some c s v i [] h = absurd h.1
find_some c s v i (t ∷ ts) (zs, inl p) =
    ap (λ b. is_some (if b then Some i else find_from c s (i + 1) ts)) (subst (λ u. is_at c s u ≡ true) p.0 (at_self c s v))
find_some c s v i (t ∷ ts) (zs, inr p) =
    let ih = find_some c s v (i + 1) ts (p.0, p.2) in
    elim (is_at c s t) as (λ b. is_some (if b then Some i else find_from c s (i + 1) ts) ≡ true) [ true ↦ refl | false ↦ ih ]

found_at : (c : ℕ) (s : Spot) (ts : List Token) → is_some (find_from c s 0 ts) ≡ true → HasAt c s ts
found_at c s ts h =
    let cases : (o : Option ℕ) → find_from c s 0 ts ≡ o → is_some o ≡ true → HasAt c s ts
    = λ o. elim o as (λ o. find_from c s 0 ts ≡ o → is_some o ≡ true → HasAt c s ts) [
      | None ↦ λ e q. cc
      | Some k ↦ λ e q.
          let r = removed c s k ts e in (
            r.0,
            within_permutation (token_of c s r.0) (token_of c s r.0 ∷ remove ts k) ts (IsPermutation-sym _ _ r.2)
                (remove ts k, put_first (token_of c s r.0) (remove ts k)),
          )
    ] in
    cases (find_from c s 0 ts) refl h

-- WHAT IS LEFT

-- what taking the partner at a spot does: nothing, or one token is out
left_cases : (t : Token) (s : Spot) (ts : List Token) (P : List Token → Type 0) → P ts
    → ((v : Value) (rest : List Token) → IsPermutation ts (token_of t.context s v ∷ rest) → P rest) → P (remaining_after t s ts)
left_cases t s ts P same out =
    let cases : (o : Option ℕ) → find_from t.context s 0 ts ≡ o → P (without ts o)
    = λ o. elim o as (λ o. find_from t.context s 0 ts ≡ o → P (without ts o)) [
      | None ↦ λ e. same
      | Some k ↦ λ e. let r = removed t.context s k ts e in out r.0 (remove ts k) r.2
    ] in
    elim (same_spot s t.spot) as (λ b. P (if b then ts else without ts (find_from t.context s 0 ts))) [
      | true ↦ same
      | false
          ↦ cases (find_from t.context s 0 ts) refl
    ]

within_later : (x y : Token) (rest : List Token) → Within x rest → Within x (y ∷ rest)
within_later x y rest h = (y ∷ h.0, inr (h.0, refl, h.1))

pub left_within : (t : Token) (ss : List Spot) (ts : List Token) (x : Token) → Within x (remaining_of t ss ts) → Within x ts
left_within t [] ts x h = h
left_within t (s ∷ ss) ts x h =
    left_cases t s ts (λ rest. Within x rest → Within x ts) (λ k. k) (λ v rest p k. within_permutation x (token_of t.context s v ∷ rest) ts
    (IsPermutation-sym _ _ p) (within_later x _ rest k))
    (left_within t ss (remaining_after t s ts) x h)

has_left : (t : Token) (s r : Spot) (ts : List Token) → SpotsDiffer s r → HasAt t.context r ts → HasAt t.context r (remaining_after t s ts)
has_left t s r ts other h =
    left_cases t s ts (HasAt t.context r) h
    (λ v rest p.
    let u = token_of t.context r h.0 in
    let cases : Within u (token_of t.context s v ∷ rest) → HasAt t.context r rest
    = λ w. elim w.1 as (λ k. HasAt t.context r rest) [
      | inl q ↦ absurd (other (sym (ap (λ (z : Token). z.spot) q.0)))
      | inr q ↦ (h.0, (q.0, q.2))
    ] in
    cases (within_permutation u ts (token_of t.context s v ∷ rest) p h.1))

pub own_there : (t : Token) (s : Spot) (ts : List Token) → s ≡ t.spot → is_there t s ts ≡ true
own_there t s ts e = or_left (same_spot s t.spot) (is_some (find_from t.context s 0 ts)) (subst (λ r. same_spot s r ≡ true) e (spot_refl s))

pub other_there : (t : Token) (s : Spot) (ts : List Token) → HasAt t.context s ts → is_there t s ts ≡ true
other_there t s ts h = or_right (same_spot s t.spot) (is_some (find_from t.context s 0 ts)) (find_some t.context s h.0 0 ts h.1)

there_left : (t : Token) (s r : Spot) (ts : List Token) → SpotsDiffer s r → is_there t r ts ≡ true → is_there t r (remaining_after t s ts) ≡ true
there_left t s r ts other h =
    ⊎_elim (λ e. or_left (same_spot r t.spot) (is_some (find_from t.context r 0 (remaining_after t s ts))) e)
    (λ e. other_there t r (remaining_after t s ts) (has_left t s r ts other (found_at t.context r ts e)))
    (or_cases (same_spot r t.spot) (is_some (find_from t.context r 0 ts)) h)

all_left : (t : Token) (s : Spot) (ss : List Spot) (ts : List Token) → Each (SpotsDiffer s) ss → all_there t ss ts ≡ true
    → all_there t ss (remaining_after t s ts) ≡ true
all_left t s [] ts other h = refl
all_left t s (r ∷ ss) ts other h =
    let p = if_parts (is_there t r ts) (all_there t ss ts) h in
    ap (λ b. if b then all_there t ss (remaining_after t s ts) else false) (there_left t s r ts other.0 p.0) ∙ all_left t s ss ts other.1 p.1

here_one : (t : Token) (s : Spot) (ts : List Token) → is_there t s ts ≡ true → length (value_here t s ts) ≡ 1
here_one t s ts h =
    let found : (o : Option ℕ) → find_from t.context s 0 ts ≡ o → is_some o ≡ true → length (value_at ts o) ≡ 1
    = λ o. elim o as (λ o. find_from t.context s 0 ts ≡ o → is_some o ≡ true → length (value_at ts o) ≡ 1) [
      | None ↦ λ e q. cc
      | Some k ↦ λ e q. let r = removed t.context s k ts e in ap (λ o. length (value_of o)) r.1
    ] in
    let cases : (b : Bool) → (b || is_some (find_from t.context s 0 ts)) ≡ true
    → length (if b then t.value ∷ [] else value_at ts (find_from t.context s 0 ts)) ≡ 1
    = λ b. elim b as (λ b. (b || is_some (find_from t.context s 0 ts)) ≡ true
    → length (if b then t.value ∷ [] else value_at ts (find_from t.context s 0 ts)) ≡ 1) [
      | true ↦ λ q. refl
      | false ↦ λ q. found (find_from t.context s 0 ts) refl q
    ] in
    cases (same_spot s t.spot) h

-- Where all are there, each spot gives one value.
pub values_full : (t : Token) (ss : List Spot) (ts : List Token) → Spread SpotsDiffer ss → all_there t ss ts ≡ true → length (values_of t ss ts) ≡ length ss
values_full t [] ts apart h = refl
values_full t (s ∷ ss) ts apart h =
    let p = if_parts (is_there t s ts) (all_there t ss ts) h in
    let a = length-append (value_here t s ts) (values_of t ss (remaining_after t s ts)) in
    let b = here_one t s ts p.0 in
    let c = values_full t ss (remaining_after t s ts) apart.1 (all_left t s ss ts apart.0 p.1) in
    omega (arith, a, b, c)

operands_apart : (n i from k : ℕ) → i < from → Each (SpotsDiffer (Operand n i)) (operand_spots n from k)
operands_apart n i from zero h = tt
operands_apart n i from (suc k) h = ((λ e. let same : i ≡ from = cc in omega (arith, same, h)), operands_apart n i (from + 1) k (omega (arith, h)))

operands_spread : (n from k : ℕ) → Spread SpotsDiffer (operand_spots n from k)
operands_spread n from zero = tt
operands_spread n from (suc k) = (operands_apart n from (from + 1) k (omega arith), operands_spread n (from + 1) k)

pub spots_apart : (shape : Shape) → Spread SpotsDiffer (spots_in shape)
spots_apart (Fires n k) = operands_spread n 0 k
spots_apart (Gates n) = (((λ e. cc), tt), (tt, tt))
spots_apart (Passes n i) = (tt, tt)
spots_apart (Returns j) = (tt, tt)
spots_apart (Turns j) = (((λ e. cc), tt), (tt, tt))
spots_apart (Outputs j) = (tt, tt)

-- An activity that takes one token takes this one, and no other.
pub one_own : (q : Spot) (ss : List Spot) → own q ss ≡ 1 → length ss ≡ 1 → ss ≡ q ∷ []
one_own q [] h l = cc
one_own q (s ∷ []) h l =
    let cases : (b : Bool) → same_spot s q ≡ b → (if b then suc (own q []) else own q []) ≡ 1 → s ∷ [] ≡ q ∷ []
    = λ b. elim b as (λ b. same_spot s q ≡ b → (if b then suc (own q []) else own q []) ≡ 1 → s ∷ [] ≡ q ∷ [])
    [ true ↦ λ e z. ap (λ s. s ∷ []) (spot_same s q e) | false ↦ λ e z. cc ] in
    cases (same_spot s q) refl h
one_own q (s ∷ r ∷ ss) h l = absurd (omega (arith, l))

pub one_left : (t : Token) (ts : List Token) → remaining_of t (t.spot ∷ []) ts ≡ ts
one_left t ts = ap (λ b. if b then ts else without ts (find_from t.context t.spot 0 ts)) (spot_refl t.spot)

pub one_value : (t : Token) (ts : List Token) → values_of t (t.spot ∷ []) ts ≡ t.value ∷ []
one_value t ts = ap (λ b. (if b then t.value ∷ [] else value_at ts (find_from t.context t.spot 0 ts)) ++ []) (spot_refl t.spot)
