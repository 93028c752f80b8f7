-- What is taken out, and what stays: together they are all tokens.
use Rattle.std.proofs.Common.{◌≡◌, ℕ, zero, suc, ◌+◌, ◌≤◌, Bool, true, false, ◌==◌, List, [], ◌∷◌, ◌++◌, length, Option, Some, None, slice_get}
use Rattle.std.proofs.Common.{get_or, if◌then◌else◌, IsPermutation, refl, sym, ap, ◌∙◌, subst, arith, eqb-true}
use Rattle.std.specs.Prelude.{remove}
use Rattle.std.proofs.lemmas.List.{length-append}
use Rattle.std.proofs.lemmas.List.Sorted.{IsPermutation-refl, IsPermutation-trans, IsPermutation-append_right, IsPermutation-remove}
use Rattle.std.proofs.lemmas.Bool.{and_parts}
use Rattle.std.proofs.lemmas.Option.{slice_get_within, same_Some}
use Rattle.lemmas.proofs.Permutations.{permutation_exchange}
use Rattle.tags.specs.declared.value.Value.{Value}
use Rattle.oracle.specs.declared.tokens.Spot.{Spot}
use Rattle.oracle.specs.declared.tokens.Spot.TheVariants.{Operand, Predicate, Out, Flag, Carried}
use Rattle.oracle.specs.declared.tokens.Token.{Token}
use Rattle.oracle.specs.Lines.{same_spot}
use Rattle.oracle.specs.Agreeing.{token_of, zipped, own}
use Rattle.oracle.specs.Acting.{is_at, find_from, without, value_of, value_at, remaining_after, value_here, remaining_of, values_of}

pub spot_same : (s t : Spot) → same_spot s t ≡ true → s ≡ t
spot_same (Operand n i) (Operand m j) h = let p = and_parts (n == m) (i == j) h in ap (λ k. Operand k i) (eqb-true n m p.0)
    ∙ ap (λ k. Operand m k) (eqb-true i j p.1)
spot_same (Predicate n) (Predicate m) h = ap Predicate (eqb-true n m h)
spot_same (Out i) (Out j) h = ap Out (eqb-true i j h)
spot_same (Flag i) (Flag j) h = ap Flag (eqb-true i j h)
spot_same (Carried i) (Carried j) h = ap Carried (eqb-true i j h)
spot_same s t h = cc

at_same : (c : ℕ) (s : Spot) (t : Token) → is_at c s t ≡ true → t ≡ token_of c s t.value
at_same c s t h =
    let p = and_parts (t.context == c) (same_spot t.spot s) h in
    ap (λ k. token_of k t.spot t.value) (eqb-true t.context c p.0) ∙ ap (λ k. token_of c k t.value) (spot_same t.spot s p.1)

-- a token that is found
abbrev Found : ℕ → Spot → List Token → ℕ → ℕ → Type 0
Found c s ts i k = (j : ℕ) × (u : Token) × (k ≡ i + j) × (slice_get ts j ≡ Some u) × (u ≡ token_of c s u.value)

find_law : (c : ℕ) (s : Spot) (i k : ℕ) (ts : List Token) → find_from c s i ts ≡ Some k → Found c s ts i k
find_law c s i k [] h = cc
find_law c s i k (t ∷ ts) h =
    let cases : (b : Bool) → is_at c s t ≡ b → (if b then Some i else find_from c s (i + 1) ts) ≡ Some k → Found c s (t ∷ ts) i k
    = λ b. elim b as (λ b. is_at c s t ≡ b → (if b then Some i else find_from c s (i + 1) ts) ≡ Some k → Found c s (t ∷ ts) i k) [
      | true ↦ λ e q. let is = same_Some i k q in (0, t, omega (arith, is), refl, at_same c s t e)
      | false ↦ λ e q. let r = find_law c s (i + 1) k ts q in let is = r.2 in (suc r.0, r.1, omega (arith, is), r.3, r.4)
    ] in
    cases (is_at c s t) refl h

get_of : (ts : List Token) (i : ℕ) (u d : Token) → slice_get ts i ≡ Some u → u ≡ get_or ts i d
get_of [] i u d h = cc
get_of (t ∷ ts) zero u d h = sym (same_Some t u h)
get_of (t ∷ ts) (suc i) u d h = get_of ts i u d h

pub removed : (c : ℕ) (s : Spot) (k : ℕ) (ts : List Token) → find_from c s 0 ts ≡ Some k → (v : Value) × (slice_get ts k ≡ Some (token_of c s v))
    × IsPermutation ts (token_of c s v ∷ remove ts k)
removed c s k ts h =
    let f = find_law c s 0 k ts h in
    let same : f.0 ≡ k = let is = f.2 in omega (arith, is) in
    let u = f.1 in
    let here : slice_get ts k ≡ Some u = subst (λ j. slice_get ts j ≡ Some u) same f.3 in
    let perm : IsPermutation ts (u ∷ remove ts k) = IsPermutation-remove ts k u (slice_get_within ts k u here) (get_of ts k u u here) in
    (u.value, here ∙ ap Some f.4, subst (λ w. IsPermutation ts (w ∷ remove ts k)) f.4 perm)

value_of_few : (o : Option Token) → length (value_of o) ≤ 1
value_of_few None = omega arith
value_of_few (Some t) = omega arith

value_at_few : (ts : List Token) (o : Option ℕ) → length (value_at ts o) ≤ 1
value_at_few ts None = omega arith
value_at_few ts (Some i) = value_of_few (slice_get ts i)

value_here_few : (t : Token) (s : Spot) (ts : List Token) → length (value_here t s ts) ≤ 1
value_here_few t s ts = elim (same_spot s t.spot) as (λ b. length (if b then t.value ∷ [] else value_at ts (find_from t.context s 0 ts)) ≤ 1)
    [ true ↦ omega arith | false ↦ value_at_few ts (find_from t.context s 0 ts) ]

values_few : (t : Token) (ss : List Spot) (ts : List Token) → length (values_of t ss ts) ≤ length ss
values_few t [] ts = omega arith
values_few t (s ∷ ss) ts =
    let a = length-append (value_here t s ts) (values_of t ss (remaining_after t s ts)) in
    let b = value_here_few t s ts in
    let c = values_few t ss (remaining_after t s ts) in
    omega (arith, a, b, c)

-- TAKING

others : (t : Token) (ss : List Spot) (ts : List Token) → own t.spot ss ≡ 0 → length (values_of t ss ts) ≡ length ss
    → IsPermutation ts (zipped t.context ss (values_of t ss ts) ++ remaining_of t ss ts)
others t [] ts none full = IsPermutation-refl ts
others t (s ∷ ss) ts none full =
    let c = t.context in
    let goal : List Value → List Token → Type 0 = λ vs left. IsPermutation ts (zipped c (s ∷ ss) (vs ++ values_of t ss left) ++ remaining_of t ss left) in
    let found : (o : Option ℕ) → find_from c s 0 ts ≡ o → own t.spot ss ≡ 0 → length (value_at ts o ++ values_of t ss (without ts o))
    ≡ suc (length ss) → goal (value_at ts o) (without ts o)
    = λ o. elim o as (λ o. find_from c s 0 ts ≡ o → own t.spot ss ≡ 0 → length (value_at ts o ++ values_of t ss (without ts o)) ≡ suc (length ss)
    → goal (value_at ts o) (without ts o)) [
      | None ↦ λ e z l. let few = values_few t ss ts in absurd (omega (arith, few, l))
      | Some k ↦ λ e z l.
          let r = removed c s k ts e in
          let v = r.0 in
          let rest = remove ts k in
          let at : value_of (slice_get ts k) ≡ v ∷ [] = ap value_of r.1 in
          let long : length (values_of t ss rest) ≡ length ss = let m = ap (λ vs. length (vs ++ values_of t ss rest)) at in omega (arith, l, m) in
          let more = others t ss rest z long in
          subst (λ vs. goal vs rest) (sym at) (IsPermutation-trans _ _ _ r.2 (IsPermutation-append_right (token_of c s v ∷ []) rest
          (zipped c ss (values_of t ss rest) ++ remaining_of t ss rest) more))
    ] in
    let cases : (b : Bool) → (if b then suc (own t.spot ss) else own t.spot ss) ≡ 0
    → length ((if b then t.value ∷ [] else value_at ts (find_from c s 0 ts)) ++ values_of t ss (if b then ts else without ts (find_from c s 0 ts)))
    ≡ suc (length ss)
    → goal (if b then t.value ∷ [] else value_at ts (find_from c s 0 ts)) (if b then ts else without ts (find_from c s 0 ts))
    = λ b. elim b as (λ b. (if b then suc (own t.spot ss) else own t.spot ss) ≡ 0
    → length ((if b then t.value ∷ [] else value_at ts (find_from c s 0 ts)) ++ values_of t ss (if b then ts else without ts (find_from c s 0 ts)))
    ≡ suc (length ss)
    → goal (if b then t.value ∷ [] else value_at ts (find_from c s 0 ts)) (if b then ts else without ts (find_from c s 0 ts))) [
      | true ↦ λ z l. absurd (omega (arith, z))
      | false ↦ λ z l. found (find_from c s 0 ts) refl z l
    ] in
    cases (same_spot s t.spot) none full

pub taken_out : (t : Token) (ss : List Spot) (ts : List Token) → own t.spot ss ≡ 1 → length (values_of t ss ts) ≡ length ss
    → IsPermutation (t ∷ ts) (zipped t.context ss (values_of t ss ts) ++ remaining_of t ss ts)
taken_out t [] ts one full = absurd (omega (arith, one))
taken_out t (s ∷ ss) ts one full =
    let c = t.context in
    let goal : List Value → List Token → Type 0 = λ vs left. IsPermutation (t ∷ ts) (zipped c (s ∷ ss) (vs ++ values_of t ss left) ++ remaining_of t ss left) in
    let found : (o : Option ℕ) → find_from c s 0 ts ≡ o → own t.spot ss ≡ 1 → length (value_at ts o ++ values_of t ss (without ts o))
    ≡ suc (length ss) → goal (value_at ts o) (without ts o)
    = λ o. elim o as (λ o. find_from c s 0 ts ≡ o → own t.spot ss ≡ 1 → length (value_at ts o ++ values_of t ss (without ts o)) ≡ suc (length ss)
    → goal (value_at ts o) (without ts o)) [
      | None ↦ λ e z l. let few = values_few t ss ts in absurd (omega (arith, few, l))
      | Some k ↦ λ e z l.
          let r = removed c s k ts e in
          let v = r.0 in
          let u = token_of c s v in
          let rest = remove ts k in
          let at : value_of (slice_get ts k) ≡ v ∷ [] = ap value_of r.1 in
          let long : length (values_of t ss rest) ≡ length ss = let m = ap (λ vs. length (vs ++ values_of t ss rest)) at in omega (arith, l, m) in
          let more = taken_out t ss rest z long in
          let first = IsPermutation-append_right (t ∷ []) ts (u ∷ rest) r.2 in
          let second = permutation_exchange (t ∷ []) (u ∷ []) rest in
          let third = IsPermutation-append_right (u ∷ []) (t ∷ rest) (zipped c ss (values_of t ss rest) ++ remaining_of t ss rest) more in
          subst (λ vs. goal vs rest) (sym at) (IsPermutation-trans _ _ _ (IsPermutation-trans _ _ _ first second) third)
    ] in
    let cases : (b : Bool) → same_spot s t.spot ≡ b → (if b then suc (own t.spot ss) else own t.spot ss) ≡ 1
    → length ((if b then t.value ∷ [] else value_at ts (find_from c s 0 ts)) ++ values_of t ss (if b then ts else without ts (find_from c s 0 ts)))
    ≡ suc (length ss)
    → goal (if b then t.value ∷ [] else value_at ts (find_from c s 0 ts)) (if b then ts else without ts (find_from c s 0 ts))
    = λ b. elim b as (λ b. same_spot s t.spot ≡ b → (if b then suc (own t.spot ss) else own t.spot ss) ≡ 1
    → length ((if b then t.value ∷ [] else value_at ts (find_from c s 0 ts)) ++ values_of t ss (if b then ts else without ts (find_from c s 0 ts)))
    ≡ suc (length ss)
    → goal (if b then t.value ∷ [] else value_at ts (find_from c s 0 ts)) (if b then ts else without ts (find_from c s 0 ts))) [
      | true ↦ λ q z l.
          let none : own t.spot ss ≡ 0 = omega (arith, z) in
          let long : length (values_of t ss ts) ≡ length ss = omega (arith, l) in
          let is : t ≡ token_of c s t.value = ap (λ k. token_of c k t.value) (sym (spot_same s t.spot q)) in
          let more = IsPermutation-append_right (t ∷ []) ts (zipped c ss (values_of t ss ts) ++ remaining_of t ss ts) (others t ss ts none long) in
          subst (λ u. IsPermutation (t ∷ ts) (u ∷ (zipped c ss (values_of t ss ts) ++ remaining_of t ss ts))) is more
      | false ↦ λ q z l. found (find_from c s 0 ts) refl z l
    ] in
    cases (same_spot s t.spot) refl one full
