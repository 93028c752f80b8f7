-- The list of full cells has exactly the full cells, each once.
use Rattle.std.proofs.Common.{◌≡◌, ℕ, zero, suc, ◌+◌, ◌<◌, ◌≤◌, ◌⊎◌, inl, inr, Bool, true, false, List, [], ◌∷◌, length, Option, Some, None, nat_lt}
use Rattle.std.proofs.Common.{slice_get, refl, sym, ap, ◌∙◌, subst, arith, ⊎_elim, ltb-true, ltb-false}
use Rattle.std.proofs.lemmas.Bool.{cases_eq}
use Rattle.std.proofs.lemmas.Option.{same_Some}
use Rattle.tags.specs.declared.value.Value.{Value}
use Rattle.semantics.specs.Graph.{Graph}
use Rattle.lemmas.proofs.Permutations.{Within, Each, Spread, put_first, put_later, each_within, each_append, each_weaker, spread_append}
use Rattle.lemmas.proofs.Permutations.{within_left, within_right}
use Rattle.oracle.specs.declared.report.Full.{Full}
use Rattle.oracle.specs.Lines.{first_of, len_of, total_of}
use Rattle.oracle.specs.Acting.{held_in}
use Rattle.oracle.specs.Running.{full_if, full_from, full_in}
use Rattle.oracle.specs.Reporting.{cell_at, AreFull}
use Rattle.oracle.proofs.Filling.{held_low}
use Rattle.oracle.proofs.Resolved.{firsts_same, lens_same}

abbrev full : ℕ → ℕ → Value → Full
full a i v = record { array = a; index = i; value = v }

-- PLACES IN A LIST

within_slot : (f : Full) (fs : List Full) (k : ℕ) → slice_get fs k ≡ Some f → Within f fs
within_slot f [] k e = cc
within_slot f (h ∷ fs) zero e = (fs, inl (sym (same_Some h f e), refl))
within_slot f (h ∷ fs) (suc k) e = let r = within_slot f fs k e in (h ∷ r.0, put_later f h r.0 fs r.1)

slot_of : (f : Full) (fs : List Full) → Within f fs → (k : ℕ) × (slice_get fs k ≡ Some f)
slot_of f [] h = absurd h.1
slot_of f (h ∷ fs) (zs, inl p) = (0, ap Some (sym p.0))
slot_of f (h ∷ fs) (zs, inr p) = let r = slot_of f fs (p.0, p.2) in (suc r.0, r.1)

spread_slots : (R : Full → Full → Type 0) (fs : List Full) → Spread R fs → (j k : ℕ) (f h : Full) → slice_get fs j ≡ Some f → slice_get fs k ≡ Some h
    → j < k → R f h
spread_slots R [] s j k f h e g low = cc
spread_slots R (x ∷ fs) s j zero f h e g low = absurd (omega (arith, low))
spread_slots R (x ∷ fs) s zero (suc k) f h e g low = subst (λ x. R x h) (same_Some x f e) (each_within (R x) h fs (within_slot h fs k g) s.0)
spread_slots R (x ∷ fs) s (suc j) (suc k) f h e g low = spread_slots R fs s.1 j k f h e g (omega (arith, low))

-- ONE ARRAY, from a first index on: cell x is its index i

abbrev InRow : List (Option Value) → ℕ → ℕ → ℕ → ℕ → Full → Type 0
InRow cells a base i n f = (f.array ≡ a) × (i ≤ f.index) × (f.index < i + n) × (held_in cells (base + f.index) ≡ Some f.value)

row_each : (cells : List (Option Value)) (a base i n x : ℕ) → x ≡ base + i → Each (InRow cells a base i n) (full_from cells a x i n)
row_each cells a base i zero x e = tt
row_each cells a base i (suc n) x e =
    let first : (o : Option Value) → held_in cells x ≡ o → Each (InRow cells a base i (suc n)) (full_if a i o)
    = λ o. elim o as (λ o. held_in cells x ≡ o → Each (InRow cells a base i (suc n)) (full_if a i o)) [
      | None ↦ λ q. tt
      | Some v ↦ λ q. ((refl, omega arith, omega arith, ap (held_in cells) (sym e) ∙ q), tt)
    ] in
    each_append (InRow cells a base i (suc n)) (full_if a i (held_in cells x)) (full_from cells a (x + 1) (i + 1) n) (first (held_in cells x) refl)
    (each_weaker (InRow cells a base (i + 1) n) (InRow cells a base i (suc n)) (λ f h. let up = h.1 in let down = h.2
    in (h.0, omega (arith, up), omega (arith, down), h.3)) (full_from cells a (x + 1) (i + 1) n)
    (row_each cells a base (i + 1) n (x + 1) (omega (arith, e))))

row_all : (cells : List (Option Value)) (a base i n x j : ℕ) (v : Value) → x ≡ base + i → i ≤ j → j < i + n → held_in cells (base + j) ≡ Some v
    → Within (full a j v) (full_from cells a x i n)
row_all cells a base i zero x j v e low high h = absurd (omega (arith, low, high))
row_all cells a base i (suc n) x j v e low high h =
    ⊎_elim
    (λ same.
    let place : base + j ≡ x = omega (arith, e, same) in
    let held : held_in cells x ≡ Some v = ap (held_in cells) (sym place) ∙ h in
    within_left (full a j v) (full_if a i (held_in cells x)) (full_from cells a (x + 1) (i + 1) n)
    (subst (λ o. Within (full a j v) (full_if a i o)) (sym held) (subst (λ k. Within (full a j v) (full a k v ∷ [])) (sym same)
    ([], put_first (full a j v) []))))
    (λ other.
    within_right (full a j v) (full_if a i (held_in cells x)) (full_from cells a (x + 1) (i + 1) n)
    (row_all cells a base (i + 1) n (x + 1) j v (omega (arith, e)) (above i j low other) (omega (arith, high)) h))
    (cases_eq i j)
  where
    above : (a b : ℕ) → a ≤ b → (a ≡ b → ⊥) → a + 1 ≤ b
    above a b low other = omega (arith, low, other)

abbrev Before : Full → Full → Type 0
Before f h = (f.array < h.array) ⊎ ((f.array ≡ h.array) × (f.index < h.index))

row_spread : (cells : List (Option Value)) (a base i n x : ℕ) → x ≡ base + i → Spread Before (full_from cells a x i n)
row_spread cells a base i zero x e = tt
row_spread cells a base i (suc n) x e =
    let next : x + 1 ≡ base + (i + 1) = omega (arith, e) in
    let rest = full_from cells a (x + 1) (i + 1) n in
    let later = row_each cells a base (i + 1) n (x + 1) next in
    let first : (o : Option Value) → Spread Before (full_if a i o) × Each (λ f. Each (Before f) rest) (full_if a i o)
    = λ o. elim o as (λ o. Spread Before (full_if a i o) × Each (λ f. Each (Before f) rest) (full_if a i o)) [
      | None ↦ (tt, tt)
      | Some v ↦ (
        (tt, tt),
        (
          each_weaker (InRow cells a base (i + 1) n) (Before (full a i v)) (λ f h. let up = h.1
              in inr (sym h.0, omega (arith, up))) rest later,
          tt,
        ),
      )
    ] in
    let r = first (held_in cells x) in
    spread_append Before (full_if a i (held_in cells x)) rest r.0 (row_spread cells a base (i + 1) n (x + 1) next) r.1

-- ALL ARRAYS, from array a on, whose first cell is cell x

abbrev InAll : List (Option Value) → ℕ → ℕ → List (List ℕ × ℕ) → Full → Type 0
InAll cells a x bs f = (k : ℕ) × (f.array ≡ a + k) × (f.index < len_of bs k) × (held_in cells (x + (first_of bs k + f.index)) ≡ Some f.value)

all_each : (cells : List (Option Value)) (a x : ℕ) (bs : List (List ℕ × ℕ)) → Each (InAll cells a x bs) (full_in cells a x bs)
all_each cells a x [] = tt
all_each cells a x (b ∷ bs) =
    each_append (InAll cells a x (b ∷ bs)) (full_from cells a x 0 b.1) (full_in cells (a + 1) (x + b.1) bs)
    (each_weaker (InRow cells a x 0 b.1) (InAll cells a x (b ∷ bs))
    (λ f h.
    let array = h.0 in
    let low = h.2 in
    let place : x + (0 + f.index) ≡ x + f.index = omega arith in
    (0, omega (arith, array), omega (arith, low), ap (held_in cells) place ∙ h.3))
    (full_from cells a x 0 b.1) (row_each cells a x 0 b.1 x (omega arith)))
    (each_weaker (InAll cells (a + 1) (x + b.1) bs) (InAll cells a x (b ∷ bs))
    (λ f h.
    let array = h.1 in
    let place : x + (b.1 + first_of bs h.0 + f.index) ≡ x + b.1 + (first_of bs h.0 + f.index) = omega arith in
    (suc h.0, omega (arith, array), h.2, ap (held_in cells) place ∙ h.3))
    (full_in cells (a + 1) (x + b.1) bs) (all_each cells (a + 1) (x + b.1) bs))

abbrev IsAmong : List (Option Value) → ℕ → ℕ → List (List ℕ × ℕ) → ℕ → Value → Type 0
IsAmong cells a x bs y v = (k : ℕ) × (j : ℕ) × Within (full (a + k) j v) (full_in cells a x bs) × (y ≡ first_of bs k + j)

all_all : (cells : List (Option Value)) (a x : ℕ) (bs : List (List ℕ × ℕ)) (y : ℕ) (v : Value) → y < total_of bs → held_in cells (x + y) ≡ Some v
    → IsAmong cells a x bs y v
all_all cells a x [] y v low h = absurd (omega (arith, low))
all_all cells a x (b ∷ bs) y v low h =
    let here : y < b.1 → IsAmong cells a x (b ∷ bs) y v =
    λ less.
    let array : a ≡ a + 0 = omega arith in (
      0,
      y,
      subst (λ a'. Within (full a' y v) (full_in cells a x (b ∷ bs))) array
          (within_left (full a y v) (full_from cells a x 0 b.1) (full_in cells (a + 1) (x + b.1) bs)
          (row_all cells a x 0 b.1 x y v (omega arith) (omega arith) (omega (arith, less)) h)),
      omega arith,
    ) in
    let there : b.1 ≤ y → IsAmong cells a x (b ∷ bs) y v =
    λ past.
    let z : (z : ℕ) × (y ≡ b.1 + z) = minus y b.1 past in
    let is = z.1 in
    let place : x + b.1 + z.0 ≡ x + y = omega (arith, is) in
    let r = all_all cells (a + 1) (x + b.1) bs z.0 v (omega (arith, low, is)) (ap (held_in cells) place ∙ h) in
    let array : a + 1 + r.0 ≡ a + suc r.0 = omega arith in
    let cell = r.3 in (
      suc r.0,
      r.1,
      subst (λ a'. Within (full a' r.1 v) (full_in cells a x (b ∷ bs))) array (within_right (full (a + 1 + r.0) r.1 v) (full_from cells a x 0 b.1)
          (full_in cells (a + 1) (x + b.1) bs) r.2),
      omega (arith, is, cell),
    ) in
    let cases : (t : Bool) → nat_lt y b.1 ≡ t → IsAmong cells a x (b ∷ bs) y v
    = λ t. elim t as (λ t. nat_lt y b.1 ≡ t
    → IsAmong cells a x (b ∷ bs) y v) [ true ↦ λ e. here (ltb-true y b.1 e) | false ↦ λ e. there (ltb-false y b.1 e) ] in
    cases (nat_lt y b.1) refl
  where
    minus : (y n : ℕ) → n ≤ y → (z : ℕ) × (y ≡ n + z)
    minus y zero h = (y, omega arith)
    minus zero (suc n) h = absurd (omega (arith, h))
    minus (suc y) (suc n) h = let r = minus y n (omega (arith, h)) in let e = r.1 in (r.0, omega (arith, e))

all_spread : (cells : List (Option Value)) (a x : ℕ) (bs : List (List ℕ × ℕ)) → Spread Before (full_in cells a x bs)
all_spread cells a x [] = tt
all_spread cells a x (b ∷ bs) =
    let rest = full_in cells (a + 1) (x + b.1) bs in
    let place : x ≡ x + 0 = omega arith in
    spread_append Before (full_from cells a x 0 b.1) rest (row_spread cells a x 0 b.1 x place) (all_spread cells (a + 1) (x + b.1) bs)
    (each_weaker (InRow cells a x 0 b.1) (λ f. Each (Before f) rest)
    (λ f h. each_weaker (InAll cells (a + 1) (x + b.1) bs) (Before f) (λ l k. let mine = h.0 in let its = k.1 in inl (omega (arith, mine, its))) rest
    (all_each cells (a + 1) (x + b.1) bs))
    (full_from cells a x 0 b.1) (row_each cells a x 0 b.1 x place))

-- THE WHOLE LIST
pub full_law : (g : Graph) (cells : List (Option Value)) → length cells ≡ total_of g.arrays → AreFull g (held_in cells) (full_in cells 0 0 g.arrays)
full_law g cells long =
    let fs = full_in cells 0 0 g.arrays in
    let cell : (a i : ℕ) → first_of g.arrays a + i ≡ cell_at g a i = λ a i. ap (λ n. n + i) (firsts_same g.arrays a) in
    record {
      each = λ k f e.
          let r = each_within (InAll cells 0 0 g.arrays) f fs (within_slot f fs k e) (all_each cells 0 0 g.arrays) in
          let array : r.0 ≡ f.array = let is = r.1 in omega (arith, is) in
          let place : cell_at g f.array f.index ≡ 0 + (first_of g.arrays r.0 + f.index) = sym (cell f.array f.index)
          ∙ ap (λ a. first_of g.arrays a + f.index) (sym array) ∙ plain_sum (first_of g.arrays r.0 + f.index) in
          (subst (λ n. f.index < n) (lens_same g.arrays f.array) (subst (λ a. f.index < len_of g.arrays a) array r.2), ap (held_in cells) place ∙ r.3);
      all = λ x v h.
          let low = held_low cells x v h in
          let r = all_all cells 0 0 g.arrays x v (subst (λ n. x < n) long low) (ap (held_in cells) (sym (plain_sum x)) ∙ h) in
          let f = full (0 + r.0) r.1 v in
          let s = slot_of f fs r.2 in
          (s.0, f, s.1, r.3 ∙ cell r.0 r.1 ∙ ap (λ a. cell_at g a r.1) (plain_sum r.0), refl);
      ascend = λ j k f h e q low. spread_slots Before fs (all_spread cells 0 0 g.arrays) j k f h e q low;
    }
  where
    plain_sum : (n : ℕ) → n ≡ 0 + n
    plain_sum n = omega arith
