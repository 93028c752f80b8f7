-- Which lane of which word belongs to a holder, and to a mark.
use Rattle.std.proofs.Common.{◌≡◌, refl, sym, ap, ◌∙◌, subst, ℕ, zero, suc, ◌+◌, ◌-◌, ◌*◌, ◌/◌, ◌%◌, ◌^◌, ◌<◌, ◌≤◌, Bool, true, false, not, ◌&&◌}
use Rattle.std.proofs.Common.{◌||◌, ◌==◌, nat_lt, ◌⊎◌, inl, inr, List, [], ◌∷◌, length, drop, replicate, get_or, cond, Option, Some, None, ⊎_elim}
use Rattle.std.proofs.Common.{arith, bit_and, bit_or}
use Rattle.std.specs.Prelude.{All}
use Rattle.std.specs.Int.{w64, trailing_zeros}
use Rattle.std.specs.List.{list_any}
use Rattle.std.proofs.lemmas.Bool.{both_ways, or_cases, or_left, or_right, cases_eq, cases_lt, eq-eqb, ne_eqb, lt-ltb, le-ltb}
use Rattle.std.proofs.lemmas.Nat.{and_le_l, or_lt, div-add-mod', mod_below, le-div}
use Rattle.std.proofs.lemmas.Nat.Bits.{shr_and_one, bit_at-trailing_zeros}
use Rattle.std.proofs.lemmas.List.{length_push, get_or_push, get_or_append_left, get_or_past, get_or-drop}
use Rattle.std.proofs.lemmas.List.Elements.{All-set, All-replicate}
use Rattle.std.proofs.lemmas.List.Folds.{list_any-append}
use Rattle.std.proofs.lemmas.Option.{unwrap_or-slice_get}
use Rattle.lemmas.proofs.Bools.{and_false, and_true}
use Rattle.semantics.specs.declared.program.Mark.{Mark}
use Rattle.semantics.specs.declared.program.Mark.TheVariants.{Unmarked, OfCond, OfFlag}
use Rattle.semantics.specs.Program.{Instr, CodeBlock}
use Rattle.semantics.specs.Rule.{slot_of}
use Rattle.semantics.specs.Plan.{Plan}
use Rattle.semantics.specs.Sharing.{ends_with}
use Rattle.slot_alloc.specs.declared.passes.Flows.{Flows}
use Rattle.slot_alloc.specs.declared.choices.Choice.{Choice}
use Rattle.slot_alloc.specs.declared.choices.Choice.TheVariants as choice
use Rattle.slot_alloc.specs.Passes.{Ends, Side, is_holder, is_chosen, is_marked, same_mark, mark_of}
use Rattle.slot_alloc.specs.Rows.{row_of}
use Rattle.slot_alloc.specs.Words as words
use Rattle.slot_alloc.specs.Tables.{groups, after_rows, split_of, splits_of, comes_after, is_apart}
use Rattle.slot_alloc.proofs.Chosen.{same_mark_exact}
use Rattle.slot_alloc.proofs.Passed.{bit}
use Rattle.slot_alloc.proofs.Lanes.{lane_bit, lane_and, lane_or, lane_zero, lane_one, bit_at_row}

-- THE LANE OF A HOLDER
number_at : (k first n : ℕ) → k < 64 → lane_bit k (words.number_lane first n) ≡ (n == first + k)
number_at k first n few = ⊎_elim
    (λ (lt : n < first).
    ap (λ t. lane_bit k (cond t 0 (cond (nat_lt (n - first) 64) (words.one_lane (n - first)) 0))) (lt-ltb n first lt)
    ∙ lane_zero k ∙ sym (ne_eqb n (first + k) (λ e. omega (arith, e, lt))))
    (λ (le : first ≤ n).
    ap (λ t. lane_bit k (cond t 0 (cond (nat_lt (n - first) 64) (words.one_lane (n - first)) 0))) (le-ltb n first le)
    ∙ ⊎_elim
    (λ (lt : n - first < 64).
    ap (λ t. lane_bit k (cond t (words.one_lane (n - first)) 0)) (lt-ltb (n - first) 64 lt)
    ∙ lane_one k (n - first) lt ∙ same le (cases_eq n (first + k)))
    (λ (ge : 64 ≤ n - first).
    ap (λ t. lane_bit k (cond t (words.one_lane (n - first)) 0)) (le-ltb (n - first) 64 ge)
    ∙ lane_zero k ∙ sym (ne_eqb n (first + k) (λ e. omega (arith, e, ge, few))))
    (cases_lt (n - first) 64))
    (cases_lt n first)
  where
    same : first ≤ n → (n ≡ first + k) ⊎ (n ≡ first + k → ⊥) → (n - first == k) ≡ (n == first + k)
    same le (inl e) = eq-eqb (n - first) k (omega (arith, e)) ∙ sym (eq-eqb n (first + k) e)
    same le (inr ne) = ne_eqb (n - first) k (λ e. ne (omega (arith, e, le))) ∙ sym (ne_eqb n (first + k) ne)

holder_at : (k first : ℕ) (o : Option ℕ) → k < 64 → lane_bit k (words.holder_lane first o) ≡ is_holder o (first + k)
holder_at k first None few = lane_zero k
holder_at k first (Some h) few = number_at k first h few

ends_at : (k first : ℕ) (known : List Mark) → k < 64 → (i : Instr) (m : Mark) (second : Bool)
    → lane_bit k (words.lanes (choice.Ends first) known i m second) ≡ is_chosen (Ends (first + k)) i m second
ends_at k first known few i m second = go (ends_with i.op)
  where
    go : (t : Bool) → lane_bit k (cond t (words.holder_lane first (slot_of i i.op)) 0) ≡ (is_holder (slot_of i i.op) (first + k) && t)
    go true = holder_at k first (slot_of i i.op) few ∙ sym (and_true (is_holder (slot_of i i.op) (first + k)))
    go false = lane_zero k ∙ sym (and_false (is_holder (slot_of i i.op) (first + k)))

-- THE LANES OF A MARK
or_none : (b : Bool) → (b || false) ≡ b
or_none true = refl
or_none false = refl

-- one more lane, of the mark or not, at a lane before or after it
abbrev with_lane : List Mark → Mark → ℕ → Bool → ℕ
with_lane known m j t = cond t (bit_or (words.mark_lanes known m j) (words.one_lane j)) (words.mark_lanes known m j)

other_lane : (k : ℕ) (known : List Mark) (m : Mark) (j : ℕ) (t : Bool) → j < 64 → (j ≡ k → ⊥) → lane_bit k (with_lane known m j t)
    ≡ lane_bit k (words.mark_lanes known m j)
other_lane k known m j true few ne =
    lane_or k (words.mark_lanes known m j) (words.one_lane j)
    ∙ ap (λ b. lane_bit k (words.mark_lanes known m j) || b) (lane_one k j few ∙ ne_eqb j k ne)
    ∙ or_none (lane_bit k (words.mark_lanes known m j))
other_lane k known m j false few ne = refl

this_lane : (k : ℕ) (known : List Mark) (m : Mark) (j : ℕ) (t : Bool) → j < 64 → j ≡ k → lane_bit k (words.mark_lanes known m j) ≡ false
    → lane_bit k (with_lane known m j t) ≡ t
this_lane k known m j true few e none =
    lane_or k (words.mark_lanes known m j) (words.one_lane j)
    ∙ or_right (lane_bit k (words.mark_lanes known m j)) (lane_bit k (words.one_lane j)) (lane_one k j few ∙ eq-eqb j k e)
this_lane k known m j false few e none = none

mark_above : (k : ℕ) (known : List Mark) (m : Mark) (j : ℕ) → j ≤ k → j ≤ 64 → lane_bit k (words.mark_lanes known m j) ≡ false
mark_above k known m zero le few = lane_zero k
mark_above k known m (suc j) le few =
    other_lane k known m j (same_mark (mark_of known j) m) (omega (arith, few)) (λ e. omega (arith, e, le))
    ∙ mark_above k known m j (omega (arith, le)) (omega (arith, few))

mark_at : (k : ℕ) (known : List Mark) (m : Mark) (j : ℕ) → k < j → j ≤ 64 → lane_bit k (words.mark_lanes known m j) ≡ same_mark (mark_of known k) m
mark_at k known m zero lt few = let no : ⊥ = omega (arith, lt) in absurd no
mark_at k known m (suc j) lt few = ⊎_elim
    (λ (e : k ≡ j).
    this_lane k known m j (same_mark (mark_of known j) m) (omega (arith, few)) (sym e) (mark_above k known m j (omega (arith, e)) (omega (arith, few)))
    ∙ ap (λ n. same_mark (mark_of known n) m) (sym e))
    (λ (ne : k ≡ j → ⊥).
    other_lane k known m j (same_mark (mark_of known j) m) (omega (arith, few)) (λ e. ne (sym e))
    ∙ mark_at k known m j (omega (arith, lt, ne)) (omega (arith, few)))
    (cases_eq k j)

unmarked : (n m : Mark) → is_marked m ≡ false → same_mark n m ≡ false
unmarked Unmarked m e = refl
unmarked (OfCond c) Unmarked e = refl
unmarked (OfCond c) (OfCond d) e = absurd (both_ways true e refl)
unmarked (OfCond c) OfFlag e = refl
unmarked OfFlag Unmarked e = refl
unmarked OfFlag (OfCond d) e = refl
unmarked OfFlag OfFlag e = absurd (both_ways true e refl)

marks_at : (k : ℕ) (known : List Mark) (m : Mark) → k < 64 → (t : Bool) → lane_bit k (cond (t && is_marked m) (words.mark_lanes known m 64) 0)
    ≡ (same_mark (mark_of known k) m && t)
marks_at k known m few true = go (is_marked m) refl ∙ sym (and_true (same_mark (mark_of known k) m))
  where
    go : (t : Bool) → is_marked m ≡ t → lane_bit k (cond t (words.mark_lanes known m 64) 0) ≡ same_mark (mark_of known k) m
    go true e = mark_at k known m 64 few (omega arith)
    go false e = lane_zero k ∙ sym (unmarked (mark_of known k) m e)
marks_at k known m few false = lane_zero k ∙ sym (and_false (same_mark (mark_of known k) m))

sides_at : (k : ℕ) (side : Bool) (known : List Mark) → k < 64 → (i : Instr) (m : Mark) (second : Bool)
    → lane_bit k (words.lanes (choice.Sides side) known i m second) ≡ is_chosen (Side side (mark_of known k)) i m second
sides_at k true known few i m second = marks_at k known m few (not second)
sides_at k false known few i m second = marks_at k known m few second

-- A ROW'S WORDS have 64 lanes
abbrev Small : List ℕ → Type 0
Small row = All (λ w. w < 2 ^ 64) row

kept_small : (row : List ℕ) (o : Option ℕ) (w : ℕ) → Small row → Small (words.kept row o w)
kept_small row None w small = small
kept_small row (Some h) w small = All-set (λ x. x < 2 ^ 64) row h (bit_and (get_or row h 0) w) less small
  where
    old : get_or row h 0 < 2 ^ 64
    old = ⊎_elim (λ lt. small h 0 lt) (λ le. subst (λ x. x < 2 ^ 64) (sym (get_or_past row h 0 le)) (omega arith)) (cases_lt h (length row))

    less : bit_and (get_or row h 0) w < 2 ^ 64
    less = let le = and_le_l (get_or row h 0) w in let lt = old in omega (arith, le, lt)

row_small : (row : List ℕ) (xs : List Flows) (n : ℕ) (is : List Instr) → Small row → Small (words.row_from row xs n is)
row_small row xs n [] small = small
row_small row xs n (i ∷ is) small = row_small (words.noted row i (words.flows_at xs n)) xs (n + 1) is
    (kept_small row (slot_of i i.op) (words.ports_led i.op (words.flows_at xs n)) small)

word_small : (p : Plan) (ch : Choice) (known ms : List Mark) (c : CodeBlock) (g : ℕ) → get_or (words.row_of p ch known ms c) g 0 < 2 ^ 64
word_small p ch known ms c g = ⊎_elim
    (λ lt. small g 0 lt)
    (λ le. subst (λ x. x < 2 ^ 64) (sym (get_or_past row g 0 le)) (omega arith))
    (cases_lt g (length row))
  where
    row : List ℕ
    row = words.row_of p ch known ms c

    small : Small (words.row_of p ch known ms c)
    small = row_small (replicate c.slots words.all_lanes) (words.pass p ch known ms (replicate (length c.instrs) words.bare) 0 c.instrs) 0 c.instrs
        (All-replicate (λ w. w < 2 ^ 64) c.slots words.all_lanes (omega arith))

some_lane : (w : ℕ) → w < 2 ^ 64 → not (w == 0) ≡ true → (k : ℕ) × (k < 64) × (lane_bit k w ≡ true)
some_lane w small e = ⊎_elim
    (λ (none : w ≡ 0). absurd (both_ways (not (w == 0)) (ap not (eq-eqb w 0 none)) e))
    (λ (ne : w ≡ 0 → ⊥). let t = bit_at-trailing_zeros w64 w (omega (arith, ne)) small in (trailing_zeros w64 w, t.0, ap (λ n. n == 1) t.1))
    (cases_eq w 0)

lane_some : (k w : ℕ) → lane_bit k w ≡ true → not (w == 0) ≡ true
lane_some k w e = ⊎_elim
    (λ (none : w ≡ 0). absurd (both_ways (lane_bit k w) (ap (lane_bit k) none ∙ lane_zero k) e))
    (λ (ne : w ≡ 0 → ⊥). ap not (ne_eqb w 0 ne))
    (cases_eq w 0)

-- THE TABLE
module _ (p : Plan) (c : CodeBlock) (ms : List Mark) where
  rows_long : (n : ℕ) → length (after_rows p ms c n) ≡ n
  rows_long zero = refl
  rows_long (suc n) = let e = rows_long n in let f = length_push (after_rows p ms c n) (words.row_of p (choice.Ends (n * 64)) [] ms c) in omega (arith, e, f)

  row_at : (n j : ℕ) → j < n → get_or (after_rows p ms c n) j [] ≡ words.row_of p (choice.Ends (j * 64)) [] ms c
  row_at zero j below = let no : ⊥ = omega (arith, below) in absurd no
  row_at (suc n) j below =
      let len = rows_long n in
      let r = words.row_of p (choice.Ends (n * 64)) [] ms c in
      ⊎_elim
      (λ (e : j ≡ n). get_or_push (after_rows p ms c n) r [] j (len ∙ sym e) ∙ ap (λ k. words.row_of p (choice.Ends (k * 64)) [] ms c) (sym e))
      (λ (ne : j ≡ n → ⊥). let lt : j < n = omega (arith, below, ne) in get_or_append_left (after_rows p ms c n) (r ∷ []) [] j
      (omega (arith, lt, len)) ∙ row_at n j lt)
      (cases_eq j n)

  in_group : (h n : ℕ) → h < n → h / 64 < groups n
  in_group h n below =
      let whole = div-add-mod' h 64 in
      let pos : 0 < 64 = omega arith in
      let fits : suc (h / 64) * 64 ≤ n + 63 = omega (arith, whole, below) in
      let le = le-div (suc (h / 64)) (n + 63) 64 pos fits in
      omega (arith, le)

  -- whether a holder is after another
  pub after_bit : (g h : ℕ) → h < c.slots → comes_after (after_rows p ms c (groups c.slots)) g h ≡ bit (row_of p (Ends h) ms c) g
  after_bit g h below =
      let j = h / 64 in
      let k = h % 64 in
      let few : k < 64 = mod_below h 64 (omega arith) in
      ap (λ r. bit_and (get_or r g 0 / 2 ^ k) 1 == 1) (row_at (groups c.slots) j (in_group h c.slots below))
      ∙ ap (λ n. n == 1) (shr_and_one (get_or (words.row_of p (choice.Ends (j * 64)) [] ms c) g 0) k)
      ∙ bit_at_row k p (choice.Ends (j * 64)) [] (Ends (j * 64 + k)) (ends_at k (j * 64) [] few) few ms c g
      ∙ ap (λ n. bit (row_of p (Ends n) ms c) g) (div-add-mod' h 64)

  -- whether the switches of one mark put two holders on different sides
  abbrev pub one_apart : ℕ → ℕ → Mark → Bool
  one_apart g h m =
      (bit (row_of p (Side true m) ms c) g && bit (row_of p (Side false m) ms c) h)
      || (bit (row_of p (Side false m) ms c) g && bit (row_of p (Side true m) ms c) h)

  abbrev side_word : Bool → List Mark → ℕ → ℕ
  side_word side known g = get_or (words.row_of p (choice.Sides side) known ms c) g 0

  abbrev apart_word : List Mark → ℕ → ℕ → ℕ
  apart_word known g h = bit_or (bit_and (side_word true known g) (side_word false known h)) (bit_and (side_word false known g) (side_word true known h))

  side_bit : (k : ℕ) (side : Bool) (known : List Mark) (g : ℕ) → k < 64 → lane_bit k (side_word side known g)
      ≡ bit (row_of p (Side side (mark_of known k)) ms c) g
  side_bit k side known g few = bit_at_row k p (choice.Sides side) known (Side side (mark_of known k)) (sides_at k side known few) few ms c g

  both_bits : (k : ℕ) (side other : Bool) (known : List Mark) (g h : ℕ) → k < 64
      → lane_bit k (bit_and (side_word side known g) (side_word other known h)) ≡ (bit (row_of p (Side side (mark_of known k)) ms c) g
      && bit (row_of p (Side other (mark_of known k)) ms c) h)
  both_bits k side other known g h few =
      lane_and k (side_word side known g) (side_word other known h)
      ∙ ap (λ b. b && lane_bit k (side_word other known h)) (side_bit k side known g few)
      ∙ ap (λ b. bit (row_of p (Side side (mark_of known k)) ms c) g && b) (side_bit k other known h few)

  apart_bit : (k : ℕ) (known : List Mark) (g h : ℕ) → k < 64 → lane_bit k (apart_word known g h) ≡ one_apart g h (mark_of known k)
  apart_bit k known g h few =
      lane_or k (bit_and (side_word true known g) (side_word false known h)) (bit_and (side_word false known g) (side_word true known h))
      ∙ ap (λ b. b || lane_bit k (bit_and (side_word false known g) (side_word true known h))) (both_bits k true false known g h few)
      ∙ ap (λ b. (bit (row_of p (Side true (mark_of known k)) ms c) g && bit (row_of p (Side false (mark_of known k)) ms c) h) || b)
      (both_bits k false true known g h few)

  apart_small : (known : List Mark) (g h : ℕ) → apart_word known g h < 2 ^ 64
  apart_small known g h =
      let yes_g = word_small p (choice.Sides true) known ms c g in
      let no_g = word_small p (choice.Sides false) known ms c g in
      let one = and_le_l (side_word true known g) (side_word false known h) in
      let other = and_le_l (side_word false known g) (side_word true known h) in
      or_lt 64 (bit_and (side_word true known g) (side_word false known h)) (bit_and (side_word false known g) (side_word true known h))
      (omega (arith, yes_g, one)) (omega (arith, no_g, other))

  pub any_apart : (g h : ℕ) (known : List Mark) (n : ℕ) → list_any (is_apart g h) (splits_of p ms c known n) ≡ true → (m : Mark) × (one_apart g h m ≡ true)
  any_apart g h known zero e = absurd (both_ways false refl e)
  any_apart g h known (suc n) e =
      let s = split_of p ms c (drop (n * 64) known) in
      ⊎_elim
      (λ a. any_apart g h known n a)
      (λ a. ⊎_elim
      (λ one. (let w = some_lane (apart_word (drop (n * 64) known) g h) (apart_small (drop (n * 64) known) g h) one in
      (mark_of (drop (n * 64) known) w.0, sym (apart_bit w.0 (drop (n * 64) known) g h w.1) ∙ w.2)))
      (λ none. absurd (both_ways false refl none))
      (or_cases (is_apart g h s) false a))
      (or_cases (list_any (is_apart g h) (splits_of p ms c known n)) (list_any (is_apart g h) (s ∷ []))
      (sym (list_any-append (is_apart g h) (splits_of p ms c known n) (s ∷ [])) ∙ e))

  split_in : (g h : ℕ) (known : List Mark) (n j : ℕ) → j < n → is_apart g h (split_of p ms c (drop (j * 64) known)) ≡ true
      → list_any (is_apart g h) (splits_of p ms c known n) ≡ true
  split_in g h known zero j below e = let no : ⊥ = omega (arith, below) in absurd no
  split_in g h known (suc n) j below e =
      let s = split_of p ms c (drop (n * 64) known) in
      list_any-append (is_apart g h) (splits_of p ms c known n) (s ∷ [])
      ∙ ⊎_elim
      (λ (at : j ≡ n). or_right (list_any (is_apart g h) (splits_of p ms c known n)) (list_any (is_apart g h) (s ∷ []))
      (or_left (is_apart g h s) false (subst (λ i. is_apart g h (split_of p ms c (drop (i * 64) known)) ≡ true) at e)))
      (λ (ne : j ≡ n → ⊥). or_left (list_any (is_apart g h) (splits_of p ms c known n)) (list_any (is_apart g h) (s ∷ []))
      (split_in g h known n j (omega (arith, below, ne)) e))
      (cases_eq j n)

  place_of : (m : Mark) (known : List Mark) → list_any (same_mark m) known ≡ true → (n : ℕ) × (n < length known) × (mark_of known n ≡ m)
  place_of m [] e = absurd (both_ways false refl e)
  place_of m (x ∷ known) e = ⊎_elim
      (λ a. (zero, omega arith, ((same_mark_exact m x).0 a).0))
      (λ a. let w = place_of m known a in let lt = w.1 in (suc w.0, omega (arith, lt), w.2))
      (or_cases (same_mark m x) (list_any (same_mark m) known) e)

  mark_in_group : (known : List Mark) (n : ℕ) → mark_of (drop (n / 64 * 64) known) (n % 64) ≡ mark_of known n
  mark_in_group known n =
      unwrap_or-slice_get (drop (n / 64 * 64) known) (n % 64) Unmarked
      ∙ get_or-drop (n / 64 * 64) known (n % 64) Unmarked
      ∙ ap (λ k. get_or known k Unmarked) (div-add-mod' n 64)
      ∙ sym (unwrap_or-slice_get known n Unmarked)

  pub known_apart : (g h : ℕ) (m : Mark) (known : List Mark) → list_any (same_mark m) known ≡ true → one_apart g h m ≡ true
      → list_any (is_apart g h) (splits_of p ms c known (groups (length known))) ≡ true
  known_apart g h m known there e =
      let w = place_of m known there in
      let j = w.0 / 64 in
      let k = w.0 % 64 in
      let few : k < 64 = mod_below w.0 64 (omega arith) in
      let at : one_apart g h (mark_of (drop (j * 64) known) k) ≡ true = ap (one_apart g h) (mark_in_group known w.0 ∙ w.2) ∙ e in
      split_in g h known (groups (length known)) j (in_group w.0 (length known) w.1) (lane_some k (apart_word (drop (j * 64) known) g h)
      (apart_bit k (drop (j * 64) known) g h few ∙ at))
