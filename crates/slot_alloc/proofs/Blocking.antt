-- Which slots are blocked, by 64 earlier holders at a time.
use Rattle.std.proofs.Common.{◌≡◌, refl, sym, ap, ◌∙◌, ℕ, zero, suc, ◌+◌, ◌*◌, ◌/◌, ◌%◌, ◌^◌, ◌<◌, ◌≤◌, Bool, true, false, not, ◌||◌, ◌==◌, List}
use Rattle.std.proofs.Common.{[], ◌∷◌, length, drop, get_or, set, cond, ⊎_elim, arith, bit_and, bit_or}
use Rattle.std.specs.List.{list_any}
use Rattle.std.proofs.lemmas.Bool.{both_ways, cases_eq, cases_lt, ne_eqb, or_left, or_right}
use Rattle.std.proofs.lemmas.Nat.{le_or_l, le_or_r, div-mul-add, mod-mul-add}
use Rattle.std.proofs.lemmas.Nat.Bits.{shr_and_one}
use Rattle.std.proofs.lemmas.List.{drop_more, drop_all}
use Rattle.std.specs.Int.Bits.{and_zero_r}
use Rattle.slot_alloc.specs.Words.{all_lanes}
use Rattle.slot_alloc.specs.Tables.{Table, Split, word, after_word, comes_after, is_apart, is_sided, may_share, blocked_by, blocked_from}
use Rattle.slot_alloc.proofs.Lanes.{lane_all}

-- A HOLDER ON NO SIDE is apart from none
none_of : (a b : ℕ) → not (bit_or a b == 0) ≡ false → (a ≡ 0) × (b ≡ 0)
none_of a b e = ⊎_elim
    (λ (z : bit_or a b ≡ 0). let l = le_or_l a b in let r = le_or_r a b in (omega (arith, z, l), omega (arith, z, r)))
    (λ (ne : bit_or a b ≡ 0 → ⊥). absurd (both_ways (not (bit_or a b == 0)) e (ap not (ne_eqb (bit_or a b) 0 ne))))
    (cases_eq (bit_or a b) 0)

one_unsided : (g h : ℕ) (s : Split) → is_sided h s ≡ false → is_apart g h s ≡ false
one_unsided g h s e =
    let z = none_of (word s.yes h) (word s.no h) e in
    ap (λ n. not (bit_or (bit_and (word s.yes g) n) (bit_and (word s.no g) (word s.yes h)) == 0)) z.1
    ∙ ap (λ n. not (bit_or n (bit_and (word s.no g) (word s.yes h)) == 0)) (and_zero_r (word s.yes g))
    ∙ ap (λ n. not (bit_or 0 (bit_and (word s.no g) n) == 0)) z.0
    ∙ ap (λ n. not (bit_or 0 n == 0)) (and_zero_r (word s.no g))

pub unsided : (g h : ℕ) (ss : List Split) → list_any (is_sided h) ss ≡ false → list_any (is_apart g h) ss ≡ false
unsided g h [] e = refl
unsided g h (s ∷ ss) e = go (is_sided h s) refl (list_any (is_sided h) ss) (λ b. unsided g h ss b) e
  where
    go : (x : Bool) → is_sided h s ≡ x → (y : Bool) → (y ≡ false → list_any (is_apart g h) ss ≡ false) → (x || y) ≡ false
        → (is_apart g h s || list_any (is_apart g h) ss) ≡ false
    go true _ y _ f = absurd (both_ways true f refl)
    go false a true _ f = absurd (both_ways true f refl)
    go false a false b f = ap (λ t. t || list_any (is_apart g h) ss) (one_unsided g h s a) ∙ b refl

-- A WORD WITH ALL LANES passes over its group
module _ (t : Table) (ss : List ℕ) (bl : List Bool) where
  one_passed : (h : ℕ) → may_share t h (length ss) ≡ true → blocked_from t ss bl h ≡ blocked_from t ss bl (h + 1)
  one_passed h e = ⊎_elim
      (λ (lt : h < length ss).
      ap (blocked_by t (length ss) bl h) (drop_more ss h 0 lt)
      ∙ ap (λ b. blocked_by t (length ss) (cond b bl (set bl (get_or ss h 0) true)) (h + 1) (drop (h + 1) ss)) e)
      (λ (le : length ss ≤ h).
      ap (blocked_by t (length ss) bl h) (drop_all h ss le) ∙ sym (ap (blocked_by t (length ss) bl (h + 1)) (drop_all (h + 1) ss (omega (arith, le)))))
      (cases_lt h (length ss))

  all_passed : (h k : ℕ) → ((j : ℕ) → j < k → may_share t (h + j) (length ss) ≡ true) → blocked_from t ss bl h ≡ blocked_from t ss bl (h + k)
  all_passed h zero all = let e : h ≡ h + zero = omega arith in ap (blocked_from t ss bl) e
  all_passed h (suc k) all =
      let e : (h + k) + 1 ≡ h + suc k = omega arith in
      all_passed h k (λ j lt. all j (omega (arith, lt)))
      ∙ one_passed (h + k) (all k (omega arith))
      ∙ ap (blocked_from t ss bl) e

  pub group_passed : (group : ℕ) → after_word t.after (length ss) group ≡ all_lanes → blocked_from t ss bl (group * 64 + 64) ≡ blocked_from t ss bl (group * 64)
  group_passed group e = sym (all_passed (group * 64) 64 (λ j lt. shares j lt))
    where
      after_all : (j : ℕ) → j < 64 → comes_after t.after (length ss) (group * 64 + j) ≡ true
      after_all j lt =
          ap (λ i. bit_and (after_word t.after (length ss) i / 2 ^ ((group * 64 + j) % 64)) 1 == 1) (div-mul-add group 64 j lt)
          ∙ ap (λ i. bit_and (after_word t.after (length ss) group / 2 ^ i) 1 == 1) (mod-mul-add group 64 j lt)
          ∙ ap (λ w. bit_and (w / 2 ^ j) 1 == 1) e
          ∙ ap (λ n. n == 1) (shr_and_one all_lanes j)
          ∙ lane_all j lt

      shares : (j : ℕ) → j < 64 → may_share t (group * 64 + j) (length ss) ≡ true
      shares j lt =
          or_left (comes_after t.after (group * 64 + j) (length ss) || comes_after t.after (length ss) (group * 64 + j))
          (list_any (is_apart (group * 64 + j) (length ss)) t.splits)
          (or_right (comes_after t.after (group * 64 + j) (length ss)) (comes_after t.after (length ss) (group * 64 + j)) (after_all j lt))
