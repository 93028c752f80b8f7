-- Slots by the table: what is blocked, and what one more least slot keeps.
use Rattle.std.proofs.Common.{◌≡◌, refl, sym, ap, ◌∙◌, subst, ℕ, zero, suc, ◌+◌, ◌<◌, Bool, true, false, List, [], ◌∷◌, ◌++◌, length, replicate}
use Rattle.std.proofs.Common.{get_or, set, cond, inl, inr, ⊎_elim, arith, ◌⊎◌}
use Rattle.std.specs.Prelude.{All}
use Rattle.std.proofs.lemmas.Bool.{both_ways, cases_eq}
use Rattle.std.proofs.lemmas.List.{get_or_default, length-replicate, get_or-replicate, length_push, get_or_push, get_or_append_left, length-set}
use Rattle.std.proofs.lemmas.List.{get_or-set_same, get_or-set_other}
use Rattle.std.proofs.lemmas.List.Elements.{All-head, All-tail, All-weaker}
use Rattle.slot_alloc.specs.Tables.{Table, may_share, Admits, blocked_by, IsClosedAt, IsLeastOpen, IsFilled}
use Rattle.slot_alloc.proofs.Passed.{bit}

module _ (t : Table) (n : ℕ) where
  abbrev after_one : List Bool → ℕ → ℕ → List Bool
  after_one bl h x = cond (may_share t h n) bl (set bl x true)

  one_false : (bl : List Bool) (h x s : ℕ) → x < length bl → bit (after_one bl h x) s ≡ false → (bit bl s ≡ false) × (x ≡ s → may_share t h n ≡ true)
  one_false bl h x s below = by_test (may_share t h n)
    where
      by_test : (b : Bool) → bit (cond b bl (set bl x true)) s ≡ false → (bit bl s ≡ false) × (x ≡ s → b ≡ true)
      by_test true e = (e, λ f. refl)
      by_test false e = ⊎_elim
          (λ (same : s ≡ x). absurd (both_ways (bit (set bl x true) s) e (subst (λ k. bit (set bl x true) k ≡ true) (sym same)
          (get_or-set_same bl x true false below))))
          (λ (ne : s ≡ x → ⊥). (sym (get_or-set_other bl x s true false ne) ∙ e, λ f. absurd (ne (sym f))))
          (cases_eq s x)

  one_true : (bl : List Bool) (h x s : ℕ) → bit (after_one bl h x) s ≡ true → (bit bl s ≡ true) ⊎ ((x ≡ s) × (may_share t h n ≡ false))
  one_true bl h x s = by_test (may_share t h n)
    where
      by_test : (b : Bool) → bit (cond b bl (set bl x true)) s ≡ true → (bit bl s ≡ true) ⊎ ((x ≡ s) × (b ≡ false))
      by_test true e = inl e
      by_test false e = ⊎_elim
          (λ (same : s ≡ x). inr (sym same, refl))
          (λ (ne : s ≡ x → ⊥). inl (sym (get_or-set_other bl x s true false ne) ∙ e))
          (cases_eq s x)

  one_long : (bl : List Bool) (h x : ℕ) → length (after_one bl h x) ≡ length bl
  one_long bl h x = by_test (may_share t h n)
    where
      by_test : (b : Bool) → length (cond b bl (set bl x true)) ≡ length bl
      by_test true = refl
      by_test false = length-set bl x true

  open_at : (bl : List Bool) (h : ℕ) (ss : List ℕ) (s : ℕ) → All (λ x. x < length bl) ss → bit (blocked_by t n bl h ss) s ≡ false
      → (bit bl s ≡ false) × ((k : ℕ) → k < length ss → get_or ss k 0 ≡ s → may_share t (h + k) n ≡ true)
  open_at bl h [] s all e = (e, λ k below. let none : k < 0 → ⊥ = λ lt. omega (arith, lt) in absurd (none below))
  open_at bl h (x ∷ ss) s all e =
      let len = one_long bl h x in
      let first : x < length bl = All-head (λ y. y < length bl) x ss all in
      let rest : All (λ y. y < length (after_one bl h x)) ss = All-weaker (λ y. y < length bl) (λ y. y < length (after_one bl h x))
      (λ y lt. omega (arith, lt, len)) ss (All-tail (λ y. y < length bl) x ss all) in
      let more = open_at (after_one bl h x) (h + 1) ss s rest e in
      let one = one_false bl h x s first more.0 in
      (one.0, λ k. at_each one.1 more.1 k)
    where
      at_each : (x ≡ s → may_share t h n ≡ true) → ((k : ℕ) → k < length ss → get_or ss k 0 ≡ s → may_share t ((h + 1) + k) n ≡ true)
          → (k : ℕ) → k < length (x ∷ ss) → get_or (x ∷ ss) k 0 ≡ s → may_share t (h + k) n ≡ true
      at_each here later zero below f = let m : h ≡ h + zero = omega arith in subst (λ y. may_share t y n ≡ true) m (here f)
      at_each here later (suc k) below f = let m : (h + 1) + k ≡ h + suc k = omega arith in subst (λ y. may_share t y n ≡ true) m
          (later k (omega (arith, below)) f)

  closed_at : (bl : List Bool) (h : ℕ) (ss : List ℕ) (s : ℕ) → bit (blocked_by t n bl h ss) s ≡ true
      → (bit bl s ≡ true) ⊎ ((k : ℕ) × (k < length ss) × (get_or ss k 0 ≡ s) × (may_share t (h + k) n ≡ false))
  closed_at bl h [] s e = inl e
  closed_at bl h (x ∷ ss) s e = ⊎_elim
      (λ a. ⊎_elim
      (λ old. inl old)
      (λ new. let m : h ≡ h + zero = omega arith in inr (zero, omega arith, new.0, subst (λ y. may_share t y n ≡ false) m new.1))
      (one_true bl h x s a))
      (λ w. let m : (h + 1) + w.0 ≡ h + suc w.0 = omega arith in let lt = w.1
      in inr (suc w.0, omega (arith, lt), w.2, subst (λ y. may_share t y n ≡ false) m w.3))
      (closed_at (after_one bl h x) (h + 1) ss s e)

-- the slots that are blocked at the next holder
abbrev pub blocked_next : Table → List ℕ → List Bool
blocked_next t ss = blocked_by t (length ss) (replicate 512 false) 0 ss

pub closed_by : (t : Table) (ss : List ℕ) (s : ℕ) → s < 512 → bit (blocked_next t ss) s ≡ true → IsClosedAt t ss (length ss) s
closed_by t ss s below e = ⊎_elim
    (λ a. absurd (both_ways (bit (replicate 512 false) s) (get_or-replicate 512 s false false below) a))
    (λ w. let m : 0 + w.0 ≡ w.0 = omega arith in (w.0, w.1, w.1, w.2, subst (λ y. may_share t y (length ss) ≡ false) m w.3))
    (closed_at t (length ss) (replicate 512 false) 0 ss s e)

pub open_by : (t : Table) (ss : List ℕ) (s : ℕ) → All (λ x. x < 512) ss → bit (blocked_next t ss) s ≡ false → Admits t ss (length ss) s
open_by t ss s all e = λ h below f.
    let len = length-replicate 512 false in
    let fits : All (λ x. x < length (replicate 512 false)) ss = All-weaker (λ y. y < 512) (λ y. y < length (replicate 512 false))
    (λ y lt. omega (arith, lt, len)) ss all in
    let w = open_at t (length ss) (replicate 512 false) 0 ss s fits e in
    let m : 0 + h ≡ h = omega arith in
    subst (λ y. may_share t y (length ss) ≡ true) m (w.1 h below f)

-- the loop over slots
pub least_by : (t : Table) (ss : List ℕ) (blocked : List Bool) (s : ℕ) → All (λ x. x < 512) ss → s < 512 → blocked ≡ blocked_next t ss
    → ((r : ℕ) → r < s → get_or blocked r false ≡ true)
    → get_or blocked s false ≡ false → IsLeastOpen t ss s
least_by t ss blocked s all below e before here = (
  below,
  open_by t ss s all (ap (λ bl. bit bl s) (sym e) ∙ here),
  λ r lt. closed_by t ss r (omega (arith, lt, below)) (ap (λ bl. bit bl r) (sym e) ∙ before r lt),
)

pub all_closed : (t : Table) (ss : List ℕ) (blocked : List Bool) → blocked ≡ blocked_next t ss → ((r : ℕ) → r < 512 → get_or blocked r false ≡ true)
    → (s : ℕ) → s < 512 → IsClosedAt t ss (length ss) s
all_closed t ss blocked e all s below = closed_by t ss s below (ap (λ bl. bit bl s) (sym e) ∙ all s below)

-- ONE MORE HOLDER
kept_at : (ss : List ℕ) (s g : ℕ) → g < length ss → get_or (ss ++ s ∷ []) g 0 ≡ get_or ss g 0
kept_at ss s g below = get_or_append_left ss (s ∷ []) 0 g below

closed_more : (t : Table) (ss : List ℕ) (s h r : ℕ) → IsClosedAt t ss h r → IsClosedAt t (ss ++ s ∷ []) h r
closed_more t ss s h r w = let len = length_push ss s in let lt = w.2 in (w.0, w.1, omega (arith, len, lt), kept_at ss s w.0 w.2 ∙ w.3, w.4)

pub none_filled : (t : Table) → IsFilled t []
none_filled t = record {
  admitted = λ g below. (let none : g < 0 → ⊥ = λ lt. omega (arith, lt) in absurd (none below));
  least = λ h below. (let none : h < 0 → ⊥ = λ lt. omega (arith, lt) in absurd (none below));
}

pub filled_more : (t : Table) (ss : List ℕ) (s : ℕ) → IsFilled t ss → IsLeastOpen t ss s → IsFilled t (ss ++ s ∷ [])
filled_more t ss s old new = record {
  admitted = λ g below. ⊎_elim
      (λ (e : g ≡ length ss).
      let is : get_or (ss ++ s ∷ []) g 0 ≡ s = get_or_push ss s 0 g (sym e) in (
        subst (λ x. x < 512) (sym is) new.0,
        λ h lt f. let inside : h < length ss = omega (arith, lt, e) in subst (λ k. may_share t h k ≡ true) (sym e)
            (new.1 h inside (sym (kept_at ss s h inside) ∙ f ∙ is)),
      ))
      (λ (ne : g ≡ length ss → ⊥).
      let len = length_push ss s in
      let lt : g < length ss = omega (arith, below, len, ne) in
      let is = kept_at ss s g lt in
      let w = old.admitted g lt in (
        subst (λ x. x < 512) (sym is) w.0,
        λ h hg f. w.1 h hg (sym (kept_at ss s h (omega (arith, hg, lt))) ∙ f ∙ is),
      ))
      (cases_eq g (length ss));
  least = λ h below r under. ⊎_elim
      (λ (e : h ≡ length ss).
      let is : get_or (ss ++ s ∷ []) h 0 ≡ s = get_or_push ss s 0 h (sym e) in
      let lt : r < s = subst (λ x. r < x) is under in
      closed_more t ss s h r (subst (λ k. IsClosedAt t ss k r) (sym e) (new.2 r lt)))
      (λ (ne : h ≡ length ss → ⊥).
      let len = length_push ss s in
      let lt : h < length ss = omega (arith, below, len, ne) in
      let under' : r < get_or ss h 0 = subst (λ x. r < x) (kept_at ss s h lt) under in
      closed_more t ss s h r (old.least h lt r under'))
      (cases_eq h (length ss));
}

-- each slot so far is one of a frame's
pub all_below : (t : Table) (ss : List ℕ) → IsFilled t ss → All (λ s. s < 512) ss
all_below t ss h = λ k d lt. subst (λ x. x < 512) (get_or_default ss k 0 d lt) (h.admitted k lt).0
