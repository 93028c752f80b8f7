-- The loops of a folded block agree on their bounds.
use Rattle.std.proofs.Common.{◌≡◌, ℕ, ◌<◌, ◌≤◌, Bool, true, false, ◌&&◌, refl, sym, ap, ◌∙◌, inl, inr, ◌⊎◌, arith, Some, true≢false, if◌then◌else◌}
use Rattle.std.specs.Prelude.{slice_get}
use Rattle.std.proofs.lemmas.Bool.{cases_lt}
use Rattle.std.proofs.lemmas.Option.{slice_get_within, same_Some}
use Rattle.operators.specs.declared.Binary.{Binary}
use Rattle.semantics.specs.declared.program.Op.{Op}
use Rattle.semantics.specs.declared.program.Op.TheVariants.{Apply2, Open, Take, Give, Drain}
use Rattle.semantics.specs.Program.{Instr, CodeBlock}
use Rattle.semantics.specs.Rule.{slot_of}
use Rattle.semantics.specs.Plan.{Plan, OneHolder, IsFirst, is_credit, is_open}
use Rattle.semantics.specs.Wired.{bound_of, part_of, LoopsAgree}
use Rattle.folding.specs.declared.folds.Fold.{Fold}
use Rattle.folding.specs.declared.folds.Fold.TheVariants.{OnRight, LeftLiteral}
use Rattle.folding.specs.Folds.{is_folded, new_op}
use Rattle.folding.specs.Places.{Layout, layout_of, new_place, new_holder, gone_at, folds_at}
use Rattle.folding.specs.Moved.{moved}
use Rattle.folding.specs.Folded.{folded_block}
use Rattle.folding.specs.Laws.{IsBelow, IsUsed}
use Rattle.folding.proofs.Standing.{keeps_instrs, keeps_order, has_no_others}
use Rattle.folding.proofs.Taken.{leaves_out}
use Rattle.folding.proofs.Held.{slot_any, folded_is, keeps_holders}

-- CREDITS. An instruction of a loop has no literal operand,
credit_op : (f : Fold) (op : Op) → is_credit op ≡ true → new_op f op ≡ op
credit_op (OnRight z) (Apply2 o) h = absurd (true≢false (sym h))
credit_op (LeftLiteral z) (Apply2 o) h = absurd (true≢false (sym h))
credit_op f op h = refl

-- neither before nor after.
credit_before : (f : Fold) (op : Op) → is_credit (new_op f op) ≡ true → is_credit op ≡ true
credit_before (OnRight z) (Apply2 o) h = absurd (true≢false (sym h))
credit_before (LeftLiteral z) (Apply2 o) h = absurd (true≢false (sym h))
credit_before f op h = h

first_opens : (op : Op) → is_credit op ≡ true → IsFirst op → is_open op ≡ true
first_opens (Open k) h f = refl
first_opens (Take k) h f = absurd f
first_opens (Give k) h f = absurd f
first_opens (Drain k) h f = absurd f
first_opens op h f = absurd (true≢false (sym h))

open_credit : (op : Op) → is_open op ≡ true → is_credit op ≡ true
open_credit (Open k) h = refl
open_credit op h = absurd (true≢false (sym h))

module _ (p : Plan) (c : CodeBlock) (one : OneHolder c) (below : IsBelow c) (used : IsUsed c) (agree : LoopsAgree c) where
  abbrev l : Layout
  l = layout_of p c

  -- an instruction of a loop with that holder
  abbrev Credit : ℕ → Instr → ℕ → Type 0
  Credit n i h = (slice_get c.instrs n ≡ Some i) × (is_credit i.op ≡ true) × (slot_of i i.op ≡ Some h)

  credit_kept : (n : ℕ) (i : Instr) → slice_get c.instrs n ≡ Some i → is_credit i.op ≡ true → is_folded (folds_at l n) ≡ false
  credit_kept n i at credit = pick (is_folded (folds_at l n)) refl
    where
      none : (y : Instr) × (o : Binary) × (slice_get c.instrs n ≡ Some y) × (y.op ≡ Apply2 o) → ⊥
      none (y, o, there, op) = let s = same_Some i y (sym at ∙ there) in true≢false (sym credit ∙ ap (λ (z : Instr). is_credit z.op) s ∙ ap is_credit op)

      pick : (t : Bool) → is_folded (folds_at l n) ≡ t → is_folded (folds_at l n) ≡ false
      pick false e = e
      pick true e = absurd (none (folded_is p c n e))

  credit_stays : (n : ℕ) (i : Instr) → slice_get c.instrs n ≡ Some i → is_credit i.op ≡ true → gone_at l n ≡ false
  credit_stays n i at credit = pick (gone_at l n) refl
    where
      pick : (t : Bool) → gone_at l n ≡ t → gone_at l n ≡ false
      pick false e = e
      pick true e = let z = (leaves_out p c n i at e).literal in absurd (true≢false (sym credit ∙ ap is_credit z.1))

  -- it keeps its holder, by its new number
  moved_slot : (n : ℕ) (i : Instr) (h : ℕ) → Credit n i h → slot_of (moved l n i) (moved l n i).op ≡ Some (new_holder l h)
  moved_slot n i h (at, credit, held) =
      let op : (moved l n i).op ≡ i.op = credit_op (folds_at l n) i.op credit in
      let s = slot_any (moved l n i) i i.op h held in
      let slot : (moved l n i).slot ≡ new_holder l i.slot = ap (λ t. if t then 0 else new_holder l i.slot) (credit_kept n i at credit) in
      ap (slot_of (moved l n i)) op ∙ s.1 ∙ ap (λ (k : ℕ). Some k) (slot ∙ ap (new_holder l) (sym s.0))

  -- the `open` of a holder
  abbrev Opening : ℕ → Type 0
  Opening h = (n : ℕ) × (i : Instr) × Credit n i h × (is_open i.op ≡ true)

  opening : (a : ℕ) (x : Instr) (h : ℕ) → Credit a x h → Opening h
  opening a x h (at, credit, held) = found (used h (below a h x at held))
    where
      found : (n : ℕ) × (i : Instr) × (slice_get c.instrs n ≡ Some i) × (slot_of i i.op ≡ Some h) × IsFirst i.op → Opening h
      found (n, i, there, holds, first) = pick (one a n h x i at there held holds)
        where
          of_credit : is_credit i.op ≡ true → Opening h
          of_credit k = (n, i, (there, k, holds), first_opens i.op k first)

          pick : (a ≡ n) ⊎ ((is_credit x.op ≡ true) × (is_credit i.op ≡ true) × (is_open x.op && is_open i.op ≡ false)) → Opening h
          pick (inl e) = let s = same_Some i x (sym there ∙ sym (ap (slice_get c.instrs) e) ∙ at) in of_credit (ap (λ (z : Instr). is_credit z.op) s ∙ credit)
          pick (inr (u, k, v)) = of_credit k

  place_apart : (m n : ℕ) (i j : Instr) → slice_get c.instrs m ≡ Some i → slice_get c.instrs n ≡ Some j → gone_at l m ≡ false → gone_at l n ≡ false
      → new_place l m ≡ new_place l n → m ≡ n
  place_apart m n i j at there stay stays e = pick (cases_lt m n) (cases_lt n m)
    where
      pick : (m < n) ⊎ (n ≤ m) → (n < m) ⊎ (m ≤ n) → m ≡ n
      pick (inl less) o = let k = keeps_order p c m n less (slice_get_within c.instrs n j there) stay in absurd (omega (arith, k, e))
      pick (inr low) (inl less) = let k = keeps_order p c n m less (slice_get_within c.instrs m i at) stays in absurd (omega (arith, k, e))
      pick (inr low) (inr high) = omega (arith, low, high)

  -- Two loops have no holder in common, since the `open` of each identifies it.
  holders_apart : (g h : ℕ) → Opening g → Opening h → new_holder l g ≡ new_holder l h → g ≡ h
  holders_apart g h (m, i, first, opens) (n, j, second, also) e =
      pick (keeps_holders p c one below (new_place l m) (new_place l n) (new_holder l h) (moved l m i) (moved l n j)
      (keeps_instrs p c m i first.0 stay) (keeps_instrs p c n j second.0 stays)
      (moved_slot m i g first ∙ ap (λ (k : ℕ). Some k) e) (moved_slot n j h second))
    where
      stay : gone_at l m ≡ false
      stay = credit_stays m i first.0 first.1

      stays : gone_at l n ≡ false
      stays = credit_stays n j second.0 second.1

      opens_still : is_open (moved l m i).op ≡ true
      opens_still = ap is_open (credit_op (folds_at l m) i.op first.1) ∙ opens

      also_still : is_open (moved l n j).op ≡ true
      also_still = ap is_open (credit_op (folds_at l n) j.op second.1) ∙ also

      pick : (new_place l m ≡ new_place l n) ⊎ ((is_credit (moved l m i).op ≡ true) × (is_credit (moved l n j).op ≡ true)
          × (is_open (moved l m i).op && is_open (moved l n j).op ≡ false)) → g ≡ h
      pick (inl place) =
          let same = place_apart m n i j first.0 second.0 stay stays place in
          let s = same_Some i j (sym first.0 ∙ ap (slice_get c.instrs) same ∙ second.0) in
          same_Some g h (sym first.2 ∙ ap (λ (z : Instr). slot_of z z.op) s ∙ second.2)
      pick (inr (u, v, w)) = absurd (true≢false (sym (λ k. opens_still k && also_still k) ∙ w))

  -- where an instruction of a loop comes from
  abbrev From : ℕ → ℕ → Instr → Type 0
  From m h j = (n : ℕ) × (i : Instr) × Credit n i i.slot × (new_place l n ≡ m) × (j.op ≡ i.op) × (h ≡ new_holder l i.slot)

  from : (m h : ℕ) (j : Instr) → slice_get (folded_block p c).instrs m ≡ Some j → slot_of j j.op ≡ Some h → is_credit j.op ≡ true → From m h j
  from m h j at held credit = found (has_no_others p c m j at)
    where
      found : (n : ℕ) × (i : Instr) × (slice_get c.instrs n ≡ Some i) × (gone_at l n ≡ false) × (new_place l n ≡ m) × (j ≡ moved l n i) → From m h j
      found (n, i, there, stay, place, same) =
          let new : j.op ≡ new_op (folds_at l n) i.op = ap (λ (x : Instr). x.op) same in
          let old = credit_before (folds_at l n) i.op (sym (ap is_credit new) ∙ credit) in
          let op : j.op ≡ i.op = new ∙ credit_op (folds_at l n) i.op old in
          let slots = slot_any i j i.op h (sym (ap (slot_of j) op) ∙ held) in
          let slot : j.slot ≡ new_holder l i.slot = ap (λ (x : Instr). x.slot) same ∙ ap (λ t. if t then 0 else new_holder l i.slot)
          (credit_kept n i there old) in
          (n, i, (there, old, slots.1), place, op, slots.0 ∙ slot)

  pub loops_stay : LoopsAgree (folded_block p c)
  loops_stay m n h i j at there held holds = pick (keeps_holders p c one below m n h i j at there held holds)
    where
      found : From m h i → From n h j → (bound_of (part_of i.op) ≡ bound_of (part_of j.op)) × (part_of i.op ≡ part_of j.op → m ≡ n)
      found (a, x, first, place, op, e) (b, y, second, place', op', e') =
          let same = holders_apart x.slot y.slot (opening a x x.slot first) (opening b y y.slot second) (sym e ∙ e') in
          let r = agree a b y.slot x y first.0 second.0 (first.2 ∙ ap (λ (k : ℕ). Some k) same) second.2 in (
            ap (λ o. bound_of (part_of o)) op ∙ r.0 ∙ sym (ap (λ o. bound_of (part_of o)) op'),
            λ k. sym place
                ∙ ap (new_place l) (r.1 (sym (ap part_of op) ∙ k ∙ ap part_of op')) ∙ place',
          )

      pick : (m ≡ n) ⊎ ((is_credit i.op ≡ true) × (is_credit j.op ≡ true) × (is_open i.op && is_open j.op ≡ false))
          → (bound_of (part_of i.op) ≡ bound_of (part_of j.op)) × (part_of i.op ≡ part_of j.op → m ≡ n)
      pick (inl e) = let s = same_Some i j (sym at ∙ ap (slice_get (folded_block p c).instrs) e ∙ there)
          in (ap (λ (x : Instr). bound_of (part_of x.op)) s, λ k. e)
      pick (inr (u, v, w)) = found (from m h i at held u) (from n h j there holds v)
