-- Each holder that is left has its instruction.
use Rattle.std.proofs.Common.{◌≡◌, ℕ, ℤ, zero, suc, ◌+◌, ◌<◌, Bool, true, false, List, ◌∷◌, length, replicate, refl, sym, ap, ◌∙◌, subst, inl, inr}
use Rattle.std.proofs.Common.{◌⊎◌, arith, Some, if◌then◌else◌, true≢false, length-set, not-suc-le-zero, []}
use Rattle.std.specs.Prelude.{slice_get, slice_set, slice_index_or}
use Rattle.std.proofs.lemmas.Bool.{cases_eq}
use Rattle.std.proofs.lemmas.Option.{get_or_from_slice_get}
use Rattle.std.proofs.lemmas.List.{get_or-set_same, get_or-set_other, length-replicate}
use Rattle.semantics.specs.declared.program.Op.TheVariants.{Lit}
use Rattle.semantics.specs.Program.{Instr, CodeBlock}
use Rattle.semantics.specs.Rule.{slot_of}
use Rattle.semantics.specs.Plan.{Plan, IsFirst}
use Rattle.folding.specs.declared.folds.Fold.{Fold}
use Rattle.folding.specs.declared.folds.Fold.TheVariants.{Unchanged, OnRight, LeftLiteral}
use Rattle.folding.specs.Folds.{folds_of, fold_at, is_folded, new_op}
use Rattle.folding.specs.Places.{Layout, freed_from, remaining_of, layout_of, new_place, new_holder, gone_at, folds_at}
use Rattle.folding.specs.Moved.{moved}
use Rattle.folding.specs.Folded.{folded_block}
use Rattle.folding.specs.Laws.{IsUsed, KeepsUsed}
use Rattle.folding.proofs.Standing.{before, number_is, keeps_instrs}
use Rattle.folding.proofs.Taken.{leaves_out}
use Rattle.folding.proofs.Held.{slot_any, freed_length}

-- what is freed stays so
freed_keeps : (fs : List Fold) (hs : List Bool) (n : ℕ) (is : List Instr) (h : ℕ) → h < length hs → slice_index_or hs h false ≡ true
    → slice_index_or (freed_from fs hs n is) h false ≡ true
freed_keeps fs hs n [] h l e = e
freed_keeps fs hs n (i ∷ is) h l e =
    let len = length-set hs i.slot true in
    next (is_folded (fold_at fs n)) refl (λ s. freed_keeps fs (slice_set hs i.slot true) (n + 1) is h (omega (arith, l, len)) s)
    (freed_keeps fs hs (n + 1) is h l e)
  where
    put : slice_index_or (slice_set hs i.slot true) h false ≡ true
    put = pick (cases_eq h i.slot)
      where
        pick : (h ≡ i.slot) ⊎ (h ≡ i.slot → ⊥) → slice_index_or (slice_set hs i.slot true) h false ≡ true
        pick (inl s) = ap (λ k. slice_index_or (slice_set hs i.slot true) k false) s ∙ get_or-set_same hs i.slot true false (omega (arith, l, s))
        pick (inr d) = get_or-set_other hs i.slot h true false d ∙ e

    next : (t : Bool) → is_folded (fold_at fs n) ≡ t → (slice_index_or (slice_set hs i.slot true) h false ≡ true
        → slice_index_or (freed_from fs (slice_set hs i.slot true) (n + 1) is) h false ≡ true)
        → slice_index_or (freed_from fs hs (n + 1) is) h false ≡ true → slice_index_or (freed_from fs hs n (i ∷ is)) h false ≡ true
    next true f then_set then_same = ap (λ t. slice_index_or (freed_from fs (if t then slice_set hs i.slot true else hs) (n + 1) is) h false) f ∙ then_set put
    next false f then_set then_same = ap (λ t. slice_index_or (freed_from fs (if t then slice_set hs i.slot true else hs) (n + 1) is) h false) f ∙ then_same

freed_there : (fs : List Fold) (hs : List Bool) (n : ℕ) (is : List Instr) (k : ℕ) (i : Instr) → slice_get is k ≡ Some i
    → is_folded (fold_at fs (n + k)) ≡ true → i.slot < length hs
    → slice_index_or (freed_from fs hs n is) i.slot false ≡ true
freed_there fs hs n [] k i at f l = absurd (cc)
freed_there fs hs n (j ∷ is) zero i at f l =
    let e : j ≡ i = cc in let z : n + 0 ≡ n = omega arith in
    let now : is_folded (fold_at fs n) ≡ true = sym (ap (λ m. is_folded (fold_at fs m)) z) ∙ f in
    let len = length-set hs i.slot true in
    ap (λ (x : Instr). slice_index_or (freed_from fs (if is_folded (fold_at fs n) then slice_set hs x.slot true else hs) (n + 1) is) i.slot false) e
    ∙ ap (λ t. slice_index_or (freed_from fs (if t then slice_set hs i.slot true else hs) (n + 1) is) i.slot false) now
    ∙ freed_keeps fs (slice_set hs i.slot true) (n + 1) is i.slot (omega (arith, l, len)) (get_or-set_same hs i.slot true false l)
freed_there fs hs n (j ∷ is) (suc k) i at f l =
    let z : n + suc k ≡ n + 1 + k = omega arith in
    freed_there fs (if is_folded (fold_at fs n) then slice_set hs j.slot true else hs) (n + 1) is k i at (sym (ap (λ m. is_folded (fold_at fs m)) z)
    ∙ f) (within (is_folded (fold_at fs n)))
  where
    within : (t : Bool) → i.slot < length (if t then slice_set hs j.slot true else hs)
    within true = let len = length-set hs j.slot true in omega (arith, l, len)
    within false = l

-- the item of a number that is left
abbrev Numbered : List Bool → ℕ → Type 0
Numbered gs m = (g : ℕ) × (g < length gs) × (slice_index_or gs g false ≡ false) × (before gs g ≡ m)

numbered : (gs : List Bool) (m : ℕ) → m < remaining_of gs → Numbered gs m
numbered [] m h = absurd (not-suc-le-zero h)
numbered (true ∷ gs) m h = later (numbered gs m h)
  where
    later : Numbered gs m → Numbered (true ∷ gs) m
    later (g, l, s, e) = (suc g, omega (arith, l), s, e)
numbered (false ∷ gs) zero h = (0, omega arith, refl, refl)
numbered (false ∷ gs) (suc m) h = later (numbered gs m (omega (arith, h)))
  where
    later : Numbered gs m → Numbered (false ∷ gs) (suc m)
    later (g, l, s, e) = (suc g, omega (arith, l), s, ap suc e)

module _ (p : Plan) (c : CodeBlock) (used : IsUsed c) where
  abbrev l : Layout
  l = layout_of p c

  size : length l.freed ≡ c.slots
  size = freed_length (folds_of p c) (replicate c.slots false) 0 c.instrs ∙ length-replicate c.slots false

  holder_is : (h : ℕ) → h < c.slots → new_holder l h ≡ before l.freed h
  holder_is h b =
      let z : 0 + before l.freed h ≡ before l.freed h = omega arith in let s = size in
      get_or_from_slice_get l.holders h (0 + before l.freed h) h (number_is 0 l.freed h (omega (arith, b, s))) ∙ z

  abbrev Use : ℕ → Type 0
  Use m = (n : ℕ) × (i : Instr) × (slice_get (folded_block p c).instrs n ≡ Some i) × (slot_of i i.op ≡ Some m) × IsFirst i.op

  still_used : IsUsed (folded_block p c)
  still_used m h = by_holder (numbered l.freed m h)
    where
      by_holder : Numbered l.freed m → Use m
      by_holder (g, b, free, e) = by_instr (used g (let s = size in omega (arith, b, s)))
        where
          by_instr : (n : ℕ) × (i : Instr) × (slice_get c.instrs n ≡ Some i) × (slot_of i i.op ≡ Some g) × IsFirst i.op → Use m
          by_instr (n, i, at, held, first) = by_fold (is_folded (folds_at l n)) refl (gone_at l n) refl
            where
              slot : (g ≡ i.slot) × (slot_of (moved l n i) i.op ≡ Some (moved l n i).slot)
              slot = slot_any (moved l n i) i i.op g held

              kept : (f : Fold) → is_folded f ≡ false → f ≡ Unchanged
              kept Unchanged e = refl
              kept (OnRight z) e = absurd (true≢false e)
              kept (LeftLiteral z) e = absurd (true≢false e)

              here : is_folded (folds_at l n) ≡ false → gone_at l n ≡ false → Use m
              here f stay =
                  let op : (moved l n i).op ≡ i.op = ap (λ f. new_op f i.op) (kept (folds_at l n) f) in
                  let number : (moved l n i).slot ≡ m = ap (λ t. if t then 0 else new_holder l i.slot) f ∙ ap (new_holder l) (sym slot.0)
                  ∙ holder_is g (let s = size in omega (arith, b, s)) ∙ e in (
                    new_place l n,
                    moved l n i,
                    keeps_instrs p c n i at stay,
                    ap (slot_of (moved l n i)) op ∙ slot.1
                        ∙ ap (λ (h : ℕ). Some h) number,
                    subst IsFirst (sym op) first,
                  )

              not_lit : (z : ℤ) → i.op ≡ Lit z → ⊥
              not_lit z op = let w : slot_of i (Lit z) ≡ Some g = sym (ap (slot_of i) op) ∙ held in absurd (cc)

              by_fold : (t : Bool) → is_folded (folds_at l n) ≡ t → (u : Bool) → gone_at l n ≡ u → Use m
              by_fold false f false stay = here f stay
              by_fold t f true gone = let z = (leaves_out p c n i at gone).literal in absurd (not_lit z.0 z.1)
              by_fold true f false stay =
                  let z : 0 + n ≡ n = omega arith in
                  let len = length-replicate c.slots false in
                  let s = size in
                  let q = slot.0 in
                  let there = freed_there (folds_of p c) (replicate c.slots false) 0 c.instrs n i at (ap (λ m. is_folded (fold_at (folds_of p c) m)) z
                  ∙ f) (omega (arith, b, s, len, q)) in
                  absurd (true≢false (sym there ∙ sym (ap (λ h. slice_index_or l.freed h false) q) ∙ free))

pub keeps_used : KeepsUsed
keeps_used p c used = still_used p c used
