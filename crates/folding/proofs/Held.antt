-- The holders of a folded block.
use Rattle.std.proofs.Common.{◌≡◌, ℕ, suc, ◌+◌, ◌<◌, ◌≤◌, Bool, true, false, ◌&&◌, List, ◌∷◌, length, replicate, refl, sym, ap, ◌∙◌, inl, inr, ◌⊎◌}
use Rattle.std.proofs.Common.{arith, Some, if◌then◌else◌, true≢false, length-set, []}
use Rattle.std.specs.Prelude.{slice_get, slice_set, slice_index_or}
use Rattle.std.proofs.lemmas.Bool.{cases_eq, cases_lt}
use Rattle.std.proofs.lemmas.Option.{get_or_from_slice_get}
use Rattle.std.proofs.lemmas.List.{get_or-set_other, length-replicate}
use Rattle.lemmas.proofs.Lists.{each_of_falses}
use Rattle.operators.specs.declared.Binary.{Binary}
use Rattle.semantics.specs.declared.program.Op.{Op}
use Rattle.semantics.specs.declared.program.Op.TheVariants.{Apply2, Apply2Right, Apply2Left, Sync, Switch, Store, Send, Return, Ask, Open, Take}
use Rattle.semantics.specs.declared.program.Op.TheVariants.{Give, Drain, Release}
use Rattle.semantics.specs.Program.{Instr, CodeBlock}
use Rattle.semantics.specs.Rule.{slot_of}
use Rattle.semantics.specs.Plan.{Plan, OneHolder, is_credit, is_open}
use Rattle.folding.specs.declared.folds.Fold.{Fold}
use Rattle.folding.specs.declared.folds.Fold.TheVariants.{Unchanged, OnRight, LeftLiteral}
use Rattle.folding.specs.Folds.{folds_of, fold_at, is_folded, new_op}
use Rattle.folding.specs.Places.{freed_from, remaining_of, layout_of, new_place, new_holder, gone_at, folds_at}
use Rattle.folding.specs.Moved.{moved}
use Rattle.folding.specs.Folded.{folded_block}
use Rattle.folding.specs.Laws.{IsBelow, KeepsHolders, KeepsBelow}
use Rattle.folding.proofs.Standing.{before, number_is, before_grows, has_no_others}
use Rattle.folding.proofs.Taken.{folds_on_right, folds_on_left}

-- WHICH HOLDERS ARE FREED
abbrev Freed : List Fold → List Bool → ℕ → List Instr → ℕ → Type 0
Freed fs hs n is h = (slice_index_or hs h false ≡ true) ⊎ ((k : ℕ) × (i : Instr) × (slice_get is k ≡ Some i) × (is_folded (fold_at fs (n + k)) ≡ true)
    × (i.slot ≡ h))

freed_back : (fs : List Fold) (hs : List Bool) (n : ℕ) (is : List Instr) (h : ℕ) → slice_index_or (freed_from fs hs n is) h false ≡ true → Freed fs hs n is h
freed_back fs hs n [] h e = inl e
freed_back fs hs n (i ∷ is) h e = earlier (is_folded (fold_at fs n)) refl
    (freed_back fs (if is_folded (fold_at fs n) then slice_set hs i.slot true else hs) (n + 1) is h e)
  where
    here : is_folded (fold_at fs n) ≡ true → i.slot ≡ h → Freed fs hs n (i ∷ is) h
    here f s = let z : n ≡ n + 0 = omega arith in inr (0, i, refl, sym (ap (λ m. is_folded (fold_at fs m)) z) ∙ f, s)

    by_slot : is_folded (fold_at fs n) ≡ true → slice_index_or (slice_set hs i.slot true) h false ≡ true → (h ≡ i.slot) ⊎ (h ≡ i.slot → ⊥)
        → Freed fs hs n (i ∷ is) h
    by_slot f s (inl e) = here f (sym e)
    by_slot f s (inr d) = inl (sym (get_or-set_other hs i.slot h true false d) ∙ s)

    earlier : (t : Bool) → is_folded (fold_at fs n) ≡ t → Freed fs (if is_folded (fold_at fs n) then slice_set hs i.slot true else hs) (n + 1) is h
        → Freed fs hs n (i ∷ is) h
    earlier t f (inr (k, j, at, folded, s)) = let z : n + 1 + k ≡ n + suc k = omega arith
        in inr (suc k, j, at, sym (ap (λ m. is_folded (fold_at fs m)) z) ∙ folded, s)
    earlier true f (inl s) = by_slot f (sym (ap (λ t. slice_index_or (if t then slice_set hs i.slot true else hs) h false) f) ∙ s) (cases_eq h i.slot)
    earlier false f (inl s) = inl (sym (ap (λ t. slice_index_or (if t then slice_set hs i.slot true else hs) h false) f) ∙ s)

pub freed_length : (fs : List Fold) (hs : List Bool) (n : ℕ) (is : List Instr) → length (freed_from fs hs n is) ≡ length hs
freed_length fs hs n [] = refl
freed_length fs hs n (i ∷ is) = freed_length fs (if is_folded (fold_at fs n) then slice_set hs i.slot true else hs) (n + 1) is ∙ same (is_folded (fold_at fs n))
  where
    same : (t : Bool) → length (if t then slice_set hs i.slot true else hs) ≡ length hs
    same true = length-set hs i.slot true
    same false = refl

-- A slot is the one that the instruction has.
pub slot_any : (i j : Instr) (op : Op) (h : ℕ) → slot_of j op ≡ Some h → (h ≡ j.slot) × (slot_of i op ≡ Some i.slot)
slot_any i j (Apply2 op) h e = let s : h ≡ j.slot = cc in (s, refl)
slot_any i j Sync h e = let s : h ≡ j.slot = cc in (s, refl)
slot_any i j Switch h e = let s : h ≡ j.slot = cc in (s, refl)
slot_any i j (Store a) h e = let s : h ≡ j.slot = cc in (s, refl)
slot_any i j (Send b k) h e = let s : h ≡ j.slot = cc in (s, refl)
slot_any i j (Return o) h e = let s : h ≡ j.slot = cc in (s, refl)
slot_any i j (Ask o) h e = let s : h ≡ j.slot = cc in (s, refl)
slot_any i j (Release o) h e = let s : h ≡ j.slot = cc in (s, refl)
slot_any i j (Open k) h e = let s : h ≡ j.slot = cc in (s, refl)
slot_any i j (Take k) h e = let s : h ≡ j.slot = cc in (s, refl)
slot_any i j (Give k) h e = let s : h ≡ j.slot = cc in (s, refl)
slot_any i j (Drain k) h e = let s : h ≡ j.slot = cc in (s, refl)
slot_any i j op h e = absurd (cc)

left_is : (gs : List Bool) → remaining_of gs ≡ before gs (length gs)
left_is [] = refl
left_is (true ∷ gs) = left_is gs
left_is (false ∷ gs) = let e = left_is gs in omega (arith, e)

before_within : (gs : List Bool) (h : ℕ) → h < length gs → slice_index_or gs h false ≡ false → before gs h < remaining_of gs
before_within gs h l stay = let e = left_is gs in let k = before_grows gs h (length gs) l l stay in omega (arith, e, k)

pub before_apart : (gs : List Bool) (g h : ℕ) → g < length gs → h < length gs → slice_index_or gs g false ≡ false → slice_index_or gs h false ≡ false
    → before gs g ≡ before gs h → g ≡ h
before_apart gs g h a b s t e = pick (cases_lt g h) (cases_lt h g)
  where
    pick : (g < h) ⊎ (h ≤ g) → (h < g) ⊎ (g ≤ h) → g ≡ h
    pick (inl l) o = let k = before_grows gs g h l a s in absurd (omega (arith, k, e))
    pick (inr l) (inl o) = let k = before_grows gs h g o b t in absurd (omega (arith, k, e))
    pick (inr l) (inr o) = omega (arith, l, o)

pub folded_is : (p : Plan) (c : CodeBlock) (n : ℕ) → is_folded (folds_at (layout_of p c) n) ≡ true → (i : Instr) × (o : Binary)
    × (slice_get c.instrs n ≡ Some i) × (i.op ≡ Apply2 o)
folded_is p c n e = by_fold (folds_at (layout_of p c) n) refl e
  where
    by_fold : (f : Fold) → folds_at (layout_of p c) n ≡ f → is_folded f ≡ true → (i : Instr) × (o : Binary) × (slice_get c.instrs n ≡ Some i)
        × (i.op ≡ Apply2 o)
    by_fold Unchanged f e = absurd (true≢false (sym e))
    by_fold (OnRight z) f e = (folds_on_right p c n z f).operator
    by_fold (LeftLiteral z) f e = (folds_on_left p c n z f).operator

module _ (p : Plan) (c : CodeBlock) (one : OneHolder c) (below : IsBelow c) where
  abbrev freed : List Bool
  freed = (layout_of p c).freed

  size : length freed ≡ c.slots
  size = freed_length (folds_of p c) (replicate c.slots false) 0 c.instrs ∙ length-replicate c.slots false

  -- an instruction of a holder that is not folded
  abbrev Holding : ℕ → Instr → Type 0
  Holding n i = (slice_get c.instrs n ≡ Some i) × (slot_of i i.op ≡ Some i.slot) × (folds_at (layout_of p c) n ≡ Unchanged)

  not_freed : (n : ℕ) (i : Instr) → Holding n i → slice_index_or freed i.slot false ≡ false
  not_freed n i (at, held, kept) = pick (slice_index_or freed i.slot false) refl
    where
      by_one : (k : ℕ) (j : Instr) (o : Binary) → j.op ≡ Apply2 o → is_folded (folds_at (layout_of p c) k) ≡ true
          → (k ≡ n) ⊎ ((is_credit j.op ≡ true) × (is_credit i.op ≡ true) × (is_open j.op && is_open i.op ≡ false)) → ⊥
      by_one k j o op folded (inl e) = absurd (true≢false (sym folded ∙ ap (λ m. is_folded (folds_at (layout_of p c) m)) e ∙ ap is_folded kept))
      by_one k j o op folded (inr (a, b, d)) = absurd (true≢false (sym a ∙ ap is_credit op))

      by_op : (k : ℕ) (j : Instr) → slice_get c.instrs k ≡ Some j → is_folded (folds_at (layout_of p c) k) ≡ true → j.slot ≡ i.slot → (x : Instr)
          × (o : Binary) × (slice_get c.instrs k ≡ Some x) × (x.op ≡ Apply2 o) → ⊥
      by_op k j there folded s (x, o, also, op) =
          let same : x ≡ j = cc in
          let is : j.op ≡ Apply2 o = sym (ap (λ (y : Instr). y.op) same) ∙ op in
          let holds : slot_of j j.op ≡ Some i.slot = ap (slot_of j) is ∙ ap (λ (h : ℕ). Some h) s in
          by_one k j o is folded (one k n i.slot j i there at holds held)

      found : Freed (folds_of p c) (replicate c.slots false) 0 c.instrs i.slot → ⊥
      found (inl e) = absurd (true≢false (sym e ∙ each_of_falses c.slots i.slot))
      found (inr (k, j, there, folded, s)) =
          let z : 0 + k ≡ k = omega arith in
          let f : is_folded (folds_at (layout_of p c) k) ≡ true = sym (ap (λ m. is_folded (fold_at (folds_of p c) m)) z) ∙ folded in
          by_op k j there f s (folded_is p c k f)

      pick : (t : Bool) → slice_index_or freed i.slot false ≡ t → slice_index_or freed i.slot false ≡ false
      pick false e = e
      pick true e = absurd (found (freed_back (folds_of p c) (replicate c.slots false) 0 c.instrs i.slot e))

  holder_is : (h : ℕ) → h < c.slots → new_holder (layout_of p c) h ≡ before freed h
  holder_is h l =
      let z : 0 + before freed h ≡ before freed h = omega arith in let s = size in
      get_or_from_slice_get (layout_of p c).holders h (0 + before freed h) h (number_is 0 freed h (omega (arith, l, s))) ∙ z

  -- where an instruction with a holder comes from
  abbrev From : ℕ → ℕ → Instr → Type 0
  From m h j = (n : ℕ) × (i : Instr) × Holding n i × (new_place (layout_of p c) n ≡ m) × (j.op ≡ i.op) × (h ≡ before freed i.slot)

  from : (m h : ℕ) (j : Instr) → slice_get (folded_block p c).instrs m ≡ Some j → slot_of j j.op ≡ Some h → From m h j
  from m h j at held = found (has_no_others p c m j at)
    where
      kept : (n : ℕ) (i : Instr) → slice_get c.instrs n ≡ Some i → new_place (layout_of p c) n ≡ m → j ≡ moved (layout_of p c) n i
          → folds_at (layout_of p c) n ≡ Unchanged → From m h j
      kept n i there place same f =
          let op : j.op ≡ i.op = ap (λ (x : Instr). x.op) same ∙ ap (λ f. new_op f i.op) f in
          let slots = slot_any i j i.op h (sym (ap (slot_of j) op) ∙ held) in
          let slot : j.slot ≡ new_holder (layout_of p c) i.slot = ap (λ (x : Instr). x.slot) same
          ∙ ap (λ f. if is_folded f then 0 else new_holder (layout_of p c) i.slot) f in
          (n, i, (there, slots.1, f), place, op, slots.0 ∙ slot ∙ holder_is i.slot (below n i.slot i there slots.1))

      none : (n : ℕ) (i : Instr) (f : Fold) → j ≡ moved (layout_of p c) n i → slice_get c.instrs n ≡ Some i → folds_at (layout_of p c) n ≡ f
          → (x : Instr) × (o : Binary) × (slice_get c.instrs n ≡ Some x) × (x.op ≡ Apply2 o) → is_folded f ≡ true → ⊥
      none n i f same there e (x, o, also, op) folded = gone f e folded
        where
          is : i.op ≡ Apply2 o
          is = let s : x ≡ i = cc in sym (ap (λ (y : Instr). y.op) s) ∙ op

          gone : (f : Fold) → folds_at (layout_of p c) n ≡ f → is_folded f ≡ true → ⊥
          gone Unchanged e folded = absurd (true≢false (sym folded))
          gone (OnRight z) e folded = let new : j.op ≡ Apply2Right o z = ap (λ (x : Instr). x.op) same ∙ (λ k. new_op (e k) (is k))
              in let w : slot_of j (Apply2Right o z) ≡ Some h = sym (ap (slot_of j) new) ∙ held in absurd (cc)
          gone (LeftLiteral z) e folded = let new : j.op ≡ Apply2Left o z = ap (λ (x : Instr). x.op) same ∙ (λ k. new_op (e k) (is k))
              in let w : slot_of j (Apply2Left o z) ≡ Some h = sym (ap (slot_of j) new) ∙ held in absurd (cc)

      by_fold : (n : ℕ) (i : Instr) → slice_get c.instrs n ≡ Some i → new_place (layout_of p c) n ≡ m → j ≡ moved (layout_of p c) n i → (f : Fold)
          → folds_at (layout_of p c) n ≡ f → From m h j
      by_fold n i there place same Unchanged e = kept n i there place same e
      by_fold n i there place same (OnRight z) e = absurd (none n i (OnRight z) same there e (folds_on_right p c n z e).operator refl)
      by_fold n i there place same (LeftLiteral z) e = absurd (none n i (LeftLiteral z) same there e (folds_on_left p c n z e).operator refl)

      found : (n : ℕ) × (i : Instr) × (slice_get c.instrs n ≡ Some i) × (gone_at (layout_of p c) n ≡ false) × (new_place (layout_of p c) n ≡ m)
          × (j ≡ moved (layout_of p c) n i) → From m h j
      found (n, i, there, stay, place, same) = by_fold n i there place same (folds_at (layout_of p c) n) refl

  slot_within : (n : ℕ) (i : Instr) → Holding n i → i.slot < length freed
  slot_within n i (at, held, kept) = let s = size in let b = below n i.slot i at held in omega (arith, s, b)

  still_below : IsBelow (folded_block p c)
  still_below m h j at held = found (from m h j at held)
    where
      found : From m h j → h < remaining_of freed
      found (n, i, holding, place, op, e) = let k = before_within freed i.slot (slot_within n i holding) (not_freed n i holding) in omega (arith, k, e)

  still_one : OneHolder (folded_block p c)
  still_one m n h i j at there held holds = found (from m h i at held) (from n h j there holds)
    where
      found : From m h i → From n h j → (m ≡ n) ⊎ ((is_credit i.op ≡ true) × (is_credit j.op ≡ true) × (is_open i.op && is_open j.op ≡ false))
      found (a, x, first, place, op, e) (b, y, second, place', op', e') =
          let same = before_apart freed x.slot y.slot (slot_within a x first) (slot_within b y second) (not_freed a x first) (not_freed b y second)
          (sym e ∙ e') in
          pick (one a b y.slot x y first.0 second.0 (first.1 ∙ ap (λ (s : ℕ). Some s) same) second.1)
        where
          pick : (a ≡ b) ⊎ ((is_credit x.op ≡ true) × (is_credit y.op ≡ true) × (is_open x.op && is_open y.op ≡ false))
              → (m ≡ n) ⊎ ((is_credit i.op ≡ true) × (is_credit j.op ≡ true) × (is_open i.op && is_open j.op ≡ false))
          pick (inl s) = inl (sym place ∙ ap (new_place (layout_of p c)) s ∙ place')
          pick (inr (u, v, w)) = inr (ap is_credit op ∙ u, ap is_credit op' ∙ v, (λ k. is_open (op k) && is_open (op' k)) ∙ w)

pub keeps_holders : KeepsHolders
keeps_holders p c one below = still_one p c one below

pub keeps_below : KeepsBelow
keeps_below p c one below = still_below p c one below
