-- The holders that instructions of a folded block still have are numbered apart.
use Rattle.std.proofs.Common.{◌≡◌, refl, sym, ap, ◌∙◌, ℕ, suc, ◌+◌, ◌<◌, ◌⊎◌, inl, inr, Bool, true, false, true≢false, ◌&&◌, List, [], ◌∷◌, length, replicate}
use Rattle.std.proofs.Common.{Some, if◌then◌else◌, arith}
use Rattle.std.specs.Prelude.{slice_get, slice_set, slice_index_or}
use Rattle.std.proofs.lemmas.Bool.{cases_eq}
use Rattle.std.proofs.lemmas.Option.{get_or_from_slice_get}
use Rattle.std.proofs.lemmas.List.{get_or-set_other, length-replicate}
use Rattle.lemmas.proofs.Lists.{each_of_falses}
use Rattle.operators.specs.declared.Binary.{Binary}
use Rattle.semantics.specs.declared.program.Op.TheVariants.{Apply2}
use Rattle.semantics.specs.Program.{Instr, CodeBlock}
use Rattle.semantics.specs.Rule.{slot_of}
use Rattle.semantics.specs.Plan.{Plan, OneHolder, is_credit, is_open}
use Rattle.folding.specs.Folds.{folds_of, fold_at, is_folded}
use Rattle.folding.specs.Places.{freed_from, layout_of, new_holder, folds_at}
use Rattle.folding.specs.Laws.{IsBelow}
use Rattle.folding.proofs.Standing.{before, number_is}
use Rattle.folding.proofs.Held.{freed_length, folded_is, before_apart}

module _ (p : Plan) (c : CodeBlock) where
  -- the holder was freed before, or that of a folded instruction
  abbrev Freed : List Bool → ℕ → List Instr → ℕ → Type 0
  Freed hs n is h =
      (slice_index_or hs h false ≡ true) ⊎ ((k : ℕ) × (i : Instr) × (slice_get is k ≡ Some i) × (is_folded (fold_at (folds_of p c) (n + k)) ≡ true)
      × (i.slot ≡ h))

  freed_back : (hs : List Bool) (n : ℕ) (is : List Instr) (h : ℕ) → slice_index_or (freed_from (folds_of p c) hs n is) h false ≡ true → Freed hs n is h
  freed_back hs n [] h e = inl e
  freed_back hs n (i ∷ is) h e =
      earlier (is_folded (fold_at (folds_of p c) n)) refl
      (freed_back (if is_folded (fold_at (folds_of p c) n) then slice_set hs i.slot true else hs) (n + 1) is h e)
    where
      here : is_folded (fold_at (folds_of p c) n) ≡ true → i.slot ≡ h → Freed hs n (i ∷ is) h
      here f s = let z : n ≡ n + 0 = omega arith in inr (0, i, refl, sym (ap (λ m. is_folded (fold_at (folds_of p c) m)) z) ∙ f, s)

      by_slot : is_folded (fold_at (folds_of p c) n) ≡ true → slice_index_or (slice_set hs i.slot true) h false ≡ true → (h ≡ i.slot) ⊎ (h ≡ i.slot → ⊥)
          → Freed hs n (i ∷ is) h
      by_slot f s (inl e) = here f (sym e)
      by_slot f s (inr d) = inl (sym (get_or-set_other hs i.slot h true false d) ∙ s)

      earlier : (t : Bool) → is_folded (fold_at (folds_of p c) n) ≡ t
          → Freed (if is_folded (fold_at (folds_of p c) n) then slice_set hs i.slot true else hs) (n + 1) is h → Freed hs n (i ∷ is) h
      earlier t f (inr (k, j, at, folded, s)) =
          let z : n + 1 + k ≡ n + suc k = omega arith in inr (suc k, j, at, sym (ap (λ m. is_folded (fold_at (folds_of p c) m)) z) ∙ folded, s)
      earlier true f (inl s) = by_slot f (sym (ap (λ t. slice_index_or (if t then slice_set hs i.slot true else hs) h false) f) ∙ s) (cases_eq h i.slot)
      earlier false f (inl s) = inl (sym (ap (λ t. slice_index_or (if t then slice_set hs i.slot true else hs) h false) f) ∙ s)

  -- an instruction of the holder that is not folded
  pub record Keeps (r : ℕ) : Type 0 where
    pub n : ℕ
    pub i : Instr
    pub there : slice_get c.instrs n ≡ Some i
    pub holds : slot_of i i.op ≡ Some r
    pub kept : is_folded (folds_at (layout_of p c) n) ≡ false

  module _ (one : OneHolder c) (below : IsBelow c) where
    abbrev freed : List Bool
    freed = (layout_of p c).freed

    size : length freed ≡ c.slots
    size = freed_length (folds_of p c) (replicate c.slots false) 0 c.instrs ∙ length-replicate c.slots false

    not_freed : (r : ℕ) → Keeps r → slice_index_or freed r false ≡ false
    not_freed r K = pick (slice_index_or freed r false) refl
      where
        by_one : (k : ℕ) (j : Instr) (o : Binary) → j.op ≡ Apply2 o → is_folded (folds_at (layout_of p c) k) ≡ true
            → (k ≡ K.n) ⊎ ((is_credit j.op ≡ true) × (is_credit K.i.op ≡ true) × (is_open j.op && is_open K.i.op ≡ false)) → ⊥
        by_one k j o op folded (inl e) = absurd (true≢false (sym folded ∙ ap (λ m. is_folded (folds_at (layout_of p c) m)) e ∙ K.kept))
        by_one k j o op folded (inr (a, b, d)) = absurd (true≢false (sym a ∙ ap is_credit op))

        by_op : (k : ℕ) (j : Instr) → slice_get c.instrs k ≡ Some j → is_folded (folds_at (layout_of p c) k) ≡ true → j.slot ≡ r
            → (x : Instr) × (o : Binary) × (slice_get c.instrs k ≡ Some x) × (x.op ≡ Apply2 o) → ⊥
        by_op k j there folded s (x, o, also, op) =
            let same : x ≡ j = cc in
            let is : j.op ≡ Apply2 o = sym (ap (λ (y : Instr). y.op) same) ∙ op in
            let holds : slot_of j j.op ≡ Some r = ap (slot_of j) is ∙ ap (λ (h : ℕ). Some h) s in
            by_one k j o is folded (one k K.n r j K.i there K.there holds K.holds)

        found : Freed (replicate c.slots false) 0 c.instrs r → ⊥
        found (inl e) = absurd (true≢false (sym e ∙ each_of_falses c.slots r))
        found (inr (k, j, there, folded, s)) =
            let z : 0 + k ≡ k = omega arith in
            let f : is_folded (folds_at (layout_of p c) k) ≡ true = sym (ap (λ m. is_folded (fold_at (folds_of p c) m)) z) ∙ folded in
            by_op k j there f s (folded_is p c k f)

        pick : (t : Bool) → slice_index_or freed r false ≡ t → slice_index_or freed r false ≡ false
        pick false e = e
        pick true e = absurd (found (freed_back (replicate c.slots false) 0 c.instrs r e))

    within : (r : ℕ) → Keeps r → r < length freed
    within r K = let s = size in let b = below K.n r K.i K.there K.holds in omega (arith, s, b)

    holder_is : (r : ℕ) → r < length freed → new_holder (layout_of p c) r ≡ before freed r
    holder_is r l =
        let z : 0 + before freed r ≡ before freed r = omega arith in
        get_or_from_slice_get (layout_of p c).holders r (0 + before freed r) r (number_is 0 freed r l) ∙ z

    pub holders_apart : (r s : ℕ) → Keeps r → Keeps s → new_holder (layout_of p c) r ≡ new_holder (layout_of p c) s → r ≡ s
    holders_apart r s K L e =
        before_apart freed r s (within r K) (within s L) (not_freed r K) (not_freed s L) (sym (holder_is r (within r K)) ∙ e ∙ holder_is s (within s L))
