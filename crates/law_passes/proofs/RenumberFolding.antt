-- A folded plan is the one in which each instruction keeps its slot, except for the numbers of its holders.
use Rattle.std.proofs.Common.{◌≡◌, refl, sym, ap, ◌∙◌, subst, ℕ, suc, ◌+◌, Bool, true, false, ℤ, List, [], ◌∷◌, map, length, Option, Some, None, if◌then◌else◌}
use Rattle.std.specs.Prelude.{slice_get}
use Rattle.std.specs.Option.{option_map}
use Rattle.std.proofs.lemmas.Option.{slice_get-map, same_Some}
use Rattle.lemmas.proofs.Alls.{all_at}
use Rattle.lemmas.proofs.Contains.{get_contains}
use Rattle.lemmas.proofs.SliceGet.{map_got}
use Rattle.operators.specs.declared.Binary.{Binary}
use Rattle.semantics.specs.declared.program.Op.TheVariants.{Apply2Right, Apply2Left}
use Rattle.semantics.specs.Program.{Instr, CodeBlock}
use Rattle.semantics.specs.Rule.{slot_of}
use Rattle.semantics.specs.Plan.{Plan, IsPlanBlock}
use Rattle.code.specs.Sound.{IsSound}
use Rattle.folding.specs.Folds.{is_folded, new_op}
use Rattle.folding.specs.Places.{Layout, layout_of, new_holder, folds_at, gone_at}
use Rattle.folding.specs.Moved.{moved}
use Rattle.folding.specs.Folded.{remaining_from, folded_block, folded_blocks, folded}
use Rattle.folding.proofs.Standing.{stands_at, comes_from}
use Rattle.folding.proofs.Held.{slot_any}
use Rattle.folding.proofs.Cases.{value_at, FoldCase, is_kept, is_right, is_left, fold_cases}
use Rattle.law_passes.specs.Kept.{slotted, kept_block, kept_slots}
use Rattle.law_passes.specs.Renumber.{IsRenumbered, HoldsIn, RenumbersBlock, Renumbers}
use Rattle.law_passes.proofs.RenumberHolders.{Keeps, holders_apart}

length_left : {X Y : Type 0} (l : Layout) (f : ℕ → Instr → X) (g : ℕ → Instr → Y) (n : ℕ) (is : List Instr)
    → length (remaining_from l f n is) ≡ length (remaining_from l g n is)
length_left l f g n [] = refl
length_left {X = X} {Y = Y} l f g n (i ∷ is) = go (gone_at l n) (length_left l f g (n + 1) is)
  where
    go : (t : Bool) → length (remaining_from l f (n + 1) is) ≡ length (remaining_from l g (n + 1) is)
        → length (if t then remaining_from l f (n + 1) is else f n i ∷ remaining_from l f (n + 1) is)
        ≡ length (if t then remaining_from l g (n + 1) is else g n i ∷ remaining_from l g (n + 1) is)
    go true more = more
    go false more = ap suc more

no_right : (i : Instr) (o : Binary) (z : ℤ) (r : ℕ) → slot_of i (Apply2Right o z) ≡ Some r → ⊥
no_right i o z r e = cc

no_left : (i : Instr) (o : Binary) (z : ℤ) (r : ℕ) → slot_of i (Apply2Left o z) ≡ Some r → ⊥
no_left i o z r e = cc

module _ (p : Plan) (c : CodeBlock) where
  abbrev l : Layout
  l = layout_of p c

  -- an instruction with a slot is not folded
  slot_kept : (n : ℕ) (i : Instr) (r : ℕ) → slice_get c.instrs n ≡ Some i → slot_of (slotted l n i) (slotted l n i).op ≡ Some r
      → (is_folded (folds_at l n) ≡ false) × (slot_of i i.op ≡ Some r) × (i.slot ≡ r)
  slot_kept n i r at holds = go (fold_cases p c n)
    where
      op_of : (j : Instr) → slice_get c.instrs n ≡ Some j → j.op ≡ i.op
      op_of j there = ap (λ (x : Instr). x.op) (same_Some j i (sym there ∙ at))

      go : FoldCase p c n → (is_folded (folds_at l n) ≡ false) × (slot_of i i.op ≡ Some r) × (i.slot ≡ r)
      go (is_kept K) =
          let s = slot_any i (slotted l n i) i.op r (ap (slot_of (slotted l n i)) (sym (K.op i.op)) ∙ holds) in
          (K.folded, s.1 ∙ ap Some (sym s.0), sym s.0)
      go (is_right (F, op)) =
          absurd (no_right (slotted l n i) F.o (value_at p c n) r
          (ap (slot_of (slotted l n i)) (sym (ap (new_op (folds_at l n)) (sym (op_of F.i F.there) ∙ F.was) ∙ op F.o)) ∙ holds))
      go (is_left (F, op)) =
          absurd (no_left (slotted l n i) F.o (value_at p c n) r
          (ap (slot_of (slotted l n i)) (sym (ap (new_op (folds_at l n)) (sym (op_of F.i F.there) ∙ F.was) ∙ op F.o)) ∙ holds))

  one_renumbered : (n : ℕ) (i : Instr) → slice_get c.instrs n ≡ Some i → IsRenumbered (new_holder l) (slotted l n i) (moved l n i)
  one_renumbered n i at = record {
    op = refl;
    origin = refl;
    firsts = refl;
    seconds = refl;
    slot = λ r holds. (let k = slot_kept n i r at holds in ap (λ (t : Bool). if t then 0 else new_holder l i.slot) k.0 ∙ ap (new_holder l) k.2);
  }

  still_keeps : (r : ℕ) → HoldsIn (kept_block p c) r → Keeps p c r
  still_keeps r H =
      let f = comes_from p c (slotted l) H.place H.instr H.there in
      let k = slot_kept f.0 f.1 r f.2 (ap (λ (x : Instr). slot_of x x.op) (sym f.5) ∙ H.holds) in
      record { n = f.0; i = f.1; there = f.2; holds = k.1; kept = k.0 }

  block_renumbered : IsPlanBlock c → RenumbersBlock (new_holder l) (kept_block p c) (folded_block p c)
  block_renumbered B = record {
    inputs = refl;
    outputs = refl;
    size = length_left l (moved l) (slotted l) 0 c.instrs;
    instrs = λ n i at. (let f = comes_from p c (slotted l) n i at in (
      moved l f.0 f.1,
      ap (slice_get (folded_block p c).instrs) (sym f.4) ∙ stands_at p c (moved l) f.0 f.1 f.2 f.3,
      subst (λ (x : Instr). IsRenumbered (new_holder l) x (moved l f.0 f.1)) (sym f.5) (one_renumbered f.0 f.1 f.2),
    ));
    apart = λ r s H K. holders_apart p c B.holders (λ n h i at held. B.below i h (get_contains c.instrs n i at) held) r s (still_keeps r H) (still_keeps s K);
  }

-- the new numbers of the holders of block b
abbrev hold_in : Plan → Option CodeBlock → ℕ → ℕ
hold_in p None r = r
hold_in p (Some c) r = new_holder (layout_of p c) r

abbrev hold_of : Plan → ℕ → ℕ → ℕ
hold_of p b r = hold_in p (slice_get p.program.blocks b) r

length_mapped : {X Y Z : Type 0} (f : X → Y) (g : X → Z) (xs : List X) → length (map f xs) ≡ length (map g xs)
length_mapped f g [] = refl
length_mapped f g (x ∷ xs) = ap suc (length_mapped f g xs)

pub folded_renumbers : (p : Plan) → IsSound p → Renumbers (kept_slots p) (folded p)
folded_renumbers p s = record {
  hold = hold_of p;
  same = refl;
  blocks = record {
    count = length_mapped (folded_block p) (kept_block p) p.program.blocks;
    blocks = λ b k at. by_block b k (map_got (kept_block p) p.program.blocks b k at);
  };
}
  where
    by_block : (b : ℕ) (k : CodeBlock) → (c : CodeBlock) × (slice_get p.program.blocks b ≡ Some c) × (k ≡ kept_block p c)
        → (d : CodeBlock) × (slice_get (folded_blocks p p.program.blocks) b ≡ Some d) × RenumbersBlock (hold_of p b) k d
    by_block b k (c, at, is) = (
      folded_block p c,
      slice_get-map (folded_block p) p.program.blocks b ∙ ap (option_map (folded_block p)) at,
      subst (λ (x : CodeBlock). RenumbersBlock (hold_of p b) x (folded_block p c)) (sym is)
          (subst (λ (o : Option CodeBlock). RenumbersBlock (hold_in p o) (kept_block p c) (folded_block p c)) (sym at)
          (block_renumbered p c (all_at IsPlanBlock p.program.blocks b c s.wired.plan.blocks at))),
    )
