-- The loops of a folded plan open with the bounds that they had.
use Rattle.std.proofs.Common.{◌≡◌, ℕ, suc, ◌+◌, Bool, true, false, List, [], ◌∷◌, ◌++◌, refl, sym, ap, ◌∙◌, subst, arith, Some, if◌then◌else◌}
use Rattle.std.specs.Prelude.{flat_map, slice_get, IsPermutation}
use Rattle.std.proofs.lemmas.List.{length-map}
use Rattle.semantics.specs.declared.program.Op.{Op}
use Rattle.semantics.specs.declared.program.Op.TheVariants.{Apply2}
use Rattle.semantics.specs.Program.{Instr, CodeBlock}
use Rattle.semantics.specs.Plan.{Plan}
use Rattle.semantics.specs.Cause.{opened_by, open_bounds, loop_bounds}
use Rattle.folding.specs.declared.folds.Fold.{Fold}
use Rattle.folding.specs.declared.folds.Fold.TheVariants.{OnRight, LeftLiteral}
use Rattle.folding.specs.Folds.{new_op}
use Rattle.folding.specs.Places.{Layout, layout_of, gone_at, folds_at}
use Rattle.folding.specs.Moved.{moved}
use Rattle.folding.specs.Folded.{moved_from, folded_block}
use Rattle.folding.specs.Loops.{StillHasBounds, KeepsArrays}
use Rattle.folding.proofs.Taken.{leaves_out}
use Rattle.folding.proofs.SoundLists.{block_back}

abbrev opens : List Instr → List ℕ
opens is = flat_map (λ (i : Instr). opened_by i.op) is

-- an operator with a literal operand opens no loop, as it did before
opened_same : (f : Fold) (op : Op) → opened_by (new_op f op) ≡ opened_by op
opened_same (OnRight z) (Apply2 op) = refl
opened_same (LeftLiteral z) (Apply2 op) = refl
opened_same f op = refl

-- what is left out from the n-th instruction on opens no loop
abbrev OpensNone : Layout → ℕ → List Instr → Type 0
OpensNone l n is = (k : ℕ) (i : Instr) → slice_get is k ≡ Some i → gone_at l (n + k) ≡ true → opened_by i.op ≡ []

opens_from : (l : Layout) (n : ℕ) (is : List Instr) → OpensNone l n is → opens (moved_from l n is) ≡ opens is
opens_from l n [] none = refl
opens_from l n (i ∷ is) none = by_test (gone_at l n) refl (opens_from l (n + 1) is later)
  where
    later : OpensNone l (n + 1) is
    later k j at gone = let z : n + suc k ≡ n + 1 + k = omega arith in none (suc k) j at (ap (gone_at l) z ∙ gone)

    first : gone_at l n ≡ true → opened_by i.op ≡ []
    first gone = let z : n + 0 ≡ n = omega arith in none 0 i refl (ap (gone_at l) z ∙ gone)

    by_test : (t : Bool) → gone_at l n ≡ t → opens (moved_from l (n + 1) is) ≡ opens is
        → opens (if t then moved_from l (n + 1) is else moved l n i ∷ moved_from l (n + 1) is) ≡ opened_by i.op ++ opens is
    by_test true gone rest = rest ∙ sym (ap (λ xs. xs ++ opens is) (first gone))
    by_test false stays rest = ap (λ xs. xs ++ opens (moved_from l (n + 1) is)) (opened_same (folds_at l n) i.op) ∙ ap (λ xs. opened_by i.op ++ xs) rest

pub block_opens : (p : Plan) (c : CodeBlock) → open_bounds (folded_block p c) ≡ open_bounds c
block_opens p c = opens_from (layout_of p c) 0 c.instrs none
  where
    none : OpensNone (layout_of p c) 0 c.instrs
    none k i at gone =
        let z : k ≡ 0 + k = omega arith in
        let out = (leaves_out p c k i at (ap (gone_at (layout_of p c)) z ∙ gone)).literal in
        ap opened_by out.1

pub still_has_bounds : StillHasBounds
still_has_bounds fl p h = (
  length-map p.program.blocks (folded_block p) ∙ h.0,
  λ b e g at named. let o = block_back p b e at in subst (λ xs. IsPermutation xs (loop_bounds g)) (sym (block_opens p o.0) ∙ ap open_bounds o.2)
      (h.1 b o.0 g o.1 named),
)

pub keeps_arrays : KeepsArrays
keeps_arrays p = refl
