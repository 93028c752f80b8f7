-- The runs of the folded plan that still has its slots look like those of the plan, and so it is as faithful.
use Rattle.std.proofs.Common.{◌≡◌, refl, sym, ap, ◌∙◌, subst, ℕ, ◌+◌, Bool, true, false, List, [], ◌∷◌, ◌++◌, if◌then◌else◌}
use Rattle.std.specs.Prelude.{flat_map, IsPermutation}
use Rattle.std.proofs.lemmas.List.{length-map}
use Rattle.semantics.specs.Graph.{Flow}
use Rattle.semantics.specs.Program.{Instr}
use Rattle.semantics.specs.Plan.{Plan}
use Rattle.semantics.specs.Cause.{HasBounds, opened_by, open_bounds, loop_bounds}
use Rattle.folding.specs.Places.{Layout, layout_of, gone_at}
use Rattle.folding.specs.Moved.{moved}
use Rattle.folding.specs.Folded.{remaining_from, moved_from}
use Rattle.folding.proofs.LoopsStay.{block_opens}
use Rattle.law_fresh_frames.proofs.Alike.{alike_is_faithful}
use Rattle.law_passes.specs.Fold.{Folds}
use Rattle.law_passes.specs.Kept.{slotted, kept_block, kept_slots, KeptSlotsRunsAlike, KeptSlotsFaithful}
use Rattle.law_passes.proofs.KeptBlocks.{kept_back}
use Rattle.law_passes.proofs.KeptMoves.{kept_slots_folds}
use Rattle.law_simulation.proofs.SimulationSeen.{related_runs_alike}

-- the loops open with the bounds that they had
same_opens : (l : Layout) (n : ℕ) (is : List Instr)
    → flat_map (λ (i : Instr). opened_by i.op) (remaining_from l (slotted l) n is) ≡ flat_map (λ (i : Instr). opened_by i.op) (moved_from l n is)
same_opens l n [] = refl
same_opens l n (i ∷ is) = go (gone_at l n) (same_opens l (n + 1) is)
  where
    go : (t : Bool) → flat_map (λ (i : Instr). opened_by i.op) (remaining_from l (slotted l) (n + 1) is)
        ≡ flat_map (λ (i : Instr). opened_by i.op) (moved_from l (n + 1) is)
        → flat_map (λ (i : Instr). opened_by i.op)
        (if t then remaining_from l (slotted l) (n + 1) is else slotted l n i ∷ remaining_from l (slotted l) (n + 1) is)
        ≡ flat_map (λ (i : Instr). opened_by i.op) (if t then moved_from l (n + 1) is else moved l n i ∷ moved_from l (n + 1) is)
    go true e = e
    go false e = ap (λ xs. opened_by (slotted l n i).op ++ xs) e

still_has_bounds : (fl : Flow) (p : Plan) → HasBounds fl p.program → HasBounds fl (kept_slots p).program
still_has_bounds fl p h = (
  length-map p.program.blocks (kept_block p) ∙ h.0,
  λ b e g at named. let o = kept_back p p.program.blocks b e at in
      subst (λ xs. IsPermutation xs (loop_bounds g)) (sym (same_opens (layout_of p o.0) 0 (o.0).instrs ∙ block_opens p o.0) ∙ ap open_bounds o.2)
      (h.1 b o.0 g o.1 named),
)

pub kept_slots_runs_alike : KeptSlotsRunsAlike
kept_slots_runs_alike p s orderly lands = related_runs_alike p (kept_slots p) (kept_slots_folds p s) s.wired orderly lands

pub kept_slots_faithful : KeptSlotsFaithful
kept_slots_faithful fl p s orderly lands takes F =
    let S : Folds p (kept_slots p) = kept_slots_folds p s in
    alike_is_faithful fl p (kept_slots p) refl (still_has_bounds fl p F.bounds) S.inputs (kept_slots_runs_alike p s orderly lands) (S.inputs ∙ takes) F
