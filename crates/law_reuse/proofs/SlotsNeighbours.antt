-- Under good slots, every other holder of a live holder's slot is empty.
use Rattle.std.proofs.Common.{◌≡◌, refl, ℕ, zero, suc, ◌<◌, ◌⊎◌, inl, inr, List, [], ◌∷◌, length, Some, slice_get, arith}
use Rattle.std.specs.Prelude.{slice_index_or}
use Rattle.tags.specs.declared.slot.SlotState.{SlotState}
use Rattle.tags.specs.declared.slot.SlotState.TheVariants.{Empty}
use Rattle.semantics.specs.Program.{Instr, CodeBlock}
use Rattle.semantics.specs.Rule.{slot_of}
use Rattle.semantics.specs.Plan.{Plan}
use Rattle.semantics.specs.Sharing.{Inlet, Arc, Good}
use Rattle.law_reuse.proofs.SlotsShares.{IsKept, one_live}
use Rattle.law_reuse.proofs.SlotsPlacedEvents.{Alone}
use Rattle.law_reuse.proofs.SlotsPlacedCode.{empty_or}

pub get_index : (ss : List ℕ) (h : ℕ) → h < length ss → slice_get ss h ≡ Some (slice_index_or ss h 0)
get_index [] h p = absurd (omega arith)
get_index (s ∷ ss) zero p = refl
get_index (s ∷ ss) (suc h) p = get_index ss h (omega arith)

pub alone_from : (p : Plan) (slots : List (List ℕ)) → Good p slots → (b : ℕ) (c : CodeBlock) (ss : List ℕ) → slice_get p.program.blocks b ≡ Some c
    → slice_get slots b ≡ Some ss
    → (Met : Inlet → Type 0) (Used : Arc → Type 0) (Live : ℕ → Type 0) → IsKept p b Met Used Live
    → (plan : ℕ → SlotState) → ((k : ℕ) → (plan k ≡ Empty → ⊥) → Live k)
    → (i : Instr) → ((h : ℕ) → slot_of i i.op ≡ Some h → (h < c.slots) × Live h) → Alone ss (slot_of i i.op) plan
alone_from p slots good b c ss at_c at_ss Met Used Live K plan filled i live h is =
    let of_block = good.blocks b c ss at_c at_ss in
    let this = live h is in
    let long : length ss ≡ c.slots = of_block.all in
    let below : h < c.slots = this.0 in
    let at_h : slice_get ss h ≡ Some (slice_index_or ss h 0) = get_index ss h (omega arith) in
    (at_h, λ k ne at_k. decide k ne at_k at_h (empty_or (plan k)))
  where
    decide : (k : ℕ) → (k ≡ h → ⊥) → slice_get ss k ≡ Some (slice_index_or ss h 0) → slice_get ss h ≡ Some (slice_index_or ss h 0)
        → ((plan k ≡ Empty) ⊎ (plan k ≡ Empty → ⊥)) → plan k ≡ Empty
    decide k ne at_k at_h (inl e) = e
    decide k ne at_k at_h (inr full) =
        absurd (one_live p b Met Used Live K k h ((good.blocks b c ss at_c at_ss).share k h (slice_index_or ss h 0) at_k at_h ne) (filled k full) (live h is).1)
