-- A plan whose holders have other numbers waits for credits only where the plan does.
use Rattle.std.proofs.Common.{◌≡◌, sym, ap, ◌∙◌, subst, ℕ, ℤ, List, length}
use Rattle.std.proofs.lemmas.List.{nil_from_length}
use Rattle.std.proofs.lemmas.List.Sorted.{length_permutation}
use Rattle.tags.specs.declared.token.Cont.{Cont}
use Rattle.tags.specs.declared.slot.SlotState.{SlotState}
use Rattle.tags.specs.declared.slot.SlotState.TheVariants.{Empty, Waiter}
use Rattle.semantics.specs.Program.{CodeBlock}
use Rattle.semantics.specs.Plan.{Plan}
use Rattle.semantics.specs.Orderly.{Orderly, IsStart}
use Rattle.law_reuse.proofs.SlotsHistory.{taken}
use Rattle.law_passes.specs.Renumber.{Renumbers, RenumbersAll, with_blocks}
use Rattle.law_passes.proofs.RenumberPlaces.{inputs_is}
use Rattle.law_passes.proofs.RenumberRuns.{Twin, twin}
use Rattle.law_passes.proofs.RenumberOrders.{slot_was}
use Rattle.law_loop_credits.specs.Waits.{WaitShows, PlanWaitsShow}

waiter_full : (s : SlotState) (c : Cont) → s ≡ Waiter c → s ≡ Empty → ⊥
waiter_full s c e f = absurd (let d : Waiter c ≡ Empty = sym e ∙ f in cc)

with_other : (A B : List ℤ → Type 0) (p : Plan) (ds : List CodeBlock) (hold : ℕ → ℕ → ℕ) → RenumbersAll hold p.program.blocks ds → Orderly p
    → PlanWaitsShow A B p → PlanWaitsShow A B (with_blocks p ds)
with_other A B p ds hold R orderly law inputs z events m start run once = record {
  ever = λ f s c e. let x = was f s c e in there.ever f x.0 c (sym x.1 ∙ e);
  last = λ f s c e rest none.
      let x = was f s c e in
      there.last f x.0 c (sym x.1 ∙ e)
      (nil_from_length W.last.pool (sym (length_permutation W.last.pool m.pool W.tied.pool) ∙ ap length rest)) (W.tied.same.requests ∙ none);
}
  where
    old_start : IsStart p z inputs
    old_start = record { some_element = start.some_element; some_frame = start.some_frame; inputs_fit = start.inputs_fit ∙ inputs_is p ds hold R }

    W : Twin p ds hold R orderly inputs z old_start events m run
    W = twin p ds hold R orderly inputs z old_start events m run once

    there : WaitShows (A inputs) (B inputs) W.last
    there = law inputs z events W.last old_start W.run W.once

    was : (f s : ℕ) (c : Cont) → m.store.slots f s ≡ Waiter c → (r : ℕ) × (m.store.slots f s ≡ W.last.store.slots f r)
    was f s c e = slot_was p hold (taken events) f (m.store.slots f) (W.last.store.slots f) (W.tied.frames f) s (waiter_full (m.store.slots f s) c e)

pub waits_renumbered : (A B : List ℤ → Type 0) (p q : Plan) → Renumbers p q → Orderly p → PlanWaitsShow A B p → PlanWaitsShow A B q
waits_renumbered A B p q N orderly law = subst (PlanWaitsShow A B) (sym N.same) (with_other A B p q.program.blocks N.hold N.blocks orderly law)
