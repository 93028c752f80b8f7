-- A plan whose code does what the code of another plan does waits for credits only where that one does.
use Rattle.std.proofs.Common.{◌≡◌, refl, sym, ap, ◌∙◌, subst, ℕ, ℤ, List, [], ◌∷◌, map}
use Rattle.tags.specs.declared.token.Cont.{Cont}
use Rattle.tags.specs.declared.slot.SlotState.{SlotState}
use Rattle.tags.specs.declared.slot.SlotState.TheVariants as Slot
use Rattle.tags.specs.declared.slot.SlotState.TheVariants.{Empty, Credits, Waiter, Draining}
use Rattle.semantics.specs.Machine.{Store, at_start}
use Rattle.semantics.specs.Plan.{Plan}
use Rattle.semantics.specs.Handed.{handed, EachOnce}
use Rattle.semantics.specs.Orderly.{Orderly, IsStart}
use Rattle.semantics.specs.Wired.{IsWired}
use Rattle.law_fresh_frames.specs.Alike.{LandsRightly, LooksAlike}
use Rattle.law_simulation.specs.Places.{ip_cont, ip_slot, ip_store}
use Rattle.law_simulation.specs.Simulates.{Relates}
use Rattle.law_simulation.proofs.SimulationRuns.{simulated}
use Rattle.law_simulation.proofs.SimulationSeen.{looks_alike}
use Rattle.law_simulation.proofs.SimulationState.{Sim}
use Rattle.law_simulation.proofs.SimulationTraces.{steps_of}
use Rattle.law_loop_credits.specs.Waits.{WaitShows, PlanWaitsShow}

waiter_back : (h : ℕ → ℕ) (x : SlotState) (c : Cont) → ip_slot h x ≡ Waiter c → (d : Cont) × (x ≡ Waiter d)
waiter_back h Empty c e = absurd (cc)
waiter_back h (Slot.Left w) c e = absurd (cc)
waiter_back h (Slot.Right w) c e = absurd (cc)
waiter_back h (Credits n) c e = absurd (cc)
waiter_back h (Waiter d) c e = (d, refl)
waiter_back h (Draining n) c e = absurd (cc)

none_back : (h : ℕ → ℕ) (cs : List Cont) → map (ip_cont h) cs ≡ [] → cs ≡ []
none_back h [] e = refl
none_back h (c ∷ cs) e = absurd (cc)

pub waits_simulated : (A B : List ℤ → Type 0) (p q : Plan) → Relates p q → IsWired p → Orderly p → LandsRightly p → PlanWaitsShow A B p → PlanWaitsShow A B q
waits_simulated A B p q S wired orderly lands law inputs z events m start run once = record {
  ever = λ f s c e. let d = waiter f s c e in there.ever f s d.0 d.1;
  last = λ f s c e rest none.
      let d = waiter f s c e in
      there.last f s d.0 d.1 (alike.rests rest)
      (none_back S.h V.part.last.store.requests (sym (ap (λ (s : Store). s.requests) stores) ∙ none));
}
  where
    st : IsStart p z inputs
    st = record { some_element = start.some_element; some_frame = start.some_frame; inputs_fit = start.inputs_fit ∙ S.inputs }

    V : Sim p q S wired orderly lands inputs z st events m (handed q.program z (at_start q.program inputs) events m run) (steps_of q.program z (at_start q.program inputs) events m run)
    V = simulated p q S wired orderly lands inputs z st events m run once

    alike : LooksAlike m V.part.last
    alike =
        looks_alike p q S wired orderly lands inputs z st events m (handed q.program z (at_start q.program inputs) events m run)
        (steps_of q.program z (at_start q.program inputs) events m run) V

    there : WaitShows (A inputs) (B inputs) V.part.last
    there =
        law inputs z V.part.done V.part.last st V.part.run
        (subst (λ (l : List ℕ). EachOnce (0 ∷ l)) (sym V.part.hands) once)

    stores : m.store ≡ ip_store S.h V.part.last.store
    stores = V.store ∙ ap (ip_store S.h) (sym V.part.same)

    waiter : (f s : ℕ) (c : Cont) → m.store.slots f s ≡ Waiter c → (d : Cont) × (V.part.last.store.slots f s ≡ Waiter d)
    waiter f s c e = waiter_back S.h (V.part.last.store.slots f s) c (sym (ap (λ (m : Store). m.slots f s) stores) ∙ e)
