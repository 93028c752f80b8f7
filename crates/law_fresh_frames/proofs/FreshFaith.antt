-- The code of a plan that is faithful in the runs that use each frame once is faithful in all.
use Rattle.std.proofs.Common.{sym, ◌∙◌, subst, ℕ, ◌*◌, ◌+◌, ℤ, List, ◌∷◌}
use Rattle.semantics.specs.Graph.{Flow}
use Rattle.semantics.specs.Machine.{Machine, Size, Events, at_start}
use Rattle.semantics.specs.Faithful.{IsRun}
use Rattle.semantics.specs.Plan.{Plan}
use Rattle.semantics.specs.Sharing.{Good}
use Rattle.semantics.specs.Placed.{placed}
use Rattle.semantics.specs.Handed.{handed, UsesEachOnce, EachOnce}
use Rattle.semantics.specs.Orderly.{Orderly, IsStart}
use Rattle.semantics.specs.Wired.{IsWired}
use Rattle.law_reuse.specs.Frames.{TakesInputs}
use Rattle.law_reuse.proofs.Frames.{So, so_start, FreesOnce, frames_once}
use Rattle.law_reuse.proofs.FramesServed.{has_served}
use Rattle.law_reuse.proofs.SlotsRuns.{own_so_after, Own, own_run}
use Rattle.law_reuse.proofs.SlotsLaw.{own_slots, own_matching}
use Rattle.law_reuse.proofs.FramesUnfolded.{frees_shared}
use Rattle.law_reuse.proofs.SlotsClauses.{KeepsFaith, faith_kept, faith_same, code_bounds}
use Rattle.law_reuse.proofs.FramesTheorem.{faith_back, start_of}
use Rattle.law_fresh_frames.specs.Fresh.{KeepsOnce, FaithfulOnce, BoundedOnce, OnceSuffices}

-- in a run of the plan that uses each frame once, all clauses hold
pub all_clauses : (fl : Flow) (p : Plan) → FaithfulOnce fl p.program → BoundedOnce p → Orderly p → (inputs : List ℤ) (z : Size) → IsStart p z inputs
    → (events : Events) (m : Machine)
    (r : IsRun fl p.program inputs z events m) → UsesEachOnce p.program z inputs events m r.run → KeepsFaith fl p.program inputs events m
all_clauses fl p F bounded orderly inputs z start events m r once =
    let K : KeepsOnce fl p.program inputs events m = F.each inputs z events m r once in
    record {
      reachable = (K.cause.state, record { run = K.cause.run; is_run = K.cause.is_run }, K.cause.seen);
      exact = K.exact;
      second_store = K.second_store;
      matching = (orderly inputs z events m start r.run once).matching;
      clean = K.clean;
      cause = K.cause;
      bound = bounded inputs z events m start r.run once;
    }

-- a run of the code that uses each frame once keeps faith as the plan does
pub once_keeps_faith : (fl : Flow) (p : Plan) (slots : List (List ℕ)) → FaithfulOnce fl p.program → BoundedOnce p → Orderly p → IsWired p → Good p slots
    → TakesInputs fl p
    → (inputs : List ℤ) (z : Size) (events : Events) (m : Machine) (r : IsRun fl (placed p slots) inputs z events m)
    → UsesEachOnce (placed p slots) z inputs events m r.run
    → KeepsFaith fl (placed p slots) inputs events m
once_keeps_faith fl p slots F bounded orderly wired good takes inputs z events m r once =
    let start : IsStart p z inputs = record { some_element = r.some_element; some_frame = r.some_frame; inputs_fit = r.inputs_fit ∙ sym takes } in
    let gone : List ℕ = handed (placed p slots) z (at_start (placed p slots) inputs) events m r.run in
    let so : So = own_so_after p (placed p slots) so_start z (at_start (placed p slots) inputs) events m r.run in
    let own : Own p slots z inputs events m gone so = own_run p slots wired good orderly inputs z start events m r.run once in
    let plan_run : IsRun fl p.program inputs z events own.last =
    record { inputs_fit = r.inputs_fit; some_element = r.some_element; some_frame = r.some_frame; run = own.run } in
    let plan_once : UsesEachOnce p.program z inputs events own.last own.run = subst (λ (l : List ℕ). EachOnce (0 ∷ l)) (sym own.hands) once in
    faith_same slots m own.last (own_slots p slots wired good orderly inputs z start events m gone so own once) fl p good.all inputs events
    (own_matching p slots wired good orderly inputs z start events m gone so own once)
    (all_clauses fl p F bounded orderly inputs z start events own.last plan_run plan_once)

pub once_suffices : OnceSuffices
once_suffices fl p slots F bounded orderly wired good takes = faith_kept fl (placed p slots) F.arrays (code_bounds fl p slots good.all F.bounds) one
  where
    one : (inputs : List ℤ) (z : Size) (events : Events) (m : Machine) → IsRun fl (placed p slots) inputs z events m
        → KeepsFaith fl (placed p slots) inputs events m
    one inputs z events m r =
        let start : IsStart p z inputs = start_of fl p slots takes inputs z events m r in
        let frees : FreesOnce (placed p slots) inputs z.elements = frees_shared p slots wired good orderly inputs z start in
        let H = frames_once p (placed p slots) inputs z events m r.some_element r.some_frame frees r.run in
        let S = has_served p (placed p slots) inputs z events m r.some_element r.some_frame frees r.run in
        let wide : Size = record { elements = z.elements; frames = H.frames } in
        let wider : Size = record { elements = z.elements; frames = S.frames } in
        let here : IsRun fl (placed p slots) inputs wide H.unfolded H.last =
        record { inputs_fit = r.inputs_fit; some_element = r.some_element; some_frame = H.some_frame; run = H.run } in
        let there : IsRun fl (placed p slots) inputs wider S.unfolded S.last =
        record { inputs_fit = r.inputs_fit; some_element = r.some_element; some_frame = S.some_frame; run = S.run } in
        faith_back fl (placed p slots) inputs (z.elements * z.frames)
        (λ g. g + H.gen g * (z.elements * z.frames)) m H.last H.folds events H.unfolded S.unfolded S.last S.cells S.outputs S.counted
        (once_keeps_faith fl p slots F bounded orderly wired good takes inputs wide H.unfolded H.last here H.once)
        (once_keeps_faith fl p slots F bounded orderly wired good takes inputs wider S.unfolded S.last there S.once)
