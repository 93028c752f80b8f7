-- Over good slots, a run that uses each frame once keeps faith as the plan's runs do.
use Rattle.std.proofs.Common.{sym, ◌∙◌, ℕ, ℤ, List}
use Rattle.semantics.specs.Graph.{Flow}
use Rattle.semantics.specs.Machine.{Machine, Size, Events, at_start}
use Rattle.semantics.specs.Faithful.{IsRun, Faithful}
use Rattle.semantics.specs.Plan.{Plan}
use Rattle.semantics.specs.Sharing.{Good}
use Rattle.semantics.specs.Placed.{placed}
use Rattle.semantics.specs.Handed.{handed, UsesEachOnce}
use Rattle.semantics.specs.Orderly.{Orderly, IsStart}
use Rattle.semantics.specs.Wired.{IsWired}
use Rattle.law_reuse.specs.Frames.{TakesInputs}
use Rattle.law_reuse.proofs.Frames.{So, so_start}
use Rattle.law_reuse.proofs.SlotsRuns.{own_so_after, Own, own_run}
use Rattle.law_reuse.proofs.SlotsLaw.{own_slots, own_matching}
use Rattle.law_reuse.proofs.SlotsClauses.{KeepsFaith, keeps_faith, faith_same}

-- a run that uses each frame once keeps faith as the plan does
pub once_keeps_faith : (fl : Flow) (p : Plan) (slots : List (List ℕ)) → Faithful fl p.program → Orderly p → IsWired p → Good p slots → TakesInputs fl p
    → (inputs : List ℤ) (z : Size) (events : Events) (m : Machine) (r : IsRun fl (placed p slots) inputs z events m)
    → UsesEachOnce (placed p slots) z inputs events m r.run
    → KeepsFaith fl (placed p slots) inputs events m
once_keeps_faith fl p slots F orderly wired good takes inputs z events m r once =
    let start : IsStart p z inputs = record { some_element = r.some_element; some_frame = r.some_frame; inputs_fit = r.inputs_fit ∙ sym takes } in
    let gone : List ℕ = handed (placed p slots) z (at_start (placed p slots) inputs) events m r.run in
    let so : So = own_so_after p (placed p slots) so_start z (at_start (placed p slots) inputs) events m r.run in
    let own : Own p slots z inputs events m gone so = own_run p slots wired good orderly inputs z start events m r.run once in
    let plan_run : IsRun fl p.program inputs z events own.last =
    record { inputs_fit = r.inputs_fit; some_element = r.some_element; some_frame = r.some_frame; run = own.run } in
    faith_same slots m own.last (own_slots p slots wired good orderly inputs z start events m gone so own once) fl p good.all inputs events
    (own_matching p slots wired good orderly inputs z start events m gone so own once) (keeps_faith fl p.program F inputs z events own.last plan_run)
