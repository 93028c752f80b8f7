-- A plan whose code does what the code of another plan does keeps what passes must keep.
use Rattle.std.proofs.Common.{ap, ◌∙◌, ℕ, List}
use Rattle.semantics.specs.Program.{Program}
use Rattle.semantics.specs.Machine.{at_start}
use Rattle.semantics.specs.Arcs.{UsesArc}
use Rattle.semantics.specs.Handed.{handed}
use Rattle.semantics.specs.Plan.{Plan}
use Rattle.semantics.specs.Orderly.{Orderly, IsStart}
use Rattle.semantics.specs.Wired.{IsWired}
use Rattle.law_fresh_frames.specs.Alike.{LandsRightly}
use Rattle.law_simulation.specs.Simulates.{Relates, Simulates, SimulationKeeps, counts_none}
use Rattle.law_simulation.proofs.SimulationAgree.{agree_kept, block_kept, once_kept}
use Rattle.law_simulation.proofs.SimulationBounds.{bounds_kept}
use Rattle.law_simulation.proofs.SimulationCaused.{caused_kept}
use Rattle.law_simulation.proofs.SimulationLands.{lands_kept}
use Rattle.law_simulation.proofs.SimulationMatching.{matching_kept}
use Rattle.law_simulation.proofs.SimulationOrder.{release_kept}
use Rattle.law_simulation.proofs.SimulationRuns.{simulated}
use Rattle.law_simulation.proofs.SimulationSeen.{related_runs_alike}
use Rattle.law_simulation.proofs.SimulationState.{Sim}
use Rattle.law_simulation.proofs.SimulationTold.{KeepsArcs}
use Rattle.law_simulation.proofs.SimulationTraces.{Step, some_event, steps_of}

orderly_kept : (p q : Plan) → Simulates p q → IsWired p → Orderly p → LandsRightly p → Orderly q
orderly_kept p q K wired orderly lands inputs z events m start run once =
    let S : Relates p q = K.relates in
    let st : IsStart p z inputs = record { some_element = start.some_element; some_frame = start.some_frame; inputs_fit = start.inputs_fit ∙ S.inputs } in
    let Q : Program = q.program in
    let gone : List ℕ = handed Q z (at_start Q inputs) events m run in
    let ss : List Step = steps_of Q z (at_start Q inputs) events m run in
    let V : Sim p q S wired orderly lands inputs z st events m gone ss = simulated p q S wired orderly lands inputs z st events m run once in
    let arcs : KeepsArcs p q S = record { sizes = K.sizes; rows = K.rows; unskipped = K.unskipped } in
    record {
      once = once_kept p q S wired orderly lands inputs z st events m gone ss V once K.lone;
      caused = λ f ip r w e inside. some_event (UsesArc q f ip r) Q z (at_start Q inputs) events m run
          (caused_kept p q S wired orderly lands inputs z st events m gone ss V once arcs K.lone K.entries f ip r w e inside);
      agree = λ f ip jp k v w mi mj b ci cj. agree_kept p q S wired orderly lands inputs z st events m gone ss V once K.marks f ip jp k v w mi mj ci cj;
      block = block_kept p q S wired orderly lands inputs z st events m gone ss V once K.blocks;
      matching = matching_kept p q S wired orderly lands inputs z st events m gone ss V once;
      release = release_kept p q S wired orderly lands inputs z st events m gone ss V once;
    }

pub simulation_keeps : SimulationKeeps
simulation_keeps p q K wired orderly lands = record {
  alike = related_runs_alike p q K.relates wired orderly lands;
  orderly = orderly_kept p q K wired orderly lands;
  lands = lands_kept p q K.relates K.lands wired orderly lands;
  bounds =
      bounds_kept p q K.relates K.sizes K.rows K.back (λ k a i at e. K.stays a i at (ap counts_none e)) (λ k a i at e. K.stays a i at (ap counts_none e))
      (λ b a i at e. K.stays a i at (ap counts_none e)) wired orderly lands;
}
