-- Runs look alike through two passes, and so folding keeps what its first pass keeps: all that a pass must keep.
use Rattle.std.proofs.Common.{◌≡◌, ap, ◌∙◌}
use Rattle.semantics.specs.Machine.{Machine}
use Rattle.semantics.specs.Plan.{Plan}
use Rattle.semantics.specs.Orderly.{IsStart, inputs_of}
use Rattle.folding.specs.Folded.{folded}
use Rattle.law_fresh_frames.specs.Alike.{LooksAlike, HasAlike, RunsAlike, Keeps}
use Rattle.law_passes.specs.Kept.{kept_slots}
use Rattle.law_passes.proofs.KeptKeeps.{kept_slots_keep}
use Rattle.law_passes.specs.Renumber.{Renumbers}
use Rattle.law_passes.specs.RenumberKeeps.{KeepsAll}
use Rattle.law_passes.specs.RenumberFolded.{FoldingKeeps}
use Rattle.law_passes.proofs.RenumberPlaces.{inputs_is}
use Rattle.law_passes.proofs.RenumberKeeping.{renumbered_keeps}
use Rattle.law_passes.proofs.RenumberFolding.{folded_renumbers}

looks_through : (m u v : Machine) → LooksAlike m u → LooksAlike u v → LooksAlike m v
looks_through m u v A B = record {
  outputs = λ j. A.outputs j ∙ B.outputs j;
  cells = λ x. A.cells x ∙ B.cells x;
  readers = λ x. A.readers x ∙ B.readers x;
  rests = λ r. B.rests (A.rests r);
  wants = λ w. A.wants (B.wants w);
  second_store = λ x s. B.second_store x (A.second_store x s);
  clean = λ c. A.clean (B.clean c);
}

pub alike_through : (p q r : Plan) → inputs_of r ≡ inputs_of q → RunsAlike p q → RunsAlike q r → RunsAlike p r
alike_through p q r same first second inputs z events m start run once =
    let A : HasAlike q r z inputs events m = second inputs z events m start run once in
    let mid : IsStart q z inputs = record { some_element = start.some_element; some_frame = start.some_frame; inputs_fit = start.inputs_fit ∙ same } in
    let B : HasAlike p q z inputs A.done A.last = first inputs z A.done A.last mid A.run A.once in
    record {
      done = B.done;
      last = B.last;
      run = B.run;
      once = B.once;
      alike = looks_through m A.last B.last A.alike B.alike;
      requests = A.requests ∙ B.requests;
      credits = A.credits ∙ B.credits;
    }

inputs_same : (p q : Plan) → Renumbers p q → inputs_of q ≡ inputs_of p
inputs_same p q N = ap inputs_of N.same ∙ inputs_is p q.program.blocks N.hold N.blocks

pub folding_keeps : FoldingKeeps
folding_keeps p s orderly lands tidy =
    let F : Keeps p (kept_slots p) = kept_slots_keep p s orderly lands tidy in
    let N : Renumbers (kept_slots p) (folded p) = folded_renumbers p s in
    let K : KeepsAll (kept_slots p) (folded p) = renumbered_keeps (kept_slots p) (folded p) N F.orderly in
    record {
      alike = alike_through p (kept_slots p) (folded p) (inputs_same (kept_slots p) (folded p) N) F.alike K.alike;
      orderly = K.orderly;
      lands = K.lands F.lands;
      bounds = λ b. K.bounds (F.bounds b);
    }
