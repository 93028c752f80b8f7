-- The law from its parts: the wires, the net of contexts, and the passes.
use Rattle.std.proofs.Common.{◌≡◌, refl, ap, ℕ, zero, suc, ℤ, List, [], ◌∷◌, length}
use Rattle.std.specs.Prelude.{pos}
use Rattle.semantics.specs.Graph.{Graph, Flow, flow_of}
use Rattle.semantics.specs.Text.{HasText}
use Rattle.semantics.specs.WellFormed.{WellFormed}
use Rattle.semantics.specs.Meaning.{Main}
use Rattle.semantics.specs.Faithful.{inputs_of}
use Rattle.law_confluence.proofs.OutcomeResolved.{flow_well, fits}
use Rattle.schemas.specs.Expanded.{expanded}
use Rattle.law_wiring.proofs.BoundsWholes.{has_bounds}
use Rattle.law_passes.proofs.RenumberTwice.{folding_keeps}
use Rattle.law_net_refines_meaning.proofs.FiringsGraphs.{graphs_have_operands, graphs_are_earlier}
use Rattle.law_net.specs.Contexts.{HasBlock, Wires}
use Rattle.law_net.specs.ContextsTheorem.{IsGood, KeepsFaith}
use Rattle.law_net.specs.ContextsPackages.{AllPackages}
use Rattle.law_net.specs.ContextsExpanded.{AllStatic}
use Rattle.law_net.proofs.ContextsComposition.{wired_keeps_faith}
use Rattle.law_net.proofs.ContextsStatic.{expanded_is_wired}
use Rattle.semantics.specs.Plan.{Plan}
use Rattle.law_fresh_frames.specs.FreshReady.{IsReady}
use Rattle.law_compiler.proofs.Objects.{expanded_is_sound}
use Rattle.law_compiler.specs.Graphs.{IsExpandedFor}
use Rattle.law_compiler.proofs.Graphs.{graphs_follow, expanded_takes, expanded_is_for}
use Rattle.law_compiler.specs.Whole.{PartsSuffice}
use Rattle.law_compiler.proofs.WholeTidy.{wired_leads}

-- main's block is there
abbrev zeros : ℕ → List ℤ
zeros zero = []
zeros (suc n) = pos 0 ∷ zeros n

length_zeros : (n : ℕ) → length (zeros n) ≡ n
length_zeros zero = refl
length_zeros (suc n) = ap suc (length_zeros n)

pub has_main : (g : Graph) → WellFormed g → HasBlock (flow_of g) Main
has_main g well =
    let f = fits g well (zeros (inputs_of (flow_of g))) (length_zeros (inputs_of (flow_of g))) in
    (f.0, f.1)

-- the plan that a graph becomes first is a good one
pub good_plan : AllStatic → (g : Graph) → HasText g → WellFormed g → (w : Wires) × IsGood (flow_of g) (expanded (flow_of g)) w
good_plan static g text well =
    let fl : Flow = flow_of g in
    let wired = expanded_is_wired static g text well in (
      wired.0,
      record {
        main = has_main g well;
        well = flow_well g well;
        operands = graphs_have_operands g well;
        earlier = graphs_are_earlier g well;
        plan = (expanded_is_sound g text well).wired;
        takes_inputs = expanded_takes g text well;
        bounds = has_bounds fl;
        wired = wired.1;
      },
    )

pub parts_suffice : PartsSuffice
parts_suffice packages static g slots version text well good same =
    let fl : Flow = flow_of g in
    let p : Plan = expanded fl in
    let w = good_plan static g text well in
    let k : KeepsFaith fl p = wired_keeps_faith packages fl p w.0 w.1 in
    let E : IsExpandedFor g = record {
      once = wired_leads fl p w.0 w.1;
      orderly = k.orderly;
      lands = k.lands;
      bounds = k.bounds;
      faithful = k.faithful;
    } in
    let r : IsReady fl p = expanded_is_for g text well E in
    graphs_follow g slots version text well E (folding_keeps p r.sound r.orderly r.lands r.tidy) good same
