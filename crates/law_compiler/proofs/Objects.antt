-- What the compiler makes of any graph: the passes one after another.
use Rattle.std.proofs.Common.{◌≡◌, refl, ◌∙◌, ℕ, zero, suc, ◌<◌, List, ◌∷◌, length, map, arith, []}
use Rattle.std.specs.Prelude.{slice_get}
use Rattle.std.proofs.lemmas.List.{length-map}
use Rattle.std.proofs.lemmas.Option.{slice_get_within}
use Rattle.lemmas.proofs.Alls.{all_at}
use Rattle.lemmas.proofs.Contains.{contains_get}
use Rattle.semantics.specs.Graph.{Graph, Block, Flow, flow_of, place_of, block_names, array_names, resolved_block}
use Rattle.semantics.specs.Program.{CodeBlock}
use Rattle.semantics.specs.Plan.{Plan}
use Rattle.semantics.specs.Orderly as Orderly
use Rattle.law_confluence.proofs.OutcomeResolved.{place_get}
use Rattle.law_wiring.proofs.BoundsInputs.{takes_inputs}
use Rattle.law_wiring.specs.Shapes.{IsShaped, AreShaped}
use Rattle.law_wiring.proofs.FactsSound.{is_sound}
use Rattle.law_wiring.proofs.ArcsLaws.{arcs_go_forward}
use Rattle.law_wiring.proofs.ShapesPlans.{plans_are_shaped}
use Rattle.folding.proofs.SoundPlans.{still_sound}
use Rattle.semantics.specs.WellFormed.{WellFormed}
use Rattle.semantics.specs.Text.{HasText}
use Rattle.code.specs.Sound.{IsSound}
use Rattle.schemas.specs.Expanded.{expanded}
use Rattle.folding.specs.Folded.{folded, folded_block}
use Rattle.fanout.specs.Narrowed.{narrowed_block}
use Rattle.fanout.proofs.SoundPlans.{stays_sound}
use Rattle.law_compiler.specs.Objects.{plan_of, PlansAreSound, PlansHaveObjects, PlansTakeInputs, CodeHasBounds}
use Rattle.folding.proofs.LoopsStay as Folding
use Rattle.fanout.proofs.LoopsStay as Fanout
use Rattle.law_compiler.proofs.EmittedLoops.{emitted_bounds}
use Rattle.law_wiring.proofs.BoundsWholes.{has_bounds}
use Rattle.law_compiler.proofs.ObjectsSound.{sound_have_objects}

pub expanded_is_sound : (g : Graph) → HasText g → WellFormed g → IsSound (expanded (flow_of g))
expanded_is_sound g text well =
    let arcs = arcs_go_forward g text well in
    let p : Plan = expanded (flow_of g) in
    is_sound g text well (λ b n c i at there. all_at IsShaped c.instrs n i (all_at AreShaped p.program.blocks b c (plans_are_shaped g well) at) there)
    arcs.lefts arcs.dests arcs.entries arcs.rights

folded_is_sound : (g : Graph) → HasText g → WellFormed g → IsSound (folded (expanded (flow_of g)))
folded_is_sound g text well = still_sound (expanded (flow_of g)) (expanded_is_sound g text well)

pub plans_are_sound : PlansAreSound
plans_are_sound g text well = stays_sound (folded (expanded (flow_of g))) (folded_is_sound g text well)

pub plans_have_objects : PlansHaveObjects
plans_have_objects g slots text well good = sound_have_objects (folded (expanded (flow_of g))) slots (folded_is_sound g text well) good

-- INPUTS. Blocks keep them.
kept : (f : CodeBlock → CodeBlock) → ((c : CodeBlock) → (f c).inputs ≡ c.inputs) → (cs : List CodeBlock) (k : ℕ)
    → Orderly.inputs_in (slice_get (map f cs) k) ≡ Orderly.inputs_in (slice_get cs k)
kept f same [] k = refl
kept f same (c ∷ cs) zero = same c
kept f same (c ∷ cs) (suc k) = kept f same cs k

pub main_there : (g : Graph) → WellFormed g → (flow_of g).main < length (flow_of g).blocks
main_there g well =
    let k = contains_get (block_names g) g.main well.main in
    let l = slice_get_within (block_names g) (place_of g.main (block_names g)) g.main (place_get g.main (block_names g) k.0 k.1) in
    let m = length-map g.blocks (λ (b : List ℕ × Block (List ℕ)). b.0) in
    let n = length-map g.blocks (λ (b : List ℕ × Block (List ℕ)). resolved_block (array_names g) (block_names g) b.1) in
    omega (arith, l, m, n)

pub plans_take_inputs : PlansTakeInputs
plans_take_inputs g text well =
    let p : Plan = expanded (flow_of g) in
    let q : Plan = folded p in
    kept (narrowed_block q) (λ c. refl) q.program.blocks p.program.main ∙ kept (folded_block p) (λ c. refl) p.program.blocks p.program.main
    ∙ takes_inputs (flow_of g) (main_there g well)

-- BOUNDS
pub code_has_bounds : CodeHasBounds
code_has_bounds g slots version good =
    let fl : Flow = flow_of g in
    let p : Plan = expanded fl in
    emitted_bounds fl version (plan_of g) slots good.all (Fanout.still_has_bounds fl (folded p) (Folding.still_has_bounds fl p (has_bounds fl)))
