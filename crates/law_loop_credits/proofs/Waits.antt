-- The compiler's code waits for a credit only where the meaning outgrows the bound: from the wired plan, through all passes.
use Rattle.std.proofs.Common.{◌≡◌, ◌∙◌, sym, subst, ℕ, ◌+◌, ◌*◌, ◌<◌, ℤ, List}
use Rattle.std.specs.Prelude.{⊤}
use Rattle.semantics.specs.Graph.{Graph, Flow, flow_of}
use Rattle.semantics.specs.Text.{HasText}
use Rattle.semantics.specs.WellFormed.{WellFormed}
use Rattle.semantics.specs.Machine.{Size, at_start}
use Rattle.semantics.specs.Plan.{Plan}
use Rattle.semantics.specs.Sharing.{Good}
use Rattle.semantics.specs.Placed.{placed}
use Rattle.semantics.specs.declared.version.Version.{Version}
use Rattle.semantics.specs.Versions.{version_number}
use Rattle.schemas.specs.Expanded.{expanded}
use Rattle.folding.specs.Folded.{folded}
use Rattle.folding.proofs.SoundPlans.{still_sound}
use Rattle.fanout.specs.Narrowed.{narrowed}
use Rattle.select.specs.Emitted.{code_of}
use Rattle.code.specs.Sound.{IsSound}
use Rattle.law_reuse.specs.Frames.{TakesInputs}
use Rattle.law_fresh_frames.specs.Alike.{IsTidy, Keeps}
use Rattle.law_net.specs.Contexts.{Wires}
use Rattle.law_net.specs.ContextsTheorem.{IsGood, KeepsFaith}
use Rattle.law_net.specs.ContextsPackages.{InputsFit}
use Rattle.law_net.specs.ContextsMirror.{Past, no_past}
use Rattle.law_net.proofs.ContextsComposition.{wired_keeps_faith, follow_keeps, run_follows, past_of}
use Rattle.law_machine_refines_net.proofs.HostsStarts.{starts}
use Rattle.law_wiring.proofs.Whole.{every_is_static}
use Rattle.law_passes.specs.Kept.{kept_slots}
use Rattle.law_passes.specs.Spreads.{Spreads}
use Rattle.law_passes.proofs.KeptMoves.{kept_slots_folds}
use Rattle.law_passes.proofs.KeptKeeps.{kept_slots_keep}
use Rattle.law_passes.proofs.RenumberFolding.{folded_renumbers}
use Rattle.law_passes.proofs.RenumberTwice.{folding_keeps}
use Rattle.law_passes.proofs.NarrowSpread.{narrowed_spreads}
use Rattle.law_passes.proofs.NarrowKeeps.{narrowing_keeps}
use Rattle.law_passes.proofs.SpreadSimulates.{spread_simulates}
use Rattle.law_compiler.specs.Objects.{plan_of}
use Rattle.law_compiler.proofs.Objects.{expanded_is_sound, plans_are_sound, plans_take_inputs}
use Rattle.law_compiler.proofs.Graphs.{expanded_is_tidy}
use Rattle.law_compiler.proofs.GraphsOrigins.{plans_have_origins}
use Rattle.law_compiler.proofs.Emitted.{emitted_alike}
use Rattle.law_compiler.proofs.EmittedPromises.{is_run}
use Rattle.law_compiler.proofs.PassesFoldedTidy.{folded_is_tidy}
use Rattle.law_compiler.proofs.Whole.{good_plan}
use Rattle.law_compiler.proofs.WholeTidy.{wired_leads}
use Rattle.law_compiler.proofs.WholeLaw.{packages, graphs_keep_promises}
use Rattle.law_compiled_code_completes.proofs.SameLength.{same_largest}
use Rattle.law_loops_complete.specs.Loops.{SomeOutgrows}
use Rattle.law_loops_complete.specs.Within.{SomeKeepsWithin}
use Rattle.law_loops_complete.specs.LoopsComplete.{HasSpace}
use Rattle.law_loops_complete.proofs.LoopsComplete.{loops_complete}
use Rattle.law_loops_complete.proofs.Within.{within_completes}
use Rattle.law_loop_credits.specs.Waits.{PlanWaitsShow, WaitsShow}
use Rattle.law_loop_credits.specs.NetsWait.{NetWaitsShow}
use Rattle.law_loop_credits.specs.GraphsWait.{GraphsWaitForMore, CompiledLoopsComplete, GraphsStarveOutside, CompiledWithinCompletes}
use Rattle.law_loop_credits.proofs.WithinEnds.{ends_well}
use Rattle.law_loop_credits.proofs.WithinParts.{nets_starve_outside}
use Rattle.law_loop_credits.proofs.WaitsNet.{nets_wait_for_more}
use Rattle.law_loop_credits.proofs.WaitsRenumbered.{waits_renumbered}
use Rattle.law_loop_credits.proofs.WaitsShared.{waits_shared}
use Rattle.law_loop_credits.proofs.WaitsSimulated.{waits_simulated}

-- what waiting shows wherever the run keeps to the net, it shows in the runs of the wired plan
plan_waits : (A B : List ℤ → Type 0) (fl : Flow) (p : Plan) (w : Wires) → IsGood fl p w → NetWaitsShow A B fl p w → PlanWaitsShow A B p
plan_waits A B fl p w good law inputs z events u start run once =
    let fit : InputsFit fl inputs = start.inputs_fit ∙ good.takes_inputs in
    let whole : Past = past_of packages fl p w inputs good fit z no_past (at_start p.program inputs) events u run in
    law inputs whole u fit
    (follow_keeps packages fl p w inputs good fit whole u
    (run_follows packages fl p w inputs good fit z no_past (at_start p.program inputs) events u run (starts fl p w inputs good fit) once))

-- and so in the runs of the code that the compiler makes
pub code_waits : (A B : List ℤ → Type 0) (g : Graph) (slots : List (List ℕ)) (version : Version) → HasText g → WellFormed g → Good (plan_of g) slots
    → version_number version ≡ g.version
    → ((w : Wires) → IsGood (flow_of g) (expanded (flow_of g)) w → NetWaitsShow A B (flow_of g) (expanded (flow_of g)) w)
    → WaitsShow A B (flow_of g) (code_of version (plan_of g) slots)
code_waits A B g slots version text well good same law =
    let fl : Flow = flow_of g in
    let p : Plan = expanded fl in
    let w = good_plan every_is_static g text well in
    let k : KeepsFaith fl p = wired_keeps_faith packages fl p w.0 w.1 in
    let s : IsSound p = expanded_is_sound g text well in
    let tidy : IsTidy p = expanded_is_tidy g text well (wired_leads fl p w.0 w.1) in
    let first : PlanWaitsShow A B p = plan_waits A B fl p w.0 w.1 (law w.0 w.1) in
    let K : Keeps p (kept_slots p) = kept_slots_keep p s k.orderly k.lands tidy in
    let second : PlanWaitsShow A B (kept_slots p) = waits_simulated A B p (kept_slots p) (kept_slots_folds p s) s.wired k.orderly k.lands first in
    let third : PlanWaitsShow A B (folded p) = waits_renumbered A B (kept_slots p) (folded p) (folded_renumbers p s) K.orderly second in
    let F : Keeps p (folded p) = folding_keeps p s k.orderly k.lands tidy in
    let fs : IsSound (folded p) = still_sound p s in
    let ft : IsTidy (folded p) = folded_is_tidy p s tidy in
    let S : Spreads (folded p) (narrowed (folded p)) = narrowed_spreads (folded p) fs ft in
    let last : PlanWaitsShow A B (plan_of g) =
    waits_simulated A B (folded p) (narrowed (folded p)) (spread_simulates (folded p) (narrowed (folded p)) S).relates fs.wired F.orderly F.lands third in
    let N : Keeps (folded p) (narrowed (folded p)) = narrowing_keeps (folded p) fs F.orderly F.lands ft in
    let ps : IsSound (plan_of g) = plans_are_sound g text well in
    let takes : TakesInputs fl (plan_of g) = plans_take_inputs g text well in
    let code : WaitsShow A B fl (placed (plan_of g) slots) = waits_shared A B fl (plan_of g) slots N.orderly ps.wired good takes last in
    let alike = emitted_alike (plan_of g) slots version ps.wired.plan (plans_have_origins g version same) in
    λ inputs z events m r. code inputs z events m (is_run (placed (plan_of g) slots) (code_of version (plan_of g) slots) alike fl inputs z events m r)

pub graphs_wait_for_more : GraphsWaitForMore
graphs_wait_for_more g slots version text well good same inputs z events m f s c r waits =
    (code_waits (SomeOutgrows (flow_of g)) (SomeOutgrows (flow_of g)) g slots version text well good same
    (nets_wait_for_more (flow_of g) (expanded (flow_of g))) inputs z events m r).ever f s c waits

-- neither slots nor the form of an object change how many instructions a block has
placed_space : (g : Graph) (slots : List (List ℕ)) (version : Version) → Good (plan_of g) slots → (z : Size) (most d : ℕ)
    → HasSpace (plan_of g).program z most d → HasSpace (code_of version (plan_of g) slots) z most d
placed_space g slots version good z most d space = record {
  some_element = space.some_element;
  some_frame = space.some_frame;
  frames = space.frames;
  steps = subst (λ (n : ℕ). 6 * (n + 1) * (1 + d) < most) (sym (same_largest (plan_of g) slots version good.all)) space.steps;
}

pub compiled_loops_complete : CompiledLoopsComplete
compiled_loops_complete g slots version text well good same inputs fit d t needs none z most space by_list may_stop r shows uncut =
    loops_complete g (code_of version (plan_of g) slots) well (graphs_keep_promises g slots version text well good same).faithful
    (graphs_wait_for_more g slots version text well good same) inputs fit d t needs none z most (placed_space g slots version good z most d space)
    by_list may_stop r shows uncut

pub graphs_starve_outside : GraphsStarveOutside
graphs_starve_outside g slots version text well good same inputs z events m f s c r waits rest none =
    (code_waits (λ inputs. ⊤) (λ inputs. SomeKeepsWithin (flow_of g) inputs → ⊥) g slots version text well good same
    (λ w k inputs past u fit kept. record {
      ever = λ f s c e. tt;
      last = λ f s c e rest none within.
          nets_starve_outside (flow_of g) (expanded (flow_of g)) w k inputs past u fit kept f s c e rest none within (ends_well g well inputs fit);
    }) inputs z events m r).last f s c waits rest none

pub compiled_within_completes : CompiledWithinCompletes
compiled_within_completes g slots version text well good same inputs fit d t needs within z most space by_list may_stop r shows uncut =
    within_completes g (code_of version (plan_of g) slots) well (graphs_keep_promises g slots version text well good same).faithful
    (graphs_starve_outside g slots version text well good same) inputs fit d t needs within z most (placed_space g slots version good z most d space)
    by_list may_stop r shows uncut
