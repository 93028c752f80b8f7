-- The code of every graph is faithful, if its plan is so before the passes.
use Rattle.std.proofs.Common.{◌≡◌, refl, sym, ◌∙◌, subst, ℕ, zero, suc, ◌+◌, ◌≤◌, List, [], ◌∷◌, length, Some, Contains, arith}
use Rattle.std.proofs.lemmas.List.Elements.{Contains-append_left}
use Rattle.std.proofs.lemmas.Option.{slice_get_within}
use Rattle.semantics.specs.declared.program.Dest.{Dest}
use Rattle.semantics.specs.declared.program.Op.TheVariants.{Link}
use Rattle.std.specs.Prelude.{slice_get}
use Rattle.semantics.specs.Graph.{Flow, Graph, flow_of}
use Rattle.semantics.specs.Text.{HasText}
use Rattle.semantics.specs.WellFormed.{WellFormed}
use Rattle.semantics.specs.Program.{Instr, CodeBlock}
use Rattle.semantics.specs.Plan.{Plan, landing}
use Rattle.code.specs.Sound.{IsSoundDest}
use Rattle.law_reuse.specs.Frames.{TakesInputs}
use Rattle.schemas.specs.Expanded.{expanded}
use Rattle.law_wiring.proofs.ArcsLaws.{arcs_go_forward}
use Rattle.folding.specs.Folded.{folded, folded_block}
use Rattle.fanout.specs.Narrowed.{narrowed_block}
use Rattle.law_compiler.proofs.EmittedLaws.{emitted_faithful, emitted_releases, emitted_credits, emitted_holders}
use Rattle.law_compiler.specs.Objects.{plan_of}
use Rattle.law_compiler.proofs.Objects.{plans_are_sound, plans_take_inputs, expanded_is_sound}
use Rattle.law_fresh_frames.specs.FreshReady.{IsReady}
use Rattle.law_compiler.proofs.Passes.{passes_suffice, inputs_kept}
use Rattle.law_compiler.specs.Graphs.{ExpandedIsTidy, IsExpandedFor, GraphsFollow}
use Rattle.law_compiler.proofs.GraphsOrigins.{plans_have_origins}

-- the last instruction of a landing is in the block
pub expanded_is_tidy : ExpandedIsTidy
expanded_is_tidy g text well once = record { landings = landings; once = once }
  where
    landings : (b n : ℕ) (c : CodeBlock) (i : Instr) (d : Dest) (callee : ℕ) → slice_get (expanded (flow_of g)).program.blocks b ≡ Some c
        → slice_get c.instrs n ≡ Some i → i.op ≡ Link callee
        → i.firsts ≡ d ∷ [] → n + d.ahead + landing (expanded (flow_of g)) callee ≤ length c.instrs
    landings b n c i d callee at_b at_n links lands = by_size (landing (expanded (flow_of g)) callee) refl
      where
        named : Contains i.firsts d
        named = subst (λ (ds : List Dest). Contains ds d) (sym lands) (0, omega arith, refl)

        dest : IsSoundDest (expanded (flow_of g)) c n d
        dest =
            (expanded_is_sound g text well).dests b n c d record { i = i; block = at_b; there = at_n; named = Contains-append_left i.firsts i.seconds d named }

        by_size : (k : ℕ) → landing (expanded (flow_of g)) callee ≡ k → n + d.ahead + landing (expanded (flow_of g)) callee ≤ length c.instrs
        by_size zero e = let inside = dest.dest.inside in omega (arith, e, inside)
        by_size (suc k) e =
            let last = (arcs_go_forward g text well).landings b n (n + d.ahead + k) callee c i d at_b at_n links named (omega arith) (omega (arith, e)) in
            let within = slice_get_within c.instrs (n + d.ahead + k) last.0 last.1 in
            omega (arith, e, within)

pub expanded_takes : (g : Graph) → HasText g → WellFormed g → TakesInputs (flow_of g) (expanded (flow_of g))
expanded_takes g text well =
    let p : Plan = expanded (flow_of g) in
    let q : Plan = folded p in
    sym (inputs_kept (narrowed_block q) (λ c. refl) q.program.blocks p.program.main ∙ inputs_kept (folded_block p) (λ c. refl) p.program.blocks p.program.main)
    ∙ plans_take_inputs g text well

pub expanded_is_for : (g : Graph) → HasText g → WellFormed g → IsExpandedFor g → IsReady (flow_of g) (expanded (flow_of g))
expanded_is_for g text well E = record {
  sound = expanded_is_sound g text well;
  tidy = expanded_is_tidy g text well E.once;
  takes = expanded_takes g text well;
  orderly = E.orderly;
  lands = E.lands;
  bounds = E.bounds;
  faithful = E.faithful;
}

pub graphs_follow : GraphsFollow
graphs_follow g slots version text well E fold good same =
    let fl : Flow = flow_of g in
    let both = passes_suffice fl (expanded fl) slots fold (expanded_is_for g text well E) good in
    let plan = (plans_are_sound g text well).wired.plan in
    let origins = plans_have_origins g version same in
    record {
      faithful = emitted_faithful fl (plan_of g) slots version plan origins both.faithful;
      releases = emitted_releases fl (plan_of g) slots version plan origins both.again.releases;
      credits = emitted_credits fl (plan_of g) slots version plan origins both.again.credits;
      alone = emitted_holders fl (plan_of g) slots version plan origins both.again.alone;
    }
