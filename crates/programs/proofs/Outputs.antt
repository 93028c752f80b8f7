-- MAIN'S OUTPUTS. The graph that a program is lowered to has as many as the program gives, so a report with all of them is a list of these.
use Rattle.std.proofs.Common.{◌≡◌, ℕ, suc, ℤ, List, [], ◌∷◌, length, map, Option, Some, Ok, refl, sym, ap, ap₂, ◌∙◌, arith}
use Rattle.std.specs.Prelude.{slice_get}
use Rattle.tags.specs.declared.value.Value.{Value}
use Rattle.tags.specs.declared.value.Origin.{Origin}
use Rattle.semantics.specs.Graph.{Block, Graph, flow_of}
use Rattle.semantics.specs.WellFormed.{WellFormed}
use Rattle.semantics.specs.Meaning.{State, Activity, Run, AtRest, start}
use Rattle.law_confluence.specs.Outcome.{AreInputsOf, NoClash}
use Rattle.law_confluence.specs.EquationsSettled.{NoneWaits}
use Rattle.law_confluence.proofs.Equations.{runs_at_rest}
use Rattle.source.specs.Tree.{Program}
use Rattle.source.specs.Outside.{bare}
use Rattle.source.specs.Rules.{main_name, written_or_one}
use Rattle.source.specs.Evaluates.{Stores, RunsMain}
use Rattle.source.specs.Lowered.{turn_site, function_scope}
use Rattle.source.specs.Theorem.{world}
use Rattle.source.proofs.Counted.{main_counts}
use Rattle.source.proofs.Counting.{body_count}
use Rattle.law_language.specs.MeansTheorem.{IsLoweredText}
use Rattle.law_language.proofs.MeansMainActive.{each_function_good, graph_is, main_spot, main_is, block}
use Rattle.law_language.proofs.MeansOriginsTraced.{origins_are_traced}
use Rattle.law_language.proofs.MeansPlaced.{places_from_origins}
use Rattle.law_language.proofs.MeansTexts.{tokens_rise, spellings_differ}

module _ (text : List ℕ) (p : Program) (g : Graph) (origin : ℕ → Origin) (low : IsLoweredText text p g origin) (well : WellFormed g)
    (inputs : List ℤ) (count : AreInputsOf g inputs) (run : List Activity) (s : State) (r : Run (flow_of g) (start inputs) run s)
    (rests : AtRest (flow_of g) s) (once : NoClash (flow_of g) s) (none : NoneWaits (flow_of g) s)
    (memory : ℕ → Option Value) (arguments vs : List Value) (ss : Stores) (m : RunsMain (world p origin memory) arguments vs ss) where
  -- main's block in the flow
  pub main_block : Block ℕ
  main_block =
      block p g origin inputs run s r (runs_at_rest g inputs well count run s r rests once none) well count (graph_is p g low.lowered.graph) m.main m.named
      (places_from_origins origins_are_traced p g origin
      (record { lowered = low.lowered; apart = spellings_differ text low.tokens p low.spelled (tokens_rise text low.tokens low.read) }) well main_name
      m.main m.named)

  pub is_main : slice_get (flow_of g).blocks (flow_of g).main ≡ Some main_block
  unfolding main_block
  is_main =
      main_is p g origin inputs run s r (runs_at_rest g inputs well count run s r rests once none) well count (graph_is p g low.lowered.graph) m.main m.named
      (places_from_origins origins_are_traced p g origin
      (record { lowered = low.lowered; apart = spellings_differ text low.tokens p low.spelled (tokens_rise text low.tokens low.read) }) well main_name
      m.main m.named)

  pub has_outputs : main_block.outputs ≡ length vs
  unfolding main_block
  has_outputs =
      body_count p (turn_site m.main.name.name) (main_spot m.main) (function_scope m.main) m.main.body (bare m.main.params) (written_or_one m.main.results)
      (each_function_good p low.lowered.good main_name m.main m.named).values
      ∙ sym (main_counts (world p origin memory) arguments vs ss low.lowered.good m)

-- A list of as many values as `vs`, each of them that of `vs` at its place, is `vs`.
pub all_some : (os : List (Option Value)) (vs : List Value) → length os ≡ length vs
    → ((j : ℕ) (o : Option Value) → slice_get os j ≡ Some o → o ≡ slice_get vs j) → os ≡ map (λ v. Some v) vs
all_some [] [] e h = refl
all_some [] (v ∷ vs) e h = cc
all_some (o ∷ os) [] e h = cc
all_some (o ∷ os) (v ∷ vs) e h = ap₂ (λ (x : Option Value) xs. x ∷ xs) (h 0 o refl) (all_some os vs (omega (arith, e)) (λ j x k. h (suc j) x k))
