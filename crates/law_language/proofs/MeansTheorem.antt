-- The theorem from its parts.
use Rattle.std.proofs.Common.{◌≡◌, ◌+◌, ℤ, [], length, map, sym, ap, ◌∙◌, subst, IsPermutation, false}
use Rattle.std.proofs.lemmas.List.{length-map}
use Rattle.tags.specs.declared.value.Value.TheVariants.{Int}
use Rattle.semantics.specs.Graph.{flow_of, node_count}
use Rattle.std.specs.Prelude.{sum}
use Rattle.semantics.specs.Meaning.{Main, fetch_count}
use Rattle.semantics.proofs.Sums.{sum_of_zeros}
use Rattle.law_confluence.specs.EquationsSettled.{Settled, NoneWaits}
use Rattle.law_confluence.proofs.Equations.{runs_at_rest}
use Rattle.source.specs.Outside.{bare}
use Rattle.source.specs.Rules.{written_or_one}
use Rattle.source.specs.Evaluates.{entered}
use Rattle.source.specs.Lowered.{node_of, function_scope, turn_site}
use Rattle.law_language.specs.MeansBelow.{stores_below}
use Rattle.law_language.specs.Means.{MeansIn}
use Rattle.law_language.specs.MeansTheorem.{FunctionsArePlaced, PartsKeepMeaning, MeaningFromParts, LoweringKeepsMeaning, TextsKeepMeaning}
use Rattle.law_language.specs.MeansTheorem.{MachinesShowPrograms}
use Rattle.law_confluence.proofs.EquationsNoneWaits.{none_waits}
use Rattle.law_language.proofs.MeansMainDelivers.{outputs_shown, cells_filled, cells_filled_once}
use Rattle.law_language.proofs.MeansPlaced.{places_from_origins}
use Rattle.law_language.proofs.MeansOriginsTraced.{origins_are_traced}
use Rattle.law_language.proofs.MeansSteps.{parts_from_places}
use Rattle.law_language.proofs.MeansTexts.{tokens_rise, spellings_differ}
use Rattle.law_language.proofs.MeansMainActive.{main_function, each_function_good, graph_is, main_spot, main_lowered, main_is, main_stands, main_agrees, block}

pub meaning_from_parts : MeaningFromParts
meaning_from_parts placed parts p g origin low well inputs count s rests =
    let run = rests.reached.run in
    let r = rests.reached.is_run in
    let none : NoneWaits (flow_of g) s = none_waits (flow_of g) s.tokens rests.none_waits in
    let st : Settled (flow_of g) inputs run s r = runs_at_rest g inputs well count run s r rests.at_rest rests.no_clash none in
    let main = main_function p low.lowered.good in
    let f = main.0 in
    let is = graph_is p g low.lowered.graph in
    let blocks = placed p g origin low well _ f main.1 in
    let good = each_function_good p low.lowered.good _ f main.1 in
    let all : MeansIn p g origin inputs run s r Main = parts p g origin low well inputs count run s r rests.at_rest rests.no_clash none Main in
    let b = block p g origin inputs run s r st well count is f main.1 blocks in
    let eb = main_is p g origin inputs run s r st well count is f main.1 blocks in
    let out = all.body f.body (turn_site f.name.name) (main_spot f) (function_scope f) (entered f.params (map (λ (z : ℤ). Int z) inputs) []) (bare f.params)
    (written_or_one f.results) false good.fits good.values (main_stands p g origin inputs run s r st well count is f main.1 blocks)
    (main_agrees p g origin inputs run s r st well count is f main.1 blocks good) in
    let long : node_count b ≡ length f.params + length (main_lowered p f).nodes =
    ap (λ n. length f.params + n) (length-map (map node_of (main_lowered p f).nodes) _ ∙ length-map (main_lowered p f).nodes node_of) in
    let ss : IsPermutation out.ss (stores_below (flow_of g) run Main b.inputs (node_count b)) =
    subst (λ n. IsPermutation out.ss (stores_below (flow_of g) run Main (length f.params) n)) (sym long) out.stored in
    record {
      outputs = out.vs;
      stores = out.ss;
      main = record { main = f; named = main.1; runs = out.evaluated };
      shown = outputs_shown (flow_of g) inputs run s r st b out.vs eb out.have;
      filled = cells_filled (flow_of g) inputs run s r st b eb out.ss ss;
      once = cells_filled_once (flow_of g) inputs run s r st b eb out.ss ss;
    }

-- ALL OF IT
functions_are_placed : FunctionsArePlaced
functions_are_placed = places_from_origins origins_are_traced

parts_keep_meaning : PartsKeepMeaning
parts_keep_meaning = parts_from_places functions_are_placed

pub lowering_keeps_meaning : LoweringKeepsMeaning
lowering_keeps_meaning = meaning_from_parts functions_are_placed parts_keep_meaning

pub texts_keep_meaning : TextsKeepMeaning
texts_keep_meaning text p g origin low well inputs count s rests =
    lowering_keeps_meaning p g origin
    (record { lowered = low.lowered; apart = spellings_differ text low.tokens p low.spelled (tokens_rise text low.tokens low.read) }) well inputs count s rests

pub machines_show_programs : MachinesShowPrograms
machines_show_programs text p g origin low well inputs count m exact none = record {
  memory = exact.state.memory;
  seen = exact.seen;
  computes =
      texts_keep_meaning text p g origin low well inputs count exact.state
      (record {
        reached = exact.reached;
        at_rest = exact.at_rest;
        no_clash = λ x h. exact.no_clash exact.state x exact.reached h;
        none_waits = sum_of_zeros (sum (flow_of g).arrays) (λ x. fetch_count (flow_of g) x exact.state.tokens) (λ x. sym (exact.readers x) ∙ none x);
      });
}
