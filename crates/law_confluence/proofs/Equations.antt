-- All of it: once a run of a well-formed graph is at rest, with no second store and no waiting fetch, its values satisfy the equations.
use Rattle.std.proofs.Common.{◌≡◌, ℕ, ◌≤◌, ℤ, List, [], ◌∷◌, length, Option, Some, None, refl, sym, ◌∙◌, subst, flat_map}
use Rattle.std.specs.Prelude.{slice_get}
use Rattle.tags.specs.declared.value.Value.{Value}
use Rattle.semantics.specs.declared.graph.Source.{Source}
use Rattle.operators.specs.Values.{Outside, index_in}
use Rattle.semantics.specs.declared.graph.Kind.TheVariants.{Store}
use Rattle.semantics.specs.Graph.{Node, Block, Graph, array_len, flow_of}
use Rattle.semantics.specs.WellFormed.{WellFormed}
use Rattle.semantics.specs.Meaning.{Context, Main, AtNode, Operand, tagged, State, Activity, Fires, Outputs, taken, Puts, Run, Stood, Due, AtRest, start}
use Rattle.semantics.specs.Meaning.{block_of, node_in, node_of, origin_at}
use Rattle.lemmas.proofs.Permutations.{Within, within_from}
use Rattle.law_confluence.specs.Outcome.{AreInputsOf, NoClash}
use Rattle.law_confluence.proofs.History.{Ever, run_lawful, stood_ever}
use Rattle.law_confluence.proofs.HistoryDue.{ever_stood}
use Rattle.law_confluence.proofs.HistoryLaws.{lawful_more}
use Rattle.law_confluence.proofs.OutcomeResolved.{flow_well, fits}
use Rattle.law_confluence.proofs.Outcome.{each_place_once, standing_due}
use Rattle.law_confluence.specs.EquationsContexts.{depth}
use Rattle.law_confluence.specs.EquationsHave.{Gives, Stored, stores_of, result_in}
use Rattle.law_confluence.specs.Equations.{IsDue}
use Rattle.semantics.specs.Machine.{Machine}
use Rattle.semantics.specs.Faithful.{IsExact, NoReader}
use Rattle.law_confluence.specs.EquationsSettled.{Settled, NoneWaits}
use Rattle.law_confluence.specs.EquationsShown.{ShowsSettled}
use Rattle.law_confluence.proofs.EquationsRunHappens.{happens}
use Rattle.law_confluence.proofs.EquationsGraphFormed.{shaped, main_block}
use Rattle.law_confluence.proofs.EquationsRunRested.{Rested, Came}
use Rattle.law_confluence.proofs.EquationsRunDepth.{shallow}
use Rattle.law_confluence.proofs.EquationsRunUses.{result_came}
use Rattle.law_confluence.proofs.EquationsRunOrigins.{HasSomeIn, ResultIn, took_all, result_from}
use Rattle.law_confluence.proofs.EquationsProgressDues.{taken_given, active}
use Rattle.law_confluence.proofs.EquationsValuesGivers.{one_value}
use Rattle.law_confluence.proofs.EquationsValuesEqual.{equations}
use Rattle.law_confluence.proofs.EquationsValuesSilent.{silent_invocations, silent_arms, silent_ports, decided}
use Rattle.law_confluence.proofs.EquationsEndCells.{cells_stored, stored_cells, stored_once, node_stores_once}
use Rattle.law_confluence.proofs.EquationsEndIndexes.{index_taken}
use Rattle.law_confluence.proofs.EquationsEndOutputs.{shown, shows}
use Rattle.law_confluence.proofs.EquationsEndTokens.{no_tokens}

-- what is known of such a run
pub rested : (g : Graph) (inputs : List ℤ) → WellFormed g → AreInputsOf g inputs → (run : List Activity) (s : State) → Run (flow_of g) (start inputs) run s
    → AtRest (flow_of g) s → NoClash (flow_of g) s → NoneWaits (flow_of g) s → Rested
rested g inputs well count run s r rests quiet none =
    let main = main_block g well inputs count in
    record {
      flow = flow_of g;
      inputs = inputs;
      run = run;
      state = s;
      is_run = r;
      well = flow_well g well;
      shaped = shaped g well;
      main = main.0;
      is_main = main.1;
      count = main.2;
      unique = each_place_once g well inputs count s run r;
      lawful = λ x h.
          lawful_more (flow_of g) (Ever (flat_map taken run) s.tokens) (Stood (flow_of g) (start inputs) run s r)
          (ever_stood (flow_of g) (start inputs) s run r) x
          (run_lawful (flow_of g) (flow_well g well) inputs (fits g well inputs count) s run r x (stood_ever (flow_of g) (start inputs) s run r x h));
      due = λ x h. standing_due g well inputs count s run r x h;
      happens = λ a d e h. happens g well inputs count run s r rests quiet none a d e h;
    }

module _ (z : Rested) where
  outputs_results : (j : ℕ) (v : Value) → z.state.memory.outputs j ≡ Some v → ResultIn z Main j v
  outputs_results j v e = (result_from z Main j v (took_all z (Outputs j v) (shown z j v e)).0).0

  results_outputs : (j : ℕ) (v : Value) → ResultIn z Main j v → z.state.memory.outputs j ≡ Some v
  results_outputs j v h = go (slice_get z.main.results j) refl (subst (λ o. HasSomeIn z Main (result_in o j) v) z.is_main h)
    where
      go : (o : Option Source) → slice_get z.main.results j ≡ o → HasSomeIn z Main o v → z.state.memory.outputs j ≡ Some v
      go None e h = absurd h
      go (Some s) e h =
          let came = result_came z Main z.main j s v z.is_main e (λ h. h) h in
          shows z j v (z.happens (Outputs j v) (Puts j v) refl (came, tt))

  pub settled : Settled z.flow z.inputs z.run z.state z.is_run
  settled = record {
    given = λ c n p due taken low. taken_given z c n p due taken low;
    one_value = λ c n p v w h k. one_value z c n p v w h k;
    equations = λ c n p v h. equations z c n p v h;
    decided = λ c k line due taken e kind. decided z c k line due taken e kind;
    silent_invocations = λ c n p v h. silent_invocations z c n p v h;
    silent_arms = λ c n p v h. silent_arms z c n p v h;
    silent_ports = λ c n p v h. silent_ports z c n p v h;
    active = λ c due. active z c due;
    cells_stored = λ x v e. cells_stored z x v e;
    stored_cells = λ w h. stored_cells z w h;
    stored_once = λ i j u w e f same. stored_once z i j u w e f same;
    node_stores_once = λ i j u w e f cs ns. node_stores_once z i j u w e f cs ns;
    outputs_results = λ j v e. outputs_results j v e;
    results_outputs = λ j v h. results_outputs j v h;
    no_tokens = no_tokens z;
  }

pub runs_at_rest : (g : Graph) (inputs : List ℤ) → WellFormed g → AreInputsOf g inputs
    → (run : List Activity) (s : State) (r : Run (flow_of g) (start inputs) run s)
    → AtRest (flow_of g) s → NoClash (flow_of g) s → NoneWaits (flow_of g) s → Settled (flow_of g) inputs run s r
unfolding rested
runs_at_rest g inputs well count run s r rests quiet none = settled (rested g inputs well count run s r rests quiet none)

-- An invocation that is due lies no deeper than the run is long.
due_within : (z : Rested) (c : Context) → Due z.flow z.run (Came z) c → depth c ≤ length z.run
due_within z c due =
    let a = active z c due in
    shallow z (tagged c (AtNode 0) (Operand 0) a.0) (took_all z (Fires c 0 (a.0 ∷ [])) (within_from (Fires c 0 (a.0 ∷ [])) z.run a.1)).0

pub due_shallow : (g : Graph) (inputs : List ℤ) (well : WellFormed g) (count : AreInputsOf g inputs) (run : List Activity) (s : State)
    (r : Run (flow_of g) (start inputs) run s)
    → AtRest (flow_of g) s → NoClash (flow_of g) s → NoneWaits (flow_of g) s → (c : Context) → IsDue (flow_of g) inputs run s r c → depth c ≤ length run
unfolding rested
due_shallow g inputs well count run s r rests quiet none c due = due_within (rested g inputs well count run s r rests quiet none) c due

-- A store that happens took an index that its first source has, and that names a cell.
stores_well : (z : Rested) (c : Context) (n : ℕ) (line : Node ℕ) (a : ℕ) (x : Source) → node_of z.flow c n ≡ Some line → line.kind ≡ Store a
    → slice_get line.sources 0 ≡ Some x
    → (w : Stored) → Within w (stores_of z.flow z.run) → w.context ≡ c → w.node ≡ n
    → (i : Value) × Gives z.flow z.run z.state.memory c x.node x.port i
    × ((fault : Value) → index_in (array_len z.flow a) i (origin_at z.flow c n) ≡ Outside fault → ⊥)
stores_well z c n line a x el ek ex w h ec en = go (block_of z.flow c) refl el
  where
    go : (o : Option (Block ℕ)) → block_of z.flow c ≡ o → node_in o n ≡ Some line
        → (i : Value) × Gives z.flow z.run z.state.memory c x.node x.port i
        × ((fault : Value) → index_in (array_len z.flow a) i (origin_at z.flow c n) ≡ Outside fault → ⊥)
    go None eb f = cc
    go (Some b) eb f = index_taken z c n b line a x eb f ek ex w h ec en

pub store_indexes : (g : Graph) (inputs : List ℤ) (well : WellFormed g) (count : AreInputsOf g inputs) (run : List Activity) (s : State)
    (r : Run (flow_of g) (start inputs) run s)
    → AtRest (flow_of g) s → NoClash (flow_of g) s → NoneWaits (flow_of g) s
    → (c : Context) (n : ℕ) (line : Node ℕ) (a : ℕ) (x : Source) → node_of (flow_of g) c n ≡ Some line → line.kind ≡ Store a → slice_get line.sources 0 ≡ Some x
    → (w : Stored) → Within w (stores_of (flow_of g) run) → w.context ≡ c → w.node ≡ n
    → (i : Value) × Gives (flow_of g) run s.memory c x.node x.port i
    × ((fault : Value) → index_in (array_len (flow_of g) a) i (origin_at (flow_of g) c n) ≡ Outside fault → ⊥)
unfolding rested
store_indexes g inputs well count run s r rests quiet none c n line a x el ek ex w h ec en =
    stores_well (rested g inputs well count run s r rests quiet none) c n line a x el ek ex w h ec en

-- what a machine shows that has just what the graph means, with no reader
pub machines_show : (g : Graph) (inputs : List ℤ) → WellFormed g → AreInputsOf g inputs → (m : Machine) → IsExact (flow_of g) inputs m → NoReader m
    → ShowsSettled (flow_of g) inputs m
machines_show g inputs well count m exact none = record {
  run = exact.reached.run;
  state = exact.state;
  is_run = exact.reached.is_run;
  seen = exact.seen;
  settled =
      runs_at_rest g inputs well count exact.reached.run exact.state exact.reached.is_run exact.at_rest (λ x. exact.no_clash exact.state x exact.reached)
      (λ x. sym (exact.readers x) ∙ none x);
}
