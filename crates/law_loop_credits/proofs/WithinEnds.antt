-- Where the meaning of a graph rests well no token is left, and each input of each invocation that is due has passed.
use Rattle.std.proofs.Common.{subst, ap, ℕ, ◌<◌, ℤ, List, [], ◌∷◌, flat_map}
use Rattle.std.specs.Prelude.{Contains}
use Rattle.lemmas.proofs.Permutations.{within_to}
use Rattle.tags.specs.declared.value.Value.{Value}
use Rattle.semantics.specs.Graph.{Block, Graph, Flow, flow_of}
use Rattle.semantics.specs.WellFormed.{WellFormed}
use Rattle.semantics.specs.Meaning.{Context, State, Activity, Fires, Run, Stood, Due, start, taken}
use Rattle.source.specs.Theorem.{RestsWell}
use Rattle.law_confluence.specs.Outcome.{AreInputsOf}
use Rattle.law_confluence.proofs.Equations.{runs_at_rest}
use Rattle.law_confluence.proofs.EquationsGraphFormed.{shaped, main_block}
use Rattle.law_confluence.proofs.EquationsNoneWaits.{none_waits}
use Rattle.law_confluence.proofs.EquationsProgressDues.{Open, due_open}
use Rattle.law_confluence.proofs.EquationsProgressNodes.{input_fires}
use Rattle.law_confluence.proofs.EquationsRunHappens.{happens}
use Rattle.law_confluence.proofs.EquationsRunRested.{Rested}
use Rattle.law_confluence.proofs.History.{Ever, run_lawful, stood_ever}
use Rattle.law_confluence.proofs.HistoryDue.{ever_stood}
use Rattle.law_confluence.proofs.HistoryLaws.{lawful_more}
use Rattle.law_confluence.proofs.Outcome.{each_place_once, standing_due}
use Rattle.law_confluence.proofs.OutcomeResolved.{flow_well, fits}
use Rattle.law_net.specs.Contexts.{or_none, block_in}
use Rattle.law_loop_credits.specs.NetsWait.{EndsWell}

module _ (g : Graph) (well : WellFormed g) (inputs : List ℤ) (fit : AreInputsOf g inputs) where
  abbrev fl : Flow
  fl = flow_of g

  module _ (s : State) (run : List Activity) (r : Run (flow_of g) (start inputs) run s) (rests : RestsWell (flow_of g) inputs s) where
    abbrev ended : Rested
    ended = record {
      flow = fl;
      inputs = inputs;
      run = run;
      state = s;
      is_run = r;
      well = flow_well g well;
      shaped = shaped g well;
      main = (main_block g well inputs fit).0;
      is_main = (main_block g well inputs fit).1;
      count = (main_block g well inputs fit).2;
      unique = each_place_once g well inputs fit s run r;
      lawful = λ x h.
          lawful_more fl (Ever (flat_map taken run) s.tokens) (Stood fl (start inputs) run s r) (ever_stood fl (start inputs) s run r) x
          (run_lawful fl (flow_well g well) inputs (fits g well inputs fit) s run r x (stood_ever fl (start inputs) s run r x h));
      due = λ x h. standing_due g well inputs fit s run r x h;
      happens = λ a d e h. happens g well inputs fit run s r rests.at_rest rests.no_clash (none_waits fl s.tokens rests.none_waits) a d e h;
    }

    passes : (c : Context) → Due fl run (Stood fl (start inputs) run s r) c → (l : ℕ) → l < (block_in fl c).inputs
        → (v : Value) × Contains run (Fires c l (v ∷ []))
    passes c due l low =
        let o : Open ended c = due_open ended c due in
        let below : l < o.block.inputs = subst (λ (b : Block ℕ). l < b.inputs) (ap or_none o.is_block) low in
        let x = o.came l below in
        (x.0, within_to (Fires c l (x.0 ∷ [])) run (input_fires ended c o.block o.is_block l x.0 below x.1))

  pub ends_well : EndsWell (flow_of g) inputs
  ends_well = record {
    none_left = λ s rests.
        (runs_at_rest g inputs well fit rests.reached.run s rests.reached.is_run rests.at_rest rests.no_clash
        (none_waits fl s.tokens rests.none_waits)).no_tokens;
    passes = λ s run r rests c due l low. passes s run r rests c due l low;
  }
