-- What holds of the meaning of a well-formed graph on as many inputs as main has: no two tokens of a run at one place,
-- local confluence, determinacy, and what the contracts of compiled code take from them.
use Rattle.std.proofs.Common.{◌≡◌, ℕ, ℤ, List, ◌++◌, length, flat_map}
use Rattle.semantics.specs.Graph.{Graph, flow_of}
use Rattle.semantics.specs.WellFormed.{WellFormed}
use Rattle.semantics.specs.Meaning.{Tagged, State, Activity, taken, Step, Run, Reached, AtRest, Clashes, Stood, start, fetch_count}
use Rattle.semantics.specs.Machine as Machine
use Rattle.semantics.specs.Machine.{reader_count}
use Rattle.semantics.specs.Faithful.{inputs_of, IsExact, IsSecondStore}
use Rattle.semantics.specs.Cause.{SameSeen}
use Rattle.law_confluence.proofs.ActivityKeys.{Unique, unique_same, tags_differ}
use Rattle.law_confluence.proofs.ActivityDiamond.{Diamond, diamond}
use Rattle.law_confluence.proofs.History.{once, unique_tokens, flow_determinate, stood_ever}
use Rattle.lemmas.proofs.Permutations.{Within}
use Rattle.law_confluence.proofs.HistoryRuns.{activity_once, shows_once, run_cells, run_outputs}
use Rattle.law_confluence.proofs.HistoryDue.{stood_due}
use Rattle.std.proofs.Common.{Some, slice_get}
use Rattle.tags.specs.declared.value.Value.{Value}
use Rattle.semantics.specs.Meaning.{Outputs, Due}
use Rattle.law_confluence.proofs.OutcomeResolved.{flow_well, fits}
use Rattle.law_confluence.specs.Outcome.{SameTag, TagsDiffer, tokens_of_run, IsOnlyOutcome, NoClash}

module _ (g : Graph) (well : WellFormed g) (inputs : List ℤ) (count : length inputs ≡ inputs_of (flow_of g)) where
  -- In a whole run no two tokens, taken or left, are at one place.
  pub each_place_once : (s : State) (run : List Activity) → Run (flow_of g) (start inputs) run s → Unique (flat_map taken run ++ s.tokens)
  each_place_once s run r = once (flow_of g) (flow_well g well) inputs (fits g well inputs count) s run r

  pub unique_tags : (run : List Activity) (s : State) → Run (flow_of g) (start inputs) run s → TagsDiffer (tokens_of_run run s)
  unique_tags run s r = tags_differ (tokens_of_run run s) (each_place_once s run r)

  -- Two tokens that were present at one place in a run are one.
  pub stood_once : (s : State) (run : List Activity) (r : Run (flow_of g) (start inputs) run s) (t u : Tagged)
      → Stood (flow_of g) (start inputs) run s r t → Stood (flow_of g) (start inputs) run s r u → SameTag t u → t ≡ u
  stood_once s run r t u h k same =
      unique_same (flat_map taken run ++ s.tokens) (each_place_once s run r) t u (stood_ever (flow_of g) (start inputs) s run r t h)
      (stood_ever (flow_of g) (start inputs) s run r u k) same

  -- Two activities of a run that take from one place are one: so a node fires at most once in a context.
  pub each_activity_once : (s : State) (run : List Activity) → Run (flow_of g) (start inputs) run s → (i j : ℕ) (a b : Activity) (x y : Tagged)
      → slice_get run i ≡ Some a → slice_get run j ≡ Some b → Within x (taken a) → Within y (taken b) → SameTag x y → i ≡ j
  each_activity_once s run r i j a b x y e f h k same = activity_once run s.tokens (each_place_once s run r) i j a b x y e f h k same

  -- A result of main goes to an output that is not filled.
  pub each_output_once : (s t : State) (j : ℕ) (v w : Value) → Reached (flow_of g) inputs s → Step (flow_of g) (Outputs j v) s t → s.memory.outputs j ≡ Some w
      → ⊥
  each_output_once s t j v w r p e = shows_once (flow_of g) inputs s t r.run j v w r.is_run (each_place_once s r.run r.is_run) p e

  -- An invocation with a token that was present in a run is due in that run.
  pub standing_due : (s : State) (run : List Activity) (r : Run (flow_of g) (start inputs) run s) (t : Tagged) → Stood (flow_of g) (start inputs) run s r t
      → Due (flow_of g) run (Stood (flow_of g) (start inputs) run s r) t.context
  standing_due s run r t h = stood_due (flow_of g) (flow_well g well) inputs (fits g well inputs count) s run r t h

  pub reached_unique : (s : State) → Reached (flow_of g) inputs s → Unique s.tokens
  reached_unique s r = unique_tokens (flow_of g) (flow_well g well) inputs (fits g well inputs count) s r

  -- Two activities of a reached state are one, or lead to one state in both orders, or are stores to one cell.
  pub local_confluence : (s t u : State) (a b : Activity) → Reached (flow_of g) inputs s → Step (flow_of g) a s t → Step (flow_of g) b s u
      → Diamond (flow_of g) a b t u
  local_confluence s t u a b r p q = diamond (flow_of g) s t u a b (reached_unique s r) p q

  -- A reached state that is at rest without a clash is where all leads, and nothing reached clashes.
  pub determinacy : (s : State) → Reached (flow_of g) inputs s → AtRest (flow_of g) s → NoClash (flow_of g) s → IsOnlyOutcome (flow_of g) inputs s
  determinacy s r rest quiet =
      let all = flow_determinate (flow_of g) (flow_well g well) inputs (fits g well inputs count) s r rest quiet in
      record {
        leads = all.leads;
        cells = λ other x v reached e. run_cells (flow_of g) other s (all.leads other reached).0 (all.leads other reached).1 x v e;
        outputs =
            λ other j v reached e. run_outputs (flow_of g) inputs each_place_once other s reached.run (all.leads other reached).0 reached.is_run
            (all.leads other reached).1 j v e;
        no_clash = all.no_clash;
        one_end = all.one_end;
        no_longer = all.no_longer;
        same_length = all.same_length;
      }

  -- So a machine that shows such a state shows just what the graph means.
  pub exact_from : (m : Machine.Machine) (s : State) → Reached (flow_of g) inputs s → SameSeen m.store s.memory → AtRest (flow_of g) s → NoClash (flow_of g) s
      → ((x : ℕ) → reader_count (m.store.cells x) ≡ fetch_count (flow_of g) x s.tokens) → IsExact (flow_of g) inputs m
  exact_from m s r seen rest quiet readers =
      let d = determinacy s r rest quiet in
      record { state = s; reached = r; seen = seen; at_rest = rest; only = d.leads; no_clash = d.no_clash; readers = readers }

  -- And where some reached state clashes, none is at rest without a clash.
  pub second_store_from : (s : State) (x : ℕ) → Reached (flow_of g) inputs s → Clashes (flow_of g) s x → IsSecondStore (flow_of g) inputs x
  second_store_from s x r clash = record {
    state = s;
    reached = r;
    clashes = clash;
    always = λ o reached rest quiet. (determinacy o reached rest quiet).no_clash s x r clash;
  }
