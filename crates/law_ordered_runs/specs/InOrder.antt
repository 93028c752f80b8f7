-- ONE ITERATION AFTER ANOTHER, and programs that read each cell behind the store that fills it.
use Rattle.std.specs.Prelude.{◌≡◌, ℕ, ◌<◌, ◌≤◌, ℤ, List, [], ◌∷◌, ◌++◌, Some, slice_get}
use Rattle.tags.specs.declared.value.Value.{Value}
use Rattle.tags.specs.declared.value.Origin.{Origin}
use Rattle.operators.specs.Values.{Indexed, Place, Outside}
use Rattle.semantics.specs.Graph.{Graph, Flow, flow_of}
use Rattle.semantics.specs.WellFormed.{WellFormed}
use Rattle.semantics.specs.Meaning as Meaning
use Rattle.semantics.specs.Meaning.{Context, Turned, State, Activity, Run, start, node_of}
use Rattle.source.specs.Tree.{Expr, Exprs, Body, Turn, Program}
use Rattle.source.specs.Evaluates as eval
use Rattle.source.specs.Evaluates.{World, Env, Stores, place_in, Evaluates, EvaluatesAll, Runs, number, named, bracket, prefix, infix_, fetch, store, call}
use Rattle.source.specs.Evaluates.{if_true, if_false, loop, one, more, lets, does, gives, chain, leaves, goes, ends, again}
use Rattle.source.specs.Theorem.{Computes, RestsWell}
use Rattle.law_confluence.specs.Outcome.{AreInputsOf}
use Rattle.law_loops_complete.specs.Within.{place_of, IsIn, HasBound, KeepsWithin}
use Rattle.law_language.specs.MeansTheorem.{IsLoweredText}

-- The iterations of each loop take place one after another: all of one before any of a later one.
abbrev pub OneAfterAnother : List Activity → Type 0
OneAfterAnother run = (c : Context) (n t u i j : ℕ) (a b : Activity) → t < u
    → slice_get run i ≡ Some a → IsIn (Turned c n t) (place_of a) → slice_get run j ≡ Some b → IsIn (Turned c n u) (place_of b) → i ≤ j

-- One after another, iterations keep within each bound of at least 2.
abbrev pub OneAfterAnotherKeeps : Type 0
OneAfterAnotherKeeps = (fl : Flow) (run : List Activity) → OneAfterAnother run → ((c : Context) (n k : ℕ) → HasBound (node_of fl c n) k → 2 ≤ k)
    → KeepsWithin fl run

-- WHAT AN EVALUATION DOES AT CELLS, in the order of its parts in the text, iteration after iteration
pub data Touch : Type 0 where
  Reads : (cell : ℕ) → Touch
  Fills : (cell : ℕ) → Touch

abbrev pub reading : Indexed → List Touch
reading (Outside fault) = []
reading (Place x) = Reads x ∷ []

abbrev pub filling : Indexed → List Touch
filling (Outside fault) = []
filling (Place x) = Fills x ∷ []

abbrev mutual
  pub touches : {w : World} {env : Env} {e : Expr} {vs : List Value} {ss : Stores} → Evaluates w env e vs ss → List Touch
  touches number = []
  touches (named b) = []
  touches (bracket d) = touches d
  touches (prefix d) = touches d
  touches (infix_ d c) = touches d ++ touches c
  touches {w = w} (fetch {t = t} {a = a} {i = i} d r) = touches d ++ reading (place_in w t a i)
  touches {w = w} (store {t = t} {a = a} {i = i} d c) = touches d ++ touches c ++ filling (place_in w t a i)
  touches (call d found c) = list_touches d ++ body_touches c
  touches (if_true d test c) = touches d ++ body_touches c
  touches (if_false d test c) = touches d ++ body_touches c
  touches (loop d c) = list_touches d ++ turn_touches c

  pub list_touches : {w : World} {env : Env} {es : Exprs} {vs : List Value} {ss : Stores} → EvaluatesAll w env es vs ss → List Touch
  list_touches (one d) = touches d
  list_touches (more d c) = touches d ++ list_touches c

  pub body_touches : {w : World} {env : Env} {b : Body} {vs : List Value} {ss : Stores} → Runs w env b vs ss → List Touch
  body_touches (lets d c) = list_touches d ++ body_touches c
  body_touches (does d c) = list_touches d ++ body_touches c
  body_touches (gives d) = list_touches d
  body_touches (chain d) = touches d

  -- from the values that an iteration has to those that the loop gives
  pub turn_touches : {w : World} {env : Env} {t : Turn} {vs rs : List Value} {ss : Stores} → eval.Turns w env t vs rs ss → List Touch
  turn_touches (leaves d test) = touches d
  turn_touches (goes d test c next) = touches d ++ body_touches c ++ turn_touches next
  turn_touches (ends c d test) = body_touches c ++ touches d
  turn_touches (again c d test next) = body_touches c ++ touches d ++ turn_touches next

-- each cell that is read was filled before
abbrev pub ReadsBehindStores : List Touch → Type 0
ReadsBehindStores ts = (i x : ℕ) → slice_get ts i ≡ Some (Reads x) → (j : ℕ) × (j < i) × (slice_get ts j ≡ Some (Fills x))

-- THEN THE MEANING COMES TO REST. The meaning of the program's graph has a run to rest, with no second store, with no fetch waiting, and with all outputs
-- and cells that the program computes, and no others. In it the iterations of each loop take place one after another.
pub record RunsInOrder (g : Graph) (inputs : List ℤ) (m : Meaning.Memory) : Type 0 where
  pub run : List Activity
  pub state : State
  pub is_run : Run (flow_of g) (start inputs) run state
  pub rests : RestsWell (flow_of g) inputs state
  pub outputs : (j : ℕ) → state.memory.outputs j ≡ m.outputs j
  pub cells : (x : ℕ) → state.memory.cells x ≡ m.cells x
  pub ordered : OneAfterAnother run

-- of a text's program
abbrev pub ProgramsRunInOrder : Type 0
ProgramsRunInOrder = (text : List ℕ) (p : Program) (g : Graph) (origin : ℕ → Origin) → IsLoweredText text p g origin → WellFormed g
    → (inputs : List ℤ) → AreInputsOf g inputs → (m : Meaning.Memory) (k : Computes p origin inputs m) → ReadsBehindStores (body_touches k.main.runs)
    → RunsInOrder g inputs m
