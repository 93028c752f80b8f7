-- WHERE SCOPE AND NAMES AGREE: what a name stands for in an evaluation is the value of its source in an invocation.
use Rattle.std.specs.Prelude.{◌≡◌, ⊤, ℤ, List, [], ◌∷◌, Some}
use Rattle.tags.specs.declared.value.Value.{Value}
use Rattle.semantics.specs.declared.graph.Source.{Source}
use Rattle.semantics.specs.Graph.{Flow}
use Rattle.semantics.specs.Meaning.{Context, State, Activity, Run, start}
use Rattle.law_confluence.specs.Equations.{Has}
use Rattle.source.specs.Tree.{Name}
use Rattle.source.specs.Evaluates.{Env, bound}
use Rattle.source.specs.Lowered.{Scope, source_in}

module _ (fl : Flow) (inputs : List ℤ) (run : List Activity) (s : State) (r : Run fl (start inputs) run s) where
  abbrev pub Knows : Context → Scope → Env → Name → Type 0
  Knows c scope env x = (v : Value) × (bound env x ≡ Some v) × Has fl inputs run s r c (source_in scope x) v

  -- each of these names is known; nothing is required of others
  abbrev pub Agrees : Context → Scope → Env → List Name → Type 0
  Agrees c scope env [] = ⊤
  Agrees c scope env (x ∷ xs) = Knows c scope env x × Agrees c scope env xs

  -- the sources have these values, one by one
  abbrev pub Have : Context → List Source → List Value → Type 0
  Have c [] [] = ⊤
  Have c [] (v ∷ vs) = ⊥
  Have c (x ∷ xs) [] = ⊥
  Have c (x ∷ xs) (v ∷ vs) = Has fl inputs run s r c x v × Have c xs vs
