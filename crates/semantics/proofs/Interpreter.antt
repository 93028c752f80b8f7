-- An interpreter of the meaning, for the examples: it takes one activity after another, with the first token that can act
-- or with the last one.
use Rattle.std.proofs.Common.{◌≡◌, ℕ, zero, suc, ◌+◌, Bool, true, false, ◌&&◌, ℤ, List, [], ◌∷◌, ◌++◌, length, Option, Some, None}
use Rattle.std.specs.Prelude.{if◌then◌else◌, ◌==◌, slice_get}
use Rattle.tags.specs.declared.value.Value.{Value}
use Rattle.semantics.specs.declared.graph.Region.TheVariants.{Root, Arm}
use Rattle.semantics.specs.declared.graph.Source.{Source}
use Rattle.semantics.specs.declared.graph.Kind.{Kind}
use Rattle.semantics.specs.declared.graph.Kind.TheVariants.{Enter, Merge, Call, Loop}
use Rattle.semantics.specs.Graph.{Node, Block, Flow}
use Rattle.semantics.specs.Meaning.{Context, Main, Called, Turned, Statement, AtNode, AtOut, AtTurn, Port, Operand, Predicate, Flag, Carried}
use Rattle.semantics.specs.Meaning.{Tagged, State, start, Activity, Fires, Gates, Passes, Returns, Turns, Outputs, taken, Effect, effect, node_of}

-- TAGS
abbrev same_context : Context → Context → Bool
same_context Main Main = true
same_context (Called c n) (Called d m) = (n == m) && same_context c d
same_context (Turned c n i) (Turned d m j) = (n == m) && (i == j) && same_context c d
same_context c d = false

abbrev same_statement : Statement → Statement → Bool
same_statement (AtNode n) (AtNode m) = n == m
same_statement (AtOut n) (AtOut m) = n == m
same_statement (AtTurn n) (AtTurn m) = n == m
same_statement s t = false

abbrev same_port : Port → Port → Bool
same_port (Operand n) (Operand m) = n == m
same_port Predicate Predicate = true
same_port Flag Flag = true
same_port Carried Carried = true
same_port p q = false

abbrev is_at : Context → Statement → Port → Tagged → Bool
is_at c s p t = same_context c t.context && same_statement s t.statement && same_port p t.port

-- the value of the token there, and the tokens without it
abbrev found : Context → Statement → Port → List Tagged → Option Value
found c s p [] = None
found c s p (t ∷ ts) = if is_at c s p t then Some t.value else found c s p ts

abbrev without : Context → Statement → Port → List Tagged → List Tagged
without c s p [] = []
without c s p (t ∷ ts) = if is_at c s p t then ts else t ∷ without c s p ts

abbrev without_all : List Tagged → List Tagged → List Tagged
without_all [] ts = ts
without_all (t ∷ us) ts = without_all us (without t.context t.statement t.port ts)

-- THE ACTIVITY OF A TOKEN, if all that it takes is there
abbrev and_also : Option Value → Option (List Value) → Option (List Value)
and_also (Some v) (Some vs) = Some (v ∷ vs)
and_also (Some v) None = None
and_also None vs = None

abbrev operands : Context → ℕ → ℕ → ℕ → List Tagged → Option (List Value)
operands c n zero from ts = Some []
operands c n (suc k) from ts = and_also (found c (AtNode n) (Operand from) ts) (operands c n k (from + 1) ts)

abbrev fires : Context → ℕ → Option (List Value) → Option Activity
fires c n None = None
fires c n (Some vs) = Some (Fires c n vs)

abbrev gates : Context → ℕ → Option Value → Option Value → Option Activity
gates c n (Some v) (Some b) = Some (Gates c n v b)
gates c n v b = None

abbrev turns : Context → ℕ → ℕ → ℕ → Option Value → Option Value → Option Activity
turns c n i j (Some b) (Some v) = Some (Turns c n i j b v)
turns c n i j b v = None

abbrev of_kind : Kind ℕ → Context → ℕ → ℕ → Port → Value → List Tagged → Option Activity
of_kind Enter c n k p v ts = gates c n (found c (AtNode n) (Operand 0) ts) (found c (AtNode n) Predicate ts)
of_kind (Merge q) c n k (Operand i) v ts = Some (Passes c n i v)
of_kind (Call f) c n k (Operand i) v ts = Some (Passes c n i v)
of_kind (Loop f b) c n k (Operand i) v ts = Some (Passes c n i v)
of_kind q c n k p v ts = fires c n (operands c n k 0 ts)

abbrev of_node : Option (Node ℕ) → Context → ℕ → Port → Value → List Tagged → Option Activity
of_node None c n p v ts = fires c n (operands c n 1 0 ts)
of_node (Some x) c n p v ts = of_kind x.kind c n (length x.sources) p v ts

abbrev of_result : Context → ℕ → Value → Option Activity
of_result Main j v = Some (Outputs j v)
of_result (Called c n) j v = Some (Returns c n j v)
of_result (Turned c n i) j v = None

abbrev of_turn : Context → ℕ → List Tagged → Option Activity
of_turn (Turned c n i) j ts = turns c n i j (found (Turned c n i) (AtTurn j) Flag ts) (found (Turned c n i) (AtTurn j) Carried ts)
of_turn c j ts = None

abbrev of_statement : Flow → Statement → List Tagged → Tagged → Option Activity
of_statement fl (AtNode n) ts t = of_node (node_of fl t.context n) t.context n t.port t.value ts
of_statement fl (AtOut j) ts t = of_result t.context j t.value
of_statement fl (AtTurn j) ts t = of_turn t.context j ts

-- ONE ACTIVITY, if the graph and the memory allow it
abbrev done_with : Activity → State → Option Effect → Option State
done_with a s None = None
done_with a s (Some e) = Some record { tokens = without_all (taken a) s.tokens ++ e.added; memory = e.memory }

abbrev done_by : Flow → State → Option Activity → Option State
done_by fl s None = None
done_by fl s (Some a) = done_with a s (effect fl s.memory a)

abbrev next : Flow → State → List Tagged → Option State
next fl s [] = None
next fl s (t ∷ ts) = elim (done_by fl s (of_statement fl t.statement s.tokens t)) as (λ x. Option State) [ None ↦ next fl s ts | Some u ↦ Some u ]

abbrev reversed_on : List Tagged → List Tagged → List Tagged
reversed_on [] acc = acc
reversed_on (t ∷ ts) acc = reversed_on ts (t ∷ acc)

-- ALL ACTIVITIES, up to a number
abbrev pub first_first : ℕ → Flow → State → State
first_first zero fl s = s
first_first (suc n) fl s = elim (next fl s s.tokens) as (λ x. State) [ None ↦ s | Some u ↦ first_first n fl u ]

abbrev pub last_first : ℕ → Flow → State → State
last_first zero fl s = s
last_first (suc n) fl s = elim (next fl s (reversed_on s.tokens [])) as (λ x. State) [ None ↦ s | Some u ↦ last_first n fl u ]

-- WHAT IS SEEN of a state: main's outputs, the cells, and how many tokens are left
pub record Seen : Type 0 where
  pub outputs : List (Option Value)
  pub cells : List (Option Value)
  pub left : ℕ

abbrev values_from : ℕ → ℕ → (ℕ → Option Value) → List (Option Value)
values_from from zero m = []
values_from from (suc n) m = m from ∷ values_from (from + 1) n m

abbrev outputs_in : Option (Block ℕ) → ℕ
outputs_in None = 0
outputs_in (Some b) = b.outputs

abbrev total : List ℕ → ℕ
total [] = 0
total (n ∷ ns) = n + total ns

abbrev pub seen_in : Flow → State → Seen
seen_in fl s = record {
  outputs = values_from 0 (outputs_in (slice_get fl.blocks fl.main)) s.memory.outputs;
  cells = values_from 0 (total fl.arrays)
      s.memory.cells;
  left = length s.tokens;
}

abbrev pub seen : List (Option Value) → List (Option Value) → ℕ → Seen
seen outputs cells left = record { outputs = outputs; cells = cells; left = left }

-- Whichever token is taken first, the graph on these inputs ends in this state, in at most 400 activities.
abbrev pub ComesTo : Flow → List ℤ → Seen → Type 0
ComesTo fl inputs s = (seen_in fl (first_first 400 fl (start inputs)) ≡ s) × (seen_in fl (last_first 400 fl (start inputs)) ≡ s)

-- BUILDING GRAPHS
abbrev pub src : ℕ → ℕ → Source
src n p = record { node = n; port = p }

abbrev pub one : ℕ → List Source
one n = src n 0 ∷ []

abbrev pub two : ℕ → ℕ → List Source
two n m = src n 0 ∷ src m 0 ∷ []

abbrev pub root : Kind ℕ → List Source → Node ℕ
root k ss = record { region = Root; kind = k; sources = ss }

abbrev pub yes : ℕ → Kind ℕ → List Source → Node ℕ
yes c k ss = record { region = Arm c true; kind = k; sources = ss }

abbrev pub no : ℕ → Kind ℕ → List Source → Node ℕ
no c k ss = record { region = Arm c false; kind = k; sources = ss }

abbrev pub block : ℕ → ℕ → List (Node ℕ) → List Source → Block ℕ
block i o ns rs = record { inputs = i; outputs = o; nodes = ns; results = rs }

abbrev pub flow : ℕ → List ℕ → List (Block ℕ) → ℕ → Flow
flow v a bs m = record { version = v; arrays = a; blocks = bs; main = m }
