-- Which tokens of the meaning an item stands for.
use Rattle.std.specs.Prelude.{ℕ, zero, suc, ◌+◌, List, [], ◌∷◌, flat_map, Option, Some, None}
use Rattle.tags.specs.declared.value.Value.{Value}
use Rattle.tags.specs.declared.token.Port.{Port}
use Rattle.tags.specs.declared.token.Port.TheVariants.{Left, Right}
use Rattle.semantics.specs.declared.graph.Kind.{Kind}
use Rattle.semantics.specs.declared.graph.Kind.TheVariants.{Cond, Loop}
use Rattle.semantics.specs.Graph.{Flow, Node}
use Rattle.semantics.specs.Meaning.{Context, Called, Turned, Statement, AtNode, AtOut, AtTurn, Operand, Predicate, Flag, Carried, Tagged, tagged, sent}
use Rattle.semantics.specs.Meaning.{block_of, node_of, predicates_in, operands_from}
use Rattle.law_net.specs.ContextsParts.{Part, Line, Answer, Gate, Merge, Sender, Landing, Result, TurnValue, NextSender, LastReturn, InCell, Shown, Note, Datum}
use Rattle.law_net.specs.ContextsParts.{Item}

abbrev pub operand : Context → ℕ → ℕ → Value → Tagged
operand c n i v = tagged c (AtNode n) (Operand i) v

-- SETTLED. A conditional's token has acted: there are its predicates instead.
abbrev pub settled_kind : Flow → Tagged → ℕ → Kind ℕ → List Tagged
settled_kind fl t n Cond = predicates_in (block_of fl t.context) t.context n t.value
settled_kind fl t n kind = t ∷ []

abbrev pub settled_node : Flow → Tagged → ℕ → Option (Node ℕ) → List Tagged
settled_node fl t n None = t ∷ []
settled_node fl t n (Some line) = settled_kind fl t n line.kind

abbrev pub settled_at : Flow → Tagged → Statement → List Tagged
settled_at fl t (AtNode n) = settled_node fl t n (node_of fl t.context n)
settled_at fl t s = t ∷ []

abbrev pub settled_sent : Flow → Context → ℕ → ℕ → Value → List Tagged
settled_sent fl c n p v = flat_map (λ (t : Tagged). settled_at fl t t.statement) (sent fl c n p v)

-- A call's result is still a token of the invocation; a loop's has already been sent.
abbrev pub landed_kind : Flow → Context → ℕ → ℕ → Value → Kind ℕ → List Tagged
landed_kind fl c n j v (Loop f k) = settled_sent fl c n j v
landed_kind fl c n j v kind = tagged (Called c n) (AtOut j) (Operand 0) v ∷ []

abbrev pub landed : Flow → Context → ℕ → ℕ → Value → Option (Node ℕ) → List Tagged
landed fl c n j v None = []
landed fl c n j v (Some line) = landed_kind fl c n j v line.kind

-- what goes to the next turn, and what leaves the loop
abbrev pub next_meant : Context → ℕ → Value → List Tagged
next_meant (Turned d n i) j v = operand (Turned d n (i + 1)) j 0 v ∷ []
next_meant c j v = []

abbrev pub last_meant : Flow → Context → ℕ → Value → List Tagged
last_meant fl (Turned d n i) j v = settled_sent fl d n j v
last_meant fl c j v = []

-- a value at an inlet
abbrev pub meant_at : Flow → Context → Part → Port → ℕ → Value → List Tagged
meant_at fl c (Line n) Left w v = operand c n 0 v ∷ []
meant_at fl c (Line n) Right w v = operand c n 1 v ∷ []
meant_at fl c (Gate n) Left w v = operand c n 0 v ∷ []
meant_at fl c (Gate n) Right w v = tagged c (AtNode n) Predicate v ∷ []
meant_at fl c (Merge n) q w v = operand c n w v ∷ []
meant_at fl c (Answer n) q w v = settled_sent fl c n 0 v
meant_at fl c (Sender n i) Right zero v = operand c n i v ∷ []
meant_at fl c (Sender n i) Right (suc w) v = operand (Called c n) i 0 v ∷ []
meant_at fl c (Landing n j) q w v = landed fl c n j v (node_of fl c n)
meant_at fl c (Result j) Right w v = tagged c (AtOut j) (Operand 0) v ∷ []
meant_at fl c (Shown j) q w v = tagged c (AtOut j) (Operand 0) v ∷ []
meant_at fl c (TurnValue j) Left w v = tagged c (AtTurn j) Carried v ∷ []
meant_at fl c (TurnValue j) Right w v = tagged c (AtTurn j) Flag v ∷ []
meant_at fl c (NextSender (suc j)) Right w v = next_meant c j v
meant_at fl c (LastReturn j) Right w v = last_meant fl c j v
meant_at fl c part q w v = []

abbrev pub meant_word : Flow → Context → Part → Port → ℕ → Note → List Tagged
meant_word fl c part q w (Datum v) = meant_at fl c part q w v
meant_word fl c part q w word = []

abbrev pub meant_by : Flow → Item → Part → List Tagged
meant_by fl i (InCell n) = operands_from i.context (AtNode n) 0 i.held
meant_by fl i part = meant_word fl i.context part i.inlet.port i.inlet.way i.word

abbrev pub meant : Flow → Item → List Tagged
meant fl i = meant_by fl i i.inlet.part
