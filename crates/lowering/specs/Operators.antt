-- OPERATORS, LITERALS AND CELLS in the machine: what each takes of the values so far, and its node.
use Rattle.std.specs.Prelude.{ℕ, ◌+◌, ◌-◌, Bool, true, List, [], ◌∷◌, ◌++◌, length, take, drop}
use Rattle.operators.specs.declared.Unary.{Unary}
use Rattle.operators.specs.declared.Unary.TheVariants.{Neg}
use Rattle.operators.specs.Values.{on_int}
use Rattle.semantics.specs.declared.graph.Source.{Source}
use Rattle.semantics.specs.declared.graph.Kind.{Kind}
use Rattle.semantics.specs.declared.graph.Kind.TheVariants as node
use Rattle.source.specs.Tree.{Name}
use Rattle.source.specs.Lowered.{Made, Lowered, Site, Spot, ports_from, made}
use Rattle.lowering.specs.State.{after, State}

-- all but the last so many, and these
abbrev pub before_last : ℕ → List Source → List Source
before_last n ss = take (length ss - n) ss

abbrev pub last_of : ℕ → List Source → List Source
last_of n ss = drop (length ss - n) ss

-- OPERATORS take the last so many values, and are one node.
abbrev pub one_node : Site → Spot → ℕ → Kind Name → List Source → ℕ → Lowered
one_node site spot at kind ss values = record { nodes = made site at kind ss ∷ []; sources = ports_from spot.next 0 values; blocks = [] }

-- a node, without its values; and values
abbrev pub with_node : State → ℕ → Kind Name → List Source → State
with_node s at kind ss = record s { spot = record { next = s.spot.next + 1; loops = s.spot.loops }; nodes = s.nodes ++ made s.site at kind ss ∷ [] }

abbrev pub with_sources : State → List Source → State
with_sources s ss = record s { sources = s.sources ++ ss }

abbrev pub operated : State → ℕ → Kind Name → ℕ → (List Source → List Source) → State
operated s at kind n order =
    after (record s { sources = before_last n s.sources }) (one_node s.site s.spot at kind (order (last_of n s.sources)) 1)

abbrev pub as_they_are : List Source → List Source
as_they_are ss = ss

-- A number with `-` directly after it is one literal, with the place of the sign.
abbrev pub minus : Kind Name → Kind Name
minus (node.Lit v) = node.Lit (on_int Neg v)
minus kind = kind

abbrev pub negated : ℕ → Made → Made
negated at m = record { at = at; node = record { region = m.node.region; kind = minus m.node.kind; sources = m.node.sources } }

abbrev pub last_negated : ℕ → List Made → List Made
last_negated at [] = []
last_negated at (m ∷ []) = negated at m ∷ []
last_negated at (m ∷ n ∷ ms) = m ∷ last_negated at (n ∷ ms)

abbrev pub prefix : State → ℕ → Unary → Bool → State
prefix s at Neg true = record s { nodes = last_negated at s.nodes }
prefix s at op b = operated s at (node.Apply1 op) 1 as_they_are
