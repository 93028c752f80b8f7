-- WHICH STORES A PART MAKES: those at its nodes, and those of the invocations that are made at its nodes.
use Rattle.std.specs.Prelude.{ℕ, ◌&&◌, nat_le, nat_lt, Bool, false, List, map, filter, Option, Some, None, if◌then◌else◌}
use Rattle.semantics.specs.Graph.{Flow}
use Rattle.semantics.specs.Meaning.{Context, Main, Called, Turned, Activity}
use Rattle.law_confluence.specs.EquationsContexts.{same_context}
use Rattle.law_confluence.specs.EquationsHave.{Stored, stores_of}
use Rattle.source.specs.Evaluates.{Stores}
use Rattle.tags.specs.declared.value.Value.{Value}

-- The node of c at which node n of d lies: it is that node, or the one that d was made at, or an invocation around d. There
-- is none where d is neither c nor made in c.
abbrev pub node_under : Context → Context → ℕ → Option ℕ
node_under c Main n = if same_context c Main then Some n else None
node_under c (Called d m) n = if same_context c (Called d m) then Some n else node_under c d m
node_under c (Turned d m t) n = if same_context c (Turned d m t) then Some n else node_under c d m

abbrev pub is_within : ℕ → ℕ → Option ℕ → Bool
is_within lo hi None = false
is_within lo hi (Some n) = nat_le lo n && nat_lt n hi

-- node n of d lies at the nodes of c from lo on and below hi
abbrev pub is_below : Context → ℕ → ℕ → Context → ℕ → Bool
is_below c lo hi d n = is_within lo hi (node_under c d n)

abbrev pub cell_and_value : Stored → ℕ × Value
cell_and_value w = (w.cell, w.value)

-- the stores of a run that lie there, in order
abbrev pub stores_below : Flow → List Activity → Context → ℕ → ℕ → Stores
stores_below fl run c lo hi = map cell_and_value (filter (λ (w : Stored). is_below c lo hi w.context w.node) (stores_of fl run))
