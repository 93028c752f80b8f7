-- THE GRAPH THAT A PROGRAM IS LOWERED TO. Each token is lowered once.
use Rattle.std.specs.Prelude.{ℕ, zero, suc, ⊤, ◌+◌, nat_le, nat_lt, nat_eq, ◌&&◌, Bool, true, false, List, [], ◌∷◌, ◌++◌, length, map, reverse}
use Rattle.std.specs.Prelude.{decimal, codes, Option, None, Some, Result, Ok, if◌then◌else◌}
use Rattle.tags.specs.declared.value.Origin.{Origin}
use Rattle.tags.specs.declared.value.Origin.TheVariants.{At, Untold}
use Rattle.operators.specs.declared.Unary.{Unary}
use Rattle.operators.specs.declared.Unary.TheVariants.{Neg}
use Rattle.operators.specs.declared.Binary.{Binary}
use Rattle.operators.specs.declared.Binary.TheVariants.{Lt, Le}
use Rattle.operators.specs.Values.{on_int}
use Rattle.semantics.specs.declared.graph.Region.{Region}
use Rattle.semantics.specs.declared.graph.Region.TheVariants.{Root, Arm}
use Rattle.semantics.specs.declared.graph.Source.{Source}
use Rattle.semantics.specs.declared.graph.Kind.{Kind}
use Rattle.semantics.specs.declared.graph.Kind.TheVariants as node
use Rattle.semantics.specs.Graph.{Node, Block, Graph, same_name}
use Rattle.source.specs.declared.word.InfixSign.{InfixSign}
use Rattle.source.specs.declared.word.InfixSign.TheVariants.{Direct, Greater, AtLeast}
use Rattle.source.specs.declared.fault.Fault.{Fault}
use Rattle.source.specs.declared.fault.FaultKind.TheVariants.{TooBig}
use Rattle.source.specs.Tree.{Name, Target, Bind, Drop, Expr, Number, Named, Bracket, Prefix, Infix, Fetch, Store, Call, If, Loop, Exprs, One, More}
use Rattle.source.specs.Tree.{Body, Let, Do, Give, Chain, Turn, Before, After, Function, Item, Cells, Defines, Program, names_of}
use Rattle.source.specs.Rules.{function_in, main_name, written_or_one}
use Rattle.source.specs.Outside.{bare, outside_body, outside_turn}
use Rattle.source.specs.Evaluates.{signed}
use Rattle.source.specs.First.{◌>>=◌, must}

-- A node line, and the place of the token that it is made for.
pub record Made : Type 0 where
  pub at : ℕ
  pub node : Node Name

-- A block: the k-th of its function, where the function itself has k = 0 and its loops count from 1. Its place is that of the
-- function's name or of the word `loop`.
pub record MadeBlock : Type 0 where
  pub at : ℕ
  pub loop : ℕ
  pub inputs : ℕ
  pub nodes : List Made
  pub results : List Source

-- What a part is lowered to: its node lines, a source for each of its values, and the blocks of its loops.
pub record Lowered : Type 0 where
  pub nodes : List Made
  pub sources : List Source
  pub blocks : List MadeBlock

-- Where a part is: the function, the region, and the trigger, which is the first input of the region. A literal waits for
-- the trigger.
pub record Site : Type 0 where
  pub function : Name
  pub region : Region
  pub trigger : Source

-- the number of the next node of the block, and how many loops of the function were met
pub record Spot : Type 0 where
  pub next : ℕ
  pub loops : ℕ

abbrev pub spot_after : Spot → Lowered → Spot
spot_after spot l = record { next = spot.next + length l.nodes; loops = spot.loops + length l.blocks }

abbrev pub port : ℕ → ℕ → Source
port n p = record { node = n; port = p }

-- ports of a node, from p on
abbrev pub ports_from : ℕ → ℕ → ℕ → List Source
ports_from n p zero = []
ports_from n p (suc count) = port n p ∷ ports_from n (p + 1) count

-- inputs of a block, from n on
abbrev pub inputs_from : ℕ → ℕ → List Source
inputs_from n zero = []
inputs_from n (suc count) = port n 0 ∷ inputs_from (n + 1) count

-- SCOPES: what names stand for, those that hide others first
abbrev pub Scope : Type 0
Scope = List (Name × Source)

abbrev pub source_in : Scope → Name → Source
source_in [] x = port 0 0
source_in (entry ∷ scope) x = if same_name x entry.0 then entry.1 else source_in scope x

abbrev pub scoped : List Name → List Source → Scope → Scope
scoped (x ∷ xs) (s ∷ ss) scope = (x, s) ∷ scoped xs ss scope
scoped xs ss scope = scope

abbrev pub let_scoped : List Target → List Source → Scope → Scope
let_scoped (Bind x ∷ targets) (s ∷ ss) scope = (x.name, s) ∷ let_scoped targets ss scope
let_scoped (Drop ∷ targets) (s ∷ ss) scope = let_scoped targets ss scope
let_scoped targets ss scope = scope

-- PARTS ONE AFTER ANOTHER
abbrev pub only : List Source → Lowered
only ss = record { nodes = []; sources = ss; blocks = [] }

-- with the values of both
abbrev pub joined : Lowered → Lowered → Lowered
joined l r = record { nodes = l.nodes ++ r.nodes; sources = l.sources ++ r.sources; blocks = l.blocks ++ r.blocks }

-- with the values of the second
abbrev pub followed : Lowered → Lowered → Lowered
followed l r = record { nodes = l.nodes ++ r.nodes; sources = r.sources; blocks = l.blocks ++ r.blocks }

abbrev pub made : Site → ℕ → Kind Name → List Source → Made
made site at kind ss = record { at = at; node = record { region = site.region; kind = kind; sources = ss } }

-- with one node more, which has so many values
abbrev pub ended : Site → Spot → Lowered → ℕ → Kind Name → List Source → ℕ → Lowered
ended site spot l at kind ss values = record {
  nodes = l.nodes ++ made site at kind ss ∷ [];
  sources = ports_from (spot.next + length l.nodes) 0 values;
  blocks = l.blocks;
}

-- OPERATORS AND LITERALS
abbrev pub operator_of : InfixSign → Binary
operator_of (Direct op) = op
operator_of Greater = Lt
operator_of AtLeast = Le

-- `>` and `>=` have their operands swapped
abbrev pub operands : InfixSign → List Source → List Source
operands (Direct op) ss = ss
operands Greater ss = reverse ss
operands AtLeast ss = reverse ss

abbrev pub literal : Site → Spot → ℕ → Kind Name → Lowered
literal site spot at kind = ended site spot (only []) at kind (site.trigger ∷ []) 1

-- a number with `-` directly before it is one literal
abbrev pub prefixed : Site → Spot → ℕ → Unary → Expr → Lowered → Lowered
prefixed site spot at Neg (Number u n) l = literal site spot at (node.Lit (on_int Neg (signed n)))
prefixed site spot at op e l = ended site spot l at (node.Apply1 op) l.sources 1

abbrev pub call_kind : Bool → Name → Kind Name
call_kind true f = node.StrictCall f
call_kind false f = node.Call f

abbrev pub results_of : Option Function → ℕ
results_of None = 0
results_of (Some g) = written_or_one g.results

-- CONDITIONALS
-- an `enter` of each source
abbrev pub enters : Site → Spot → ℕ → List Source → Lowered
enters site spot at ss = record { nodes = map (λ (s : Source). made site at node.Enter (s ∷ [])) ss; sources = inputs_from spot.next (length ss); blocks = [] }

abbrev pub or_predicate : Source → List Source → List Source
or_predicate predicate [] = predicate ∷ []
or_predicate predicate (s ∷ ss) = s ∷ ss

-- The enters of an arm: one for each outside name that the arm uses, in order; where it uses none, one of the predicate.
abbrev pub entered_names : Site → Spot → ℕ → Scope → Source → List Name → Lowered
entered_names site spot at scope predicate xs = enters site spot at (or_predicate predicate (map (source_in scope) xs))

-- Within an arm the trigger is its first enter, and its scope is its enters.
abbrev pub arm_site : Site → ℕ → Bool → Spot → Site
arm_site site cond side spot = record { function = site.function; region = Arm cond side; trigger = port spot.next 0 }

abbrev pub arm_scope : Lowered → List Name → Scope
arm_scope l xs = scoped xs l.sources []

-- an arm: its enters, and then its body under them
abbrev pub arm : Site → ℕ → Bool → Spot → ℕ → Scope → Source → List Name → (Site → Spot → Scope → Lowered) → Lowered
arm site cond side spot at scope predicate xs body =
    let here : Site = arm_site site cond side spot in let l : Lowered = entered_names here spot at scope predicate xs in
    followed l (body here (spot_after spot l) (arm_scope l xs))

-- a merge for each value
abbrev pub merges : Site → ℕ → ℕ → List Source → List Source → List Made
merges site at cond (s ∷ ss) (t ∷ ts) = made site at (node.Merge cond) (s ∷ t ∷ []) ∷ merges site at cond ss ts
merges site at cond ss ts = []

-- the conditional of a predicate, its two arms, and the merges
abbrev pub chosen : Site → Spot → ℕ → List Source → Lowered → Lowered → Lowered
chosen site spot at predicate l r =
    let ms : List Made = merges site at spot.next l.sources r.sources in record {
      nodes = made site at node.Cond predicate ∷ (l.nodes ++ r.nodes ++ ms);
      sources = inputs_from (spot.next + 1 + length l.nodes + length r.nodes) (length ms);
      blocks = l.blocks ++ r.blocks;
    }

abbrev pub next_spot : Spot → Spot
next_spot spot = record { next = spot.next + 1; loops = spot.loops }

-- the predicate's source
abbrev pub first_of : List Source → Source
first_of [] = port 0 0
first_of (s ∷ ss) = s

-- LOOPS
-- the name of the k-th loop of f
abbrev pub loop_name : Name → ℕ → Name
loop_name f k = f ++ codes "__" ++ decimal k

abbrev pub turn_site : Name → Site
turn_site f = record { function = f; region = Root; trigger = port 0 0 }

-- The block of a turn: inputs are the loop's names, then the outside names. Results are the flag, the next values, and the
-- outside names unchanged.
abbrev pub turn_block : ℕ → ℕ → List Name → List Name → Lowered → MadeBlock
turn_block at k xs outs t = record {
  at = at;
  loop = k;
  inputs = length xs + length outs;
  nodes = t.nodes;
  results = t.sources ++ inputs_from (length xs) (length outs);
}

abbrev pub turn_scope : List Name → List Name → Scope
turn_scope xs outs = scoped (xs ++ outs) (inputs_from 0 (length xs + length outs)) []

-- the node of a loop, after its first values: the block of a turn is before the blocks of the loops in it
abbrev pub looped : Site → Spot → Scope → ℕ → ℕ → List Name → List Name → Lowered → Lowered → Lowered
looped site spot scope at bound xs outs f t =
    let k : ℕ = spot.loops + length f.blocks + 1 in
    let l : Lowered = ended site spot f at (node.Loop (loop_name site.function k) bound) (f.sources ++ map (source_in scope) outs) (length xs) in
    record { nodes = l.nodes; sources = l.sources; blocks = f.blocks ++ turn_block at k xs outs t ∷ t.blocks }

-- the first node of a turn, and the loops that were met before those in it
abbrev pub turn_spot : Spot → Lowered → List Name → List Name → Spot
turn_spot spot f xs outs = record { next = length xs + length outs; loops = spot.loops + length f.blocks + 1 }

-- LOWERING
abbrev mutual
  pub lower : Program → Site → Spot → Scope → Expr → Lowered
  lower p site spot scope (Number at n) = literal site spot at (node.Lit (signed n))
  lower p site spot scope (Named at x) = only (source_in scope x ∷ [])
  lower p site spot scope (Bracket e) = lower p site spot scope e
  lower p site spot scope (Prefix at op e) = prefixed site spot at op e (lower p site spot scope e)
  lower p site spot scope (Infix at s e d) =
      let l : Lowered = lower p site spot scope e in let r : Lowered = lower p site (spot_after spot l) scope d in
      ended site spot (joined l r) at (node.Apply2 (operator_of s)) (operands s (l.sources ++ r.sources)) 1
  lower p site spot scope (Fetch at a e) =
      let l : Lowered = lower p site spot scope e in ended site spot l at (node.Fetch a) l.sources 1
  lower p site spot scope (Store at a e d) =
      let l : Lowered = lower p site spot scope e in let r : Lowered = lower p site (spot_after spot l) scope d in
      ended site spot (joined l r) at (node.Store a) (l.sources ++ r.sources) 1
  lower p site spot scope (Call at strict f es) =
      let l : Lowered = lower_list p site spot scope es in ended site spot l at (call_kind strict f) l.sources (results_of (function_in p f))
  lower p site spot scope (If at q l r) =
      let c : Lowered = lower p site spot scope q in let k : Spot = spot_after spot c in
      let a : Lowered = arm site k.next true (next_spot k) at scope (first_of c.sources) (outside_body l) (λ here inner names. lower_body p here inner names
      l) in
      let b : Lowered = arm site k.next false (spot_after (next_spot k) a) at scope (first_of c.sources) (outside_body r) (λ here inner names. lower_body p
      here inner names r) in
      followed c (chosen site k at c.sources a b)
  lower p site spot scope (Loop at bound firsts turn) =
      let f : Lowered = lower_list p site spot scope firsts in let xs : List Name = bare (names_of turn) in let outs : List Name = outside_turn turn in
      looped site spot scope at bound.number xs outs f (lower_turn p site.function (turn_spot spot f xs outs) at (turn_scope xs outs) turn)

  pub lower_list : Program → Site → Spot → Scope → Exprs → Lowered
  lower_list p site spot scope (One e) = lower p site spot scope e
  lower_list p site spot scope (More e es) =
      let l : Lowered = lower p site spot scope e in joined l (lower_list p site (spot_after spot l) scope es)

  pub lower_body : Program → Site → Spot → Scope → Body → Lowered
  lower_body p site spot scope (Let at targets es rest) =
      let l : Lowered = lower_list p site spot scope es in followed l (lower_body p site (spot_after spot l) (let_scoped targets l.sources scope) rest)
  lower_body p site spot scope (Do es rest) =
      let l : Lowered = lower_list p site spot scope es in followed l (lower_body p site (spot_after spot l) scope rest)
  lower_body p site spot scope (Give es) = lower_list p site spot scope es
  lower_body p site spot scope (Chain e) = lower p site spot scope e

  -- the nodes of a turn's block, with the flag and the next values as sources
  pub lower_turn : Program → Name → Spot → ℕ → Scope → Turn → Lowered
  -- the test, and a conditional whose right arm gives the values unchanged
  lower_turn p f spot at scope (Before xs q body) =
      let c : Lowered = lower p (turn_site f) spot scope q in let k : Spot = spot_after spot c in
      let a : Lowered = arm (turn_site f) k.next true (next_spot k) at scope (first_of c.sources) (outside_body body) (λ here inner names. lower_body p here
      inner names body) in
      let s : Spot = spot_after (next_spot k) a in
      let b : Lowered = entered_names (arm_site (turn_site f) k.next false s) s at scope (first_of c.sources) (bare xs) in
      joined c (chosen (turn_site f) k at c.sources a b)
  -- the body, and the test of the values that it gives
  lower_turn p f spot at scope (After xs body q) =
      let b : Lowered = lower_body p (turn_site f) spot scope body in
      let c : Lowered = lower p (turn_site f) (spot_after spot b) (scoped (bare xs) b.sources scope) q in
      record { nodes = b.nodes ++ c.nodes; sources = c.sources ++ b.sources; blocks = b.blocks ++ c.blocks }

-- THE BLOCKS OF A FUNCTION: its own, with its parameters as inputs, and those of its loops
abbrev pub function_scope : Function → Scope
function_scope f = scoped (bare f.params) (inputs_from 0 (length f.params)) []

abbrev pub function_blocks : Program → Function → List MadeBlock
function_blocks p f =
    let l : Lowered = lower_body p (turn_site f.name.name) (record { next = length f.params; loops = 0 }) (function_scope f) f.body in
    record { at = f.name.at; loop = 0; inputs = length f.params; nodes = l.nodes; results = l.sources } ∷ l.blocks

-- the name of a block of f
abbrev pub block_name : Name → ℕ → Name
block_name f zero = f
block_name f (suc k) = loop_name f (suc k)

abbrev pub node_of : Made → Node Name
node_of m = m.node

abbrev pub graph_block : Name → MadeBlock → Name × Block Name
graph_block f b = (block_name f b.loop, record { inputs = b.inputs; outputs = length b.results; nodes = map node_of b.nodes; results = b.results })

abbrev pub blocks_of : Program → List Item → List (Name × Block Name)
blocks_of p [] = []
blocks_of p (Cells x len ∷ items) = blocks_of p items
blocks_of p (Defines f ∷ items) = map (graph_block f.name.name) (function_blocks p f) ++ blocks_of p items

abbrev pub arrays_of : List Item → List (Name × ℕ)
arrays_of [] = []
arrays_of (Cells x len ∷ items) = (x.name, len.number) ∷ arrays_of items
arrays_of (Defines f ∷ items) = arrays_of items

abbrev pub graph_of : Program → Graph
graph_of p = record { version = 2; arrays = arrays_of p; blocks = blocks_of p p; main = main_name }

-- all blocks, in the order of the graph
abbrev pub made_blocks : Program → List Item → List MadeBlock
made_blocks p [] = []
made_blocks p (Cells x len ∷ items) = made_blocks p items
made_blocks p (Defines f ∷ items) = function_blocks p f ++ made_blocks p items

-- SIZES: a block has at most 1,024 nodes, inputs counted, and a graph at most 256 blocks. `before` counts the blocks before.
abbrev pub sizes : ℕ → List MadeBlock → Result ⊤ Fault
sizes before [] = Ok tt
sizes before (b ∷ blocks) = do
  fits ← must (nat_le (b.inputs + length b.nodes) 1024 && nat_lt before 256) TooBig b.at
  sizes (before + 1) blocks

-- THE GRAPH OF A PROGRAM, or the first block that is too big
abbrev pub lowered : Program → Result Graph Fault
lowered p = do
  fits ← sizes 0 (made_blocks p p)
  Ok (graph_of p)

-- ORIGINS: the node that an operator, a fetch or a store is lowered to is the one with the place of its token.
abbrev pub node_with : ℕ → ℕ → ℕ → List Made → Option Origin
node_with at block n [] = None
node_with at block n (m ∷ ms) = if nat_eq at m.at then Some (At block n) else node_with at block (n + 1) ms

abbrev pub found_or : Option Origin → Origin → Origin
found_or None other = other
found_or (Some origin) other = origin

abbrev pub origin_from : ℕ → ℕ → List MadeBlock → Origin
origin_from at block [] = Untold
origin_from at block (b ∷ blocks) = found_or (node_with at block b.inputs b.nodes) (origin_from at (block + 1) blocks)

abbrev pub origin_of : Program → ℕ → Origin
origin_of p at = origin_from at 0 (made_blocks p p)
