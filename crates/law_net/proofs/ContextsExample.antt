-- A small conditional: where x is true its negation, otherwise x. Its parts and its wires, by computation.
use Rattle.std.proofs.Common.{◌≡◌, ℕ, Bool, true, false, List, [], ◌∷◌, refl}
use Rattle.tags.specs.declared.token.Port.TheVariants.{Left, Right}
use Rattle.operators.specs.declared.Unary.TheVariants.{Neg}
use Rattle.semantics.specs.declared.graph.Source.{Source}
use Rattle.semantics.specs.declared.graph.Region.{Region}
use Rattle.semantics.specs.declared.graph.Region.TheVariants.{Root, Arm}
use Rattle.semantics.specs.declared.graph.Kind.{Kind}
use Rattle.semantics.specs.Graph.{Node, Block, Flow}
use Rattle.schemas.specs.Blocks.{with_kind, with_nodes, entries, finished, plain_build, variant_build, repeated}
use Rattle.schemas.specs.Ends.{join_ends, closed, closed_nodes, released}
use Rattle.schemas.specs.Expanded.{plain_code, variant_code}
use Rattle.schemas.specs.Rows.{called}
use Rattle.schemas.specs.Tails.{turning, turn_of, go_on, stop}
use Rattle.operators.specs.declared.Binary.TheVariants.{Add}
use Rattle.std.specs.Prelude.{map}
use Rattle.semantics.specs.declared.program.Op.{Op}
use Rattle.semantics.specs.Program.{Instr}
use Rattle.law_net.specs.ContextsBlocks.{op_of}
use Rattle.law_net.specs.ContextsParts.{Part, Entry, Line, Gate, Merge, Framer, Sender, Landing, Strict, Result, Join, CondEnd, End, Inlet, inlet}
use Rattle.tags.specs.declared.value.Value.{Value}
use Rattle.semantics.specs.Meaning.{Main, tagged, AtNode, Predicate}
use Rattle.law_net.specs.ContextsWires.{meant_along, plain_site, turn_site}
use Rattle.law_net.specs.ContextsMeant.{operand, settled_sent}
use Rattle.law_net.specs.ContextsExpanded.{plain_scope, plain_parts, body_parts, wires_of, turn_scope, variant_parts, variant_in, instrs_at}

abbrev source : ℕ → Source
source n = record { node = n; port = 0 }

abbrev line : Region → Kind ℕ → List Source → Node ℕ
line r k ss = record { region = r; kind = k; sources = ss }

abbrev choice : Block ℕ
choice = record {
  inputs = 1;
  outputs = 1;
  nodes = line Root Kind.Cond (source 0 ∷ []) ∷ line (Arm 1 true) Kind.Enter (source 0 ∷ []) ∷ line (Arm 1 false) Kind.Enter (source 0 ∷ [])
      ∷ line (Arm 1 true) (Kind.Apply1 Neg) (source 2 ∷ []) ∷ line Root (Kind.Merge 1) (source 4 ∷ source 3 ∷ []) ∷ [];
  results = source 5 ∷ [];
}

abbrev choice_flow : Flow
choice_flow = record { version = 1; arrays = []; blocks = choice ∷ []; main = 0 }

body_of : body_parts (plain_scope choice_flow 0 choice) ≡ Entry ∷ Line 0 ∷ Gate 2 ∷ Gate 3 ∷ Line 4 ∷ Merge 5 ∷ []
body_of = refl

parts_of : plain_parts (plain_scope choice_flow 0 choice) ≡ Entry ∷ Line 0 ∷ Gate 2 ∷ Gate 3 ∷ Line 4 ∷ Merge 5 ∷ Result 0 ∷ CondEnd 1 ∷ Join Root 0 ∷ End ∷ []
unfolding with_kind with_nodes entries finished plain_build join_ends closed closed_nodes released plain_code
parts_of = refl

abbrev leads : Part → Bool → List Inlet
leads r second = ((wires_of choice_flow).wiring 0).wire (record { part = r; second = second })

-- the wires, of each side
wires_are :
    (leads Entry false ≡ inlet (Result 0) Left 0 ∷ inlet End Left 0 ∷ [])
    × (leads (Line 0) false ≡ inlet (Gate 2) Left 0 ∷ inlet (Gate 2) Right 0 ∷ inlet (Gate 3) Left 0 ∷ inlet (Gate 3) Right 0 ∷ [])
    × (leads (Gate 2) false ≡ inlet (Line 4) Left 0 ∷ []) × (leads (Gate 2) true ≡ inlet (CondEnd 1) Left 1 ∷ [])
    × (leads (Gate 3) false ≡ inlet (CondEnd 1) Left 0 ∷ []) × (leads (Gate 3) true ≡ inlet (Merge 5) Left 1 ∷ [])
    × (leads (Line 4) false ≡ inlet (Merge 5) Left 0 ∷ []) × (leads (Merge 5) false ≡ inlet (Result 0) Right 0 ∷ [])
    × (leads (Result 0) false ≡ inlet (Join Root 0) Left 0 ∷ []) × (leads (CondEnd 1) false ≡ inlet (Join Root 0) Right 0 ∷ [])
    × (leads (Join Root 0) false ≡ inlet End Right 0 ∷ []) × (leads End false ≡ [])
unfolding with_kind with_nodes entries finished plain_build join_ends closed closed_nodes released plain_code
wires_are = (refl, refl, refl, refl, refl, refl, refl, refl, refl, refl, refl, refl)

-- what leaves the input stands for its uses, of which those at the conditional are predicates
uses_are : (v : Value)
    → (meant_along choice_flow Main v (leads (Line 0) false) ≡ operand Main 2 0 v ∷ tagged Main (AtNode 2) Predicate v ∷ operand Main 3 0 v
    ∷ tagged Main (AtNode 3) Predicate v ∷ [])
    × (settled_sent choice_flow Main 0 0 v ≡ tagged Main (AtNode 2) Predicate v ∷ tagged Main (AtNode 3) Predicate v ∷ operand Main 2 0 v ∷ operand Main 3 0 v
    ∷ [])
unfolding with_kind with_nodes entries finished plain_build join_ends closed closed_nodes released plain_code
uses_are v = (refl, refl)

-- A loop, a strict call and a call: the parts are those of the instructions, in their order.
abbrev body : Block ℕ
body = record { inputs = 1; outputs = 2; nodes = line Root (Kind.Apply1 Neg) (source 0 ∷ []) ∷ []; results = source 0 ∷ source 1 ∷ [] }

abbrev adds : Block ℕ
adds = record { inputs = 2; outputs = 1; nodes = line Root (Kind.Apply2 Add) (source 0 ∷ source 1 ∷ []) ∷ []; results = source 2 ∷ [] }

abbrev caller : Block ℕ
caller = record {
  inputs = 1;
  outputs = 1;
  nodes =
      line Root (Kind.Loop 1 4) (source 0 ∷ []) ∷ line Root (Kind.StrictCall 2) (source 0 ∷ source 1 ∷ []) ∷ line Root (Kind.Call 2) (source 2 ∷ source 1 ∷ [])
      ∷ [];
  results = source 3 ∷ [];
}

abbrev caller_flow : Flow
caller_flow = record { version = 1; arrays = []; blocks = caller ∷ body ∷ adds ∷ []; main = 0 }

abbrev ops_at : ℕ → List Op
ops_at own = map (λ (i : Instr). i.op) (instrs_at caller_flow own)

caller_ops : map (op_of (variant_in caller_flow) (plain_site caller 0)) (plain_parts (plain_scope caller_flow 0 caller)) ≡ ops_at 0
unfolding with_kind with_nodes entries finished plain_build variant_build repeated called turning turn_of go_on stop join_ends closed closed_nodes released
    plain_code variant_code
caller_ops = refl

turn_ops : map (op_of (variant_in caller_flow) (turn_site body 1 3)) (variant_parts (turn_scope caller_flow 1 body) 3) ≡ ops_at 3
unfolding with_kind with_nodes entries finished plain_build variant_build repeated called turning turn_of go_on stop join_ends closed closed_nodes released
    plain_code variant_code
turn_ops = refl

-- the strict call waits for its two arguments: the input, and the loop's result
abbrev calls : Part → List Inlet
calls r = ((wires_of caller_flow).wiring 0).wire (record { part = r; second = false })

call_waits : (calls (Strict 2 1) ≡ inlet (Framer 2) Left 0 ∷ [])
    × (calls (Landing 1 0) ≡ inlet (Strict 2 1) Right 0 ∷ inlet (Sender 2 1) Right 0 ∷ inlet (Sender 3 1) Right 0 ∷ [])
    × (calls (Line 0) ≡ inlet (Sender 1 0) Right 0 ∷ inlet (Strict 2 1) Left 0 ∷ inlet (Sender 2 0) Right 0 ∷ [])
unfolding with_kind with_nodes entries finished plain_build variant_build repeated called turning turn_of go_on stop join_ends closed closed_nodes released
    plain_code variant_code
call_waits = (refl, refl, refl)
