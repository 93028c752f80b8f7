-- Small blocks of conditionals, arrays and calls: the wires that are written down are those of the code, by computation.
use Rattle.std.proofs.Common.{◌≡◌, ℕ, true, false, List, [], ◌∷◌, ◌++◌, refl}
use Rattle.std.specs.Prelude.{map}
use Rattle.semantics.specs.declared.graph.Source.{Source}
use Rattle.semantics.specs.declared.graph.Region.{Region}
use Rattle.semantics.specs.declared.graph.Region.TheVariants.{Root, Arm}
use Rattle.semantics.specs.declared.graph.Kind.{Kind}
use Rattle.semantics.specs.Graph.{Node, Block, Flow}
use Rattle.schemas.specs.Blocks.{with_kind, with_nodes, entries, finished, plain_build, repeated, variant_build}
use Rattle.schemas.specs.Rows.{called}
use Rattle.schemas.specs.Tails.{turning, turn_of, go_on, stop}
use Rattle.schemas.specs.Ends.{join_ends, closed, closed_nodes, released}
use Rattle.schemas.specs.Expanded.{plain_code, variant_code}
use Rattle.law_net.specs.ContextsParts.{Part, Inlet}
use Rattle.law_net.specs.ContextsBlocks.{Side, side}
use Rattle.law_net.specs.ContextsWires.{plain_site, turn_site}
use Rattle.law_net.specs.ContextsExpanded.{plain_scope, plain_parts, turn_scope, variant_parts, wires_of}
use Rattle.law_wiring.specs.Written.{parts_in, wires_in, along}

abbrev source : ℕ → Source
source n = record { node = n; port = 0 }

abbrev output : ℕ → ℕ → Source
output n q = record { node = n; port = q }

abbrev line : Region → Kind ℕ → List Source → Node ℕ
line r k ss = record { region = r; kind = k; sources = ss }

-- a fetch used twice, one used once in an arm, a store used as a signal, and one that nothing uses
abbrev nested : Block ℕ
nested = record {
  inputs = 2;
  outputs = 2;
  nodes = line Root (Kind.Fetch 0) (source 0 ∷ [])
      ∷ line Root Kind.Cond (source 1 ∷ [])
      ∷ line (Arm 3 true) Kind.Enter (source 2 ∷ [])
      ∷ line (Arm 3 false) Kind.Enter (source 2 ∷ [])
      ∷ line (Arm 3 true) (Kind.Fetch 0) (source 4 ∷ [])
      ∷ line (Arm 3 false) (Kind.Store 0) (source 5 ∷ source 5 ∷ [])
      ∷ line (Arm 3 false) (Kind.Store 0) (source 5 ∷ source 7 ∷ [])
      ∷ line Root (Kind.Merge 3) (source 6 ∷ source 7 ∷ [])
      ∷ line Root (Kind.Store 0) (source 9 ∷ source 2 ∷ [])
      ∷ [];
  results = source 9 ∷ source 0 ∷ [];
}

-- calls of it in the root and in an arm, with a result used twice and one that nothing uses; and an input that nothing uses
abbrev calling : Block ℕ
calling = record {
  inputs = 3;
  outputs = 2;
  nodes = line Root (Kind.Call 0) (source 0 ∷ source 0 ∷ [])
      ∷ line Root Kind.Cond (output 3 1 ∷ [])
      ∷ line (Arm 4 true) Kind.Enter (output 3 0 ∷ [])
      ∷ line (Arm 4 false) Kind.Enter (source 1 ∷ [])
      ∷ line (Arm 4 true) (Kind.Call 0) (source 5 ∷ source 5 ∷ [])
      ∷ line (Arm 4 true) (Kind.Call 1) (output 7 1 ∷ output 7 1 ∷ source 5 ∷ [])
      ∷ line Root (Kind.Merge 4) (output 8 0 ∷ source 6 ∷ [])
      ∷ [];
  results = source 9 ∷ output 3 0 ∷ [];
}

abbrev calls : Flow
calls = record { version = 1; arrays = 4 ∷ []; blocks = nested ∷ calling ∷ []; main = 1 }

abbrev code_leads : Flow → ℕ → Side → List Inlet
code_leads fl own t = ((wires_of fl).wiring own).wire t

abbrev both_sides : List Part → List Side
both_sides rs = map (λ (r : Part). side r false) rs ++ map (λ (r : Part). side r true) rs

parts_agree : plain_parts (plain_scope calls 0 nested) ≡ parts_in calls (plain_site nested 0)
unfolding with_kind with_nodes entries finished plain_build join_ends closed closed_nodes released plain_code
parts_agree = refl

-- all wires, of both sides of each part
wires_agree : map (code_leads calls 0) (both_sides (parts_in calls (plain_site nested 0)))
    ≡ map (λ (t : Side). along nested t (wires_in calls (plain_site nested 0))) (both_sides (parts_in calls (plain_site nested 0)))
unfolding with_kind with_nodes entries finished plain_build join_ends closed closed_nodes released plain_code
wires_agree = refl

call_parts_agree : plain_parts (plain_scope calls 1 calling) ≡ parts_in calls (plain_site calling 1)
unfolding with_kind with_nodes called entries finished plain_build join_ends closed closed_nodes released plain_code
call_parts_agree = refl

call_wires_agree : map (code_leads calls 1) (both_sides (parts_in calls (plain_site calling 1)))
    ≡ map (λ (t : Side). along calling t (wires_in calls (plain_site calling 1))) (both_sides (parts_in calls (plain_site calling 1)))
unfolding with_kind with_nodes called entries finished plain_build join_ends closed closed_nodes released plain_code
call_wires_agree = refl

-- A strict call of three arguments, loops in the root and in an arm, and the code of a turn
abbrev turning_block : Block ℕ
turning_block = record {
  inputs = 2;
  outputs = 3;
  nodes = line Root (Kind.Fetch 0) (source 0 ∷ [])
      ∷ line Root Kind.Cond (source 1 ∷ [])
      ∷ line (Arm 3 true) Kind.Enter (source 2 ∷ [])
      ∷ line (Arm 3 false) Kind.Enter (source 2 ∷ [])
      ∷ line (Arm 3 true) (Kind.Loop 0 2) (source 4 ∷ source 4 ∷ [])
      ∷ line Root (Kind.Merge 3) (output 6 1 ∷ source 5 ∷ [])
      ∷ line Root (Kind.StrictCall 1) (source 7 ∷ source 2 ∷ source 0 ∷ [])
      ∷ line Root (Kind.Loop 0 3) (output 8 0 ∷ source 1 ∷ [])
      ∷ [];
  results = source 2 ∷ output 9 0 ∷ source 1 ∷ [];
}

abbrev loops : Flow
loops = record { version = 1; arrays = 4 ∷ []; blocks = turning_block ∷ calling ∷ []; main = 1 }

loop_parts_agree : plain_parts (plain_scope loops 0 turning_block) ≡ parts_in loops (plain_site turning_block 0)
unfolding with_kind with_nodes called repeated entries finished plain_build join_ends closed closed_nodes released plain_code
loop_parts_agree = refl

loop_wires_agree : map (code_leads loops 0) (both_sides (parts_in loops (plain_site turning_block 0)))
    ≡ map (λ (t : Side). along turning_block t (wires_in loops (plain_site turning_block 0))) (both_sides (parts_in loops (plain_site turning_block 0)))
unfolding with_kind with_nodes called repeated entries finished plain_build variant_build turning turn_of go_on stop join_ends closed closed_nodes released
    plain_code variant_code
loop_wires_agree = refl

turn_parts_agree : variant_parts (turn_scope loops 0 turning_block) 2 ≡ parts_in loops (turn_site turning_block 0 2)
unfolding with_kind with_nodes called repeated entries finished plain_build variant_build turning turn_of go_on stop join_ends closed closed_nodes released
    plain_code variant_code
turn_parts_agree = refl

turn_wires_agree : map (code_leads loops 2) (both_sides (parts_in loops (turn_site turning_block 0 2)))
    ≡ map (λ (t : Side). along turning_block t (wires_in loops (turn_site turning_block 0 2))) (both_sides (parts_in loops (turn_site turning_block 0 2)))
unfolding with_kind with_nodes called repeated entries finished plain_build variant_build turning turn_of go_on stop join_ends closed closed_nodes released
    plain_code variant_code
turn_wires_agree = refl
