-- Worked examples of graphs: names, places, cells, contexts and the arms around a node.
use Rattle.std.proofs.Common.{◌≡◌, refl, true, false, pos, [], ◌∷◌, Some, None}
use Rattle.std.specs.Prelude.{codes}
use Rattle.operators.specs.declared.Unary.TheVariants as U
use Rattle.semantics.specs.declared.graph.Region.TheVariants.{Root}
use Rattle.semantics.specs.declared.graph.Kind.TheVariants.{Lit, Apply1, Cond, Enter, Fetch, Call}
use Rattle.semantics.specs.Graph.{Graph, flow_of, first_cell, place_of}
use Rattle.semantics.specs.Meaning.{Main, Called, block_number, arms_at, origin_at}
use Rattle.tags.specs.declared.value.Origin.TheVariants.{Untold, At}
use Rattle.semantics.proofs.Interpreter.{one, root, yes, no, block, flow}

-- two arrays and two blocks, by their names
abbrev graph : Graph
graph = record {
  version = 2;
  arrays = (codes "A", 3) ∷ (codes "B", 5) ∷ [];
  blocks =
      (codes "f", record { inputs = 1; outputs = 1; nodes = record { region = Root; kind = Fetch (codes "B"); sources = one 0 } ∷ []; results = one 1 })
      ∷ (codes "m", record { inputs = 1; outputs = 1; nodes = record { region = Root; kind = Call (codes "f"); sources = one 0 } ∷ []; results = one 1 }) ∷ [];
  main = codes "m";
}

-- the same graph by places
resolved : flow_of graph ≡ flow 2 (3 ∷ 5 ∷ []) (block 1 1 (root (Fetch 1) (one 0) ∷ []) (one 1) ∷ block 1 1 (root (Call 0) (one 0) ∷ []) (one 1) ∷ []) 1
resolved = refl

-- a name that is not there has the number of names as its place
no_such_name : place_of (codes "C") (codes "A" ∷ codes "B" ∷ []) ≡ 2
no_such_name = refl

-- cells are numbered through
cell_of_second_array : first_cell (flow_of graph) 1 ≡ 3
cell_of_second_array = refl

-- CONTEXTS. The block of an invocation is the one that its node names; an invocation that the graph does not have has none
block_of_main : block_number (flow_of graph) Main ≡ Some 1
block_of_main = refl

-- main calls the first block
block_of_call : block_number (flow_of graph) (Called Main 1) ≡ Some 0
block_of_call = refl

-- an input calls no block
no_such_call : block_number (flow_of graph) (Called Main 0) ≡ None
no_such_call = refl

-- a fault of the called block names that block
origin_of_fetch : origin_at (flow_of graph) (Called Main 1) 1 ≡ At 0 1
origin_of_fetch = refl

-- in version 1 there is no origin
origin_in_version_1 : origin_at (flow 1 [] (block 1 1 [] (one 0) ∷ []) 0) Main 3 ≡ Untold
origin_in_version_1 = refl

-- ARMS. Node 6 lies in the false arm of the conditional at 4, which lies in the true arm of the one at 1
nested : arms_at (Some (block 1 1 (root Cond (one 0) ∷ yes 1 Enter (one 0) ∷ yes 1 (Lit (pos 1)) (one 2) ∷ yes 1 Cond (one 3) ∷ no 4 Enter (one 3)
    ∷ no 4 (Apply1 U.Neg) (one 5) ∷ []) (one 0))) 6 ≡ (4, false) ∷ (1, true) ∷ []
nested = refl
