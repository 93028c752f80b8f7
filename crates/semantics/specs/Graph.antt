-- A graph: arrays, code blocks, and the block that is run. It is generic in how a node names an array or a block: by
-- its name in a text, or by its place once names are resolved.
use Rattle.std.specs.Prelude.{ℕ, ◌+◌, ◌-◌, Bool, true, false, List, [], ◌∷◌, map, length, sum, take, Option, None, nat_lt, slice_get}
use Rattle.std.specs.Prelude.{slice_index_or, if◌then◌else◌}
use Rattle.semantics.specs.declared.graph.Region.{Region}
use Rattle.semantics.specs.declared.graph.Source.{Source}
use Rattle.semantics.specs.declared.graph.Kind.{Kind}
use Rattle.semantics.specs.declared.graph.Kind.TheVariants.{Lit, Apply1, Apply2, Cond, Enter, Merge, Fetch, Store, Call, StrictCall, Loop}

pub record Node (N : Type 0) : Type 0 where
  pub region : Region
  pub kind : Kind N
  pub sources : List Source

-- The inputs are the nodes below `inputs`, and the node lines count on from there.
pub record Block (N : Type 0) : Type 0 where
  pub inputs : ℕ
  pub outputs : ℕ
  pub nodes : List (Node N)
  pub results : List Source

-- A graph as its text has it. A name is its bytes.
pub record Graph : Type 0 where
  pub version : ℕ
  pub arrays : List (List ℕ × ℕ)
  pub blocks : List (List ℕ × Block (List ℕ))
  pub main : List ℕ

-- A graph whose nodes name arrays and blocks by their places.
pub record Flow : Type 0 where
  pub version : ℕ
  pub arrays : List ℕ
  pub blocks : List (Block ℕ)
  pub main : ℕ

-- where a name is in a list of names, or the list's length if it is not there
abbrev pub same_name : List ℕ → List ℕ → Bool
same_name [] [] = true
same_name [] (y ∷ ys) = false
same_name (x ∷ xs) [] = false
same_name (x ∷ xs) (y ∷ ys) = if nat_lt x y then false else if nat_lt y x then false else same_name xs ys

abbrev pub place_from : ℕ → List ℕ → List (List ℕ) → ℕ
place_from n name [] = n
place_from n name (x ∷ xs) = if same_name name x then n else place_from (n + 1) name xs

abbrev pub place_of : List ℕ → List (List ℕ) → ℕ
place_of name names = place_from 0 name names

-- a node's kind, with the places of its array or block for their names
abbrev pub resolved_kind : List (List ℕ) → List (List ℕ) → Kind (List ℕ) → Kind ℕ
resolved_kind arrays blocks (Lit v) = Lit v
resolved_kind arrays blocks (Apply1 op) = Apply1 op
resolved_kind arrays blocks (Apply2 op) = Apply2 op
resolved_kind arrays blocks Cond = Cond
resolved_kind arrays blocks Enter = Enter
resolved_kind arrays blocks (Merge k) = Merge k
resolved_kind arrays blocks (Fetch a) = Fetch (place_of a arrays)
resolved_kind arrays blocks (Store a) = Store (place_of a arrays)
resolved_kind arrays blocks (Call f) = Call (place_of f blocks)
resolved_kind arrays blocks (StrictCall f) = StrictCall (place_of f blocks)
resolved_kind arrays blocks (Loop f k) = Loop (place_of f blocks) k

abbrev pub resolved_block : List (List ℕ) → List (List ℕ) → Block (List ℕ) → Block ℕ
resolved_block arrays blocks b = record {
  inputs = b.inputs;
  outputs = b.outputs;
  nodes = map (λ (n : Node (List ℕ)). record { region = n.region; kind = resolved_kind arrays blocks n.kind; sources = n.sources }) b.nodes;
  results = b.results;
}

abbrev pub array_names : Graph → List (List ℕ)
array_names g = map (λ (a : List ℕ × ℕ). a.0) g.arrays

abbrev pub block_names : Graph → List (List ℕ)
block_names g = map (λ (b : List ℕ × Block (List ℕ)). b.0) g.blocks

abbrev pub flow_of : Graph → Flow
flow_of g = record {
  version = g.version;
  arrays = map (λ (a : List ℕ × ℕ). a.1) g.arrays;
  blocks = map (λ (b : List ℕ × Block (List ℕ)). resolved_block (array_names g) (block_names g) b.1) g.blocks;
  main = place_of g.main (block_names g);
}

-- the node line of that number, if it is one
abbrev pub node_at : {N : Type 0} → Block N → ℕ → Option (Node N)
node_at b n = if nat_lt n b.inputs then None else slice_get b.nodes (n - b.inputs)

abbrev pub node_count : {N : Type 0} → Block N → ℕ
node_count b = b.inputs + length b.nodes

-- Cells of all arrays are numbered through, in order of the arrays.
abbrev pub first_cell : Flow → ℕ → ℕ
first_cell f a = sum (take a f.arrays)

abbrev pub array_len : Flow → ℕ → ℕ
array_len f a = slice_index_or f.arrays a 0
