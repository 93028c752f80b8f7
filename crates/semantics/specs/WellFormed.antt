-- Which graphs are well formed.
use Rattle.std.specs.Prelude.{◌≡◌, ◌≢◌, ℕ, ◌+◌, ◌<◌, ◌≤◌, true, false, List, [], ◌∷◌, length, Option, Some, None, slice_get, All, Contains, ⊤}
use Rattle.semantics.specs.declared.graph.Region.{Region}
use Rattle.semantics.specs.declared.graph.Region.TheVariants.{Root, Arm}
use Rattle.semantics.specs.declared.graph.Source.{Source}
use Rattle.semantics.specs.declared.graph.Kind.{Kind}
use Rattle.semantics.specs.declared.graph.Kind.TheVariants.{Lit, Apply1, Apply2, Cond, Enter, Merge, Fetch, Store, Call, StrictCall, Loop}
use Rattle.semantics.specs.Graph.{Node, Block, Graph, node_at, node_count, array_names, block_names}

-- each name occurs once
abbrev pub AllDiffer : List (List ℕ) → Type 0
AllDiffer names = (i j : ℕ) (name : List ℕ) → slice_get names i ≡ Some name → slice_get names j ≡ Some name → i ≡ j

abbrev pub IsCondNode : Option (Node (List ℕ)) → Type 0
IsCondNode None = ⊥
IsCondNode (Some n) = n.kind ≡ Cond

-- a conditional of the block
abbrev pub IsCond : Block (List ℕ) → ℕ → Type 0
IsCond b k = IsCondNode (node_at b k)

-- where a node lies; an input lies in the root
abbrev pub region_in : Option (Node (List ℕ)) → Region
region_in None = Root
region_in (Some n) = n.region

abbrev pub region_of : Block (List ℕ) → ℕ → Region
region_of b n = region_in (node_at b n)

-- a node may lie in the root, or in an arm of an earlier conditional
abbrev pub IsRegion : Block (List ℕ) → ℕ → Region → Type 0
IsRegion b n Root = ⊤
IsRegion b n (Arm k side) = (k < n) × IsCond b k

-- a block of that name is there, with these numbers of inputs and outputs
abbrev pub HasShape : Graph → List ℕ → ℕ → ℕ → Type 0
HasShape g name inputs outputs = (b : Block (List ℕ)) × Contains g.blocks (name, b) × (b.inputs ≡ inputs) × (b.outputs ≡ outputs)

-- how many output ports a node has
abbrev pub HasPortOf : Graph → Kind (List ℕ) → ℕ → List Source → Type 0
HasPortOf g Cond p ss = ⊥
HasPortOf g (Call f) p ss = (b : Block (List ℕ)) × Contains g.blocks (f, b) × (p < b.outputs)
HasPortOf g (StrictCall f) p ss = (b : Block (List ℕ)) × Contains g.blocks (f, b) × (p < b.outputs)
HasPortOf g (Loop f k) p ss = p < length ss
HasPortOf g kind p ss = p ≡ 0

abbrev pub HasPortIn : Graph → Option (Node (List ℕ)) → ℕ → Type 0
HasPortIn g None p = p ≡ 0
HasPortIn g (Some n) p = HasPortOf g n.kind p n.sources

-- an output port of a node earlier than that
abbrev pub IsEarlier : Graph → Block (List ℕ) → ℕ → Source → Type 0
IsEarlier g b n s = (s.node < n) × HasPortIn g (node_at b s.node) s.port

-- the regions in which a node's sources have to lie
abbrev pub arm_outside : Block (List ℕ) → Region → Region
arm_outside b Root = Root
arm_outside b (Arm k side) = region_of b k

abbrev pub AllLieIn : Block (List ℕ) → Region → List Source → Type 0
AllLieIn b r ss = All (λ s. region_of b s.node ≡ r) ss

abbrev pub LiesWell : Block (List ℕ) → ℕ → Region → Kind (List ℕ) → List Source → Type 0
LiesWell b n r Enter ss = (r ≢ Root) × AllLieIn b (arm_outside b r) ss
LiesWell b n r (Merge k) (s ∷ t ∷ []) = (k < n) × IsCond b k × (region_of b k ≡ r) × (region_of b s.node ≡ Arm k true) × (region_of b t.node ≡ Arm k false)
LiesWell b n r (Merge k) ss = ⊥
LiesWell b n r kind ss = AllLieIn b r ss

-- what a node names is there, with as many sources as it takes
abbrev pub NamesWell : Graph → Kind (List ℕ) → ℕ → Type 0
NamesWell g (Lit v) n = n ≡ 1
NamesWell g (Apply1 op) n = n ≡ 1
NamesWell g (Apply2 op) n = n ≡ 2
NamesWell g Cond n = n ≡ 1
NamesWell g Enter n = n ≡ 1
NamesWell g (Merge k) n = n ≡ 2
NamesWell g (Fetch a) n = Contains (array_names g) a × (n ≡ 1)
NamesWell g (Store a) n = Contains (array_names g) a × (n ≡ 2)
NamesWell g (Call f) n = (outputs : ℕ) × HasShape g f n outputs
NamesWell g (StrictCall f) n = (outputs : ℕ) × HasShape g f n outputs
NamesWell g (Loop f k) n = HasShape g f n (n + 1) × (2 ≤ k) × (k ≤ 64)

pub record IsNodeWell (g : Graph) (b : Block (List ℕ)) (n : ℕ) (node : Node (List ℕ)) : Type 0 where
  pub region : IsRegion b n node.region
  pub names : NamesWell g node.kind (length node.sources)
  pub earlier : All (IsEarlier g b n) node.sources
  pub lies : LiesWell b n node.region node.kind node.sources

pub record IsBlockWell (g : Graph) (b : Block (List ℕ)) : Type 0 where
  pub some_input : 0 < b.inputs
  pub some_output : 0 < b.outputs
  pub nodes : (n : ℕ) (node : Node (List ℕ)) → node_at b n ≡ Some node → IsNodeWell g b n node
  pub result_count : length b.results ≡ b.outputs
  pub results : All (IsEarlier g b (node_count b)) b.results
  pub in_root : AllLieIn b Root b.results

pub record WellFormed (g : Graph) : Type 0 where
  pub arrays_differ : AllDiffer (array_names g)
  pub blocks_differ : AllDiffer (block_names g)
  pub main : Contains (block_names g) g.main
  pub blocks : All (λ (named : List ℕ × Block (List ℕ)). IsBlockWell g named.1) g.blocks
