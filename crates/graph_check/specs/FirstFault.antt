-- The first fault of a graph, in the order in which a graph is checked: the names of the arrays, the names of the blocks,
-- the name of the block that is run, then the blocks in order. In a block: its inputs, its outputs, the node lines in
-- order, the line of its results. At a node: its region, what it names, the number of its sources and the shape of the
-- block that it names, its bound, then its sources from left to right. At the line of results: the number of sources,
-- then the sources from left to right.
use Rattle.std.specs.Prelude.{◌≡◌, ◌≢◌, ◌⊎◌, MatchResult, ℕ, ◌+◌, Bool, true, false, List, [], ◌∷◌, length, Option, Some, None, Result, nat_eq}
use Rattle.std.specs.Prelude.{nat_lt, slice_get, take, if◌then◌else◌}
use Rattle.semantics.specs.declared.graph.Region.{Region}
use Rattle.semantics.specs.declared.graph.Region.TheVariants.{Root, Arm}
use Rattle.semantics.specs.declared.graph.Source.{Source}
use Rattle.semantics.specs.declared.graph.Kind.{Kind}
use Rattle.semantics.specs.declared.graph.Kind.TheVariants.{Lit, Apply1, Apply2, Cond, Enter, Merge, Fetch, Store, Call, StrictCall, Loop}
use Rattle.semantics.specs.Graph.{Node, Block, Graph, node_at, node_count, place_of, array_names, block_names}
use Rattle.semantics.specs.WellFormed.{region_of, arm_outside, WellFormed}
use Rattle.graph_check.specs.Names.{is_name, IsIndexOf}
use Rattle.std.specs.BTreeMap.{BTreeMap}
use denote.Ref.{Bor}
use Rattle.graph_check.specs.Causes.{fault_of}
use Rattle.graph_check.specs.declared.causes.CheckRefusal.{CheckRefusal}
use Rattle.graph_check.specs.declared.faults.CheckFault.{CheckFault}
use Rattle.graph_check.specs.declared.faults.CheckFaultKind.{CheckFaultKind}
use Rattle.graph_check.specs.declared.faults.CheckFaultKind.TheVariants.{SameName, NoSuchName, Arity, SourceNotEarlier, NoSuchPort, BadRegion}
use Rattle.graph_check.specs.declared.faults.CheckFaultKind.TheVariants.{CrossesRegion, BadBound, OutNotRoot, NoInput, NoOutput, Memory}

-- the fault that is found first
abbrev pub or_later : {F : Type 0} → Option F → Option F → Option F
or_later (Some f) later = Some f
or_later None later = later

-- the first fault of a list, whose items are numbered on from i
abbrev pub first_in : {X F : Type 0} → (ℕ → X → Option F) → ℕ → List X → Option F
first_in f i [] = None
first_in f i (x ∷ xs) = or_later (f i x) (first_in f (i + 1) xs)

-- a fault of that kind, unless the test holds
abbrev pub unless : Bool → CheckFaultKind → Option CheckFaultKind
unless true kind = None
unless false kind = Some kind

-- ---- regions

abbrev pub is_cond_kind : Kind (List ℕ) → Bool
is_cond_kind Cond = true
is_cond_kind kind = false

abbrev pub is_cond_node : Option (Node (List ℕ)) → Bool
is_cond_node None = false
is_cond_node (Some node) = is_cond_kind node.kind

-- node k is a conditional, and earlier than node n
abbrev pub is_earlier_cond : Block (List ℕ) → ℕ → ℕ → Bool
is_earlier_cond b n k = if nat_lt k n then is_cond_node (node_at b k) else false

abbrev pub same_side : Bool → Bool → Bool
same_side true t = t
same_side false true = false
same_side false false = true

abbrev pub same_region : Region → Region → Bool
same_region Root Root = true
same_region Root (Arm k t) = false
same_region (Arm j s) Root = false
same_region (Arm j s) (Arm k t) = if nat_eq j k then same_side s t else false

-- a node lies in the root, or in an arm of an earlier conditional
abbrev pub is_good_region : Block (List ℕ) → ℕ → Region → Bool
is_good_region b n Root = true
is_good_region b n (Arm k side) = is_earlier_cond b n k

abbrev pub is_arm : Region → Bool
is_arm Root = false
is_arm (Arm k side) = true

-- an enter lies in an arm, and a merge is of an earlier conditional of its own region
abbrev pub fits_region : Block (List ℕ) → ℕ → Region → Kind (List ℕ) → Bool
fits_region b n r Enter = is_arm r
fits_region b n r (Merge k) = if is_earlier_cond b n k then same_region (region_of b k) r else false
fits_region b n r kind = true

abbrev pub region_fault : Block (List ℕ) → ℕ → Region → Kind (List ℕ) → Option CheckFaultKind
region_fault b n r kind = or_later (unless (is_good_region b n r) BadRegion) (unless (fits_region b n r kind) BadRegion)

-- ---- names and numbers of sources

abbrev pub is_named : Graph → Kind (List ℕ) → Bool
is_named g (Fetch a) = is_name a (array_names g)
is_named g (Store a) = is_name a (array_names g)
is_named g (Call f) = is_name f (block_names g)
is_named g (StrictCall f) = is_name f (block_names g)
is_named g (Loop f k) = is_name f (block_names g)
is_named g kind = true

-- how many inputs and outputs a block has
abbrev pub shape_in : Option (List ℕ × Block (List ℕ)) → Option (ℕ × ℕ)
shape_in None = None
shape_in (Some named) = Some (named.1.inputs, named.1.outputs)

abbrev pub shape_of : Graph → List ℕ → Option (ℕ × ℕ)
shape_of g f = shape_in (slice_get g.blocks (place_of f (block_names g)))

abbrev pub takes : Option (ℕ × ℕ) → ℕ → Bool
takes None n = false
takes (Some shape) n = nat_eq shape.0 n

abbrev pub gives : Option (ℕ × ℕ) → ℕ → Bool
gives None m = false
gives (Some shape) m = nat_eq shape.1 m

-- as many sources as such a node takes; a block that is looped has one output more than inputs
abbrev pub has_arity : Graph → Kind (List ℕ) → ℕ → Bool
has_arity g (Lit v) n = nat_eq n 1
has_arity g (Apply1 op) n = nat_eq n 1
has_arity g (Apply2 op) n = nat_eq n 2
has_arity g Cond n = nat_eq n 1
has_arity g Enter n = nat_eq n 1
has_arity g (Merge k) n = nat_eq n 2
has_arity g (Fetch a) n = nat_eq n 1
has_arity g (Store a) n = nat_eq n 2
has_arity g (Call f) n = takes (shape_of g f) n
has_arity g (StrictCall f) n = takes (shape_of g f) n
has_arity g (Loop f k) n = if takes (shape_of g f) n then gives (shape_of g f) (n + 1) else false

abbrev pub is_bounded : Kind (List ℕ) → Bool
is_bounded (Loop f k) = if nat_lt k 2 then false else nat_lt k 65
is_bounded kind = true

-- ---- sources

abbrev pub is_port_of : Option (ℕ × ℕ) → ℕ → Bool
is_port_of None p = false
is_port_of (Some shape) p = nat_lt p shape.1

-- a node of that kind with n sources has an output port p
abbrev pub kind_has_port : Graph → Kind (List ℕ) → ℕ → ℕ → Bool
kind_has_port g Cond n p = false
kind_has_port g (Call f) n p = is_port_of (shape_of g f) p
kind_has_port g (StrictCall f) n p = is_port_of (shape_of g f) p
kind_has_port g (Loop f k) n p = nat_lt p n
kind_has_port g kind n p = nat_eq p 0

abbrev pub has_port : Graph → Option (Node (List ℕ)) → ℕ → Bool
has_port g None p = nat_eq p 0
has_port g (Some node) p = kind_has_port g node.kind (length node.sources) p

-- a source of node n has to be earlier, to be there, and to lie in the wanted region
abbrev pub source_fault : Graph → Block (List ℕ) → ℕ → Region → CheckFaultKind → Source → Option CheckFaultKind
source_fault g b n wanted otherwise s =
    or_later (unless (nat_lt s.node n) SourceNotEarlier)
    (or_later (unless (has_port g (node_at b s.node) s.port) NoSuchPort) (unless (same_region (region_of b s.node) wanted) otherwise))

-- the region in which source i of a node of region r has to lie
abbrev pub wanted_region : Block (List ℕ) → Region → Kind (List ℕ) → ℕ → Region
wanted_region b r Enter i = arm_outside b r
wanted_region b r (Merge k) i = Arm k (nat_eq i 0)
wanted_region b r kind i = r

abbrev pub sources_fault : Graph → Block (List ℕ) → ℕ → Region → Kind (List ℕ) → List Source → Option CheckFaultKind
sources_fault g b n r kind ss = first_in (λ i s. source_fault g b n (wanted_region b r kind i) CrossesRegion s) 0 ss

abbrev pub outputs_fault : Graph → Block (List ℕ) → ℕ → List Source → Option CheckFaultKind
outputs_fault g b n ss = first_in (λ i s. source_fault g b n Root OutNotRoot s) 0 ss

-- ---- nodes, blocks and graphs

abbrev pub node_fault : Graph → Block (List ℕ) → ℕ → Node (List ℕ) → Option CheckFaultKind
node_fault g b n node =
    or_later (region_fault b n node.region node.kind)
    (or_later (unless (is_named g node.kind) NoSuchName)
    (or_later (unless (has_arity g node.kind (length node.sources)) Arity)
    (or_later (unless (is_bounded node.kind) BadBound)
    (sources_fault g b n node.region node.kind node.sources))))

abbrev pub results_fault : Graph → Block (List ℕ) → Option CheckFaultKind
results_fault g b =
    or_later (unless (nat_eq (length b.results) b.outputs) Arity)
    (outputs_fault g b (node_count b) b.results)

-- a fault of that kind in a block, at a node if it is one of a node
abbrev pub fault_at : Option ℕ → Option ℕ → Option CheckFaultKind → Option CheckFault
fault_at block line None = None
fault_at block line (Some kind) = Some (record { kind = kind; block = block; node = line })

-- the nodes of a block, numbered on from its inputs
abbrev pub lines_fault : Graph → ℕ → Block (List ℕ) → ℕ → List (Node (List ℕ)) → Option CheckFault
lines_fault g i b inputs nodes = first_in (λ j node. fault_at (Some i) (Some (inputs + j)) (node_fault g b (inputs + j) node)) 0 nodes

-- The line of results has the number of nodes as its node.
abbrev pub block_fault : Graph → ℕ → Block (List ℕ) → Option CheckFault
block_fault g i b =
    or_later (fault_at (Some i) None (unless (nat_lt 0 b.inputs) NoInput))
    (or_later (fault_at (Some i) None (unless (nat_lt 0 b.outputs) NoOutput))
    (or_later (lines_fault g i b b.inputs b.nodes)
    (fault_at (Some i) (Some (node_count b)) (results_fault g b))))

-- name i is one of the names before it
abbrev pub repeat_fault : List (List ℕ) → ℕ → List ℕ → Option CheckFaultKind
repeat_fault names i name = if is_name name (take i names) then Some SameName else None

abbrev pub array_name_fault : List (List ℕ) → ℕ → List ℕ → Option CheckFault
array_name_fault names i name = fault_at None None (repeat_fault names i name)

-- of two blocks of one name it is the second one
abbrev pub block_name_fault : List (List ℕ) → ℕ → List ℕ → Option CheckFault
block_name_fault names i name = fault_at (Some i) None (repeat_fault names i name)

abbrev pub names_fault : Graph → Option CheckFault
names_fault g =
    or_later (first_in (array_name_fault (array_names g)) 0 (array_names g))
    (first_in (block_name_fault (block_names g)) 0 (block_names g))

abbrev pub main_fault : Graph → Option CheckFault
main_fault g = fault_at None None (unless (is_name g.main (block_names g)) NoSuchName)

abbrev pub all_blocks_fault : Graph → List (List ℕ × Block (List ℕ)) → Option CheckFault
all_blocks_fault g blocks = first_in (λ i (named : List ℕ × Block (List ℕ)). block_fault g i named.1) 0 blocks

abbrev pub blocks_fault : Graph → Option CheckFault
blocks_fault g = all_blocks_fault g g.blocks

abbrev pub first_fault : Graph → Option CheckFault
first_fault g = or_later (names_fault g) (or_later (main_fault g) (blocks_fault g))

-- what is returned where memory was refused
abbrev pub out_of_memory : CheckFault
out_of_memory = record { kind = Memory; block = None; node = None }

-- A graph is refused for lack of memory, or because it is not well formed, and then with its first fault.
abbrev pub IsRefusal : Graph → CheckFault → Type 0
IsRefusal g e = (e ≡ out_of_memory) ⊎ ((first_fault g ≡ Some e) × (e.kind ≢ Memory) × ¬ WellFormed g)

-- names are looked up from now on, or the first one with a fault is reported
abbrev pub IsIndexed : (ℕ → List ℕ → Option CheckFault) → List (List ℕ) → Result (BTreeMap (Bor (List ℕ)) ℕ) CheckRefusal → Type 0
IsIndexed f names r =
    MatchResult r (λ m. IsIndexOf m names × (first_in f 0 names ≡ None))
    (λ r. (fault_of r ≡ out_of_memory) ⊎ (first_in f 0 names ≡ Some (fault_of r)))
