-- What is known of a block in a well-formed graph.
use Rattle.std.specs.Prelude.{◌≡◌, ◌≢◌, ℕ, ◌+◌, ◌<◌, Bool, true, false, List, [], ◌∷◌, length, Some, None, slice_get, All}
use Rattle.semantics.specs.declared.graph.Region.{Region}
use Rattle.semantics.specs.declared.graph.Region.TheVariants.{Root, Arm}
use Rattle.semantics.specs.declared.graph.Source.{Source}
use Rattle.semantics.specs.declared.graph.Kind.{Kind}
use Rattle.semantics.specs.Graph.{Node, Block, Flow, Graph, flow_of, node_at, node_count}
use Rattle.semantics.specs.WellFormed.{WellFormed}
use Rattle.schemas.specs.Triggers.{takes_trigger}
use Rattle.law_net.specs.ContextsBlocks.{is_kind, cond_kind, invokes, lies_in, outside, outputs_in}
use Rattle.law_wiring.specs.Written.{is_triggered}

-- the block that a node names is there, with these numbers of inputs and outputs, and neither is none
pub record IsCallee (fl : Flow) (f inputs : ℕ) : Type 0 where
  pub block : Block ℕ
  pub there : slice_get fl.blocks f ≡ Some block
  pub takes : block.inputs ≡ inputs
  pub some_input : 0 < inputs
  pub some_output : 0 < block.outputs

abbrev pub IsTurned : Flow → ℕ → ℕ → Type 0
IsTurned fl f inputs = (c : IsCallee fl f inputs) × (c.block.outputs ≡ inputs + 1)

-- how many sources a node has
abbrev pub Takes : Flow → Kind ℕ → ℕ → Type 0
Takes fl (Kind.Lit z) n = n ≡ 1
Takes fl (Kind.Apply1 op) n = n ≡ 1
Takes fl (Kind.Apply2 op) n = n ≡ 2
Takes fl Kind.Cond n = n ≡ 1
Takes fl Kind.Enter n = n ≡ 1
Takes fl (Kind.Merge k) n = n ≡ 2
Takes fl (Kind.Fetch a) n = n ≡ 1
Takes fl (Kind.Store a) n = n ≡ 2
Takes fl (Kind.Call f) n = IsCallee fl f n
Takes fl (Kind.StrictCall f) n = IsCallee fl f n
Takes fl (Kind.Loop f k) n = IsTurned fl f n

-- and output ports: a conditional has none
abbrev pub kind_ports : Flow → ℕ → Kind ℕ → ℕ
kind_ports fl n Kind.Cond = 0
kind_ports fl n (Kind.Call f) = outputs_in (slice_get fl.blocks f)
kind_ports fl n (Kind.StrictCall f) = outputs_in (slice_get fl.blocks f)
kind_ports fl n (Kind.Loop f k) = n
kind_ports fl n kind = 1

abbrev pub port_count : Flow → Block ℕ → ℕ → ℕ
port_count fl b n = elim (node_at b n) as (λ x. ℕ) [ None ↦ 1 | Some line ↦ kind_ports fl (length line.sources) line.kind ]

-- a source is a value of an earlier node
pub record IsPrior (fl : Flow) (b : Block ℕ) (n : ℕ) (s : Source) : Type 0 where
  pub earlier : s.node < n
  pub port : s.port < port_count fl b s.node
  -- and so
  pub no_cond : is_kind cond_kind b s.node ≡ false
  pub first : invokes b s.node ≡ false → s.port ≡ 0

abbrev pub LiesIn : Block ℕ → Region → Source → Type 0
LiesIn b r s = lies_in b s.node ≡ r

-- a merge joins the two arms of an earlier conditional
abbrev pub Merges : Block ℕ → ℕ → Region → ℕ → List Source → Type 0
Merges b n r k (s ∷ t ∷ []) = (k < n) × (is_kind cond_kind b k ≡ true) × (lies_in b k ≡ r) × (lies_in b s.node ≡ Arm k true) × (lies_in b t.node ≡ Arm k false)
Merges b n r k ss = ⊥

abbrev pub Lies : Block ℕ → ℕ → Region → Kind ℕ → List Source → Type 0
Lies b n r Kind.Enter ss = (r ≢ Root) × All (LiesIn b (outside b r)) ss
Lies b n r (Kind.Merge k) ss = Merges b n r k ss
Lies b n r kind ss = All (LiesIn b r) ss

pub record IsLineFit (fl : Flow) (b : Block ℕ) (n : ℕ) (node : Node ℕ) : Type 0 where
  -- an arm is of an earlier conditional
  pub round : (k : ℕ) (t : Bool) → node.region ≡ Arm k t → (k < n) × (is_kind cond_kind b k ≡ true)
  -- which has a trigger for what is invoked there
  pub triggered : (k : ℕ) (t : Bool) → node.region ≡ Arm k t → takes_trigger node.kind ≡ true → is_triggered b k ≡ true
  pub takes : Takes fl node.kind (length node.sources)
  pub earlier : All (IsPrior fl b n) node.sources
  pub lies : Lies b n node.region node.kind node.sources

pub record IsFit (fl : Flow) (b : Block ℕ) : Type 0 where
  pub some_input : 0 < b.inputs
  pub some_output : 0 < b.outputs
  pub nodes : (n : ℕ) (node : Node ℕ) → node_at b n ≡ Some node → IsLineFit fl b n node
  pub result_count : length b.results ≡ b.outputs
  pub results : All (IsPrior fl b (node_count b)) b.results
  pub in_root : All (LiesIn b Root) b.results

-- every block of a well-formed graph is such a block
abbrev pub BlocksFit : Type 0
BlocksFit = (g : Graph) → WellFormed g → (i : ℕ) (b : Block ℕ) → slice_get (flow_of g).blocks i ≡ Some b → IsFit (flow_of g) b
