-- What a well-formed graph's flow has, by kind of node: sources are earlier and have ports, regions nest, results lie in the root.
use Rattle.std.proofs.Common.{◌≡◌, ℕ, ◌+◌, ◌-◌, ◌<◌, ◌≤◌, Bool, true, false, List, [], ◌∷◌, length, Option, Some, None, nat_lt, if◌then◌else◌, refl, ap, arith}
use Rattle.std.proofs.Common.{ltb-false}
use Rattle.std.specs.Prelude.{slice_get}
use Rattle.std.proofs.lemmas.Option.{slice_get_within}
use Rattle.semantics.specs.declared.graph.Region.{Region}
use Rattle.semantics.specs.declared.graph.Region.TheVariants.{Root, Arm}
use Rattle.semantics.specs.declared.graph.Source.{Source}
use Rattle.semantics.specs.declared.graph.Kind.{Kind}
use Rattle.semantics.specs.declared.graph.Kind.TheVariants.{Lit, Apply1, Apply2, Cond, Enter, Merge, Fetch, Store, Call, StrictCall, Loop}
use Rattle.semantics.specs.Graph.{Node, Block, Flow, node_at, node_count}
use Rattle.semantics.specs.Meaning.{arm_of}
use Rattle.law_confluence.specs.EquationsHave.{ports_of, ports_line, ports_in}

-- these sources lie in a region
abbrev pub InRegion : Block ℕ → Region → List Source → Type 0
InRegion b r ss = (i : ℕ) (s : Source) → slice_get ss i ≡ Some s → arm_of (node_at b s.node) ≡ r

abbrev pub IsCondAt : Block ℕ → ℕ → Type 0
IsCondAt b k = (line : Node ℕ) × (node_at b k ≡ Some line) × (line.kind ≡ Cond)

-- a block takes as many inputs as there are sources
abbrev pub Takes : Flow → ℕ → List Source → Type 0
Takes fl f ss = (b : Block ℕ) × (slice_get fl.blocks f ≡ Some b) × (b.inputs ≡ length ss)

abbrev pub TakesAndTests : Flow → ℕ → List Source → Type 0
TakesAndTests fl f ss = (b : Block ℕ) × (slice_get fl.blocks f ≡ Some b) × (b.inputs ≡ length ss) × (b.outputs ≡ length ss + 1)

abbrev pub HasForm : Flow → Block ℕ → Region → Kind ℕ → List Source → Type 0
HasForm fl b r (Lit z) ss = (length ss ≡ 1) × InRegion b r ss
HasForm fl b r (Apply1 op) ss = (length ss ≡ 1) × InRegion b r ss
HasForm fl b r (Apply2 op) ss = (length ss ≡ 2) × InRegion b r ss
HasForm fl b r Cond ss = (length ss ≡ 1) × InRegion b r ss
HasForm fl b r Enter ss = (length ss ≡ 1) × ((k : ℕ) × (side : Bool) × (r ≡ Arm k side) × InRegion b (arm_of (node_at b k)) ss)
HasForm fl b r (Merge k) (s ∷ t ∷ []) =
    IsCondAt b k × (arm_of (node_at b k) ≡ r) × (arm_of (node_at b s.node) ≡ Arm k true) × (arm_of (node_at b t.node) ≡ Arm k false)
HasForm fl b r (Merge k) ss = ⊥
HasForm fl b r (Fetch a) ss = (length ss ≡ 1) × InRegion b r ss
HasForm fl b r (Store a) ss = (length ss ≡ 2) × InRegion b r ss
HasForm fl b r (Call f) ss = Takes fl f ss × InRegion b r ss
HasForm fl b r (StrictCall f) ss = Takes fl f ss × InRegion b r ss
HasForm fl b r (Loop f k) ss = TakesAndTests fl f ss × InRegion b r ss

pub record IsLine (fl : Flow) (b : Block ℕ) (n : ℕ) (line : Node ℕ) : Type 0 where
  pub earlier : (i : ℕ) (s : Source) → slice_get line.sources i ≡ Some s → (s.node < n) × (s.port < ports_in fl (Some b) s.node)
  pub round : (k : ℕ) (side : Bool) → line.region ≡ Arm k side → (k < n) × IsCondAt b k
  pub joins : (k : ℕ) → line.kind ≡ Merge k → k < n
  pub form : HasForm fl b line.region line.kind line.sources

pub record IsBlock (fl : Flow) (b : Block ℕ) : Type 0 where
  pub some_input : 0 < b.inputs
  pub lines : (n : ℕ) (line : Node ℕ) → node_at b n ≡ Some line → IsLine fl b n line
  pub count : length b.results ≡ b.outputs
  pub results : (j : ℕ) (s : Source) → slice_get b.results j ≡ Some s → (s.port < ports_in fl (Some b) s.node) × (arm_of (node_at b s.node) ≡ Root)

abbrev pub IsShaped : Flow → Type 0
IsShaped fl = (i : ℕ) (b : Block ℕ) → slice_get fl.blocks i ≡ Some b → IsBlock fl b

-- LINES

-- a node line is after the inputs
pub line_past : {N : Type 0} (b : Block N) (n : ℕ) (line : Node N) → node_at b n ≡ Some line → (b.inputs ≤ n) × (slice_get b.nodes (n - b.inputs) ≡ Some line)
line_past {N} b n line e = go (nat_lt n b.inputs) refl e
  where
    go : (t : Bool) → nat_lt n b.inputs ≡ t → (if t then None else slice_get b.nodes (n - b.inputs)) ≡ Some line
        → (b.inputs ≤ n) × (slice_get b.nodes (n - b.inputs) ≡ Some line)
    go true f h = cc
    go false f h = (ltb-false n b.inputs f, h)

pub line_below : {N : Type 0} (b : Block N) (n : ℕ) (line : Node N) → node_at b n ≡ Some line → n < node_count b
line_below b n line e =
    let past = line_past b n line e in
    let low = slice_get_within b.nodes (n - b.inputs) line past.1 in
    omega (arith, past.0, low)

pub ports_line_at : (fl : Flow) (b : Block ℕ) (n : ℕ) (line : Node ℕ) → node_at b n ≡ Some line → ports_in fl (Some b) n ≡ ports_of fl line.kind line.sources
ports_line_at fl b n line e = go (nat_lt n b.inputs) (slice_get b.nodes (n - b.inputs)) e
  where
    go : (t : Bool) (x : Option (Node ℕ)) → (if t then None else x) ≡ Some line
        → (if t then 1 else ports_line fl (if t then None else x)) ≡ ports_of fl line.kind line.sources
    go true x f = cc
    go false x f = ap (ports_line fl) f
