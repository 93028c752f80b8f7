-- How many instructions each part of a block has, and in which region they lie, up to the joins of its ends.
use Rattle.std.specs.Prelude.{ℕ, zero, suc, ◌+◌, List, [], ◌∷◌, ◌++◌, length, replicate, Bool, true, false, if◌then◌else◌}
use Rattle.semantics.specs.declared.graph.Region.{Region}
use Rattle.semantics.specs.declared.graph.Region.TheVariants.{Root, Arm}
use Rattle.semantics.specs.declared.graph.Source.{Source}
use Rattle.semantics.specs.declared.graph.Kind.{Kind}
use Rattle.semantics.specs.Graph.{Node, Block}
use Rattle.schemas.specs.declared.uses.Uses.{Uses}
use Rattle.schemas.specs.Triggers.{has_trigger}
use Rattle.schemas.specs.UseCounts.{is_often, uses_at}
use Rattle.schemas.specs.Blocks.{outputs_of}
use Rattle.code_map.specs.declared.part.Part.{Part}

-- the part and the region of each instruction
pub record Rows : Type 0 where
  pub parts : List Part
  pub regions : List Region

abbrev pub no_rows : Rows
no_rows = record { parts = []; regions = [] }

abbrev pub laid : Rows → ℕ → Part → Region → Rows
laid r count part region = record { parts = r.parts ++ replicate count part; regions = r.regions ++ replicate count region }

-- NODES
abbrev pub one_if : Bool → ℕ
one_if t = if t then 1 else 0

abbrev pub gates_of : Region → ℕ
gates_of Root = 0
gates_of (Arm k side) = 1

abbrev pub laid_call : Rows → ℕ → ℕ → ℕ → Region → Rows
laid_call r arguments outputs n region =
    laid (laid (laid r 4 (Part.Node n) region) arguments (Part.Node n) region) outputs (Part.Node n) region

-- with that number of sources
abbrev pub laid_strict : Rows → ℕ → ℕ → ℕ → Region → Rows
laid_strict r zero outputs n region = r
laid_strict r (suc m) outputs n region = laid_call (laid r m (Part.Node n) region) (suc m) outputs n region

abbrev pub laid_loop : Rows → ℕ → ℕ → Region → Rows
laid_loop r m n region = laid_call (laid r 4 (Part.Node n) region) m m n region

abbrev pub laid_answered : Rows → Bool → ℕ → Region → Rows
laid_answered r shared n region = laid r (1 + one_if shared) (Part.Node n) region

-- with that number of sources
abbrev pub laid_kind : Rows → List (Block ℕ) → List Bool → List Uses → ℕ → Kind ℕ → Region → ℕ → Rows
laid_kind r bs ts us n (Kind.Lit z) region m = laid r 1 (Part.Node n) region
laid_kind r bs ts us n (Kind.Apply1 op) region m = laid r 1 (Part.Node n) region
laid_kind r bs ts us n (Kind.Apply2 op) region m = laid r 1 (Part.Node n) region
laid_kind r bs ts us n Kind.Cond region m = laid r (one_if (has_trigger ts n)) (Part.Node n) region
laid_kind r bs ts us n Kind.Enter region m = laid r (gates_of region) (Part.Node n) region
laid_kind r bs ts us n (Kind.Merge k) region m = laid r 1 (Part.Node n) region
laid_kind r bs ts us n (Kind.Fetch a) region m = laid_answered r (is_often (uses_at us n)) n region
laid_kind r bs ts us n (Kind.Store a) region m = laid_answered r (is_often (uses_at us n)) n region
laid_kind r bs ts us n (Kind.Call f) region m = laid_call r m (outputs_of bs f) n region
laid_kind r bs ts us n (Kind.StrictCall f) region m = laid_strict r m (outputs_of bs f) n region
laid_kind r bs ts us n (Kind.Loop f k) region m = laid_loop r m n region

abbrev pub laid_node : Rows → List (Block ℕ) → List Bool → List Uses → ℕ → Node ℕ → Rows
laid_node r bs ts us n node = laid_kind r bs ts us n node.kind node.region (length node.sources)

abbrev pub laid_nodes : Rows → List (Block ℕ) → List Bool → List Uses → ℕ → List (Node ℕ) → Rows
laid_nodes r bs ts us n [] = r
laid_nodes r bs ts us n (node ∷ nodes) = laid_nodes (laid_node r bs ts us n node) bs ts us (n + 1) nodes

-- ENTRIES
abbrev pub laid_inputs : Rows → ℕ → Rows
laid_inputs r zero = r
laid_inputs r (suc n) = laid (laid_inputs r n) 1 (Part.Node n) Root

abbrev pub laid_entries : ℕ → Rows
laid_entries inputs = laid_inputs (laid no_rows 1 Part.Continuation Root) inputs

abbrev pub laid_body : List (Block ℕ) → List Bool → List Uses → Block ℕ → Rows
laid_body bs ts us b = laid_nodes (laid_entries b.inputs) bs ts us b.inputs b.nodes

-- THE TAIL
abbrev pub laid_outputs : Rows → ℕ → List Source → Rows
laid_outputs r from [] = r
laid_outputs r from (s ∷ ss) = laid_outputs (laid r 1 (Part.Output from) Root) (from + 1) ss

abbrev pub laid_turn : Rows → ℕ → List Source → Rows
laid_turn r k [] = r
laid_turn r k (s ∷ ss) =
    laid (laid (laid (laid r 4 Part.Turn Root) (length (s ∷ ss)) Part.Turn Root) (length (s ∷ ss)) Part.Turn (Arm k true)) (length (s ∷ ss)) Part.Turn (Arm k false)

abbrev pub laid_tail : Rows → Bool → ℕ → List Source → Rows
laid_tail r true k ss = laid_turn r k ss
laid_tail r false k ss = laid_outputs r 0 ss
