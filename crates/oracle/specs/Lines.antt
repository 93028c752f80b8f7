-- What is at a node's number, and which activity takes a token.
use Rattle.std.specs.Prelude.{ℕ, ◌+◌, ◌-◌, zero, suc, Bool, true, false, ◌&&◌, ◌==◌, List, [], ◌∷◌, length, Option, Some, None, nat_lt, slice_get}
use Rattle.std.specs.Prelude.{if◌then◌else◌}
use Rattle.tags.specs.declared.value.Origin.{Origin}
use Rattle.tags.specs.declared.value.Origin.TheVariants.{Untold, At}
use Rattle.semantics.specs.declared.graph.Kind.{Kind}
use Rattle.semantics.specs.declared.graph.Kind.TheVariants.{Lit, Apply1, Apply2, Cond, Enter, Merge, Fetch, Store, Call, StrictCall, Loop}
use Rattle.semantics.specs.Graph.{Node as Row, Block, Graph, array_names, block_names, resolved_kind}
use Rattle.oracle.specs.declared.invocations.Made.{Made}
use Rattle.oracle.specs.declared.invocations.Made.TheVariants.{Main, Called, Turned}
use Rattle.oracle.specs.declared.lines.Line.{Line}
use Rattle.oracle.specs.declared.lines.Line.TheVariants.{Input, Node, Nothing}
use Rattle.oracle.specs.declared.shapes.Shape.{Shape}
use Rattle.oracle.specs.declared.shapes.Shape.TheVariants.{Fires, Gates, Passes, Returns, Turns, Outputs}
use Rattle.oracle.specs.declared.tokens.Spot.{Spot}
use Rattle.oracle.specs.declared.tokens.Spot.TheVariants.{Operand, Predicate, Out, Flag, Carried}

-- LINES
abbrev pub resolved_in : Graph → Kind (List ℕ) → Kind ℕ
resolved_in g kind = resolved_kind (array_names g) (block_names g) kind

abbrev pub line_of_row : Graph → Option (Row (List ℕ)) → Line
line_of_row g None = Nothing
line_of_row g (Some x) = Node x.region (resolved_in g x.kind) (length x.sources)

abbrev pub line_in : Graph → Option (List ℕ × Block (List ℕ)) → ℕ → Line
line_in g None n = Nothing
line_in g (Some b) n = if nat_lt n b.1.inputs then Input else line_of_row g (slice_get b.1.nodes (n - b.1.inputs))

-- what is at number n in the block at a place
abbrev pub line_of : Graph → ℕ → ℕ → Line
line_of g block n = line_in g (slice_get g.blocks block) n

abbrev pub origin_of : ℕ → ℕ → ℕ → Origin
origin_of version block n = if nat_lt version 2 then Untold else if nat_lt block 256 && nat_lt n 1024 then At block n else Untold

-- the numbers of the first cell of an array, and of its cells
abbrev pub first_of : List (List ℕ × ℕ) → ℕ → ℕ
first_of [] a = 0
first_of (x ∷ xs) zero = 0
first_of (x ∷ xs) (suc a) = x.1 + first_of xs a

abbrev pub total_of : List (List ℕ × ℕ) → ℕ
total_of [] = 0
total_of (x ∷ xs) = x.1 + total_of xs

abbrev pub len_in : Option (List ℕ × ℕ) → ℕ
len_in None = 0
len_in (Some a) = a.1

abbrev pub len_of : List (List ℕ × ℕ) → ℕ → ℕ
len_of arrays a = len_in (slice_get arrays a)

abbrev pub inputs_in : Option (List ℕ × Block (List ℕ)) → ℕ
inputs_in None = 0
inputs_in (Some b) = b.1.inputs

abbrev pub inputs_at : Graph → ℕ → ℕ
inputs_at g place = inputs_in (slice_get g.blocks place)

abbrev pub outputs_in : Option (List ℕ × Block (List ℕ)) → ℕ
outputs_in None = 0
outputs_in (Some b) = b.1.outputs

abbrev pub outputs_at : Graph → ℕ → ℕ
outputs_at g place = outputs_in (slice_get g.blocks place)

-- SHAPES
abbrev pub takes_all : Kind ℕ → ℕ → Bool
takes_all (Lit v) n = n == 1
takes_all (Apply1 op) n = n == 1
takes_all (Apply2 op) n = n == 2
takes_all Cond n = n == 1
takes_all Enter n = false
takes_all (Merge k) n = false
takes_all (Fetch a) n = n == 1
takes_all (Store a) n = n == 2
takes_all (Call f) n = false
takes_all (StrictCall f) n = true
takes_all (Loop f k) n = false

abbrev pub fires_shape : Kind ℕ → ℕ → ℕ → ℕ → Option Shape
fires_shape kind arity n i = if takes_all kind arity && nat_lt i arity then Some (Fires n arity) else None

abbrev pub node_shape : Kind ℕ → ℕ → ℕ → ℕ → Option Shape
node_shape (Merge k) arity n i = Some (Passes n i)
node_shape (Call f) arity n i = Some (Passes n i)
node_shape (Loop f k) arity n i = Some (Passes n i)
node_shape Enter arity n i = if i == 0 then Some (Gates n) else None
node_shape kind arity n i = fires_shape kind arity n i

abbrev pub operand_shape : Line → ℕ → ℕ → Option Shape
operand_shape Input n i = if i == 0 then Some (Fires n 1) else None
operand_shape (Node r kind arity) n i = node_shape kind arity n i
operand_shape Nothing n i = None

abbrev pub enter_shape : Kind ℕ → ℕ → Option Shape
enter_shape Enter n = Some (Gates n)
enter_shape kind n = None

abbrev pub predicate_shape : Line → ℕ → Option Shape
predicate_shape Input n = None
predicate_shape (Node r kind arity) n = enter_shape kind n
predicate_shape Nothing n = None

abbrev pub out_shape : Made → ℕ → Option Shape
out_shape Main j = Some (Outputs j)
out_shape (Called c n) j = Some (Returns j)
out_shape (Turned c n i) j = None

abbrev pub turn_shape : Made → ℕ → Option Shape
turn_shape Main j = None
turn_shape (Called c n) j = None
turn_shape (Turned c n i) j = Some (Turns j)

-- the activity that takes a token at a spot of an invocation of a block
abbrev pub shape_in : Graph → Made → ℕ → Spot → Option Shape
shape_in g made block (Operand n i) = operand_shape (line_of g block n) n i
shape_in g made block (Predicate n) = predicate_shape (line_of g block n) n
shape_in g made block (Out j) = out_shape made j
shape_in g made block (Flag j) = turn_shape made j
shape_in g made block (Carried j) = turn_shape made j

abbrev pub operand_spots : ℕ → ℕ → ℕ → List Spot
operand_spots n from zero = []
operand_spots n from (suc k) = Operand n from ∷ operand_spots n (from + 1) k

-- the spots of the tokens that an activity takes
abbrev pub spots_in : Shape → List Spot
spots_in (Fires n k) = operand_spots n 0 k
spots_in (Gates n) = Operand n 0 ∷ Predicate n ∷ []
spots_in (Passes n i) = Operand n i ∷ []
spots_in (Returns j) = Out j ∷ []
spots_in (Turns j) = Flag j ∷ Carried j ∷ []
spots_in (Outputs j) = Out j ∷ []

-- PARTNERS
abbrev pub same_spot : Spot → Spot → Bool
same_spot (Operand n i) (Operand m j) = (n == m) && (i == j)
same_spot (Predicate n) (Predicate m) = n == m
same_spot (Out j) (Out k) = j == k
same_spot (Flag j) (Flag k) = j == k
same_spot (Carried j) (Carried k) = j == k
same_spot s t = false

-- what tells spots apart: what kind of place it is, and two numbers
abbrev pub parts_of : Spot → ℕ × ℕ × ℕ
parts_of (Operand n i) = (0, n, i)
parts_of (Predicate n) = (1, n, 0)
parts_of (Out j) = (2, j, 0)
parts_of (Flag j) = (3, j, 0)
parts_of (Carried j) = (4, j, 0)
