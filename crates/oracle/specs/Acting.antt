-- A token is looked at: its partners, and what the activity does with their values.
use Rattle.std.specs.Prelude.{ℕ, ◌+◌, ◌-◌, ◌^◌, Bool, true, false, ◌&&◌, ◌||◌, ◌==◌, List, [], ◌∷◌, ◌++◌, length, remove, Option, Some, None}
use Rattle.std.specs.Prelude.{is_some, nat_lt, slice_get, slice_set, if◌then◌else◌}
use Rattle.tags.specs.declared.value.Value.{Value}
use Rattle.tags.specs.declared.value.Value.TheVariants.{Int}
use Rattle.tags.specs.declared.value.Origin.{Origin}
use Rattle.operators.specs.Values.{truth, apply1, apply2, Indexed, Place, Outside, index_in}
use Rattle.semantics.specs.declared.graph.Region.{Region}
use Rattle.semantics.specs.declared.graph.Region.TheVariants.{Arm}
use Rattle.semantics.specs.declared.graph.Kind.{Kind}
use Rattle.semantics.specs.declared.graph.Kind.TheVariants.{Lit, Apply1, Apply2, Cond, Enter, Merge, Fetch, Store, Call, StrictCall, Loop}
use Rattle.semantics.specs.Graph.{Graph}
use Rattle.semantics.specs.Meaning.{same_side}
use Rattle.oracle.specs.declared.invocations.Made.{Made}
use Rattle.oracle.specs.declared.invocations.Made.TheVariants.{Main, Called, Turned}
use Rattle.oracle.specs.declared.invocations.Invocation.{Invocation}
use Rattle.oracle.specs.declared.lines.Line.{Line}
use Rattle.oracle.specs.declared.lines.Line.TheVariants.{Input, Node, Nothing}
use Rattle.oracle.specs.declared.shapes.Shape.{Shape}
use Rattle.oracle.specs.declared.shapes.Shape.TheVariants.{Fires, Gates, Passes, Returns, Turns, Outputs}
use Rattle.oracle.specs.Deeds.{Deed, Sends, Steers, Enters, EntersAll, Stops, Reads, Fills, Puts}
use Rattle.oracle.specs.declared.deeds.Index.{Index}
use Rattle.oracle.specs.declared.deeds.Index.TheVariants.{Within, Beyond}
use Rattle.oracle.specs.declared.state.Gate.{Gate}
use Rattle.oracle.specs.declared.state.Gate.TheVariants.{Free, Defers, Clashes}
use Rattle.oracle.specs.declared.tokens.Spot.{Spot}
use Rattle.oracle.specs.declared.tokens.Token.{Token}
use Rattle.oracle.specs.Lines.{line_of, origin_of, first_of, len_of, same_spot}

-- DEEDS
abbrev pub indexed_of : Index → Indexed
indexed_of (Within i) = Place i
indexed_of (Beyond v) = Outside v

abbrev pub first_in : Graph → ℕ → ℕ
first_in g a = first_of g.arrays a

abbrev pub len_in : Graph → ℕ → ℕ
len_in g a = len_of g.arrays a

abbrev pub fetch_deed : ℕ → ℕ → ℕ → Indexed → Deed
fetch_deed c n first (Outside v) = Sends c n 0 v
fetch_deed c n first (Place i) = Reads c n (first + i)

abbrev pub store_deed : ℕ → ℕ → ℕ → ℕ → Value → Indexed → Deed
store_deed c n first a v (Outside w) = Sends c n 0 w
store_deed c n first a v (Place i) = Fills c n (first + i) a i v

abbrev pub one_deed : Graph → ℕ → ℕ → Kind ℕ → Value → Origin → Option Deed
one_deed g c n (Lit z) v o = Some (Sends c n 0 (Int z))
one_deed g c n (Apply1 op) v o = Some (Sends c n 0 (apply1 op v))
one_deed g c n Cond v o = Some (Steers c n v)
one_deed g c n (Fetch a) v o = Some (fetch_deed c n (first_of g.arrays a) (index_in (len_of g.arrays a) v o))
one_deed g c n kind v o = None

abbrev pub two_deed : Graph → ℕ → ℕ → Kind ℕ → Value → Value → Origin → Option Deed
two_deed g c n (Apply2 op) v w o = Some (Sends c n 0 (apply2 op v w o))
two_deed g c n (Store a) v w o = Some (store_deed c n (first_of g.arrays a) a w (index_in (len_of g.arrays a) v o))
two_deed g c n kind v w o = None

abbrev pub few_deed : Graph → ℕ → ℕ → Kind ℕ → List Value → Origin → Option Deed
few_deed g c n kind (v ∷ []) o = one_deed g c n kind v o
few_deed g c n kind (v ∷ w ∷ []) o = two_deed g c n kind v w o
few_deed g c n kind vs o = None

abbrev pub fired_deed : Graph → ℕ → ℕ → Kind ℕ → List Value → Origin → Option Deed
fired_deed g c n (StrictCall f) vs o = Some (EntersAll (Called c n) f)
fired_deed g c n kind vs o = few_deed g c n kind vs o

abbrev pub input_deed : ℕ → ℕ → List Value → Option Deed
input_deed c n (v ∷ []) = Some (Sends c n 0 v)
input_deed c n vs = None

abbrev pub line_deed : Graph → ℕ → ℕ → Line → List Value → Origin → Option Deed
line_deed g c n Input vs o = input_deed c n vs
line_deed g c n (Node r kind arity) vs o = if length vs == arity then fired_deed g c n kind vs o else None
line_deed g c n Nothing vs o = None

abbrev pub fires_deed : Graph → ℕ → ℕ → ℕ → List Value → Option Deed
fires_deed g c block n vs = line_deed g c n (line_of g block n) vs (origin_of g.version block n)

abbrev pub gate_deed : ℕ → ℕ → Bool → Value → Value → Deed
gate_deed c n side v b = if same_side (truth b) side then Sends c n 0 v else Stops

abbrev pub node_gated : ℕ → ℕ → Region → Kind ℕ → Value → Value → Option Deed
node_gated c n (Arm k side) Enter v b = Some (gate_deed c n side v b)
node_gated c n r kind v b = None

abbrev pub gated_deed : ℕ → ℕ → Line → Value → Value → Option Deed
gated_deed c n Input v b = None
gated_deed c n (Node r kind arity) v b = node_gated c n r kind v b
gated_deed c n Nothing v b = None

abbrev pub node_passed : ℕ → ℕ → ℕ → Kind ℕ → Value → Option Deed
node_passed c n i (Merge k) v = Some (Sends c n 0 v)
node_passed c n i (Call f) v = Some (Enters (Called c n) f i v)
node_passed c n i (Loop f k) v = Some (Enters (Turned c n 0) f i v)
node_passed c n i kind v = None

abbrev pub passed_deed : ℕ → ℕ → ℕ → Line → Value → Option Deed
passed_deed c n i Input v = None
passed_deed c n i (Node r kind arity) v = node_passed c n i kind v
passed_deed c n i Nothing v = None

-- a turn has a number below 2^64
abbrev pub next_turn : ℕ → ℕ → ℕ → ℕ → ℕ → Value → Option Deed
next_turn c n i block j v = if nat_lt (i + 1) (2 ^ 64) then Some (Enters (Turned c n (i + 1)) block (j - 1) v) else None

abbrev pub turned_deed : Made → ℕ → ℕ → Value → Value → Option Deed
turned_deed Main block j b v = None
turned_deed (Called c n) block j b v = None
turned_deed (Turned c n i) block j b v = if truth b then next_turn c n i block j v else Some (Sends c n (j - 1) v)

abbrev pub returned_deed : Made → ℕ → Value → Option Deed
returned_deed Main j v = None
returned_deed (Called c n) j v = Some (Sends c n j v)
returned_deed (Turned c n i) j v = None

abbrev pub shown_deed : Made → ℕ → Value → Option Deed
shown_deed Main j v = Some (Puts j v)
shown_deed (Called c n) j v = None
shown_deed (Turned c n i) j v = None

-- what an activity of a shape does
abbrev pub deed_in : Graph → ℕ → Invocation → Shape → List Value → Option Deed
deed_in g c x (Fires n k) vs = fires_deed g c x.block n vs
deed_in g c x (Gates n) (v ∷ b ∷ []) = gated_deed c n (line_of g x.block n) v b
deed_in g c x (Passes n i) (v ∷ []) = passed_deed c n i (line_of g x.block n) v
deed_in g c x (Returns j) (v ∷ []) = returned_deed x.made j v
deed_in g c x (Turns j) (b ∷ v ∷ []) = turned_deed x.made x.block j b v
deed_in g c x (Outputs j) (v ∷ []) = shown_deed x.made j v
deed_in g c x shape vs = None

-- PARTNERS. Where a token is at that spot of that invocation, counted from a first number on.
abbrev pub is_at : ℕ → Spot → Token → Bool
is_at c s t = (t.context == c) && same_spot t.spot s

abbrev pub find_from : ℕ → Spot → ℕ → List Token → Option ℕ
find_from c s i [] = None
find_from c s i (t ∷ ts) = if is_at c s t then Some i else find_from c s (i + 1) ts

-- the token is at the spot, or one that waits is
abbrev pub is_there : Token → Spot → List Token → Bool
is_there t s ts = same_spot s t.spot || is_some (find_from t.context s 0 ts)

abbrev pub all_there : Token → List Spot → List Token → Bool
all_there t [] ts = true
all_there t (s ∷ ss) ts = if is_there t s ts then all_there t ss ts else false

abbrev pub without : List Token → Option ℕ → List Token
without ts None = ts
without ts (Some i) = remove ts i

abbrev pub value_of : Option Token → List Value
value_of None = []
value_of (Some t) = t.value ∷ []

abbrev pub as_list : Option Value → List Value
as_list None = []
as_list (Some v) = v ∷ []

abbrev pub value_at : List Token → Option ℕ → List Value
value_at ts None = []
value_at ts (Some i) = value_of (slice_get ts i)

-- what is left of those that wait when the token's partner at a spot was taken, and the value there
abbrev pub remaining_after : Token → Spot → List Token → List Token
remaining_after t s ts = if same_spot s t.spot then ts else without ts (find_from t.context s 0 ts)

abbrev pub value_here : Token → Spot → List Token → List Value
value_here t s ts = if same_spot s t.spot then t.value ∷ [] else value_at ts (find_from t.context s 0 ts)

abbrev pub remaining_of : Token → List Spot → List Token → List Token
remaining_of t [] ts = ts
remaining_of t (s ∷ ss) ts = remaining_of t ss (remaining_after t s ts)

abbrev pub values_of : Token → List Spot → List Token → List Value
values_of t [] ts = []
values_of t (s ∷ ss) ts = value_here t s ts ++ values_of t ss (remaining_after t s ts)

-- MEMORY
abbrev pub held_of : Option (Option Value) → Option Value
held_of None = None
held_of (Some v) = v

abbrev pub held_in : List (Option Value) → ℕ → Option Value
held_in cells x = held_of (slice_get cells x)

abbrev pub filled_in : List (Option Value) → ℕ → Value → List (Option Value)
filled_in places x v = if nat_lt x (length places) then slice_set places x (Some v) else places

abbrev pub gate_of : List (Option Value) → Deed → Gate
gate_of cells (Reads c n x) = if is_some (held_in cells x) then Free else Defers
gate_of cells (Fills c n x a i v) = if is_some (held_in cells x) then Clashes a i else Free
gate_of cells d = Free
