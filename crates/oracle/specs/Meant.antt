-- What the numbers of a run stand for: invocations, tokens, activities and deeds of the meaning.
use Rattle.std.specs.Prelude.{ℕ, List, [], ◌∷◌, slice_index_or}
use Rattle.tags.specs.declared.value.Value.{Value}
use Rattle.semantics.specs.Meaning.{Context, Statement, AtNode, AtOut, AtTurn, Port, Tagged, tagged, Activity}
use Rattle.semantics.specs.Meaning as Meaning
use Rattle.oracle.specs.declared.invocations.Made.{Made}
use Rattle.oracle.specs.declared.invocations.Made.TheVariants.{Main, Called, Turned}
use Rattle.oracle.specs.declared.tokens.Spot.{Spot}
use Rattle.oracle.specs.declared.tokens.Spot.TheVariants.{Operand, Predicate, Out, Flag, Carried}
use Rattle.oracle.specs.declared.tokens.Token.{Token}
use Rattle.oracle.specs.declared.shapes.Shape.{Shape}
use Rattle.oracle.specs.declared.shapes.Shape.TheVariants.{Fires, Gates, Passes, Returns, Turns, Outputs}
use Rattle.oracle.specs.Deeds.{Deed, Sends, Steers, Enters, EntersAll, Stops, Reads, Fills, Puts}

-- the invocation with that number
abbrev pub name_in : List Context → ℕ → Context
name_in cs i = slice_index_or cs i Meaning.Main

abbrev pub statement_of : Spot → Statement
statement_of (Operand n i) = AtNode n
statement_of (Predicate n) = AtNode n
statement_of (Out j) = AtOut j
statement_of (Flag j) = AtTurn j
statement_of (Carried j) = AtTurn j

abbrev pub port_of : Spot → Port
port_of (Operand n i) = Meaning.Operand i
port_of (Predicate n) = Meaning.Predicate
port_of (Out j) = Meaning.Operand 0
port_of (Flag j) = Meaning.Flag
port_of (Carried j) = Meaning.Carried

abbrev pub tagged_of : List Context → Token → Tagged
tagged_of cs t = tagged (name_in cs t.context) (statement_of t.spot) (port_of t.spot) t.value

abbrev pub made_of : List Context → Made → Context
made_of cs Main = Meaning.Main
made_of cs (Called by n) = Meaning.Called (name_in cs by) n
made_of cs (Turned by n i) = Meaning.Turned (name_in cs by) n i

abbrev pub activity_of : List Context → ℕ → Made → Shape → List Value → Activity
activity_of cs c made (Fires n k) vs = Meaning.Fires (name_in cs c) n vs
activity_of cs c made (Gates n) (v ∷ b ∷ []) = Meaning.Gates (name_in cs c) n v b
activity_of cs c made (Passes n i) (v ∷ []) = Meaning.Passes (name_in cs c) n i v
activity_of cs c (Called by n) (Returns j) (v ∷ []) = Meaning.Returns (name_in cs by) n j v
activity_of cs c (Turned by n i) (Turns j) (b ∷ v ∷ []) = Meaning.Turns (name_in cs by) n i j b v
activity_of cs c made (Outputs j) (v ∷ []) = Meaning.Outputs j v
activity_of cs c made shape vs = Meaning.Fires (name_in cs c) 0 []

abbrev pub deed_of : List Context → List Value → Deed → Meaning.Deed
deed_of cs vs (Sends c n p v) = Meaning.Says (Meaning.Sends (name_in cs c) n p v)
deed_of cs vs (Steers c k v) = Meaning.Says (Meaning.Steers (name_in cs c) k v)
deed_of cs vs (Enters made f i v) = Meaning.Says (Meaning.Enters (made_of cs made) i (v ∷ []))
deed_of cs vs (EntersAll made f) = Meaning.Says (Meaning.Enters (made_of cs made) 0 vs)
deed_of cs vs Stops = Meaning.Says Meaning.Nothing
deed_of cs vs (Reads c n x) = Meaning.Reads (name_in cs c) n x
deed_of cs vs (Fills c n x a i v) = Meaning.Fills (name_in cs c) n x v
deed_of cs vs (Puts j v) = Meaning.Puts j v
