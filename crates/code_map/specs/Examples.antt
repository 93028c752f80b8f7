-- The owners of small graphs' objects.
use Rattle.std.specs.Prelude.{◌≡◌, ℕ, pos, true, false, List, [], ◌∷◌}
use Rattle.operators.specs.declared.Binary.TheVariants.{Add}
use Rattle.semantics.specs.declared.graph.Region.{Region}
use Rattle.semantics.specs.declared.graph.Region.TheVariants.{Root, Arm}
use Rattle.semantics.specs.declared.graph.Source.{Source}
use Rattle.semantics.specs.declared.graph.Kind.{Kind}
use Rattle.semantics.specs.Graph.{Node, Block, Flow}
use Rattle.code_map.specs.declared.part.Part.{Part}
use Rattle.code_map.specs.declared.part.Part.TheVariants.{Continuation, Output, Joins, Release}
use Rattle.code_map.specs.Owners.{owned}
use Rattle.code_map.specs.Carried.{owners_of}

abbrev pub from : ℕ → Source
from n = record { node = n; port = 0 }

abbrev pub line : Region → Kind ℕ → List Source → Node ℕ
line r k ss = record { region = r; kind = k; sources = ss }

abbrev pub alone : Block ℕ → Flow
alone b = record { version = 2; arrays = []; blocks = b ∷ []; main = 0 }

-- One more than the input: the literal is the operator's operand in the code, and has no instruction.
abbrev pub next : Block ℕ
next = record {
  inputs = 1;
  outputs = 1;
  nodes = line Root (Kind.Lit (pos 1)) (from 0 ∷ []) ∷ line Root (Kind.Apply2 Add) (from 0 ∷ from 1 ∷ []) ∷ [];
  results = from 2 ∷ [];
}

abbrev pub LiteralIsLeftOut : Type 0
LiteralIsLeftOut = owners_of (alone next) ≡ owned 0 false (Continuation ∷ Part.Node 0 ∷ Part.Node 2 ∷ Output 0 ∷ Release ∷ [])

-- The input four times: the continuation goes to four returns and to the release by three copies, and the input by two. The four ends have
-- three joins.
abbrev pub spread : Block ℕ
spread = record { inputs = 1; outputs = 4; nodes = []; results = from 0 ∷ from 0 ∷ from 0 ∷ from 0 ∷ [] }

abbrev pub CopiesAreOwned : Type 0
CopiesAreOwned = owners_of (alone spread) ≡ owned 0 false (Continuation ∷ Part.Node 0 ∷ Continuation ∷ Continuation ∷ Continuation ∷ Part.Node 0 ∷ Part.Node 0
    ∷ Output 0 ∷ Output 1 ∷ Output 2 ∷ Output 3 ∷ Release ∷ Release ∷ Release ∷ Release ∷ [])

-- The input by either arm: the conditional has no instruction but the copy in which it ends.
abbrev pub chosen : Block ℕ
chosen = record {
  inputs = 1;
  outputs = 1;
  nodes = line Root Kind.Cond (from 0 ∷ [])
      ∷ line (Arm 1 true) Kind.Enter (from 0 ∷ [])
      ∷ line (Arm 1 false) Kind.Enter (from 0 ∷ [])
      ∷ line Root (Kind.Merge 1) (from 2 ∷ from 3 ∷ [])
      ∷ [];
  results = from 4 ∷ [];
}

abbrev pub JoinsAreOwned : Type 0
JoinsAreOwned = owners_of (alone chosen) ≡ owned 0 false (Continuation ∷ Part.Node 0 ∷ Part.Node 0 ∷ Part.Node 0 ∷ Part.Node 2 ∷ Part.Node 3 ∷ Part.Node 4
    ∷ Output 0 ∷ Joins 1 ∷ Release ∷ Release ∷ [])
