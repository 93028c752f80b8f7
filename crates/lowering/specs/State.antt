-- WHAT THE MACHINE HAS while it goes over words: what is open, and what is made.
use Rattle.std.specs.Prelude.{ℕ, Bool, List, [], ◌∷◌, ◌++◌}
use Rattle.semantics.specs.declared.graph.Source.{Source}
use Rattle.source.specs.Tree.{Name, NameAt, Target}
use Rattle.source.specs.Lowered.{Made, MadeBlock, Lowered, Site, Spot, spot_after, Scope}
use Rattle.lowering.specs.Plans.{Plan}

-- An open conditional: where it is, the sources before its predicate, the predicate's, and its node.
pub record Arms : Type 0 where
  pub site : Site
  pub scope : Scope
  pub outer : List Source
  pub predicate : List Source
  pub cond : ℕ

-- A loop whose first values are open: the sources before it, the names so far, and the outside names of its turn.
pub record Begun : Type 0 where
  pub at : ℕ
  pub outer : List Source
  pub names : List NameAt
  pub outs : List Name

-- A loop whose turn is open: in addition, its first values, where it is, and what its block and the loops before it have.
pub record Turning : Type 0 where
  pub at : ℕ
  pub outer : List Source
  pub names : List NameAt
  pub outs : List Name
  pub firsts : List Source
  pub site : Site
  pub spot : Spot
  pub scope : Scope
  pub nodes : List Made
  pub blocks : List MadeBlock

-- WHAT IS OPEN, the innermost first
pub data Frame : Type 0 where
  -- a function: its name, and its parameters so far
  Header : (function : NameAt) (params : List NameAt) → Frame
  -- a list: the sources before it
  InList : (outer : List Source) → Frame
  -- a `let`: its targets so far
  Targets : (targets : List Target) → Frame
  -- the first arm of a conditional, and the second one with the values of the first
  FirstArm : (arms : Arms) → Frame
  Right : (arms : Arms) (left : List Source) → Frame
  -- the first values of a loop, and its turn
  Firsts : (begun : Begun) → Frame
  Turned : (turn : Turning) → Frame
  -- within a turn: the arm after a test, and the test after a body with the body's values
  Looping : (arms : Arms) → Frame
  Ending : (values : List Source) → Frame

-- what ends with a loop: the arm after its test, or its test after a body with these values
pub data LoopEnd : Type 0 where
  InArm : (arms : Arms) → LoopEnd
  InTest : (values : List Source) → LoopEnd

pub record State : Type 0 where
  pub site : Site
  pub spot : Spot
  pub scope : Scope
  -- the values so far of the innermost open list, arm or turn
  pub sources : List Source
  -- whether the word before was a number
  pub number : Bool
  -- the nodes so far of the open block, and the blocks of the loops in it
  pub nodes : List Made
  pub blocks : List MadeBlock
  pub plans : List Plan
  pub frames : List Frame
  -- the blocks of the functions before, each with its function's name
  pub done : List (Name × MadeBlock)

-- the frames around the innermost one, which each word that closes a frame leaves, also where it closes what is not open; that is
-- in no program
abbrev pub around : List Frame → List Frame
around [] = []
around (f ∷ fs) = fs

abbrev pub popped : State → List Frame → State
popped s fs = record s { frames = around fs }

-- with what a part is lowered to
abbrev pub after : State → Lowered → State
after s l = record s { spot = spot_after s.spot l; sources = s.sources ++ l.sources; nodes = s.nodes ++ l.nodes; blocks = s.blocks ++ l.blocks }

-- with other plans, and a note whether the word before was a number
abbrev pub planned : State → List Plan → State
planned s ps = record s { plans = ps }

abbrev pub noted : Bool → State → State
noted b s = record s { number = b }
