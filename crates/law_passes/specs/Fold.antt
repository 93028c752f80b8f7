-- When the code of a plan is that of another one in which some literals are in the code of operators: its instructions in
-- other places and with the slots that they had, without some destinations.
use Rattle.semantics.specs.Plan.{Plan}
use Rattle.semantics.specs.Wired.{IsWired}
use Rattle.semantics.specs.Orderly.{Orderly}
use Rattle.law_fresh_frames.specs.Alike.{RunsAlike, LandsRightly}
use Rattle.law_simulation.specs.Simulates.{Relates}

-- A token at a literal that fired already stands for what results from it, and a token at an operator with a literal operand for both operands.
abbrev pub Folds : Plan → Plan → Type 0
Folds = Relates

-- each run of such a plan looks like one of the other
abbrev pub FoldsRunAlike : Type 0
FoldsRunAlike = (p q : Plan) → Folds p q → IsWired p → Orderly p → LandsRightly p → RunsAlike p q
