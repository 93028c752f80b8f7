-- WHAT THE INNERMOST FRAME HAS, where it is of the kind that a word closes.
use Rattle.std.specs.Prelude.{List, [], ◌∷◌, Option, None, Some}
use Rattle.semantics.specs.declared.graph.Source.{Source}
use Rattle.source.specs.Tree.{NameAt, Target}
use Rattle.lowering.specs.State.{Arms, Begun, Turning, Frame, Header, InList, Targets, FirstArm, Right, Firsts, Turned, Looping, Ending, LoopEnd, InArm, InTest}

abbrev pub header_in : List Frame → Option (NameAt × List NameAt)
header_in (Header f params ∷ fs) = Some (f, params)
header_in fs = None

abbrev pub list_in : List Frame → Option (List Source)
list_in (InList outer ∷ fs) = Some outer
list_in fs = None

abbrev pub targets_in : List Frame → Option (List Target)
targets_in (Targets ts ∷ fs) = Some ts
targets_in fs = None

abbrev pub first_arm_in : List Frame → Option Arms
first_arm_in (FirstArm arms ∷ fs) = Some arms
first_arm_in fs = None

abbrev pub second_arm_in : List Frame → Option (Arms × List Source)
second_arm_in (Right arms left ∷ fs) = Some (arms, left)
second_arm_in fs = None

abbrev pub firsts_in : List Frame → Option Begun
firsts_in (Firsts begun ∷ fs) = Some begun
firsts_in fs = None

abbrev pub turn_in : List Frame → Option Turning
turn_in (Turned turn ∷ fs) = Some turn
turn_in fs = None

-- the arm of a turn with its test first, or the values of the body before its test
abbrev pub loop_end_in : List Frame → Option LoopEnd
loop_end_in (Looping arms ∷ fs) = Some (InArm arms)
loop_end_in (Ending values ∷ fs) = Some (InTest values)
loop_end_in fs = None
