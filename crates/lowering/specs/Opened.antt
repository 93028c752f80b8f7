-- What code has open, as the machine has it.
use Rattle.std.specs.Prelude.{Bool, true, false}
use Rattle.lowering.specs.declared.frame.Side.{Side}
use Rattle.lowering.specs.declared.frame.Side.TheVariants as side
use Rattle.lowering.specs.declared.frame.Open.{Open}
use Rattle.lowering.specs.declared.frame.Open.TheVariants as opened
use Rattle.lowering.specs.declared.frame.LoopEnd.{LoopEnd}
use Rattle.lowering.specs.declared.frame.LoopEnd.TheVariants as end
use Rattle.lowering.specs.State as state
use Rattle.lowering.specs.State.{Frame, Header, InList, Targets, FirstArm, Right, Firsts, Turned, Looping, Ending}

abbrev pub frame_of : {A : _} → Open A → Frame
frame_of (opened.Header header) = Header header.0 header.1
frame_of (opened.InList outer) = InList outer.items
frame_of (opened.Targets targets) = Targets targets.items
frame_of (opened.FirstArm arms) = FirstArm arms
frame_of (opened.Right second) = Right second.0 second.1
frame_of (opened.Firsts begun) = Firsts begun
frame_of (opened.Turned turn) = Turned turn
frame_of (opened.Looping arms) = Looping arms
frame_of (opened.Ending values) = Ending values.items

-- what ends with a loop
abbrev pub loop_end_of : {A : _} → LoopEnd A → state.LoopEnd
loop_end_of (end.Arm arms) = state.InArm arms
loop_end_of (end.Test values) = state.InTest values.items

-- whether an arm is the first one, as its region says
abbrev pub is_first : Side → Bool
is_first side.First = true
is_first side.Second = false
