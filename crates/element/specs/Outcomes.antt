-- What a token meets in a slot.
use Rattle.std.specs.Prelude.{◌≡◌, [], ◌∷◌, ⊤}
use Rattle.tags.specs.declared.slot.SlotState.TheVariants.{Empty}
use Rattle.semantics.specs.Program.{Program, Instr}
use Rattle.semantics.specs.Rule as rule
use Rattle.element.specs.Fired.{HasRoomInWord}
use Rattle.element.specs.declared.firing.two_inputs.Meeting.{Meeting}
use Rattle.element.specs.declared.firing.two_inputs.Meeting.TheVariants.{Both, Apart}
use Rattle.element.specs.declared.firing.two_inputs.Meeting.TheVariants as meeting
use Rattle.element.specs.declared.firing.credits.Credit.{Credit}
use Rattle.element.specs.declared.firing.credits.Credit.TheVariants.{SlotOnly, Answered, Later}

-- what a token meets, as the outcome of an instruction with two inputs
abbrev pub MeetingIs : Program → rule.Point → Instr → rule.Outcome → Meeting → Type 0
MeetingIs p s i o (Both l r) = o ≡ rule.fires Empty (rule.fire_two p s i i.op l r)
MeetingIs p s i o (meeting.Waits v) = o ≡ rule.Becomes v []
MeetingIs p s i o Apart = o ≡ rule.Excluded 3

abbrev pub LeftHasRoom : Meeting → Type 0
LeftHasRoom (Both l r) = HasRoomInWord l
LeftHasRoom m = ⊤

-- the result of a credit, as the outcome of its instruction
abbrev pub CreditIs : rule.Outcome → Credit → Type 0
CreditIs o (SlotOnly v) = o ≡ rule.Becomes v []
CreditIs o (Answered v t) = o ≡ rule.Becomes v (t ∷ [])
CreditIs o Later = ⊤
