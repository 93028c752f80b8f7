-- The word that waits in a slot, and on which side.
use Rattle.std.specs.Prelude.{Option, Some, None}
use Rattle.tags.specs.declared.token.Port.{Port}
use Rattle.tags.specs.declared.token.Port.TheVariants as port
use Rattle.tags.specs.declared.token.Word.{Word}
use Rattle.tags.specs.declared.slot.SlotState.{SlotState}
use Rattle.tags.specs.declared.slot.SlotState.TheVariants.{Left, Right}

-- the port whose word waits, if one does
abbrev pub side_of : SlotState → Option Port
side_of (Left w) = Some port.Left
side_of (Right w) = Some port.Right
side_of s = None

-- the word that waits; any word where none does
abbrev pub word_of : SlotState → Word
word_of (Left w) = w
word_of (Right w) = w
word_of s = Word.Frame 0
