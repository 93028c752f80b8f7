-- What the code's outcomes stand for in the definitions.
use Rattle.std.specs.Prelude.{ℕ, Option, Some, None, ◌<◌, ◌^◌, List, [], ◌∷◌, ◌++◌, option_to_list, ⊤}
use Rattle.tags.specs.declared.token.Cont.{Cont}
use Rattle.tags.specs.declared.token.Word.{Word}
use Rattle.tags.specs.declared.token.To.{To}
use Rattle.tags.specs.declared.token.Token.{Token}
use Rattle.tags.specs.declared.slot.SlotState.{SlotState}
use Rattle.tags.specs.declared.slot.SlotState.TheVariants as slot
use Rattle.semantics.specs.declared.program.Op.{Op}
use Rattle.semantics.specs.declared.program.Op.TheVariants.{Apply2, Sync, Switch, Store, Send, Return, Ask, Release}
use Rattle.operators.specs.Values as values
use Rattle.semantics.specs.Rule as rule
use Rattle.element.specs.Decoded.{dest_in}
use Rattle.element.specs.declared.firing.made.Point.{Point}
use Rattle.element.specs.declared.firing.made.Made.{Made}
use Rattle.element.specs.declared.firing.passing.Passed.{Passed}
use Rattle.element.specs.declared.firing.leaving.Leaving.{Leaving}
use Rattle.element.specs.declared.firing.arrays.Indexed.{Indexed}
use Rattle.element.specs.declared.firing.arrays.Indexed.TheVariants.{Place, Outside}
use Rattle.element.specs.declared.firing.outcomes.Firing.{Firing}
use Rattle.element.specs.declared.firing.outcomes.Firing.TheVariants.{Fired, WrongKind}
use Rattle.element.specs.declared.firing.outcomes.Outcome.{Outcome}
use Rattle.element.specs.declared.firing.outcomes.Outcome.TheVariants.{Becomes, Excluded}

abbrev pub point_of : Point → rule.Point
point_of s = record { frame = s.frame; ip = s.ip }

-- a word to the destination in a half word, if it has one
abbrev pub to_half : rule.Point → Word → ℕ → List Token
to_half s w h = rule.to_each s w (option_to_list (dest_in h))

-- the release of a frame, if there is one
abbrev pub released_of : Option ℕ → List Token
released_of None = []
released_of (Some f) = rule.token (To.Release f) rule.signal ∷ []

-- the tokens that leave the frame, in order
abbrev pub outside_of : Made → List Token
outside_of m = released_of m.released ++ option_to_list m.outside

-- the tokens that are made at a seat, in order
abbrev pub tokens_of : rule.Point → Made → List Token
tokens_of s m = outside_of m ++ (to_half s m.word m.first ++ to_half s m.word m.second)

-- and those that pass a word on
abbrev pub passed_on : rule.Point → Passed → List Token
passed_on s x = to_half s x.word x.first ++ to_half s x.word x.second

-- and those of which the first one leaves the frame
abbrev pub left_on : rule.Point → Leaving → List Token
left_on s x = x.token ∷ (to_half s rule.signal x.first ++ to_half s rule.signal x.second)

abbrev pub indexed_of : Indexed → values.Indexed
indexed_of (Place x) = values.Place x
indexed_of (Outside v) = values.Outside v

abbrev pub IsWithin : ℕ → Indexed → Type 0
IsWithin len (Place x) = x < len
IsWithin len (Outside v) = ⊤

-- the tokens, where it fired
abbrev pub fired_by : Firing → List Token → Option (List Token)
fired_by Fired made = Some made
fired_by WrongKind made = None

abbrev pub outcome_by : Outcome → List Token → rule.Outcome
outcome_by (Becomes v) made = rule.Becomes v made
outcome_by (Excluded n) made = rule.Excluded n

-- an offset of 8 bits can be added
abbrev pub HasRoom : Cont → Type 0
HasRoom (Cont.Frame f ip p) = ip < 2 ^ 31
HasRoom (Cont.Host p) = p < 2 ^ 31

abbrev pub HasRoomInWord : Word → Type 0
HasRoomInWord (Word.Val v) = ⊤
HasRoomInWord (Word.Frame f) = ⊤
HasRoomInWord (Word.Back c) = HasRoom c

abbrev pub HasRoomInSlot : SlotState → Type 0
HasRoomInSlot (slot.Left w) = HasRoomInWord w
HasRoomInSlot (slot.Right w) = HasRoomInWord w
HasRoomInSlot s = ⊤

-- it has no right port
abbrev pub TakesLeftAlone : Op → Type 0
TakesLeftAlone (Apply2 op) = ⊥
TakesLeftAlone Sync = ⊥
TakesLeftAlone Switch = ⊥
TakesLeftAlone (Store a) = ⊥
TakesLeftAlone (Send b e) = ⊥
TakesLeftAlone (Return o) = ⊥
TakesLeftAlone (Ask o) = ⊥
TakesLeftAlone (Release o) = ⊥
TakesLeftAlone op = ⊤
