-- A slot's state as two words of 64 bits. Word 0: bits 0 to 7 are the state, bits 8 to 15 the kind of its word, bit 16
-- the port of a continuation, and bits 32 to 63 its instruction or the host's port. Word 1 is the integer, the number
-- of the frame, the count, or the code of a fault's origin.
use Rattle.std.specs.Prelude.{◌≡◌, ◌==◌, ℕ, ◌+◌, ◌-◌, ◌*◌, ◌/◌, ◌%◌, ◌<◌, List, [], ◌∷◌, ⊤, if◌then◌else◌}
use Rattle.std.specs.Int.{w64, cast_unsigned, cast_signed}
use Rattle.tags.specs.declared.value.Value.TheVariants.{Int, Fault}
use Rattle.tags.specs.declared.value.FaultKind.TheVariants.{Zero, Range}
use Rattle.tags.specs.declared.value.Origin.{Origin}
use Rattle.tags.specs.declared.value.Origin.TheVariants.{Untold, At}
use Rattle.tags.specs.declared.token.Port.{Port}
use Rattle.tags.specs.declared.token.Port.TheVariants as port
use Rattle.tags.specs.declared.token.Cont.{Cont}
use Rattle.tags.specs.declared.token.Word.{Word}
use Rattle.tags.specs.declared.slot.SlotState.{SlotState}
use Rattle.tags.specs.declared.slot.SlotState.TheVariants.{Empty, Left, Right, Credits, Waiter, Draining}
use Rattle.tags.specs.Packed.{origin_code, IsValue}

-- the kind of a word, the port and what is from bit 32 on, and word 1
pub record Parts : Type 0 where
  pub kind : ℕ
  pub port : ℕ
  pub high : ℕ
  pub body : ℕ

abbrev pub port_bit : Port → ℕ
port_bit port.Left = 0
port_bit port.Right = 1

abbrev pub cont_parts : Cont → Parts
cont_parts (Cont.Frame f ip p) = record { kind = 5; port = port_bit p; high = ip; body = f }
cont_parts (Cont.Host p) = record { kind = 6; port = 0; high = p; body = 0 }

abbrev pub word_parts : Word → Parts
word_parts (Word.Val (Int z)) = record { kind = 1; port = 0; high = 0; body = cast_unsigned w64 z }
word_parts (Word.Val (Fault Zero o)) = record { kind = 2; port = 0; high = 0; body = origin_code o }
word_parts (Word.Val (Fault Range o)) = record { kind = 3; port = 0; high = 0; body = origin_code o }
word_parts (Word.Frame f) = record { kind = 4; port = 0; high = 0; body = f }
word_parts (Word.Back c) = cont_parts c

abbrev pub head_of : ℕ → Parts → ℕ
head_of state p = state + 256 * p.kind + 65536 * p.port + 4294967296 * p.high

abbrev pub words_of : ℕ → Parts → List ℕ
words_of state p = head_of state p ∷ p.body ∷ []

abbrev pub count_parts : ℕ → Parts
count_parts n = record { kind = 0; port = 0; high = 0; body = n }

abbrev pub slot_words : SlotState → List ℕ
slot_words Empty = words_of 0 (count_parts 0)
slot_words (Left w) = words_of 1 (word_parts w)
slot_words (Right w) = words_of 2 (word_parts w)
slot_words (Credits n) = words_of 3 (count_parts n)
slot_words (Waiter c) = words_of 4 (cont_parts c)
slot_words (Draining n) = words_of 5 (count_parts n)

-- WHAT TWO WORDS STAND FOR
abbrev pub port_from : ℕ → Port
port_from b = if b == 1 then port.Right else port.Left

abbrev pub origin_from : ℕ → Origin
origin_from n = if n == 0 then Untold else At ((n - 1) / 1024 % 256) ((n - 1) % 1024)

abbrev pub cont_from : Parts → Cont
cont_from p = if p.kind == 5 then Cont.Frame (p.body % 4294967296) p.high (port_from p.port) else Cont.Host p.high

abbrev pub word_from : Parts → Word
word_from p = if p.kind == 1 then Word.Val (Int (cast_signed w64 p.body)) else (if p.kind == 2 then Word.Val (Fault Zero (origin_from p.body)) else
    (if p.kind == 3 then Word.Val (Fault Range (origin_from p.body)) else (if p.kind == 4 then Word.Frame (p.body % 4294967296) else Word.Back (cont_from p))))

abbrev pub parts_from : ℕ → ℕ → Parts
parts_from head body = record { kind = head / 256 % 256; port = head / 65536 % 2; high = head / 4294967296; body = body }

abbrev pub state_from : ℕ → Parts → SlotState
state_from s p = if s == 0 then Empty else
    (if s == 1 then Left (word_from p) else (if s == 2 then Right (word_from p) else (if s == 3 then Credits (p.body % 4294967296) else
    (if s == 4 then Waiter (cont_from p) else Draining (p.body % 4294967296)))))

abbrev pub slot_from : ℕ → ℕ → SlotState
slot_from head body = state_from (head % 256) (parts_from head body)

-- WHICH ARE THERE
abbrev pub IsCont : Cont → Type 0
IsCont (Cont.Frame f ip p) = (f < 4294967296) × (ip < 4294967296)
IsCont (Cont.Host p) = p < 4294967296

abbrev pub IsWord : Word → Type 0
IsWord (Word.Val v) = IsValue v
IsWord (Word.Frame f) = f < 4294967296
IsWord (Word.Back c) = IsCont c

abbrev pub IsSlotState : SlotState → Type 0
IsSlotState Empty = ⊤
IsSlotState (Left w) = IsWord w
IsSlotState (Right w) = IsWord w
IsSlotState (Credits n) = n < 4294967296
IsSlotState (Waiter c) = IsCont c
IsSlotState (Draining n) = n < 4294967296

-- no two states have the same words
abbrev pub SlotPackingIsExact : Type 0
SlotPackingIsExact = (s t : SlotState) → IsSlotState s → IsSlotState t → slot_words s ≡ slot_words t → s ≡ t
