-- A token as four words of 64 bits. Words 0 and 1 are those of a slot in which the token's word lies, except that bits 0 to 7
-- say where the token goes. To an instruction they are those of the slot where the word waits: 1 for the left port, 2 for
-- the right one. Word 2 has in its high half the frame, the cell, or the host's port, and in its low half the instruction, or a
-- number above those of all instructions, and in a store the kind of the value; word 3 is word 1 of that value.
use Rattle.std.specs.Prelude.{◌≡◌, ◌==◌, ℕ, ◌+◌, ◌*◌, ◌/◌, ◌%◌, ◌<◌, List, [], ◌∷◌, ⊤, if◌then◌else◌}
use Rattle.std.specs.Int.{w64, cast_signed}
use Rattle.tags.specs.declared.value.Value.{Value}
use Rattle.tags.specs.declared.value.Value.TheVariants.{Int, Fault}
use Rattle.tags.specs.declared.value.FaultKind.TheVariants.{Zero, Range}
use Rattle.tags.specs.declared.token.Port.{Port}
use Rattle.tags.specs.declared.token.Port.TheVariants as port
use Rattle.tags.specs.declared.token.Word.{Word}
use Rattle.tags.specs.declared.token.To.{To}
use Rattle.tags.specs.declared.token.Token.{Token}
use Rattle.tags.specs.declared.slot.SlotState.{SlotState}
use Rattle.tags.specs.declared.slot.SlotState.TheVariants.{Empty, Left, Right}
use Rattle.tags.specs.Packed.{IsValue}
use Rattle.packed.specs.Packing.{head_of, word_parts, word_from, parts_from, origin_from, IsWord}

abbrev pub port_state : Port → ℕ
port_state port.Left = 1
port_state port.Right = 2

abbrev pub to_state : To → ℕ
to_state (To.Instr f ip p) = port_state p
to_state (To.Fetch x) = 3
to_state (To.Store x v) = 4
to_state To.Manager = 5
to_state (To.Release f) = 6
to_state (To.Host p) = 7

-- word 2 of a token that goes to no instruction: its low half is no number of an instruction
abbrev pub elsewhere : ℕ → ℕ
elsewhere n = 2147483648 + 4294967296 * n

abbrev pub to_place : To → ℕ
to_place (To.Instr f ip p) = ip + 4294967296 * f
to_place (To.Fetch x) = elsewhere x
to_place (To.Store x v) = elsewhere x + (word_parts (Word.Val v)).kind
to_place To.Manager = elsewhere 0
to_place (To.Release f) = elsewhere f
to_place (To.Host p) = elsewhere p

abbrev pub to_value : To → ℕ
to_value (To.Store x v) = (word_parts (Word.Val v)).body
to_value to = 0

abbrev pub token_words : Token → List ℕ
token_words t = head_of (to_state t.to) (word_parts t.word) ∷ (word_parts t.word).body ∷ to_place t.to ∷ to_value t.to ∷ []

-- WHAT THE WORDS STAND FOR
abbrev pub value_from : ℕ → ℕ → Value
value_from kind body = if kind == 1 then Int (cast_signed w64 body) else (if kind == 2 then Fault Zero (origin_from body) else Fault Range (origin_from body))

abbrev pub to_from : ℕ → ℕ → ℕ → To
to_from state place value = if state == 1 then To.Instr (place / 4294967296) (place % 4294967296) port.Left else
    (if state == 2 then To.Instr (place / 4294967296) (place % 4294967296) port.Right else (if state == 3 then To.Fetch (place / 4294967296) else
    (if state == 4 then To.Store (place / 4294967296) (value_from (place % 2147483648) value) else
    (if state == 5 then To.Manager else (if state == 6 then To.Release (place / 4294967296) else To.Host (place / 4294967296))))))

abbrev pub token_from : ℕ → ℕ → ℕ → ℕ → Token
token_from head body place value = record { to = to_from (head % 256) place value; word = word_from (parts_from head body) }

-- the word of two words
abbrev pub word_in : ℕ → ℕ → Word
word_in head body = word_from (parts_from head body)

-- WHICH ARE THERE
abbrev pub IsTo : To → Type 0
IsTo (To.Instr f ip p) = (f < 4294967296) × (ip < 4294967296)
IsTo (To.Fetch x) = x < 4294967296
IsTo (To.Store x v) = (x < 4294967296) × IsValue v
IsTo To.Manager = ⊤
IsTo (To.Release f) = f < 4294967296
IsTo (To.Host p) = p < 4294967296

pub record IsToken (t : Token) : Type 0 where
  pub to : IsTo t.to
  pub word : IsWord t.word

-- THE WORDS OF A WORD, with a number in bits 0 to 7, AND OF A TOKEN
pub record AreWordsOf (state : ℕ) (w : Word) (x y : ℕ) : Type 0 where
  pub head : x ≡ head_of state (word_parts w)
  pub body : y ≡ (word_parts w).body

pub record AreTokenWordsOf (t : Token) (x y p v : ℕ) : Type 0 where
  pub head : x ≡ head_of (to_state t.to) (word_parts t.word)
  pub body : y ≡ (word_parts t.word).body
  pub place : p ≡ to_place t.to
  pub value : v ≡ to_value t.to

-- two words are those of the word that they stand for, with a number in bits 0 to 7
pub record AreWords (x y : ℕ) : Type 0 where
  pub state : ℕ
  pub below : state < 256
  pub words : AreWordsOf state (word_in x y) x y

-- the state of a slot in which the word waits
abbrev pub waits_at : Port → Word → SlotState
waits_at port.Left w = Left w
waits_at port.Right w = Right w

abbrev pub waits_as : To → Word → SlotState
waits_as (To.Instr f ip p) w = waits_at p w
waits_as to w = Empty

abbrev pub IsForInstr : To → Type 0
IsForInstr (To.Instr f ip p) = ⊤
IsForInstr to = ⊥

-- no two tokens have the same words
abbrev pub TokenPackingIsExact : Type 0
TokenPackingIsExact = (s t : Token) → IsToken s → IsToken t → token_words s ≡ token_words t → s ≡ t
