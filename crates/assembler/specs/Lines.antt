-- What the words of a line say, from left to right: the first that does not fit is the fault.
use Rattle.std.specs.Prelude.{ℕ, ◌==◌, List, [], ◌∷◌, Result, Ok, Err, ok_or, option_to_list, ℤ, codes, if◌then◌else◌, ⊤}
use Rattle.std.specs.Str.{bytes_eq}
use Rattle.tags.specs.declared.value.Origin.{Origin}
use Rattle.tags.specs.declared.value.Origin.TheVariants.{Untold}
use Rattle.semantics.specs.declared.program.Op.{Op}
use Rattle.semantics.specs.Program.{Instr, CodeBlock, uses_slot}
use Rattle.graph_file.specs.Giving.{◌>>=◌}
use Rattle.graph_file.specs.Fields.{number_of, literal_of}
use Rattle.assembler.specs.declared.fault.AsmFaultKind.{AsmFaultKind}
use Rattle.assembler.specs.declared.fault.AsmFaultKind.TheVariants.{BadLine, BadNumber, BadName, BadSlot, BadDestination, BadOperand, BadOrigin}
use Rattle.assembler.specs.Words.{Word}
use Rattle.semantics.specs.Opcodes.{opcode_named}
use Rattle.assembler.specs.Fields.{op_of, slot_from, dest_of, origin_of}

unfoldable pub word_from : List Word → Result (Word × List Word) AsmFaultKind
word_from [] = Err BadLine
word_from (w ∷ ws) = Ok (w, ws)

-- no word is left
unfoldable pub none_from : List Word → Result ⊤ AsmFaultKind
none_from [] = Ok tt
none_from (w ∷ ws) = Err BadLine

-- just this word
unfoldable pub key_from : Word → List Word → Result (List Word) AsmFaultKind
key_from key ws = do
  w ← word_from ws
  if bytes_eq w.0 key then Ok w.1 else Err BadLine

unfoldable pub number_from : List Word → Result (ℕ × List Word) AsmFaultKind
number_from ws = do
  w ← word_from ws
  n ← ok_or (number_of w.0) BadNumber
  Ok (n, w.1)

-- just this number
unfoldable pub count_from : ℕ → List Word → Result (List Word) AsmFaultKind
count_from n ws = do
  m ← number_from ws
  if m.0 == n then Ok m.1 else Err BadNumber

-- a fixed word and a number
unfoldable pub keyed_from : Word → List Word → Result (ℕ × List Word) AsmFaultKind
keyed_from key ws = do
  rest ← key_from key ws
  number_from rest

-- `ets V main M`
unfoldable pub head_from : List Word → Result (ℕ × ℕ) AsmFaultKind
head_from ws = do
  v ← keyed_from (codes "ets") ws
  m ← keyed_from (codes "main") v.1
  none ← none_from m.1
  Ok (v.0, m.0)

-- after `block`: `N inputs I outputs O slots S`
unfoldable pub block_from : ℕ → List Word → Result CodeBlock AsmFaultKind
block_from n ws = do
  rest ← count_from n ws
  i ← keyed_from (codes "inputs") rest
  o ← keyed_from (codes "outputs") i.1
  s ← keyed_from (codes "slots") o.1
  none ← none_from s.1
  Ok record { inputs = i.0; outputs = o.0; slots = s.0; instrs = [] }

-- after `array`: `N LEN`
unfoldable pub array_from : ℕ → List Word → Result ℕ AsmFaultKind
array_from n ws = do
  rest ← count_from n ws
  len ← number_from rest
  none ← none_from len.1
  Ok len.0

-- after `literal`: `N V`
unfoldable pub literal_from : ℕ → List Word → Result ℤ AsmFaultKind
literal_from n ws = do
  rest ← count_from n ws
  w ← word_from rest
  z ← ok_or (literal_of w.0) BadNumber
  none ← none_from w.1
  Ok z

-- nothing, or one origin
unfoldable pub origin_from : List Word → Result Origin AsmFaultKind
origin_from [] = Ok Untold
origin_from (w ∷ []) = ok_or (origin_of w) BadOrigin
origin_from (w ∷ x ∷ ws) = Err BadLine

-- The words after the name of an instruction. The operand says what the operation is, so it is looked at before the slot.
unfoldable pub op_from : Word → Word → Result Op AsmFaultKind
op_from name operand = do
  n ← ok_or (opcode_named name) BadName
  ok_or (op_of n operand) BadOperand

abbrev pub Tail : Type 0
Tail = Word × Word × Word × Word × List Word

-- slot, destinations, operand, and what is left
unfoldable pub tail_from : List Word → Result Tail AsmFaultKind
tail_from ws = do
  s ← word_from ws
  d ← word_from s.1
  e ← word_from d.1
  o ← word_from e.1
  Ok (s.0, d.0, e.0, o.0, o.1)

-- the name of an instruction, and what follows it
unfoldable pub named_from : Word → Tail → Result Instr AsmFaultKind
named_from name t = do
  op ← op_from name t.3
  slot ← ok_or (slot_from (uses_slot op) t.0) BadSlot
  d ← ok_or (dest_of t.1) BadDestination
  e ← ok_or (dest_of t.2) BadDestination
  origin ← origin_from t.4
  Ok record { op = op; origin = origin; slot = slot; firsts = option_to_list d; seconds = option_to_list e }

-- `N NAME SLOT D D OPERAND`, and the origin
unfoldable pub instr_from : ℕ → List Word → Result Instr AsmFaultKind
instr_from n ws = do
  rest ← count_from n ws
  name ← word_from rest
  t ← tail_from name.1
  named_from name.0 t
