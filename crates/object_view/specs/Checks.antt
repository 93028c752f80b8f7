-- Which bytes are refused, and why: the first refusal in a fixed order.
use Rattle.std.specs.Prelude.{ℕ, zero, suc, ◌+◌, ◌-◌, ◌*◌, ◌/◌, ◌%◌, ◌^◌, Bool, true, ◌&&◌, ◌||◌, ◌==◌, nat_lt, nat_le, if◌then◌else◌, int_lt}
use Rattle.std.specs.Prelude.{Option, Some, None, Result, Ok, Err, ⊤, List, length}
use Rattle.object_view.specs.declared.fault.ObjectFault.{ObjectFault}
use Rattle.object_view.specs.declared.fault.ObjectFault.TheVariants.{Truncated, BadMagic, BadVersion, BadTable, BadOpcode, BadDestination, BadSlot}
use Rattle.object_view.specs.declared.fault.ObjectFault.TheVariants.{BadLiteral, Trailing}
use Rattle.semantics.specs.declared.opcode.Opcode.{Opcode}
use Rattle.semantics.specs.declared.opcode.Opcode.TheVariants.{Apply2Right, Apply2Left, Lit, Fetch, Store, Link, Send, Return, Ask, Release}
use Rattle.semantics.specs.declared.version.Version.{Version}
use Rattle.semantics.specs.declared.version.Version.TheVariants.{One, Two}
use Rattle.object_view.specs.Fields.{word_at, count_in, inputs_in, outputs_in, slots_in, opcode_in, slot_in, dest_of, first_half, second_half}
use Rattle.object_view.specs.Fields.{operand_in, origin_number}
use Rattle.semantics.specs.Opcodes.{may_have, may_go_to, takes_two, takes_slot}
use Rattle.object_view.specs.Reading.{version_in, instrs_below, instr_place, literal_in, array_in, word_count}

abbrev pub Checked : Type 0
Checked = Result ⊤ ObjectFault

-- one check after another: the first refusal counts
abbrev pub first_then : Checked → Checked → Checked
first_then (Ok x) next = next
first_then (Err e) next = Err e

abbrev pub unless : Bool → ObjectFault → Checked
unless fits fault = if fits then Ok tt else Err fault

-- a check of numbers in a row, from i on
abbrev pub each : (ℕ → Checked) → ℕ → ℕ → Checked
each check i zero = Ok tt
each check i (suc k) = first_then (check i) (each check (i + 1) k)

-- THE HEADER
abbrev pub MAGIC : ℕ
MAGIC = 0x54434a424f535445

abbrev pub counts_fit : (ℕ → ℕ) → Bool
counts_fit w = nat_le 1 (w 2) && nat_le (w 2) 512 && nat_le (w 3) 65536 && nat_le (w 4) 64 && nat_lt (w 5) (w 2)

abbrev pub header_checked : (ℕ → ℕ) → Checked
header_checked w =
    if w 0 == MAGIC then (if w 1 == 1 || w 1 == 2 then unless (counts_fit w) BadTable else Err BadVersion) else Err BadMagic

-- THE BLOCK TABLE, and the length of the whole
abbrev pub entry_fits : ℕ → Bool
entry_fits x =
    nat_le 1 (inputs_in x) && nat_le (inputs_in x) 16 && nat_le 1 (outputs_in x) && nat_le (outputs_in x) 16
    && nat_le (inputs_in x + 1) (count_in x) && nat_le (count_in x) 32768 && nat_le (slots_in x) 512

abbrev pub entry_checked : (ℕ → ℕ) → ℕ → Checked
entry_checked w b = unless (entry_fits (w (6 + b))) BadTable

abbrev pub length_checked : ℕ → (ℕ → ℕ) → Checked
length_checked n w = if nat_lt n (8 * word_count w) then Err Truncated else if nat_lt (8 * word_count w) n then Err Trailing else Ok tt

abbrev pub tables_checked : ℕ → (ℕ → ℕ) → Checked
tables_checked n w = if nat_lt n (8 * (6 + w 2)) then Err Truncated else first_then (each (entry_checked w) 0 (w 2)) (length_checked n w)

-- ARRAYS AND LITERALS
abbrev pub cells_below : (ℕ → ℕ) → ℕ → ℕ
cells_below w zero = 0
cells_below w (suc k) = cells_below w k + array_in w k

abbrev pub array_checked : (ℕ → ℕ) → ℕ → Checked
array_checked w k = unless (nat_le 1 (array_in w k) && nat_le (array_in w k) 65536) BadTable

abbrev pub arrays_checked : (ℕ → ℕ) → Checked
arrays_checked w = first_then (each (array_checked w) 0 (w 4)) (unless (nat_le (cells_below w (w 4)) 65536) BadTable)

abbrev pub literal_checked : (ℕ → ℕ) → ℕ → Checked
literal_checked w k = unless (int_lt (literal_in w k) (literal_in w (k + 1))) BadLiteral

abbrev pub literals_checked : (ℕ → ℕ) → Checked
literals_checked w = each (literal_checked w) 0 (w 3 - 1)

-- AN INSTRUCTION, whose block ends before the instruction `end`, and which has `slots` slots
abbrev pub operand_fits : Version → Opcode → ℕ → Bool
operand_fits One o y = may_have o y
operand_fits Two o y = nat_le (origin_number Two o y) 262144 && nat_lt (operand_in Two o y) (2 ^ 32) && may_have o (operand_in Two o y)

abbrev pub slot_fits : Opcode → ℕ → ℕ → Bool
slot_fits o slot slots = if takes_slot o then nat_lt slot slots else slot == 0

-- A right port is for an instruction that takes two tokens. One whose opcode or flag does not exist is refused itself.
abbrev pub may_take_right : Option Opcode → Bool
may_take_right None = true
may_take_right (Some o) = takes_two o

-- half a word: no destination, or one in the block
abbrev pub dest_fits : (ℕ → ℕ) → ℕ → ℕ → ℕ → Bool
dest_fits w end ip h =
    if h % 2 ^ 15 == 0 then h == 0
    else nat_lt (ip + h % 2 ^ 15) end && (h / 2 ^ 15 == 0 || may_take_right (opcode_in (w (instr_place w (ip + h % 2 ^ 15)))))

abbrev pub dests_fit : (ℕ → ℕ) → ℕ → ℕ → Opcode → ℕ → Bool
dests_fit w end ip o x =
    dest_fits w end ip (first_half x) && dest_fits w end ip (second_half x) && may_go_to o (dest_of (first_half x)) (dest_of (second_half x))

-- the block, the entry or the offset that an instruction names
abbrev pub target_fits : (ℕ → ℕ) → Opcode → ℕ → Bool
target_fits w Link k = nat_lt k (w 2)
target_fits w Send k = nat_lt (k / 2 ^ 16) (w 2) && nat_le (k % 2 ^ 16) (inputs_in (w (6 + k / 2 ^ 16)))
target_fits w Return k = nat_le k 255
target_fits w Ask k = nat_le k 255
target_fits w Release k = nat_le k 255
target_fits w o k = true

-- the literal or the array that an instruction names
abbrev pub number_checked : (ℕ → ℕ) → Opcode → ℕ → Checked
number_checked w (Apply2Right op) k = unless (nat_lt k (w 3)) BadLiteral
number_checked w (Apply2Left op) k = unless (nat_lt k (w 3)) BadLiteral
number_checked w Lit k = unless (nat_lt k (w 3)) BadLiteral
number_checked w Fetch k = unless (nat_lt k (w 4)) BadTable
number_checked w Store k = unless (nat_lt k (w 4)) BadTable
number_checked w o k = Ok tt

abbrev pub opcode_checked : (ℕ → ℕ) → ℕ → ℕ → ℕ → Opcode → ℕ → ℕ → Checked
opcode_checked w slots end ip o x y =
    first_then (unless (operand_fits (version_in (w 1)) o y) BadOpcode)
    (first_then (unless (slot_fits o (slot_in x) slots) BadSlot)
    (first_then (unless (dests_fit w end ip o x && target_fits w o (operand_in (version_in (w 1)) o y)) BadDestination)
    (number_checked w o (operand_in (version_in (w 1)) o y))))

abbrev pub instr_checked_as : (ℕ → ℕ) → ℕ → ℕ → ℕ → Option Opcode → Checked
instr_checked_as w slots end ip None = Err BadOpcode
instr_checked_as w slots end ip (Some o) = opcode_checked w slots end ip o (w (instr_place w ip)) (w (instr_place w ip + 1))

unfoldable pub instr_checked : (ℕ → ℕ) → ℕ → ℕ → ℕ → Checked
instr_checked w slots end ip = instr_checked_as w slots end ip (opcode_in (w (instr_place w ip)))

abbrev pub block_checked : (ℕ → ℕ) → ℕ → Checked
block_checked w b = each (instr_checked w (slots_in (w (6 + b))) (instrs_below w b + count_in (w (6 + b)))) (instrs_below w b) (count_in (w (6 + b)))

-- THE WHOLE
abbrev pub opening_checked : ℕ → (ℕ → ℕ) → Checked
opening_checked n w = if nat_lt n 48 then Err Truncated else first_then (header_checked w) (tables_checked n w)

abbrev pub content_checked : (ℕ → ℕ) → Checked
content_checked w = first_then (arrays_checked w) (first_then (literals_checked w) (each (block_checked w) 0 (w 2)))

unfoldable pub checked : List ℕ → Checked
checked bytes = first_then (opening_checked (length bytes) (word_at bytes)) (content_checked (word_at bytes))

abbrev pub refusal : Checked → Option ObjectFault
refusal (Ok x) = None
refusal (Err e) = Some e

-- why bytes are refused, where they are
abbrev pub first_refusal : List ℕ → Option ObjectFault
first_refusal bytes = refusal (checked bytes)
