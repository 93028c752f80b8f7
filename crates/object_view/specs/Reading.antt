-- The code that is read from an object's words.
use Rattle.std.specs.Prelude.{ℕ, zero, suc, ◌+◌, ◌*◌, ◌/◌, ◌%◌, ◌==◌, nat_lt, if◌then◌else◌, unwrap_or, ℤ, pos, List, [], ◌∷◌, length}
use Rattle.std.specs.Prelude.{option_to_list, flat_map, slice_index, ◌<◌}
use Rattle.std.specs.Int.{w64, cast_signed, to_le_bytes}
use Rattle.semantics.specs.Program.{Instr, CodeBlock, Code}
use Rattle.semantics.specs.Bytes.{instr_words}
use Rattle.object_view.specs.declared.object.BlockView.{BlockView}
use Rattle.semantics.specs.declared.version.Version.{Version}
use Rattle.semantics.specs.declared.version.Version.TheVariants.{One, Two}
use Rattle.semantics.specs.declared.opcode.Opcode.{Opcode}
use Rattle.semantics.specs.declared.opcode.Opcode.TheVariants.{Copy}
use Rattle.object_view.specs.declared.instr.CodeInstr.{CodeInstr}
use Rattle.object_view.specs.declared.instr.PackedInstr.{PackedInstr}
use Rattle.semantics.specs.Versions.{version_number}
use Rattle.object_view.specs.Fields.{word_at, count_in, inputs_in, outputs_in, slots_in, opcode_in, slot_in, dest_of, first_half, second_half}
use Rattle.object_view.specs.Fields.{operand_in, origin_number, origin_of}
use Rattle.semantics.specs.Opcodes.{with}

-- what a function gives for numbers in a row, from i on
abbrev pub tabulated : {X : Type 0} → (ℕ → X) → ℕ → ℕ → List X
tabulated f i zero = []
tabulated f i (suc k) = f i ∷ tabulated f (i + 1) k

-- the instruction in a program: at most one destination of each kind
abbrev pub shown : CodeInstr → Instr
shown i = record { op = i.op; origin = i.origin; slot = i.slot; firsts = option_to_list i.first; seconds = option_to_list i.second }

-- an instruction whose destinations and origin are bits
abbrev pub unpacked : PackedInstr → CodeInstr
unpacked i = record {
  op = i.op;
  origin = origin_of i.origin;
  slot = i.bits % 65536;
  first = dest_of (i.bits / 65536 % 65536);
  second = dest_of
      (i.bits / 4294967296 % 65536);
}

-- WHERE THINGS ARE. Word 0 is the mark, word 1 the version, word 2 the number of blocks, word 3 of literals, word 4 of
-- arrays, and word 5 the block that is run.
abbrev pub version_in : ℕ → Version
version_in n = if n == 2 then Two else One

-- how many instructions the first blocks have, of which the number is given
abbrev pub instrs_below : (ℕ → ℕ) → ℕ → ℕ
instrs_below w zero = 0
instrs_below w (suc b) = instrs_below w b + count_in (w (6 + b))

abbrev pub instr_count : (ℕ → ℕ) → ℕ
instr_count w = instrs_below w (w 2)

abbrev pub instr_place : (ℕ → ℕ) → ℕ → ℕ
instr_place w ip = 6 + w 2 + 2 * ip

abbrev pub literal_place : (ℕ → ℕ) → ℕ → ℕ
literal_place w k = 6 + w 2 + 2 * instr_count w + k

abbrev pub array_place : (ℕ → ℕ) → ℕ → ℕ
array_place w k = 6 + w 2 + 2 * instr_count w + w 3 + k

abbrev pub word_count : (ℕ → ℕ) → ℕ
word_count w = 6 + w 2 + 2 * instr_count w + w 3 + w 4

-- WHAT THEY SAY
abbrev pub literal_in : (ℕ → ℕ) → ℕ → ℤ
literal_in w k = cast_signed w64 (w (literal_place w k))

abbrev pub literal_or_zero : (ℕ → ℕ) → ℕ → ℤ
literal_or_zero w k = if nat_lt k (w 3) then literal_in w k else pos 0

abbrev pub array_in : (ℕ → ℕ) → ℕ → ℕ
array_in w k = w (array_place w k)

abbrev pub instr_as : (ℕ → ℕ) → Opcode → ℕ → ℕ → CodeInstr
instr_as w o x y = record {
  op = with o (operand_in (version_in (w 1)) o y) (literal_or_zero w (operand_in (version_in (w 1)) o y));
  origin = origin_of (origin_number (version_in (w 1)) o y);
  slot = slot_in x;
  first = dest_of (first_half x);
  second = dest_of (second_half x);
}

-- the instruction of a number
unfoldable pub instr_in : (ℕ → ℕ) → ℕ → CodeInstr
instr_in w ip = instr_as w (unwrap_or (opcode_in (w (instr_place w ip))) Copy) (w (instr_place w ip)) (w (instr_place w ip + 1))

abbrev pub block_in : (ℕ → ℕ) → ℕ → CodeBlock
block_in w b = record {
  inputs = inputs_in (w (6 + b));
  outputs = outputs_in (w (6 + b));
  slots = slots_in (w (6 + b));
  instrs = tabulated (λ ip. shown (instr_in w ip)) (instrs_below w b) (count_in (w (6 + b)));
}

unfoldable pub code_in : (ℕ → ℕ) → Code
code_in w = record {
  program = record { blocks = tabulated (block_in w) 0 (w 2); arrays = tabulated (array_in w) 0 (w 4); main = w 5 };
  literals = tabulated (literal_in w) 0 (w 3);
}

-- AN OBJECT THAT WAS OPENED: its version, the code, and the bytes
pub record Opened : Type 0 where
  pub version : ℕ
  pub code : Code
  pub bytes : List ℕ

unfoldable pub opened : List ℕ → Opened
opened bytes = record { version = version_number (version_in (word_at bytes 1)); code = code_in (word_at bytes); bytes = bytes }

-- WHAT A CALLER SEES
abbrev pub block_shown : ℕ → CodeBlock → BlockView
block_shown first b = record { inputs = b.inputs; outputs = b.outputs; slots = b.slots; instrs = length b.instrs; first = first }

-- the bytes of an instruction
abbrev pub instr_bytes : List ℤ → Instr → List ℕ
instr_bytes literals i = flat_map (to_le_bytes w64) (instr_words literals i)

-- numbers that are bytes
abbrev pub AreBytes : List ℕ → Type 0
AreBytes bytes = (i : ℕ) → slice_index bytes i < 256
