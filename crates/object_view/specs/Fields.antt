-- What the bits of an object's words say.
use Rattle.std.specs.Prelude.{ℕ, ◌-◌, ◌*◌, ◌/◌, ◌%◌, ◌^◌, Bool, false, ◌==◌, if◌then◌else◌, Option, Some, None, List, drop}
use Rattle.byteorder.specs.Endian.{little_number}
use Rattle.tags.specs.declared.token.Port.{Port}
use Rattle.tags.specs.declared.token.Port.TheVariants.{Left, Right}
use Rattle.tags.specs.declared.value.Origin.{Origin}
use Rattle.tags.specs.declared.value.Origin.TheVariants.{Untold, At}
use Rattle.semantics.specs.declared.program.Dest.{Dest}
use Rattle.semantics.specs.declared.version.Version.{Version}
use Rattle.semantics.specs.declared.version.Version.TheVariants.{One, Two}
use Rattle.semantics.specs.declared.opcode.Opcode.{Opcode}
use Rattle.semantics.specs.Opcodes.{opcode_of, makes_faults}

-- the word at a place: eight bytes, the lowest first
unfoldable pub word_at : List ℕ → ℕ → ℕ
word_at bytes i = little_number 8 (drop (8 * i) bytes)

-- AN ENTRY OF THE BLOCK TABLE
abbrev pub count_in : ℕ → ℕ
count_in x = x % 2 ^ 32

abbrev pub inputs_in : ℕ → ℕ
inputs_in x = x / 2 ^ 32 % 2 ^ 8

abbrev pub outputs_in : ℕ → ℕ
outputs_in x = x / 2 ^ 40 % 2 ^ 8

abbrev pub slots_in : ℕ → ℕ
slots_in x = x / 2 ^ 48

-- THE FIRST WORD OF AN INSTRUCTION
abbrev pub opcode_in : ℕ → Option Opcode
opcode_in x = opcode_of (x % 2 ^ 8) (x / 2 ^ 8 % 2 ^ 8)

abbrev pub slot_in : ℕ → ℕ
slot_in x = x / 2 ^ 16 % 2 ^ 16

abbrev pub port_of : ℕ → Port
port_of b = if b == 0 then Left else Right

-- a destination: 15 bits of a displacement, which is 0 where there is none, and a port
abbrev pub dest_of : ℕ → Option Dest
dest_of h = if h % 2 ^ 15 == 0 then None else Some record { ahead = h % 2 ^ 15; port = port_of (h / 2 ^ 15) }

abbrev pub first_half : ℕ → ℕ
first_half x = x / 2 ^ 32 % 2 ^ 16

abbrev pub second_half : ℕ → ℕ
second_half x = x / 2 ^ 48

-- THE SECOND WORD OF AN INSTRUCTION. Its upper half is an origin in version 2, where the opcode may make a fault.
abbrev pub has_origin : Version → Opcode → Bool
has_origin One o = false
has_origin Two o = makes_faults o

abbrev pub operand_in : Version → Opcode → ℕ → ℕ
operand_in v o x = if has_origin v o then x % 2 ^ 32 else x

abbrev pub origin_number : Version → Opcode → ℕ → ℕ
origin_number v o x = if has_origin v o then x / 2 ^ 32 else 0

abbrev pub origin_of : ℕ → Origin
origin_of n = if n == 0 then Untold else At ((n - 1) / 1024 % 256) ((n - 1) % 1024)
