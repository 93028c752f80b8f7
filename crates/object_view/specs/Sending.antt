-- What can be written, and its bytes.
use Rattle.std.specs.Prelude.{◌≡◌, ℕ, ℤ, ◌<◌, ◌≤◌, List, [], ◌∷◌, ◌++◌, length, flat_map, codes, take, drop, int_lt, slice_get, true, Some, ◌+◌, ⊤}
use Rattle.std.specs.Int.{w64, cast_unsigned, to_le_bytes}
use Rattle.semantics.specs.declared.program.Dest.{Dest}
use Rattle.semantics.specs.Program.{Instr, CodeBlock, Code}
use Rattle.semantics.specs.Bytes.{instr_words, block_word}

-- WHAT CAN BE WRITTEN. At most one destination of each kind, and numbers that have room in their bits.
abbrev pub HasRoom : List Dest → Type 0
HasRoom [] = ⊤
HasRoom (d ∷ ds) = (d.ahead < 32768) × (ds ≡ [])

pub record HasWords (i : Instr) : Type 0 where
  pub slot : i.slot < 65536
  pub firsts : HasRoom i.firsts
  pub seconds : HasRoom i.seconds

pub record HasEntry (b : CodeBlock) : Type 0 where
  pub inputs : b.inputs ≤ 16
  pub outputs : b.outputs ≤ 16
  pub instrs : length b.instrs ≤ 32768
  pub slots : b.slots ≤ 512

pub record IsAscending (literals : List ℤ) : Type 0 where
  pub steps : (k : ℕ) (y z : ℤ) → slice_get literals k ≡ Some y → slice_get literals (k + 1) ≡ Some z → int_lt y z ≡ true

-- a word as bytes, the lowest first
unfoldable pub bytes_of_word : ℕ → List ℕ
bytes_of_word n = to_le_bytes w64 n

-- the bytes of an instruction
abbrev pub bytes_of_instr : List ℤ → Instr → List ℕ
bytes_of_instr literals i = flat_map bytes_of_word (instr_words literals i)

abbrev pub bytes_of_block : List ℤ → CodeBlock → List ℕ
bytes_of_block literals b = flat_map (bytes_of_instr literals) b.instrs

abbrev pub bytes_of_entry : CodeBlock → List ℕ
bytes_of_entry b = bytes_of_word (block_word b)

abbrev pub bytes_of_literal : ℤ → List ℕ
bytes_of_literal z = bytes_of_word (cast_unsigned w64 z)

abbrev pub bytes_of_header : ℕ → Code → List ℕ
bytes_of_header version c = codes "ETSOBJCT" ++ flat_map bytes_of_word (version ∷ length c.program.blocks ∷ length c.literals
    ∷ length c.program.arrays ∷ c.program.main ∷ [])

-- the bytes with the version 2 in the second word
abbrev pub upgraded : List ℕ → List ℕ
upgraded bytes = take 8 bytes ++ (bytes_of_word 2 ++ drop 16 bytes)
