-- Which texts are listings of a code: those whose lines have the words of its listing, in order. Columns are free, and so are
-- lines with no words.
use Rattle.std.specs.Prelude.{◌≡◌, ◌⊎◌, ◌<◌, ℕ, ◌+◌, Bool, true, false, ℤ, Option, Some, None, List, [], ◌∷◌, ◌++◌, All, length, slice_get, decimal, codes}
use Rattle.tags.specs.declared.value.Origin.{Origin}
use Rattle.tags.specs.declared.value.Origin.TheVariants.{Untold, At}
use Rattle.semantics.specs.Program.{Instr, CodeBlock, Code}
use Rattle.semantics.specs.Rule.{slot_of}
use Rattle.semantics.specs.Text.{literal}
use Rattle.disassembler.specs.Listing.{slot_text, dest_text, operand_text, literal_of}
use Rattle.semantics.specs.Opcodes.{op_word}
use Rattle.std.specs.Ordering.{int_cmp}
use Rattle.std.specs.BTreeSet.{insert_key}
use Rattle.assembler.specs.Words.{Word, lines_in}

-- THE WORDS OF EACH LINE
abbrev pub head_words : ℕ → ℕ → List Word
head_words version main = codes "ets" ∷ decimal version ∷ codes "main" ∷ decimal main ∷ []

abbrev pub block_words : ℕ → CodeBlock → List Word
block_words n b = codes "block" ∷ decimal n ∷ codes "inputs" ∷ decimal b.inputs ∷ codes "outputs" ∷ decimal b.outputs ∷ codes "slots" ∷ decimal b.slots ∷ []

abbrev pub origin_words : Origin → List Word
origin_words Untold = []
origin_words (At b n) = (codes "@" ++ decimal b ++ codes "." ++ decimal n) ∷ []

abbrev pub instr_words : ℕ → Instr → List Word
instr_words n i = decimal n ∷ op_word i.op ∷ slot_text (slot_of i i.op) ∷ dest_text i.firsts ∷ dest_text i.seconds ∷ operand_text i.op ∷ origin_words i.origin

abbrev pub array_words : ℕ → ℕ → List Word
array_words n len = codes "array" ∷ decimal n ∷ decimal len ∷ []

abbrev pub literal_words : ℕ → ℤ → List Word
literal_words n z = codes "literal" ∷ decimal n ∷ literal z ∷ []

-- THE LINES. Items are numbered from n on.
unfoldable pub numbered_lines : {X : Type 0} → (ℕ → X → List Word) → ℕ → List X → List (List Word)
numbered_lines words n [] = []
numbered_lines words n (x ∷ xs) = words n x ∷ numbered_lines words (n + 1) xs

unfoldable pub block_lines : ℕ → List CodeBlock → List (List Word)
block_lines n [] = []
block_lines n (b ∷ bs) = block_words n b ∷ (numbered_lines instr_words 0 b.instrs ++ block_lines (n + 1) bs)

-- The table of literals is there, or it is not.
abbrev pub table_lines : Bool → List ℤ → List (List Word)
table_lines true table = numbered_lines literal_words 0 table
table_lines false table = []

abbrev pub code_lines : Bool → ℕ → Code → List (List Word)
code_lines reread version c = head_words version c.program.main
    ∷ (block_lines 0 c.program.blocks ++ (numbered_lines array_words 0 c.program.arrays ++ table_lines reread c.literals))

-- THE TABLE THAT THE INSTRUCTIONS DETERMINE: each literal that one of them has, once, in ascending order
abbrev pub with_literal : Option ℤ → List ℤ → List ℤ
with_literal None table = table
with_literal (Some z) table = insert_key int_cmp table z

unfoldable pub used_by : List Instr → List ℤ → List ℤ
used_by [] table = table
used_by (i ∷ is) table = used_by is (with_literal (literal_of i.op) table)

unfoldable pub used_in : List CodeBlock → List ℤ → List ℤ
used_in [] table = table
used_in (b ∷ bs) table = used_in bs (used_by b.instrs table)

abbrev pub table_of : List CodeBlock → List ℤ
table_of blocks = used_in blocks []

-- some instruction of the blocks has the literal as its operand
abbrev pub IsOperand : List CodeBlock → ℤ → Type 0
IsOperand blocks z = (k : ℕ) × (b : CodeBlock) × (slice_get blocks k ≡ Some b) × ((n : ℕ) × (i : Instr) × (slice_get b.instrs n ≡ Some i)
    × (literal_of i.op ≡ Some z))

-- The instructions determine the table: each of its literals is an operand.
abbrev pub AllOperands : Code → Type 0
AllOperands c = All (IsOperand c.program.blocks) c.literals

-- the same program, with the table that its instructions determine
abbrev pub with_operands : Code → Code
with_operands c = record c { literals = table_of c.program.blocks }

-- A TEXT IS A LISTING of this version and code: with the table of literals, or without it where the instructions determine it.
abbrev pub IsListingOf : List ℕ → ℕ → Code → Type 0
IsListingOf text version c =
    ((0 < length c.literals) × (lines_in text ≡ code_lines true version c))
    ⊎ ((c.literals ≡ table_of c.program.blocks) × (lines_in text ≡ code_lines false version c))
