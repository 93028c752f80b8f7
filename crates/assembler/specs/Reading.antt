-- READING A LISTING, with its first fault. Lines are read in order, and in a line the words from left to right. Lines
-- without words say nothing.
use Rattle.std.specs.Prelude.{ℕ, ◌+◌, Bool, true, false, ℤ, List, [], ◌∷◌, ◌++◌, length, Result, Ok, Err, codes, if◌then◌else◌}
use Rattle.std.specs.Str.{bytes_eq}
use Rattle.semantics.specs.Program.{Instr, CodeBlock, Code}
use Rattle.disassembler.specs.Listing.{literal_of}
use Rattle.graph_file.specs.Giving.{◌>>=◌}
use Rattle.graph_file.specs.Lines.{parts}
use Rattle.assembler.specs.declared.fault.AsmFault.{AsmFault}
use Rattle.assembler.specs.declared.fault.AsmFaultKind.{AsmFaultKind}
use Rattle.assembler.specs.declared.fault.AsmFaultKind.TheVariants.{BadLine, Unended}
use Rattle.assembler.specs.declared.found.Part.{Part}
use Rattle.assembler.specs.declared.found.Part.TheVariants.{Head, Start, Blocks, Arrays, Literals}
use Rattle.assembler.specs.Words.{Word, words_of}
use Rattle.assembler.specs.Grammar.{with_literal}
use Rattle.assembler.specs.Giving.{must}
use Rattle.assembler.specs.Found.{Found}
use Rattle.assembler.specs.Lines.{word_from, head_from, block_from, array_from, literal_from, instr_from}

-- what was read so far, and which part of a listing the last line belongs to
abbrev pub Step : Type 0
Step = Result (Found × Part) AsmFaultKind

abbrev pub blank : CodeBlock
blank = record { inputs = 0; outputs = 0; slots = 0; instrs = [] }

abbrev pub nothing : Found
nothing = record { version = 0; main = 0; blocks = []; last = blank; arrays = []; literals = []; used = [] }

-- the first line
unfoldable pub head_line : Found → List Word → Step
head_line f ws = do
  h ← head_from ws
  Ok (record f { version = h.0; main = h.1 }, Start)

-- all blocks so far
abbrev pub all_blocks : Found → List CodeBlock
all_blocks f = f.blocks ++ f.last ∷ []

-- after `block`, the first one
unfoldable pub first_block : Found → List Word → Step
first_block f ws = do
  b ← block_from 0 ws
  Ok (record f { last = b }, Blocks)

-- after `block`, a later one
unfoldable pub next_block : Found → List Word → Step
next_block f ws = do
  b ← block_from (length f.blocks + 1) ws
  Ok (record f { blocks = all_blocks f; last = b }, Blocks)

unfoldable pub array_line : Found → List Word → Step
array_line f ws = do
  len ← array_from (length f.arrays) ws
  Ok (record f { arrays = f.arrays ++ len ∷ [] }, Arrays)

unfoldable pub literal_line : Found → List Word → Step
literal_line f ws = do
  z ← literal_from (length f.literals) ws
  Ok (record f { literals = f.literals ++ z ∷ [] }, Literals)

abbrev pub with_instr : CodeBlock → Instr → CodeBlock
with_instr b i = record b { instrs = b.instrs ++ i ∷ [] }

unfoldable pub instr_line : Found → List Word → Step
instr_line f ws = do
  i ← instr_from (length f.last.instrs) ws
  Ok (record f { last = with_instr f.last i; used = with_literal (literal_of i.op) f.used }, Blocks)

-- which lines may follow a line of that part
abbrev pub takes_array : Part → Bool
takes_array Blocks = true
takes_array Arrays = true
takes_array part = false

abbrev pub takes_literal : Part → Bool
takes_literal Blocks = true
takes_literal Arrays = true
takes_literal Literals = true
takes_literal part = false

unfoldable pub block_line : Found → Part → List Word → Step
block_line f Start ws = first_block f ws
block_line f Blocks ws = next_block f ws
block_line f part ws = Err BadLine

unfoldable pub other_line : Found → Part → List Word → Step
other_line f Head ws = head_line f ws
other_line f Blocks ws = instr_line f ws
other_line f part ws = Err BadLine

-- a line by its words
unfoldable pub step : Found → Part → List Word → Step
step f part ws = do
  w ← word_from ws
  if bytes_eq w.0 (codes "block") then block_line f part w.1
      else if bytes_eq w.0 (codes "array") then (must (takes_array part) BadLine >>= λ may. array_line f w.1)
      else if bytes_eq w.0 (codes "literal") then (must (takes_literal part) BadLine >>= λ may. literal_line f w.1)
      else other_line f part ws

unfoldable pub line_from : Found → Part → List Word → Step
line_from f part [] = Ok (f, part)
line_from f part (w ∷ ws) = step f part (w ∷ ws)

abbrev pub code_with : Found → List ℤ → ℕ × Code
code_with f table = (f.version, record { program = record { blocks = all_blocks f; arrays = f.arrays; main = f.main }; literals = table })

-- the end of the text
unfoldable pub end_from : Found → Part → Result (ℕ × Code) AsmFaultKind
end_from f Head = Err Unended
end_from f Start = Err Unended
end_from f Blocks = Ok (code_with f f.used)
end_from f Arrays = Ok (code_with f f.used)
end_from f Literals = Ok (code_with f f.literals)

abbrev pub at_line : {A : Type 0} → ℕ → Result A AsmFaultKind → Result A AsmFault
at_line n (Ok x) = Ok x
at_line n (Err kind) = Err record { kind = kind; line = n }

-- the lines after the first n ones
unfoldable pub lines_from : ℕ → Found → Part → List (List ℕ) → Result (ℕ × Code) AsmFault
lines_from n f part [] = at_line n (end_from f part)
lines_from n f part (line ∷ lines) = at_line (n + 1) (line_from f part (words_of line)) >>= λ s. lines_from (n + 1) s.0 s.1 lines

-- THE WHOLE TEXT: a version and a code, or the first fault
unfoldable pub text_from : List ℕ → Result (ℕ × Code) AsmFault
text_from text = lines_from 0 nothing Head (parts 10 text)
