-- READING A TEXT, with its first fault. Lines are read in order. In a line the first fault of this list counts: its form
-- and the number of its fields; the limits on arrays, blocks, nodes and sources; then the fields from left to right, each
-- with its limit.
use Rattle.std.specs.Prelude.{◌≡◌, ◌⊎◌, ℕ, ◌+◌, ◌&&◌, ◌==◌, not, nat_le, nat_lt, Bool, true, false, List, [], ◌∷◌, ◌++◌, length, take, drop, Result}
use Rattle.std.specs.Prelude.{Ok, Err, codes, ⊤, if◌then◌else◌}
use Rattle.std.specs.Str.{bytes_eq}
use Rattle.semantics.specs.Graph.{Block, Graph}
use Rattle.semantics.specs.Versions.{version_number}
use Rattle.semantics.specs.declared.version.Version.{Version}
use Rattle.semantics.specs.declared.version.Version.TheVariants.{One, Two}
use Rattle.graph_file.specs.declared.fault.ReadFault.{ReadFault}
use Rattle.graph_file.specs.declared.fault.ReadFaultKind.{ReadFaultKind}
use Rattle.graph_file.specs.declared.fault.ReadFaultKind.TheVariants.{NoHeader, BadLine, BadNumber, Unended, NoMain, TooMany, TrailingText, Memory}
use Rattle.graph_file.specs.declared.lines.Place.{Place}
use Rattle.graph_file.specs.declared.lines.Place.TheVariants.{Arrays, Blocks, Nodes, Closing, Done}
use Rattle.graph_file.specs.Giving.{◌>>=◌}
use Rattle.graph_file.specs.Lines.{parts, is_well_spaced}
use Rattle.graph_file.specs.Fields.{field_from, number_from, name_from, sources_from}
use Rattle.graph_file.specs.Nodes.{node_from}
use Rattle.graph_file.specs.Found.{Found}

abbrev pub Named : Type 0
Named = List ℕ × Block (List ℕ)

-- what was found so far, and where in a graph the next line is
abbrev pub Step : Type 0
Step = Result (Found × Place Named (List ℕ)) ReadFaultKind

abbrev pub must : Bool → ReadFaultKind → Result ⊤ ReadFaultKind
must true kind = Ok tt
must false kind = Err kind

-- a length that keeps all cells within 65,536
unfoldable pub len_from : ℕ → List (List ℕ) → Result (ℕ × List (List ℕ)) ReadFaultKind
len_from cells fs = do
  n ← number_from fs
  some ← must (not (n.0 == 0)) BadNumber
  few ← must (nat_le (cells + n.0) 65536) TooMany
  Ok (n.0, n.1)

-- a number of inputs or of outputs
unfoldable pub count_from : List (List ℕ) → Result (ℕ × List (List ℕ)) ReadFaultKind
count_from fs = do
  n ← number_from fs
  few ← must (nat_le n.0 16) TooMany
  Ok (n.0, n.1)

-- after `array`: NAME LEN
unfoldable pub array_line : Found → List (List ℕ) → Step
array_line found fs = do
  form ← must (length fs == 2) BadLine
  few ← must (nat_lt (length found.arrays) 64) TooMany
  name ← name_from fs
  len ← len_from found.cells name.1
  Ok (record { version = found.version; arrays = found.arrays ++ (name.0, len.0) ∷ []; cells = found.cells + len.0; blocks = found.blocks }, Arrays)

-- after `block`: NAME INPUTS OUTPUTS
unfoldable pub block_line : Found → List (List ℕ) → Step
block_line found fs = do
  form ← must (length fs == 3) BadLine
  few ← must (nat_lt (length found.blocks) 256) TooMany
  name ← name_from fs
  inputs ← count_from name.1
  outputs ← count_from inputs.1
  Ok (found, Nodes (name.0, record { inputs = inputs.0; outputs = outputs.0; nodes = []; results = [] }))

-- after `main`: NAME
unfoldable pub main_line : Found → List (List ℕ) → Step
main_line found fs = do
  form ← must (length fs == 1) BadLine
  name ← name_from fs
  Ok (found, Done name.0)

-- after `out`: sources
unfoldable pub out_line : Found → Named → List (List ℕ) → Step
out_line found b fs = do
  few ← must (nat_lt (length fs) 17) TooMany
  sources ← sources_from fs
  Ok (found, Closing (b.0, record { inputs = b.1.inputs; outputs = b.1.outputs; nodes = b.1.nodes; results = sources }))

unfoldable pub node_line : Found → Named → List (List ℕ) → Step
node_line found b fs = do
  node ← node_from found.version (nat_le 1024 (b.1.inputs + length b.1.nodes)) fs
  Ok (found, Nodes (b.0, record { inputs = b.1.inputs; outputs = b.1.outputs; nodes = b.1.nodes ++ node ∷ []; results = b.1.results }))

-- A line outside a block. Arrays are before the first block.
unfoldable pub outside : Bool → Found → List (List ℕ) → Step
outside arrays found fs = do
  word ← field_from fs
  if arrays && bytes_eq word.0 (codes "array") then array_line found word.1
      else if bytes_eq word.0 (codes "block") then block_line found word.1
      else if bytes_eq word.0 (codes "main") then main_line found word.1
      else Err BadLine

-- a line in a block, up to its `out` line
unfoldable pub inside : Found → Named → List (List ℕ) → Step
inside found b fs = do
  word ← field_from fs
  if bytes_eq word.0 (codes "out") then out_line found b word.1 else node_line found b fs

-- the line after the `out` line
unfoldable pub closing : Found → Named → List (List ℕ) → Step
closing found b fs = do
  word ← field_from fs
  form ← must (bytes_eq word.0 (codes "end") && length word.1 == 0) BadLine
  Ok (record { version = found.version; arrays = found.arrays; cells = found.cells; blocks = found.blocks ++ b ∷ [] }, Blocks)

-- the fields of a line
unfoldable pub fields_from : List ℕ → Result (List (List ℕ)) ReadFaultKind
fields_from line = do
  spaced ← must (is_well_spaced true line) BadLine
  Ok (parts 32 line)

-- one line
unfoldable pub line_from : Found → Place Named (List ℕ) → List ℕ → Step
line_from found Arrays line = fields_from line >>= outside true found
line_from found Blocks line = fields_from line >>= outside false found
line_from found (Nodes b) line = fields_from line >>= inside found b
line_from found (Closing b) line = fields_from line >>= closing found b
line_from found (Done main) line = Err TrailingText

-- What is after the last line feed. A text that is whole has nothing there.
unfoldable pub end_from : Found → Place Named (List ℕ) → List ℕ → Result Graph ReadFaultKind
end_from found Arrays [] = Err NoMain
end_from found Arrays (c ∷ cs) = Err Unended
end_from found Blocks [] = Err NoMain
end_from found Blocks (c ∷ cs) = Err Unended
end_from found (Nodes b) rest = Err Unended
end_from found (Closing b) rest = Err Unended
end_from found (Done main) [] = Ok record { version = version_number found.version; arrays = found.arrays; blocks = found.blocks; main = main }
end_from found (Done main) (c ∷ cs) = Err TrailingText

-- a fault at the line of that number
abbrev pub at_line : {A : Type 0} → ℕ → Result A ReadFaultKind → Result A ReadFault
at_line n (Ok x) = Ok x
at_line n (Err kind) = Err record { kind = kind; line = n }

-- The lines from the one of that number on. The last one is what is after the last line feed.
unfoldable pub lines_from : ℕ → Found → Place Named (List ℕ) → List (List ℕ) → Result Graph ReadFault
lines_from n found place [] = Err record { kind = NoMain; line = n }
lines_from n found place (line ∷ []) = at_line n (end_from found place line)
lines_from n found place (line ∷ next ∷ lines) = at_line n (line_from found place line) >>= λ s. lines_from (n + 1) s.0 s.1 (next ∷ lines)

abbrev pub header : Version → List ℕ
header One = codes "etsgraph 1" ++ 10 ∷ []
header Two = codes "etsgraph 2" ++ 10 ∷ []

abbrev pub body_from : Version → List ℕ → Result Graph ReadFault
body_from version body = lines_from 2 record { version = version; arrays = []; cells = 0; blocks = [] } Arrays (parts 10 body)

-- THE WHOLE TEXT: its graph, or its first fault
unfoldable pub text_from : List ℕ → Result Graph ReadFault
text_from text = if bytes_eq (take 11 text) (header One) then body_from One (drop 11 text)
    else if bytes_eq (take 11 text) (header Two) then body_from Two (drop 11 text)
    else Err record { kind = NoHeader; line = 1 }

-- A fault is the text's first one, unless memory ran out.
abbrev pub IsFirstFault : ReadFault → Result Graph ReadFault → Type 0
IsFirstFault fault spec = (fault.kind ≡ Memory) ⊎ (spec ≡ Err fault)
