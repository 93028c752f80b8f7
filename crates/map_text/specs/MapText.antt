-- THE MAP OF CODE AS TEXT: for each instruction of an object a line with its owner, the part of the graph for which it was made.
use Rattle.std.specs.Prelude.{ℕ, ◌-◌, Bool, true, false, Option, Some, None, List, [], ◌∷◌, ◌++◌, length, take, drop}
use Rattle.std.specs.Prelude.{slice_get, nat_lt, option_map, decimal, codes, if◌then◌else◌}
use Rattle.semantics.specs.Program.{CodeBlock, Program, first_of}
use Rattle.source.specs.Tokens.{Position, position}
use Rattle.lowering.specs.Built.{Places}
use Rattle.sink.specs.Numbered.{numbered}
use Rattle.code_map.specs.declared.part.Part.{Part}
use Rattle.code_map.specs.declared.part.Part.TheVariants.{Continuation, Node, Output, Turn, Joins, Release}
use Rattle.code_map.specs.declared.owner.Owner.{Owner}

-- NAMES of the blocks of the graph; where it was made of a program, that, and block by block the places in it for which nodes were made
pub record ProgramPlaces : Type 0 where
  pub program : List ℕ
  pub places : List Places

pub record Names : Type 0 where
  pub blocks : List (List ℕ)
  pub program : List ℕ
  pub places : List Places

abbrev pub some_name : Option (List ℕ) → List ℕ
some_name None = []
some_name (Some name) = name

abbrev pub name_at : List (List ℕ) → ℕ → List ℕ
name_at names block = some_name (slice_get names block)

-- the inputs of a block are made for no token
abbrev pub node_place : Places → ℕ → Option ℕ
node_place ps node = if nat_lt node ps.inputs then None else slice_get ps.nodes (node - ps.inputs)

abbrev pub some_place : Option Places → ℕ → Option ℕ
some_place None node = None
some_place (Some ps) node = node_place ps node

abbrev pub part_place : List Places → ℕ → Part → Option ℕ
part_place places block (Node node) = some_place (slice_get places block) node
part_place places block (Joins node) = some_place (slice_get places block) node
part_place places block Continuation = None
part_place places block (Output output) = None
part_place places block Turn = None
part_place places block Release = None

abbrev pub owner_place : List Places → Owner → Option ℕ
owner_place places o = part_place places o.block o.part

-- A LINE: the code block and the number in it, as the listing has them; the name of the graph's block; `iteration` in the code of a loop's
-- iteration; the part of the block; and the line and the column of its node
abbrev pub head_text : ℕ → ℕ → List ℕ → List ℕ
head_text code instr name = codes "code " ++ decimal code ++ codes "." ++ decimal instr ++ codes " for " ++ name

abbrev pub turns_text : Bool → List ℕ
turns_text true = codes " iteration"
turns_text false = []

abbrev pub part_text : Part → List ℕ
part_text Continuation = codes " continuation"
part_text (Node node) = codes " node " ++ decimal node
part_text (Output output) = codes " output " ++ decimal output
part_text Turn = codes " turn"
part_text (Joins node) = codes " joins " ++ decimal node
part_text Release = codes " release"

abbrev pub place_text : Option Position → List ℕ
place_text None = 10 ∷ []
place_text (Some place) = codes " line " ++ decimal place.line ++ codes " column " ++ decimal place.column ++ 10 ∷ []

abbrev pub line_text : ℕ → ℕ → List ℕ → Owner → Option Position → List ℕ
line_text code instr name o place = head_text code instr name ++ turns_text o.turns ++ part_text o.part ++ place_text place

abbrev pub code_line : Names → ℕ → ℕ → Owner → List ℕ
code_line names code instr o =
    line_text code instr (name_at names.blocks o.block) o (option_map (position names.program) (owner_place names.places o))

-- ALL LINES: instructions are numbered through all code blocks, and so are their owners
abbrev pub block_lines : Names → ℕ → List Owner → List ℕ
block_lines names code os = numbered (code_line names code) 0 os

abbrev pub owners_in : Program → List Owner → ℕ → CodeBlock → List Owner
owners_in p os code b = take (length b.instrs) (drop (first_of p code) os)

abbrev pub code_lines : Names → Program → List Owner → List ℕ
code_lines names p os = numbered (λ code b. block_lines names code (owners_in p os code b)) 0 p.blocks

-- a graph that was not made of a program has no places
abbrev pub names_of : List (List ℕ) → Option ProgramPlaces → Names
names_of blocks None = record { blocks = blocks; program = []; places = [] }
names_of blocks (Some p) = record { blocks = blocks; program = p.program; places = p.places }

abbrev pub code_map_text : Program → List (List ℕ) → Option ProgramPlaces → List Owner → List ℕ
code_map_text p blocks program os = code_lines (names_of blocks program) p os
