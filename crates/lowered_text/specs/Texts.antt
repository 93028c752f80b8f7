-- THE TEXTS THAT ARE WRITTEN of a program: its graph with the inputs, and the map of the graph's nodes.
use Rattle.std.specs.Prelude.{◌≡◌, ℕ, ◌+◌, List, [], ◌∷◌, ◌++◌, map, Option, Result, Ok, Err, ⊤, decimal, codes}
use Rattle.std.specs.Io.KnownBytes.{Appends}
use Rattle.semantics.specs.Graph.{Graph}
use Rattle.semantics.specs.Text.{text_of}
use Rattle.sink.specs.Numbered.{numbered}
use Rattle.source.specs.Tokens.{program_of, inputs_of, Position, position}
use Rattle.source.specs.Tree.{Program}
use Rattle.source.specs.Lowered.{made_blocks}
use Rattle.lowering.specs.Built.{Places, places_of}
use Rattle.lowered_text.specs.Lowers.{Lowers, IsRefusedProgram}
use Rattle.lowered_text.specs.declared.fault.LowerRefusal.{LowerRefusal}
use Rattle.lowered_text.specs.declared.fault.LowerRefusal.TheVariants.{Fault, Write}

-- the graph's text, and what follows the line `inputs` of the program's
abbrev pub graph_and_inputs : List ℕ → Program → Graph → List ℕ
graph_and_inputs text p g = text_of g ++ inputs_of text

-- THE MAP: a line for each node line of the graph, with the line and the column in the program of the token that it is made for. Blocks are
-- numbered from 0, and the nodes of a block count on from its inputs, as in the origin of a fault.
abbrev pub node_line : ℕ → ℕ → Position → List ℕ
node_line block node place =
    codes "at " ++ decimal block ++ codes " " ++ decimal node ++ codes " line " ++ decimal place.line ++ codes " column " ++ decimal place.column ++ 10 ∷ []

abbrev pub block_lines : List ℕ → ℕ → Places → List ℕ
block_lines program block places = numbered (λ line at. node_line block (places.inputs + line) (position program at)) 0 places.nodes

abbrev pub map_of : List ℕ → Program → Graph → List ℕ
map_of text p g = numbered (block_lines (program_of text)) 0 (map places_of (made_blocks p p))

-- WRITING: such a text of the graph that the text's program is lowered to; nothing where it is refused; after a failed write a beginning
abbrev pub Writes : (List ℕ → Program → Graph → List ℕ) → Result ⊤ LowerRefusal → Option (List ℕ) → Option (List ℕ) → List ℕ → Type 0
Writes wanted (Ok x) old new text = (p : Program) × (g : Graph) × Lowers text p g × Appends old new (wanted text p g)
Writes wanted (Err (Fault f)) old new text = IsRefusedProgram text f × (new ≡ old)
Writes wanted (Err (Write e)) old new text =
    (p : Program) × (g : Graph) × Lowers text p g × ((front : List ℕ) × (rest : List ℕ) × (wanted text p g ≡ front ++ rest) × Appends old new front)
