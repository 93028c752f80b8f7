-- WHAT THE PANE BESIDE THE CODE SHOWS, as JSON: what each instruction belongs to; and of a program its text, and the places in it from which the
-- graph's blocks and nodes came.
use Rattle.std.specs.Prelude.{ℕ, zero, suc, Bool, true, false, All, List, [], ◌++◌, codes}
use Rattle.sink.specs.Numbered.{numbered}
use Rattle.code_map.specs.declared.part.Part.{Part}
use Rattle.code_map.specs.declared.owner.Owner.{Owner}
use Rattle.lowering.specs.Built.{Places}
use Rattle.html_text.specs.DataText.{number_text, semicolon}
use Rattle.html_text.specs.Escape.{escaped, AreBytes}
use Rattle.html_text.specs.Plain.{IsInert, IsQuotable, IsInPart}

-- AN OWNER: the number of the block, a plus if the code is that of an iteration, and the part: the entry with the continuation, a node, an
-- output, the turn of an iteration, the joins of a conditional, or the release
abbrev pub turn_mark : Bool → List ℕ
turn_mark true = codes "+"
turn_mark false = []

abbrev pub part_text : Part → List ℕ
part_text Part.Continuation = codes "c"
part_text (Part.Node n) = number_text (codes "n") n
part_text (Part.Output n) = number_text (codes "o") n
part_text Part.Turn = codes "t"
part_text (Part.Joins n) = number_text (codes "j") n
part_text Part.Release = codes "r"

abbrev pub owner_text : ℕ → Owner → List ℕ
owner_text place o = number_text (semicolon place) o.block ++ turn_mark o.turns ++ part_text o.part

abbrev pub owners_text : List Owner → List ℕ
owners_text os = codes "{\"owners\":\"" ++ numbered owner_text 0 os ++ codes "\""

-- PLACES IN THE PROGRAM, in bytes: of a block that of its name or of the word `loop`, then how many inputs it has, then those of its node lines
abbrev pub place_lead : ℕ → List ℕ
place_lead zero = codes "\n["
place_lead (suc n) = codes ",\n["

abbrev pub next_number : ℕ → ℕ → List ℕ
next_number place n = number_text (codes ",") n

abbrev pub block_text : ℕ → Places → List ℕ
block_text n p = number_text (place_lead n) p.block ++ number_text (codes ",") p.inputs ++ numbered next_number 0 p.nodes ++ codes "]"

abbrev pub places_text : List Places → List ℕ
places_text ps = codes ",\"places\":[" ++ numbered block_text 0 ps ++ codes "\n]"

abbrev pub program_text : List ℕ → List ℕ
program_text program = codes ",\"program\":\"" ++ escaped program ++ codes "\""

-- THE PANE of a graph, whose text stands in the page, and of a program. Either ends the data of the run.
abbrev pub pane_head : List ℕ
pane_head = codes "</script>\n<script type=\"application/json\" id=\"parts\">"

abbrev pub graph_parts : List Owner → List ℕ
graph_parts owners = owners_text owners ++ codes "}"

abbrev pub program_parts : List Owner → List ℕ → List Places → List ℕ
program_parts owners program places = owners_text owners ++ program_text program ++ places_text places ++ codes "}"

abbrev pub graph_pane : List Owner → List ℕ
graph_pane owners = pane_head ++ graph_parts owners

abbrev pub program_pane : List Owner → List ℕ → List Places → List ℕ
program_pane owners program places = pane_head ++ program_parts owners program places

-- THE LAWS. What is in it, of a program of any bytes, has none of < > & ' ` and \, so that it ends no script.
abbrev pub PanesAreInert : Type 0
PanesAreInert = ((owners : List Owner) → All IsInert (graph_parts owners))
    × ((owners : List Owner) (program : List ℕ) (places : List Places) → AreBytes program → All IsInert (program_parts owners program places))

-- The owners are a JSON string as they are, and no owner has a semicolon, so that each ends where the next begins.
abbrev pub OwnersAreWhole : Type 0
OwnersAreWhole = ((owners : List Owner) → All IsQuotable (numbered owner_text 0 owners)) × ((o : Owner) → All IsInPart (owner_text 0 o))
