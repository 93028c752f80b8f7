-- The listing of an object: its code as lines of text.
use Rattle.std.specs.Prelude.{ℕ, zero, suc, ◌-◌, ℤ, Option, Some, None, List, [], ◌∷◌, ◌++◌, length, decimal, codes}
use Rattle.tags.specs.declared.token.Port.{Port}
use Rattle.tags.specs.declared.token.Port.TheVariants.{Left, Right}
use Rattle.tags.specs.declared.value.Origin.{Origin}
use Rattle.tags.specs.declared.value.Origin.TheVariants.{Untold, At}
use Rattle.semantics.specs.declared.program.Dest.{Dest}
use Rattle.semantics.specs.declared.program.Op.{Op}
use Rattle.semantics.specs.declared.program.Op.TheVariants.{Apply1, Apply2, Apply2Right, Apply2Left, Lit, Copy, Sync, Switch, Fetch, Store, Frame}
use Rattle.semantics.specs.declared.program.Op.TheVariants.{Link, Send, Return, Ask, Open, Take, Give, Drain, Release}
use Rattle.semantics.specs.Program.{Instr, CodeBlock, Program, Code}
use Rattle.semantics.specs.Rule.{slot_of}
use Rattle.sink.specs.Numbered.{numbered}
use Rattle.semantics.specs.Text.{field, line, literal}
use Rattle.semantics.specs.Opcodes.{op_word}

-- COLUMNS
abbrev pub spaces : ℕ → List ℕ
spaces zero = []
spaces (suc n) = 32 ∷ spaces n

-- spaces after a text of length n, up to the width of the column
abbrev pub gap : ℕ → ℕ → List ℕ
gap width n = spaces (width - n)

abbrev pub right_in : ℕ → List ℕ → List ℕ
right_in width text = gap width (length text) ++ text

abbrev pub left_in : ℕ → List ℕ → List ℕ
left_in width text = text ++ gap width (length text)

-- A LINE OF AN INSTRUCTION
-- the slot, where the instruction uses one
abbrev pub slot_text : Option ℕ → List ℕ
slot_text None = codes "-"
slot_text (Some r) = decimal r

abbrev pub port_letter : Port → List ℕ
port_letter Left = codes "l"
port_letter Right = codes "r"

-- the first destination of a kind, where there is one
abbrev pub dest_text : List Dest → List ℕ
dest_text [] = codes "-"
dest_text (d ∷ ds) = codes "+" ++ decimal d.ahead ++ port_letter d.port

abbrev pub operand_text : Op → List ℕ
operand_text (Apply2Right op z) = codes "r#" ++ literal z
operand_text (Apply2Left op z) = codes "l#" ++ literal z
operand_text (Lit z) = codes "#" ++ literal z
operand_text (Fetch a) = codes "a" ++ decimal a
operand_text (Store a) = codes "a" ++ decimal a
operand_text (Link b) = codes "b" ++ decimal b
operand_text (Send b e) = codes "b" ++ decimal b ++ codes "." ++ decimal e
operand_text (Return o) = codes "o" ++ decimal o
operand_text (Ask o) = codes "o" ++ decimal o
operand_text (Release o) = codes "o" ++ decimal o
operand_text (Open k) = codes "k" ++ decimal k
operand_text (Take k) = codes "k" ++ decimal k
operand_text (Give k) = codes "k" ++ decimal k
operand_text (Drain k) = codes "k" ++ decimal k
operand_text op = codes "-"

-- the origin of a fault of the instruction, if it is reported
abbrev pub origin_text : Origin → List ℕ
origin_text Untold = []
origin_text (At b n) = codes " @" ++ decimal b ++ codes "." ++ decimal n

-- number in the block, name, slot, both destinations, operand
abbrev pub instr_line : ℕ → Instr → List ℕ
instr_line n i = line (right_in 5 (decimal n) ++ field (left_in 8 (op_word i.op)) ++ field (right_in 4 (slot_text (slot_of i i.op)))
    ++ field (right_in 7 (dest_text i.firsts)) ++ field (right_in 7 (dest_text i.seconds)) ++ field (operand_text i.op) ++ origin_text i.origin)

-- THE TABLE OF LITERALS
-- the literal that an operation has as its operand
abbrev pub literal_of : Op → Option ℤ
literal_of (Apply2Right op z) = Some z
literal_of (Apply2Left op z) = Some z
literal_of (Lit z) = Some z
literal_of op = None

abbrev pub literal_line : ℕ → ℤ → List ℕ
literal_line n z = line (codes "literal " ++ decimal n ++ codes " " ++ literal z)

-- THE WHOLE
abbrev pub block_line : ℕ → ℕ → ℕ → ℕ → List ℕ
block_line n inputs outputs slots = line (codes "block " ++ decimal n ++ codes " inputs " ++ decimal inputs ++ codes " outputs " ++ decimal outputs
    ++ codes " slots " ++ decimal slots)

abbrev pub block_lines : ℕ → CodeBlock → List ℕ
block_lines n b = block_line n b.inputs b.outputs b.slots ++ numbered instr_line 0 b.instrs

abbrev pub array_line : ℕ → ℕ → List ℕ
array_line n len = line (codes "array " ++ decimal n ++ codes " " ++ decimal len)

abbrev pub head_line : ℕ → ℕ → List ℕ
head_line version main = line (codes "ets " ++ decimal version ++ codes " main " ++ decimal main)

-- THE LISTING
abbrev pub listing : ℕ → Program → List ℕ
listing version p = head_line version p.main ++ numbered block_lines 0 p.blocks ++ numbered array_line 0 p.arrays

-- with the whole table of literals after it
abbrev pub listing_with_literals : ℕ → Code → List ℕ
listing_with_literals version c = listing version c.program ++ numbered literal_line 0 c.literals
