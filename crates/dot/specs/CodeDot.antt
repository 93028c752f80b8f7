-- The picture of an object's code, as text in Graphviz's language DOT.
use Rattle.std.specs.Prelude.{ℕ, ◌+◌, Option, Some, None, List, [], ◌∷◌, ◌++◌, codes, decimal}
use Rattle.tags.specs.declared.token.Port.{Port}
use Rattle.semantics.specs.declared.program.Dest.{Dest}
use Rattle.semantics.specs.declared.program.Op.{Op}
use Rattle.semantics.specs.declared.program.Op.TheVariants.{Apply1, Apply2, Apply2Right, Apply2Left, Lit, Copy, Sync, Switch, Fetch, Store, Frame}
use Rattle.semantics.specs.declared.program.Op.TheVariants.{Link, Send, Return, Ask, Open, Take, Give, Drain, Release}
use Rattle.semantics.specs.Program.{Instr, CodeBlock, Program}
use Rattle.semantics.specs.Text.{field}
use Rattle.sink.specs.Numbered.{numbered}
use Rattle.disassembler.specs.Listing.{operand_text, port_letter}
use Rattle.semantics.specs.Opcodes.{op_word}

-- an instruction by its number in its block, with its name and operand as a listing has them
abbrev pub instr_box : ℕ → ℕ → Op → List ℕ
instr_box b n op = codes "b" ++ decimal b ++ codes "i" ++ decimal n ++ codes " [label=\"" ++ decimal n ++ field (op_word op)
    ++ field (operand_text op) ++ codes "\"]\n"

-- an arc has which destination it is at its tail, and the port at its head
abbrev pub arc_to : ℕ → ℕ → ℕ → ℕ → Port → List ℕ
arc_to b n which to port = codes "b" ++ decimal b ++ codes "i" ++ decimal n ++ codes " -> b" ++ decimal b ++ codes "i" ++ decimal to
    ++ codes " [taillabel=\"" ++ decimal which ++ codes "\" headlabel=\"" ++ port_letter port ++ codes "\"]\n"

abbrev pub arc : ℕ → ℕ → ℕ → List Dest → List ℕ
arc b n which [] = []
arc b n which (d ∷ ds) = arc_to b n which (n + d.ahead) d.port

-- a link and a send go to an entry of another block, by a dotted arc
abbrev pub entry_arc : ℕ → ℕ → ℕ → ℕ → List ℕ
entry_arc b n to entry = codes "b" ++ decimal b ++ codes "i" ++ decimal n ++ codes " -> b" ++ decimal to ++ codes "i" ++ decimal entry
    ++ codes " [style=dotted]\n"

abbrev pub far_arc : ℕ → ℕ → Op → List ℕ
far_arc b n (Link to) = entry_arc b n to 0
far_arc b n (Send to entry) = entry_arc b n to entry
far_arc b n op = []

abbrev pub instr_dot : ℕ → ℕ → Instr → List ℕ
instr_dot b n i = instr_box b n i.op ++ (arc b n 1 i.firsts ++ arc b n 2 i.seconds) ++ far_arc b n i.op

abbrev pub code_head : ℕ → List ℕ
code_head b = codes "subgraph cluster_b" ++ decimal b ++ codes " { label=\"block " ++ decimal b ++ codes "\"\n"

abbrev pub code_block_dot : ℕ → CodeBlock → List ℕ
code_block_dot b block = code_head b ++ numbered (instr_dot b) 0 block.instrs ++ codes "}\n"

abbrev pub picture_head : ℕ → List ℕ
picture_head main = codes "digraph ets { label=\"main block " ++ decimal main
    ++ codes "\"\nnode [fontname=\"sans-serif\"] edge [fontsize=8 fontname=\"sans-serif\"]\n"

-- each block's box, with its instructions and arcs
abbrev pub code_dot : Program → List ℕ
code_dot p = picture_head p.main ++ numbered code_block_dot 0 p.blocks ++ codes "}\n"
