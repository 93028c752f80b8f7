-- The plan in which no instruction has more than two destinations: trees of copies lead to the others.
use Rattle.std.specs.Prelude.{ℕ, ◌+◌, Bool, true, false, List, ◌∷◌, ◌++◌, map, replicate, unwrap_or, slice_get, []}
use Rattle.semantics.specs.declared.program.Mark.{Mark}
use Rattle.semantics.specs.declared.program.Mark.TheVariants.{Unmarked}
use Rattle.semantics.specs.Program.{Instr, CodeBlock}
use Rattle.semantics.specs.Plan.{Plan}
use Rattle.code.specs.Marks.{marks_in}
use Rattle.fanout.specs.Sides.{parted}
use Rattle.fanout.specs.Rows.{is_tied}
use Rattle.fanout.specs.Places.{Layout, size, layout_in}
use Rattle.fanout.specs.Trees.{moved, copies_of}

-- What waits for the end of a row is held while an instruction is tied to the next one, and otherwise released after it.
abbrev pub held : {X : Type 0} → Bool → List X → List X
held true xs = xs
held false xs = []

abbrev pub released : {X : Type 0} → Bool → List X → List X
released true xs = []
released false xs = xs

-- What the instructions from the n-th on stand for, in their new order: the n-th one for `one`, and its copies for `more`;
-- some copies of their row wait.
abbrev pub spread_of : {X : Type 0} → List Bool → (ℕ → Instr → X) → (ℕ → Instr → List X) → ℕ → List X → List Instr → List X
spread_of ts one more n waiting [] = waiting
spread_of ts one more n waiting (i ∷ is) = one n i ∷ (released (is_tied ts n) (waiting ++ more n i)
    ++ spread_of ts one more (n + 1) (held (is_tied ts n) (waiting ++ more n i)) is)

-- the instructions and their copies
abbrev pub spread : Layout → ℕ → List Instr → List Instr → List Instr
spread l n waiting is = spread_of l.tied (moved l) (copies_of l) n waiting is

abbrev pub parts_of : CodeBlock → List Instr
parts_of c = map parted c.instrs

abbrev pub layout_of : Plan → CodeBlock → Layout
layout_of p c = layout_in p c.inputs (parts_of c)

abbrev pub narrowed_block : Plan → CodeBlock → CodeBlock
narrowed_block p c = record c { instrs = spread (layout_of p c) 0 [] (parts_of c) }

-- the marks in the new places; copies have none
abbrev pub mark_of : List Mark → ℕ → Mark
mark_of ms n = unwrap_or (slice_get ms n) Unmarked

abbrev pub unmarked : ℕ → Instr → List Mark
unmarked n i = replicate (size i) Unmarked

abbrev pub spread_marks : List Bool → List Mark → ℕ → List Mark → List Instr → List Mark
spread_marks ts ms n waiting is = spread_of ts (λ n i. mark_of ms n) unmarked n waiting is

abbrev pub narrowed_marks : Plan → List Mark → CodeBlock → List Mark
narrowed_marks p ms c = spread_marks (layout_of p c).tied ms 0 [] (parts_of c)

abbrev pub narrowed_blocks : Plan → List CodeBlock → List CodeBlock
narrowed_blocks p cs = map (narrowed_block p) cs

-- the marks of the blocks from the n-th on
abbrev pub all_marks : Plan → ℕ → List CodeBlock → List (List Mark)
all_marks p n [] = []
all_marks p n (c ∷ cs) = narrowed_marks p (marks_in p n) c ∷ all_marks p (n + 1) cs

abbrev pub narrowed : Plan → Plan
narrowed p = record {
  program = record { blocks = narrowed_blocks p p.program.blocks; arrays = p.program.arrays; main = p.program.main };
  plain = p.plain;
  marks = all_marks p 0 p.program.blocks;
}
