-- The plan in which operators have literal operands.
use Rattle.std.specs.Prelude.{ℕ, ◌+◌, List, ◌∷◌, map, unwrap_or, slice_get, if◌then◌else◌, []}
use Rattle.semantics.specs.declared.program.Mark.{Mark}
use Rattle.semantics.specs.declared.program.Mark.TheVariants.{Unmarked}
use Rattle.semantics.specs.Program.{Instr, CodeBlock}
use Rattle.semantics.specs.Plan.{Plan}
use Rattle.code.specs.Marks.{marks_in}
use Rattle.folding.specs.Places.{Layout, layout_of, remaining_of, gone_at}
use Rattle.folding.specs.Moved.{moved}

-- What the instructions from the n-th on stand for: the n-th one for `one`, if it is not left out.
abbrev pub remaining_from : {X : Type 0} → Layout → (ℕ → Instr → X) → ℕ → List Instr → List X
remaining_from l one n [] = []
remaining_from l one n (i ∷ is) = if gone_at l n then remaining_from l one (n + 1) is else one n i ∷ remaining_from l one (n + 1) is

abbrev pub moved_from : Layout → ℕ → List Instr → List Instr
moved_from l n is = remaining_from l (moved l) n is

abbrev pub folded_block : Plan → CodeBlock → CodeBlock
folded_block p c = record c { slots = remaining_of (layout_of p c).freed; instrs = moved_from (layout_of p c) 0 c.instrs }

-- the marks in the new places
abbrev pub mark_of : List Mark → ℕ → Mark
mark_of ms n = unwrap_or (slice_get ms n) Unmarked

abbrev pub marks_from : Layout → List Mark → ℕ → List Instr → List Mark
marks_from l ms n is = remaining_from l (λ m i. mark_of ms m) n is

abbrev pub folded_marks : Plan → List Mark → CodeBlock → List Mark
folded_marks p ms c = marks_from (layout_of p c) ms 0 c.instrs

abbrev pub folded_blocks : Plan → List CodeBlock → List CodeBlock
folded_blocks p cs = map (folded_block p) cs

-- the marks of the blocks from the n-th on
abbrev pub all_marks : Plan → ℕ → List CodeBlock → List (List Mark)
all_marks p n [] = []
all_marks p n (c ∷ cs) = folded_marks p (marks_in p n) c ∷ all_marks p (n + 1) cs

abbrev pub folded : Plan → Plan
folded p = record {
  program = record { blocks = folded_blocks p p.program.blocks; arrays = p.program.arrays; main = p.program.main };
  plain = p.plain;
  marks = all_marks p 0 p.program.blocks;
}
