-- The folded plan before its holders are numbered again: each instruction has the slot that it had.
use Rattle.std.specs.Prelude.{ℕ, List, map}
use Rattle.law_reuse.specs.Bounds.{PlanKeepsBounds}
use Rattle.semantics.specs.Program.{Instr, CodeBlock}
use Rattle.semantics.specs.Graph.{Flow}
use Rattle.semantics.specs.Plan.{Plan}
use Rattle.semantics.specs.Orderly.{Orderly}
use Rattle.law_reuse.specs.Frames.{TakesInputs}
use Rattle.code.specs.Sound.{IsSound}
use Rattle.folding.specs.Folds.{new_op}
use Rattle.folding.specs.Places.{Layout, layout_of, folds_at}
use Rattle.folding.specs.Moved.{moved_dests}
use Rattle.folding.specs.Folded.{remaining_from, all_marks}
use Rattle.law_fresh_frames.specs.Fresh.{FaithfulOnce}
use Rattle.law_fresh_frames.specs.Alike.{RunsAlike, LandsRightly, IsTidy, PassKeeps}
use Rattle.law_passes.specs.Fold.{Folds}

abbrev pub slotted : Layout → ℕ → Instr → Instr
slotted l n i =
    record { op = new_op (folds_at l n) i.op; origin = i.origin; slot = i.slot; firsts = moved_dests l n i.firsts; seconds = moved_dests l n i.seconds }

abbrev pub kept_block : Plan → CodeBlock → CodeBlock
kept_block p c = record c { instrs = remaining_from (layout_of p c) (slotted (layout_of p c)) 0 c.instrs }

abbrev pub kept_blocks : Plan → List CodeBlock → List CodeBlock
kept_blocks p cs = map (kept_block p) cs

abbrev pub kept_slots : Plan → Plan
kept_slots p = record {
  program = record { blocks = kept_blocks p p.program.blocks; arrays = p.program.arrays; main = p.program.main };
  plain = p.plain;
  marks = all_marks p 0 p.program.blocks;
}

-- static
abbrev pub KeptSlotsFolds : Type 0
KeptSlotsFolds = (p : Plan) → IsSound p → Folds p (kept_slots p)

-- runs
abbrev pub KeptSlotsRunsAlike : Type 0
KeptSlotsRunsAlike = (p : Plan) → IsSound p → Orderly p → LandsRightly p → RunsAlike p (kept_slots p)

-- faith
abbrev pub KeptSlotsFaithful : Type 0
KeptSlotsFaithful = (fl : Flow) (p : Plan) → IsSound p → Orderly p → LandsRightly p → TakesInputs fl p → FaithfulOnce fl p.program
    → FaithfulOnce fl (kept_slots p).program

-- tidiness
abbrev pub KeptSlotsTidy : Type 0
KeptSlotsTidy = (p : Plan) → IsSound p → IsTidy p → IsTidy (kept_slots p)

-- landings
abbrev pub KeptSlotsLands : Type 0
KeptSlotsLands = (p : Plan) → IsSound p → Orderly p → LandsRightly p → LandsRightly (kept_slots p)

-- bounds
abbrev pub KeptSlotsKeepBounds : Type 0
KeptSlotsKeepBounds = (p : Plan) → IsSound p → IsTidy p → Orderly p → LandsRightly p → PlanKeepsBounds p → PlanKeepsBounds (kept_slots p)

-- order
abbrev pub KeptSlotsOrderly : Type 0
KeptSlotsOrderly = (p : Plan) → IsSound p → IsTidy p → Orderly p → LandsRightly p → Orderly (kept_slots p)

-- all
abbrev pub KeptSlotsKeep : Type 0
KeptSlotsKeep = PassKeeps kept_slots
