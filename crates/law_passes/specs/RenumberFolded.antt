-- Folding in two passes: one that leaves each instruction its slot, and one that numbers the holders anew.
use Rattle.semantics.specs.Plan.{Plan}
use Rattle.code.specs.Sound.{IsSound}
use Rattle.folding.specs.Folded.{folded}
use Rattle.law_fresh_frames.specs.Alike.{PassKeeps}
use Rattle.law_passes.specs.Kept.{kept_slots}
use Rattle.law_passes.specs.Renumber.{Renumbers}

-- the second pass only numbers the holders anew,
abbrev pub FoldingRenumbers : Type 0
FoldingRenumbers = (p : Plan) → IsSound p → Renumbers (kept_slots p) (folded p)

-- so both together keep what the first one keeps of a plan: all that passes must keep.
abbrev pub FoldingKeeps : Type 0
FoldingKeeps = PassKeeps folded
