-- Folding keeps a plan sound.
use Rattle.semantics.specs.Plan.{Plan}
use Rattle.code.specs.Sound.{IsSound}
use Rattle.folding.specs.Folded.{folded}

-- A sound plan is sound once its operators have literal operands.
abbrev pub StillSound : Type 0
StillSound = (p : Plan) → IsSound p → IsSound (folded p)
