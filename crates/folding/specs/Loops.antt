-- Folding keeps the bounds that loops open with.
use Rattle.std.specs.Prelude.{◌≡◌}
use Rattle.semantics.specs.Graph.{Flow}
use Rattle.semantics.specs.Plan.{Plan}
use Rattle.semantics.specs.Cause.{HasBounds}
use Rattle.folding.specs.Folded.{folded}

-- The loops of a plan still open with the graph's bounds once its operators have literal operands,
abbrev pub StillHasBounds : Type 0
StillHasBounds = (fl : Flow) (p : Plan) → HasBounds fl p.program → HasBounds fl (folded p).program

-- and its arrays are the same.
abbrev pub KeepsArrays : Type 0
KeepsArrays = (p : Plan) → (folded p).program.arrays ≡ p.program.arrays
