-- Narrowing keeps the bounds that loops open with.
use Rattle.std.specs.Prelude.{◌≡◌}
use Rattle.semantics.specs.Graph.{Flow}
use Rattle.semantics.specs.Plan.{Plan}
use Rattle.semantics.specs.Cause.{HasBounds}
use Rattle.fanout.specs.Narrowed.{narrowed}

-- The loops of a narrowed plan still open with the graph's bounds,
abbrev pub StillHasBounds : Type 0
StillHasBounds = (fl : Flow) (p : Plan) → HasBounds fl p.program → HasBounds fl (narrowed p).program

-- and its arrays are the same.
abbrev pub KeepsArrays : Type 0
KeepsArrays = (p : Plan) → (narrowed p).program.arrays ≡ p.program.arrays
