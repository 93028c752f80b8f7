-- Emitted code keeps the bounds that loops open with.
use Rattle.std.specs.Prelude.{◌≡◌, ℕ, List, length}
use Rattle.semantics.specs.Graph.{Flow}
use Rattle.semantics.specs.Plan.{Plan}
use Rattle.semantics.specs.Cause.{HasBounds}
use Rattle.semantics.specs.declared.version.Version.{Version}
use Rattle.select.specs.Emitted.{code_of}

-- The loops of a plan's code open with the graph's bounds, if those of the plan do and each block has its slots,
abbrev pub EmittedHasBounds : Type 0
EmittedHasBounds = (fl : Flow) (version : Version) (p : Plan) (slots : List (List ℕ)) → length slots ≡ length p.program.blocks → HasBounds fl p.program
    → HasBounds fl (code_of version p slots)

-- and its arrays are the plan's.
abbrev pub EmittedKeepsArrays : Type 0
EmittedKeepsArrays = (version : Version) (p : Plan) (slots : List (List ℕ)) → (code_of version p slots).arrays ≡ p.program.arrays
