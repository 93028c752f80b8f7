-- The marks of a plan's blocks.
use Rattle.std.specs.Prelude.{ℕ, List, [], slice_get, unwrap_or}
use Rattle.semantics.specs.declared.program.Mark.{Mark}
use Rattle.semantics.specs.Plan.{Plan}

-- the marks of a block; none where there is no such block
abbrev pub marks_in : Plan → ℕ → List Mark
marks_in p b = unwrap_or (slice_get p.marks b) []
