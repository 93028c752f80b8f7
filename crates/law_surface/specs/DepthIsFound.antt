-- A part of a core program is too deep exactly if the program is.
use Rattle.std.specs.Prelude.{◌≡◌, ◌↔◌, ◌≤◌, None}
use Rattle.source.specs.Tree.{Program}
use Rattle.source.specs.Fits.{program_depth}
use Rattle.surface.specs.Deep.{program_too_deep}

abbrev pub DepthIsFound : Type 0
DepthIsFound = (p : Program) → (program_too_deep p ≡ None) ↔ (program_depth p ≤ 200)
