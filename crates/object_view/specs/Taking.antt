-- A block of a program, and what is seen of it.
use Rattle.std.specs.Prelude.{◌≡◌, ℕ, Some, slice_get}
use Rattle.semantics.specs.Program.{CodeBlock, Program, first_of}
use Rattle.object_view.specs.declared.object.BlockView.{BlockView}
use Rattle.object_view.specs.Reading.{block_shown}

abbrev pub IsBlockAt : Program → ℕ → CodeBlock → BlockView → Type 0
IsBlockAt p k b v = (slice_get p.blocks k ≡ Some b) × (v ≡ block_shown (first_of p k) b)
