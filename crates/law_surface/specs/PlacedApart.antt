-- IN A PLACED PROGRAM no two tokens have one place.
use Rattle.std.specs.Prelude.{◌≡◌, ℕ, slice_get, Some}
use Rattle.source.specs.Tree.{Program}
use Rattle.source.specs.Spelled.{Spelling, program_tokens}
use Rattle.surface.specs.Placed.{placed}

abbrev pub PlacedApart : Type 0
PlacedApart = (p : Program) (i j : ℕ) (t u : Spelling) (at : ℕ) → slice_get (program_tokens (placed p)) i ≡ Some t → slice_get (program_tokens (placed p)) j ≡
    Some u → t.place ≡ Some at → u.place ≡ Some at → i ≡ j
