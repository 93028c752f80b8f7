-- The frame manager as contracts see it.
use Rattle.std.specs.Prelude.{◌≡◌, ℕ, ◌<◌, Bool, true, false, List, [], ◌∷◌, length, replicate, ◌-◌}
use Rattle.tags.specs.declared.token.Cont.{Cont}
use Rattle.frame_manager.specs.Flags.{flag_at}

pub record Managed : Type 0 where
  -- for each frame, whether it is out
  pub out : List Bool
  -- the requests that wait, in the order in which they came
  pub requests : List Cont

abbrev pub is_out : Managed → ℕ → Bool
is_out m f = flag_at m.out f

-- frame 0 is out, the others are free, and no request waits
abbrev pub at_first : ℕ → Managed
at_first frames = record { out = true ∷ replicate (frames - 1) false; requests = [] }

abbrev pub NoneFree : List Bool → Type 0
NoneFree flags = (f : ℕ) → f < length flags → flag_at flags f ≡ true
