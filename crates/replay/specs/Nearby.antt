-- A store whose slots, cells and requests name frames and cells that there are.
use Rattle.std.specs.Prelude.{◌≡◌, ℕ, ◌<◌, All, true, sum}
use Rattle.semantics.specs.Program.{Program}
use Rattle.semantics.specs.Machine.{Store}
use Rattle.element.specs.Near.{Bounds, IsNearCont, IsNearSlot, IsNearCell}

-- the number of frames, and the cells of the program's arrays
abbrev pub bounds_of : Program → ℕ → Bounds
bounds_of p frames = record { frames = frames; cells = sum p.arrays }

pub record IsNearStore (b : Bounds) (s : Store) : Type 0 where
  pub slots : (f r : ℕ) → IsNearSlot b (s.slots f r)
  pub cells : (x : ℕ) → IsNearCell b (s.cells x)
  pub requests : All (IsNearCont b) s.requests
  pub out : (f : ℕ) → s.out f ≡ true → f < b.frames
