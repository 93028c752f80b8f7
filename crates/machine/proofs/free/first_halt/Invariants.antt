use Rattle.std.proofs.Common.{◌≡◌, ℕ, ◌<◌, Some, None}
use Rattle.std.specs.Prelude.{slice_get}
use Rattle.machine.specs.Ends.{reasons_of}
use Rattle.machine.specs.Starts.{departures_in}
use Rattle.machine.proofs.free.first_halt.Given as goal

abbrev pub invariant-loop-at : goal.invariant-loop-at
invariant-loop-at g l = (i : ℕ) → i < l.at → slice_get (reasons_of (departures_in l.runners)) i ≡ Some None
