use Rattle.std.proofs.Common.{◌≡◌, ℕ, ◌<◌, Some}
use Rattle.std.specs.Prelude.{slice_get}
use Rattle.machine.specs.declared.runner.Departure.{Departure}
use Rattle.machine.specs.Starts.{departures_in}
use Rattle.machine.proofs.free.is_lost.Given as goal

abbrev pub invariant-loop-at : goal.invariant-loop-at
invariant-loop-at g l = (i : ℕ) → i < l.at → slice_get (departures_in l.runners) i ≡ Some Departure.Lost → ⊥
