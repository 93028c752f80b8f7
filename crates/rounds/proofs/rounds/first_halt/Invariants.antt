use Rattle.std.proofs.Common.{◌≡◌, ℕ, ◌<◌, Some, None}
use Rattle.std.specs.Prelude.{slice_get}
use Rattle.rounds.specs.Rounds.{halts_in}
use Rattle.rounds.proofs.rounds.first_halt.Given as goal

abbrev pub invariant-loop-at : goal.invariant-loop-at
invariant-loop-at g l = (i : ℕ) → i < l.at → slice_get (halts_in l.turners) i ≡ Some None
