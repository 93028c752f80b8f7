-- What compiled code promises of frames and slots that are used again, beside being faithful.
use Rattle.std.specs.Prelude.{ℕ, ℤ, List}
use Rattle.semantics.specs.Graph.{Flow}
use Rattle.semantics.specs.Program.{Program}
use Rattle.semantics.specs.Machine.{Machine, Size, Events}
use Rattle.semantics.specs.Faithful.{IsRun}
use Rattle.semantics.specs.Plan.{Plan}
use Rattle.semantics.specs.Sharing.{Good}
use Rattle.semantics.specs.Placed.{placed}
use Rattle.semantics.specs.Wired.{IsWired}
use Rattle.semantics.specs.Orderly.{IsFreeAtRelease}
use Rattle.semantics.specs.Credits.{KeepsBounds}
use Rattle.semantics.specs.Holders.{HoldsAlone}

-- In each run, nothing else names a frame that is released, and its slots are empty.
abbrev pub ReleasesLast : Flow → Program → Type 0
ReleasesLast fl p = (inputs : List ℤ) (z : Size) (events : Events) (m : Machine) → IsRun fl p inputs z events m → IsFreeAtRelease m

-- All three promises, of the code of a wired plan with good slots
pub record UsesAgain (fl : Flow) (p : Plan) (slots : List (List ℕ)) : Type 0 where
  pub wired : IsWired p
  pub good : Good p slots
  pub releases : ReleasesLast fl (placed p slots)
  pub credits : KeepsBounds fl p slots
  pub alone : HoldsAlone fl p slots
