-- A plan that is faithful in the runs that use each frame once, and that the code of such a plan is faithful in all runs.
use Rattle.std.specs.Prelude.{◌≡◌, ℕ, ℤ, List}
use Rattle.semantics.specs.Graph.{Flow}
use Rattle.semantics.specs.Program.{Program}
use Rattle.semantics.specs.Machine.{Machine, Size, Events, Run, at_start, Resting, Wants}
use Rattle.semantics.specs.Cause.{HasCause, HasBounds}
use Rattle.semantics.specs.Faithful.{IsExact, IsSecondStore, HasStoreOfFull, NoReader, IsClean, IsBounded, IsRun, Faithful}
use Rattle.semantics.specs.Plan.{Plan}
use Rattle.semantics.specs.Sharing.{Good}
use Rattle.semantics.specs.Placed.{placed}
use Rattle.semantics.specs.Wired.{IsWired}
use Rattle.semantics.specs.Handed.{UsesEachOnce}
use Rattle.semantics.specs.Orderly.{Orderly, IsStart}
use Rattle.law_reuse.specs.Frames.{TakesInputs}

-- What such a run keeps of what faithfulness states. That its outputs are reached is in `cause`, and that no rule excludes a
-- token is stated by `Orderly`.
pub record KeepsOnce (fl : Flow) (p : Program) (inputs : List ℤ) (events : Events) (m : Machine) : Type 0 where
  pub exact : Resting m → (Wants m → ⊥) → IsExact fl inputs m
  pub second_store : (x : ℕ) → HasStoreOfFull m x → IsSecondStore fl inputs x
  pub clean : Resting m → (Wants m → ⊥) → NoReader m → IsClean m
  pub cause : HasCause fl p inputs events m

pub record FaithfulOnce (fl : Flow) (p : Program) : Type 0 where
  pub arrays : p.arrays ≡ fl.arrays
  pub bounds : HasBounds fl p
  pub each : (inputs : List ℤ) (z : Size) (events : Events) (m : Machine) (r : IsRun fl p inputs z events m) → UsesEachOnce p z inputs events m r.run
      → KeepsOnce fl p inputs events m

-- the bound on the events of such a run
abbrev pub BoundedOnce : Plan → Type 0
BoundedOnce p = (inputs : List ℤ) (z : Size) (events : Events) (m : Machine) → IsStart p z inputs → (run : Run p.program z (at_start p.program inputs) events m)
    → UsesEachOnce p.program z inputs events m run → IsBounded p.program events

-- The code of a plan that is faithful in such runs is faithful in all.
abbrev pub OnceSuffices : Type 0
OnceSuffices = (fl : Flow) (p : Plan) (slots : List (List ℕ)) → FaithfulOnce fl p.program → BoundedOnce p → Orderly p → IsWired p → Good p slots
    → TakesInputs fl p
    → Faithful fl (placed p slots)
