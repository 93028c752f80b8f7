-- What a wait for a credit shows of the meaning, in the runs of a plan and in those of its code.
use Rattle.std.specs.Prelude.{◌≡◌, ℕ, ℤ, List, []}
use Rattle.tags.specs.declared.token.Cont.{Cont}
use Rattle.tags.specs.declared.slot.SlotState.TheVariants.{Waiter}
use Rattle.semantics.specs.Graph.{Flow}
use Rattle.semantics.specs.Program.{Program}
use Rattle.semantics.specs.Machine.{Machine, Size, Events, Run, at_start, Resting}
use Rattle.semantics.specs.Faithful.{IsRun}
use Rattle.semantics.specs.Plan.{Plan}
use Rattle.semantics.specs.Handed.{UsesEachOnce}
use Rattle.semantics.specs.Orderly.{IsStart}

-- WHAT WAITING SHOWS of the meaning: A in each state, and B where the machine is at rest and no frame is wanted.
pub record WaitShows (A B : Type 0) (m : Machine) : Type 0 where
  pub ever : (f s : ℕ) (c : Cont) → m.store.slots f s ≡ Waiter c → A
  pub last : (f s : ℕ) (c : Cont) → m.store.slots f s ≡ Waiter c → Resting m → m.store.requests ≡ [] → B

-- in the runs of a plan that use each frame once,
abbrev pub PlanWaitsShow : (List ℤ → Type 0) → (List ℤ → Type 0) → Plan → Type 0
PlanWaitsShow A B p = (inputs : List ℤ) (z : Size) (events : Events) (u : Machine) → IsStart p z inputs
    → (run : Run p.program z (at_start p.program inputs) events u) → UsesEachOnce p.program z inputs events u run → WaitShows (A inputs) (B inputs) u

-- and in all runs of code.
abbrev pub WaitsShow : (List ℤ → Type 0) → (List ℤ → Type 0) → Flow → Program → Type 0
WaitsShow A B fl q = (inputs : List ℤ) (z : Size) (events : Events) (m : Machine) → IsRun fl q inputs z events m → WaitShows (A inputs) (B inputs) m
