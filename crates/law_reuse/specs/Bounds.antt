-- That the loops of a plan keep their bounds in runs that use each frame once: so do those of its code in all runs.
use Rattle.std.specs.Prelude.{◌≡◌, ℕ, ◌+◌, ◌≤◌, ℤ, List, Contains}
use Rattle.tags.specs.declared.token.Port.TheVariants.{Left}
use Rattle.tags.specs.declared.token.Cont.{Cont}
use Rattle.tags.specs.declared.token.Word.{Word}
use Rattle.tags.specs.declared.token.To.{To}
use Rattle.tags.specs.declared.token.Token.{Token}
use Rattle.tags.specs.declared.slot.SlotState.TheVariants.{Waiter}
use Rattle.semantics.specs.declared.program.Op.TheVariants.{Open}
use Rattle.semantics.specs.Graph.{Flow}
use Rattle.semantics.specs.Rule.{token}
use Rattle.semantics.specs.Machine.{Machine, Size, Events, Run, at_start}
use Rattle.semantics.specs.Plan.{Plan}
use Rattle.semantics.specs.Sharing.{Good}
use Rattle.semantics.specs.Handed.{UsesEachOnce}
use Rattle.semantics.specs.Orderly.{Orderly, IsStart, met}
use Rattle.semantics.specs.Wired.{IsWired}
use Rattle.semantics.specs.Holders.{Holder}
use Rattle.semantics.specs.Credits.{IsPart, IsLoop, granted, released, KeepsBounds}
use Rattle.semantics.specs.Reuse.{UsesAgain}
use Rattle.law_reuse.specs.Frames.{TakesInputs}

-- every token of the pool asks for a frame
abbrev pub OnlyAsks : Machine → Type 0
OnlyAsks u = (t : Token) → Contains u.pool t → t.to ≡ To.Manager

-- Frame f in a run of the plan that uses each frame once: all that the run counts there is of one tenure.
pub record PlanKeepsBound (p : Plan) (z : Size) (inputs : List ℤ) (events : Events) (u : Machine) (run : Run p.program z (at_start p.program inputs) events u)
    (f : ℕ) : Type 0 where
  pub never_above : (loop : Holder) (k ip s : ℕ) → IsPart p p.program loop (Open k) ip s
      → (base : ℕ) × IsLoop p p.program loop k s base
      × (granted p p.program f loop z (at_start p.program inputs) events u run ≤ released p.program f base z (at_start p.program inputs) events u run + k)
  -- where nothing but frame requests is left, a loop that was opened in the frame, and whose slot has a waiter, has granted
  -- all its credits
  pub all_granted : (loop : Holder) (k ip s : ℕ) (w : Word) (c : Cont) → IsPart p p.program loop (Open k) ip s
      → Contains (met events u) (token (To.Instr f ip Left) w) → OnlyAsks u → u.store.slots f s ≡ Waiter c
      → (base : ℕ) × IsLoop p p.program loop k s base
      × (granted p p.program f loop z (at_start p.program inputs) events u run ≡ released p.program f base z (at_start p.program inputs) events u run + k)

abbrev pub PlanKeepsBounds : Plan → Type 0
PlanKeepsBounds p = (inputs : List ℤ) (z : Size) (events : Events) (u : Machine) (f : ℕ) → IsStart p z inputs
    → (run : Run p.program z (at_start p.program inputs) events u)
    → UsesEachOnce p.program z inputs events u run → PlanKeepsBound p z inputs events u run f

-- So the code keeps them in all runs, in each tenure of a frame.
abbrev pub BoundsAreKept : Type 0
BoundsAreKept = (fl : Flow) (p : Plan) (slots : List (List ℕ)) → Orderly p → IsWired p → Good p slots → TakesInputs fl p → PlanKeepsBounds p
    → KeepsBounds fl p slots

-- With it, all that compiled code promises of frames and slots that are used again.
abbrev pub CodeUsesAgain : Type 0
CodeUsesAgain = (fl : Flow) (p : Plan) (slots : List (List ℕ)) → Orderly p → IsWired p → Good p slots → TakesInputs fl p → PlanKeepsBounds p
    → UsesAgain fl p slots
