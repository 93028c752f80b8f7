-- The run of an element that has no other beside it.
use Rattle.std.specs.Prelude.{◌≡◌, ℕ, ◌<◌, false, [], ◌++◌, length, Option, Some, None}
use Rattle.semantics.specs.Program.{Program}
use Rattle.semantics.specs.Machine.{Events}
use Rattle.element.specs.declared.lane.Stepped.{Stepped}
use Rattle.element.specs.Holding.{Holding}
use Rattle.element.specs.Steps as one
use Rattle.schedule.specs.declared.halt.Halt.{Halt}
use Rattle.schedule.specs.State.{State}
use Rattle.schedule.specs.Runs.{Plays, rounds_of}

-- what a lane answers that is asked for one more event
abbrev pub LaneAnswers : Program → ℕ → Holding → Option Stepped → Holding → Type 0
LaneAnswers p steps old None new = (0 < length old.queue) × (old.made ≡ steps) × (new ≡ old)
LaneAnswers p steps old (Some answer) new = (0 < length old.queue → old.made < steps) × one.Steps p old 0 [] answer new []

-- What comes of the second state, with the elements in turn, comes of the first one after these events.
abbrev pub LeadsTo : ℕ → State → Events → State → Type 0
LeadsTo elements old made new =
    (rounds : ℕ) (last : State) (halt : Halt) (later : Events) → Plays false (rounds_of rounds elements) new last halt later
    → (all : ℕ) × Plays false (rounds_of all elements) old last halt (made ++ later)
