-- In which order the steps of a run are taken.
use Rattle.std.specs.Prelude.{◌≡◌, ℕ, Bool, true, false, ℤ, List, Option}
use Rattle.semantics.specs.Program.{Program}
use Rattle.semantics.specs.Machine.{Size, Events}
use Rattle.semantics.specs.Report.{Report}
use Rattle.schedule.specs.declared.config.Config.{Config}
use Rattle.schedule.specs.declared.halt.Halt.{Halt}
use Rattle.schedule.specs.declared.take.Take.{Take}
use Rattle.schedule.specs.declared.take.Take.TheVariants.{Oldest, Depth}
use Rattle.mode.specs.declared.Mode.{Mode}
use Rattle.driver.specs.declared.order.Order.{Order}
use Rattle.schedule.specs.Starts.{Opens}
use Rattle.schedule.specs.Runs.{SoFar, Plays, rounds_of}
use Rattle.schedule.specs.Turns.{AreInTurn, PlaysTurns}
use Rattle.schedule.specs.Reported.{IsReportOf}
use Rattle.rounds.specs.Counted.{ReportsTaking}

-- the machine that a configuration asks for: its elements, each with its frames
abbrev pub size_of : Config → Size
size_of c = record { elements = c.elements; frames = c.frames }

-- ORDER. The events are the steps that a list names, in its order: an entry is an element and a pick among its tokens, and
-- makes an event where the element then has a token and may make one. The report is of the machine where the run halts, and
-- says what its lanes hold, or of the machine at the start where its own lists are refused.
pub record RunsBy (p : Program) (c : Config) (inputs : List ℤ) (by_list : Bool) (picks : List (ℕ × ℕ)) (r : Report) : Type 0 where
  pub width : ℕ
  pub start : SoFar
  pub opens : Opens p width c inputs start
  pub last : SoFar
  pub halt : Halt
  pub made : Events
  pub plays : Plays by_list picks start.state last.state halt made
  pub events : last.events ≡ made
  pub reported : IsReportOf last halt r

-- The events are those that the elements make in turn, from the first on, where element 0 holds back requests for frames; the report is as above.
pub record RunsByDepth (p : Program) (c : Config) (inputs : List ℤ) (r : Report) : Type 0 where
  pub width : ℕ
  pub start : SoFar
  pub opens : Opens p width c inputs start
  pub last : SoFar
  pub halt : Halt
  pub made : Events
  pub turns : List (ℕ × Option ℕ)
  pub in_turn : AreInTurn c.elements 0 turns
  pub plays : PlaysTurns turns start.state last.state halt made
  pub events : last.events ≡ made
  pub reported : IsReportOf last halt r

-- the elements take turns, each with its oldest token, or so that few frames are needed
abbrev pub RunsByTurns : Take → Program → Config → List ℤ → Report → Type 0
RunsByTurns Oldest p c inputs r = (rounds : ℕ) × RunsBy p c inputs false (rounds_of rounds c.elements) r
RunsByTurns Depth p c inputs r = RunsByDepth p c inputs r

-- the steps are taken in the order of this list
abbrev pub RunsByList : List (ℕ × ℕ) → Program → Config → List ℤ → Report → Type 0
RunsByList picks p c inputs r = RunsBy p c inputs true picks r

-- The run makes exactly this number of rounds: in each every element makes a turn of the events that the configuration says, with its tokens in this order.
pub record RunsByRounds (take : Take) (may_stop : Bool) (rounds : ℕ) (p : Program) (c : Config) (inputs : List ℤ) (r : Report) : Type 0 where
  pub width : ℕ
  pub start : SoFar
  pub opens : Opens p width c inputs start
  pub truth : ReportsTaking take true may_stop start rounds r

-- the order of a mode, with this order of their tokens
abbrev pub order_of : Mode → Take → Order
order_of Mode.One take = Order.InTurn take
order_of Mode.Rounds take = Order.InRounds take
order_of Mode.Free take = Order.Free take
