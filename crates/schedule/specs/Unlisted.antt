-- What a report says that lists no events.
use Rattle.std.specs.Prelude.{◌≡◌, ℕ, ◌++◌, Bool, false, ℤ, List, []}
use Rattle.semantics.specs.Program.{Program}
use Rattle.semantics.specs.Machine.{Size, Events}
use Rattle.semantics.specs.Report.{Report}
use Rattle.schedule.specs.declared.halt.Halt.{Halt}
use Rattle.schedule.specs.declared.take.Take.{Take}
use Rattle.schedule.specs.Setting.{size}
use Rattle.schedule.specs.State.{State}
use Rattle.schedule.specs.Runs.{SoFar, Began, Plays, HaltsAs, rounds_of}
use Rattle.schedule.specs.Reported.{IsReportOf}
use Rattle.schedule.specs.Shown.{ShowsInOrder}
use Rattle.schedule.specs.Turns.{PlaysTaking}

-- the report with these events in place of its own
abbrev pub with_events : Report → Events → Report
with_events r evs = record {
  end = r.end;
  outputs = r.outputs;
  cells = r.cells;
  deferred = r.deferred;
  waiting_frames = r.waiting_frames;
  waiting_credits = r.waiting_credits;
  frames_out = r.frames_out;
  events = evs;
}

-- RUNS OF ANY LENGTH. The report lists no events; with those of some run in their place it is a report of which `ShowsLanes` holds.
abbrev pub Quietly : (Report → Type 0) → Report → Type 0
Quietly ShowsLanes r = (r.events ≡ []) × (events : Events) × ShowsLanes (with_events r events)

-- The report lists no events, and there is a run that it shows except for them.
pub record ShowsQuietly (p : Program) (z : Size) (inputs : List ℤ) (steps : ℕ) (by_list may_stop : Bool) (r : Report) : Type 0 where
  pub unlisted : r.events ≡ []
  pub events : Events
  pub shows : ShowsInOrder p z inputs steps by_list may_stop (with_events r events)

-- The report shows a run with these events, or its own lists were refused; and if they are those that were noted, it lists the
-- run that it shows.
abbrev pub ShowsBut : Program → Size → List ℤ → ℕ → Bool → Bool → Events → Events → Report → Type 0
ShowsBut p z inputs steps by_list may_stop kept evs r = (shown : Events) × ShowsInOrder p z inputs steps by_list may_stop (with_events r shown)
    × (kept ≡ evs → r.events ≡ shown)

-- The report is of this machine, which halted so: it has its events and its end, says what its lanes hold, and shows the run that led there.
pub record ReportsSoFar (k : SoFar) (halt : Halt) (r : Report) : Type 0 where
  pub reported : IsReportOf k halt r
  pub shows : (inputs : List ℤ) (by_list : Bool) → Began inputs k.state k.events → HaltsAs k.state by_list halt
      → ShowsInOrder k.state.setting.program (size k.state.setting) inputs k.state.setting.steps by_list false r

-- the machine with these events
abbrev pub so_far_with : State → Events → SoFar
so_far_with s events = record { state = s; events = events }

-- the machine with no event noted
abbrev pub without_events : State → SoFar
without_events s = so_far_with s []

-- IN TURN. From the machine at first the elements took turns, each with its oldest token, until the run halted. The report is of the machine
-- as it then was, its events after those that happened before, and it shows that run.
pub record RunsInTurn (first : SoFar) (r : Report) : Type 0 where
  pub last : SoFar
  pub halt : Halt
  pub rounds : ℕ
  pub made : Events
  pub plays : Plays false (rounds_of rounds first.state.setting.elements) first.state last.state halt made
  pub events : last.events ≡ first.events ++ made
  pub reported : IsReportOf last halt r
  pub shows : (inputs : List ℤ) → Began inputs first.state first.events → ShowsInOrder first.state.setting.program (size first.state.setting) inputs
      first.state.setting.steps false false r

-- BY AN ORDER OF THE TOKENS. As `RunsInTurn`, of the turns that this order gives.
pub record RunsTaking (take : Take) (first : SoFar) (r : Report) : Type 0 where
  pub last : SoFar
  pub halt : Halt
  pub made : Events
  pub plays : PlaysTaking take first.state last.state halt made
  pub events : last.events ≡ first.events ++ made
  pub reported : IsReportOf last halt r
  pub shows : (inputs : List ℤ) → Began inputs first.state first.events → ShowsInOrder first.state.setting.program (size first.state.setting) inputs
      first.state.setting.steps false false r
