-- How a free run ends: which elements halted for a reason of their own, and which of them says why the run ends.
use Rattle.std.specs.Prelude.{◌≡◌, ℕ, ◌⊎◌, ℤ, List, [], map, Bool, true, Option, Some, None, slice_get, length}
use Rattle.tags.specs.declared.token.Token.{Token}
use Rattle.semantics.specs.Machine.{Events}
use Rattle.semantics.specs.Report.{Report}
use Rattle.element.specs.Holding.{Holding}
use Rattle.schedule.specs.declared.halt.Halt.{Halt}
use Rattle.schedule.specs.declared.take.Take.{Take}
use Rattle.schedule.specs.declared.take.Take.TheVariants.{Oldest}
use Rattle.schedule.specs.Setting.{Setting}
use Rattle.schedule.specs.State.{tokens_in}
use Rattle.schedule.specs.Runs.{Began}
use Rattle.schedule.specs.Reported.{IsReportOf}
use Rattle.schedule.specs.Unlisted.{with_events}
use Rattle.rounds.specs.Turns.{arriving}
use Rattle.rounds.specs.Counted.{IsFirst, NoneHalts}
use Rattle.machine.specs.declared.runner.Departure.{Departure}
use Rattle.machine.specs.ByDepth.{HasNoReason, HaltsFreely}

-- the reason of its own for which an element halted, if it did
abbrev pub reason_of : Departure → Option Halt
reason_of (Departure.Halted halt) = Some halt
reason_of Departure.Lost = None
reason_of Departure.Rested = None
reason_of Departure.Stopped = None
reason_of Departure.Waited = None

abbrev pub reasons_of : List Departure → List (Option Halt)
reasons_of departures = map reason_of departures

-- The reason is true of what the element held when it left. An element without one had no token left that it might take in this order of the tokens,
-- or has made as many events as its turns have: so one that has such tokens, and has made fewer, has a reason.
abbrev pub IsOwn : Take → Setting → Bool → Holding → Option Halt → Type 0
IsOwn order g may_stop h (Some halt) = HaltsFreely order g may_stop h (Some halt)
IsOwn order g may_stop h None = HasNoReason order g h

-- THE END OF A FREE RUN, in this order of the tokens. Each element ran until it halted for a reason of its own, until another called for a stop, or until
-- no token was live. Of those that halted, the one of least number says why the run ends; where none did, no token is left.
pub record EndsTaking (order : Take) (g : Setting) (inputs : List ℤ) (may_stop : Bool) (r : Report) : Type 0 where
  -- what each element held when it left, by its number, and the tokens that were on their way to others
  pub lanes : List Holding
  pub on_way : List Token
  -- the events that the report lists led there
  pub began : Began inputs (arriving g lanes on_way) r.events
  -- the reason of each element, where it has one
  pub reasons : List (Option Halt)
  pub count : length reasons ≡ length lanes
  pub own : (e : ℕ) (h : Holding) (reason : Option Halt) → slice_get lanes e ≡ Some h → slice_get reasons e ≡ Some reason
      → IsOwn order g may_stop h reason
  -- why the run ends
  pub halt : Halt
  pub least : IsFirst reasons halt ⊎ (NoneHalts reasons × (tokens_in (arriving g lanes on_way).lanes ≡ []) × (halt ≡ Halt.NoToken))
  -- and the report has that end, and says what the elements held
  pub reported : IsReportOf (record { state = record { setting = g; lanes = lanes }; events = r.events }) halt r

-- in which each element takes its oldest tokens
abbrev pub EndsFreely : Setting → List ℤ → Bool → Report → Type 0
EndsFreely g inputs may_stop r = EndsTaking Oldest g inputs may_stop r

-- The report ends so with the events of some run; where events are listed, and these are those that were noted, it lists those of the run.
abbrev pub EndsOn : Take → Bool → Setting → List ℤ → Bool → Events → Events → Report → Type 0
EndsOn order keeps_events g inputs may_stop kept events r = (shown : Events) × EndsTaking order g inputs may_stop (with_events r shown)
    × (keeps_events ≡ true → kept ≡ events → r.events ≡ shown)
