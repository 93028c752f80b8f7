-- HOW MANY ROUNDS A RUN MAKES, and what its report says of the last.
use Rattle.std.specs.Prelude.{◌≡◌, ℕ, zero, suc, ◌<◌, ◌⊎◌, Bool, List, [], ◌++◌, length, map, Option, Some, None, slice_get}
use Rattle.semantics.specs.Machine.{Events}
use Rattle.semantics.specs.Report.{Report}
use Rattle.element.specs.Holding.{Holding}
use Rattle.schedule.specs.declared.halt.Halt.{Halt}
use Rattle.schedule.specs.declared.take.Take.{Take}
use Rattle.schedule.specs.declared.take.Take.TheVariants.{Oldest}
use Rattle.schedule.specs.Setting.{Setting}
use Rattle.schedule.specs.State.{delivered, tokens_in}
use Rattle.schedule.specs.Steps.{logged}
use Rattle.schedule.specs.Runs.{SoFar}
use Rattle.schedule.specs.Reported.{IsReportOf}
use Rattle.rounds.specs.Turns.{Turned, helds, all_sent}
use Rattle.rounds.specs.ByDepth.{RoundTaking, made_taking}

-- why the elements halt, by their numbers
abbrev pub answers : List Turned → List (Option Halt)
answers ts = map (λ (t : Turned). t.halt) ts

-- the first element that halts
abbrev pub IsFirst : List (Option Halt) → Halt → Type 0
IsFirst halts halt = (e : ℕ) × (slice_get halts e ≡ Some (Some halt)) × ((i : ℕ) → i < e → slice_get halts i ≡ Some None)

-- no element halts
abbrev pub NoneHalts : List (Option Halt) → Type 0
NoneHalts halts = (e : ℕ) → e < length halts → slice_get halts e ≡ Some None

-- Why a run halts after a round, in which the elements answered this: of those that halt, the one of least number says why. Where none halts, the run halts
-- if no token is left, and only then.
abbrev pub IsWhy : List Holding → List (Option Halt) → Option Halt → Type 0
IsWhy lanes halts None = NoneHalts halts × (0 < length (tokens_in lanes))
IsWhy lanes halts (Some halt) = IsFirst halts halt ⊎ (NoneHalts halts × (tokens_in lanes ≡ []) × (halt ≡ Halt.NoToken))

-- ONE ROUND. Each element makes its turn, in this order of its tokens; then the tokens for others are delivered, those of one element after those of
-- another. It made these events, and after it the run halts so, if it does: where memory is refused while tokens are delivered, it halts for that.
pub record MakesRound (order : Take) (g : Setting) (may_stop : Bool) (old new : List Holding) (made : Events) (why : Option Halt) : Type 0 where
  -- whether the elements note their events
  pub keeps_events : Bool
  pub turned : List Turned
  pub round : RoundTaking order g keeps_events may_stop old turned
  pub handed : new ≡ delivered (all_sent turned) (helds turned)
  pub events : made ≡ made_taking order g keeps_events may_stop old turned round
  pub halts : IsWhy new (answers turned) why ⊎ (why ≡ Some Halt.Memory)

-- EXACTLY SO MANY ROUNDS, one after the other: after each but the last the run goes on, and after the last it halts so, if it does.
abbrev pub MakesRounds : Take → Setting → Bool → ℕ → List Holding → List Holding → Events → Option Halt → Type 0
MakesRounds order g may_stop zero old new made why = (new ≡ old) × (made ≡ []) × (why ≡ None)
MakesRounds order g may_stop (suc n) old new made why =
    (mid : List Holding) × (before : Events) × (now : Events) × MakesRounds order g may_stop n old mid before None
    × MakesRound order g may_stop mid new now why
    × (made ≡ before ++ now)

-- The run from here made exactly so many rounds, in this order of the tokens, and halted after the last, unless memory was refused between two rounds.
-- The report is of the machine as it is then, with these events after those that were noted; or, where its lists were refused, of the machine before its
-- first event.
pub record ReportsTaking (order : Take) (keeps_events may_stop : Bool) (start : SoFar) (rounds : ℕ) (r : Report) : Type 0 where
  pub last : List Holding
  pub made : Events
  pub halt : Halt
  pub why : Option Halt
  pub makes : MakesRounds order start.state.setting may_stop rounds start.state.lanes last made why
  pub halted : (why ≡ Some halt) ⊎ ((why ≡ None) × (halt ≡ Halt.Memory))
  pub reported : IsReportOf (record { state = record { setting = start.state.setting; lanes = last }; events = logged keeps_events start.events made }) halt r

-- in which each element takes its oldest tokens
abbrev pub ReportsRounds : Bool → Bool → SoFar → ℕ → Report → Type 0
ReportsRounds keeps_events may_stop start rounds r = ReportsTaking Oldest keeps_events may_stop start rounds r
