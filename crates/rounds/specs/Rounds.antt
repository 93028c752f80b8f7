-- What lanes hold between rounds.
use Rattle.std.specs.Prelude.{◌≡◌, ℕ, ◌⊎◌, ℤ, List, [], ◌++◌, Bool, true, false, length, map, All, Option, Some, None, slice_get}
use Rattle.std.specs.List.{flat_map}
use Rattle.tags.specs.declared.token.Token.{Token}
use Rattle.semantics.specs.Program.{Program}
use Rattle.semantics.specs.Machine.{Size, Events}
use Rattle.semantics.specs.Report.{Report}
use Rattle.schedule.specs.Shown.{ShowsInOrder}
use Rattle.schedule.specs.Unlisted.{with_events}
use Rattle.element.specs.Holding.{Holding, Fixed, held_of, fixed_of}
use Rattle.schedule.specs.declared.halt.Halt.{Halt}
use Rattle.schedule.specs.declared.take.Take.{Take}
use Rattle.schedule.specs.Setting.{Setting}
use Rattle.schedule.specs.State.{State, IsSoundState, RunsAs, delivered}
use Rattle.schedule.specs.Steps.{logged}
use Rattle.schedule.specs.Runs.{Began, HaltsAs}
use Rattle.rounds.specs.declared.turn.Turner.{Turner}
use Rattle.rounds.specs.Turns.{Turned, helds, all_sent, arriving}
use Rattle.rounds.specs.ByDepth.{RoundTaking, made_taking}
use Rattle.rounds.specs.Counted.{answers, MakesRounds}

abbrev pub lane_held : {C A L : Type 0} → Turner C A L → Holding
lane_held t = held_of t.lane

abbrev pub lanes_held : {C A L : Type 0} → List (Turner C A L) → List Holding
lanes_held ts = map lane_held ts

abbrev pub lane_fixed : {C A L : Type 0} → Turner C A L → Fixed
lane_fixed t = fixed_of t.lane

abbrev pub lanes_fixed : {C A L : Type 0} → List (Turner C A L) → List Fixed
lanes_fixed ts = map lane_fixed ts

abbrev pub tokens_sent : {C A L : Type 0} → List (Turner C A L) → List Token
tokens_sent ts = flat_map (λ t. t.sent.items) ts

abbrev pub events_noted : {C A L : Type 0} → List (Turner C A L) → Events
events_noted ts = flat_map (λ t. t.log.events.items) ts

abbrev pub halt_in : {C A L : Type 0} → Turner C A L → Option Halt
halt_in t = t.halt

abbrev pub halts_in : {C A L : Type 0} → List (Turner C A L) → List (Option Halt)
halts_in ts = map halt_in ts

-- nothing is on its way
abbrev pub IsCleared : {C A L : Type 0} → List (Turner C A L) → Type 0
IsCleared ts = (tokens_sent ts ≡ []) × (events_noted ts ≡ [])

-- what holds between rounds
pub record IsBetween {C A L : Type 0} (g : Setting) (ts : List (Turner C A L)) : Type 0 where
  pub sound : IsSoundState (arriving g (lanes_held ts) [])
  -- each lane runs the code of the machine
  pub runs : All (RunsAs g) (lanes_fixed ts)
  pub sent : tokens_sent ts ≡ []
  pub noted : events_noted ts ≡ []

-- why a run halts here; `may_stop`: the gate may answer false
abbrev pub IsHalted : State → Bool → Halt → Type 0
IsHalted s may_stop halt = HaltsAs s false halt ⊎ ((halt ≡ Halt.Stop) × (may_stop ≡ true))

-- Where nothing halts it is as between rounds; and else the tokens that are on their way are these.
abbrev pub GoesOn : {C A L : Type 0} → Setting → Bool → List (Turner C A L) → List Token → Option Halt → Type 0
GoesOn g may_stop ts rest None = IsBetween g ts × (rest ≡ [])
GoesOn g may_stop ts rest (Some halt) = IsSoundState (arriving g (lanes_held ts) rest) × IsHalted (arriving g (lanes_held ts) rest) may_stop halt

-- what is known of the machine with these tokens on their way, if it was known with none
abbrev pub Leads : {C A L : Type 0} → Setting → List (Turner C A L) → List (Turner C A L) → List Token → Events → Type 0
Leads g old new rest made = (inputs : List ℤ) (before : Events) → Began inputs (arriving g (lanes_held old) []) before
    → Began inputs (arriving g (lanes_held new) rest) (before ++ made)

-- what this number of rounds does, with the events that they made
pub record Rounds {C A L : Type 0} (order : Take) (g : Setting) (keeps_events may_stop : Bool) (rounds : ℕ) (old : List (Turner C A L)) (before : Events)
    (new : List (Turner C A L)) (after : Events) (halt : Option Halt) : Type 0 where
  pub rest : List Token
  pub made : Events
  pub goes : GoesOn g may_stop new rest halt
  pub noted : after ≡ logged keeps_events before made
  pub leads : Leads g old new rest made
  pub makes : MakesRounds order g may_stop rounds (lanes_held old) (delivered rest (lanes_held new)) made halt

-- what the turns of a round leave, with all tokens that are on their way
pub record MadeRound {C A L : Type 0} (order : Take) (g : Setting) (keeps_events may_stop : Bool) (old : List (Turner C A L)) (before : Events)
    (new : List (Turner C A L)) (after : Events) (tokens : List Token) : Type 0 where
  pub sound : IsSoundState (arriving g (lanes_held new) tokens)
  pub runs : All (RunsAs g) (lanes_fixed new)
  pub made : Events
  pub noted : after ≡ logged keeps_events before made
  pub leads : Leads g old new tokens made
  pub halts : (e : ℕ) (halt : Halt) → slice_get (halts_in new) e ≡ Some (Some halt) → IsHalted (arriving g (lanes_held new) tokens) may_stop halt
  pub cleared : events_noted new ≡ []
  pub count : length new ≡ length old
  pub turned : List Turned
  pub round : RoundTaking order g keeps_events may_stop (lanes_held old) turned
  pub events : made ≡ made_taking order g keeps_events may_stop (lanes_held old) turned round
  pub lanes : lanes_held new ≡ helds turned
  pub sent : tokens ≡ all_sent turned
  pub answered : halts_in new ≡ answers turned

-- The report shows a run that went on from these events; where events are listed, and these are those that were noted, it
-- lists those of the run.
abbrev pub ShowsOn : Bool → Program → Size → List ℤ → ℕ → Bool → Events → Events → Report → Type 0
ShowsOn keeps_events p z inputs steps may_stop kept events r = (shown : Events) × ShowsInOrder p z inputs steps false may_stop (with_events r shown)
    × (keeps_events ≡ true → kept ≡ events → r.events ≡ shown)
