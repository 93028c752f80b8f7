-- What a step does.
use Rattle.std.specs.Prelude.{◌≡◌, ℕ, ◌<◌, List, [], ◌∷◌, ◌++◌, length, Bool, true, false, Option, Some, None, slice_get, slice_set}
use Rattle.tags.specs.declared.token.Token.{Token}
use Rattle.semantics.specs.Machine.{Machine, Events}
use Rattle.element.specs.declared.lane.Stepped.{Stepped}
use Rattle.element.specs.declared.lane.Stepped.TheVariants.{Idle, Did, Clash, Stuck, Memory}
use Rattle.element.specs.Holding.{Holding}
use Rattle.frame_order.specs.InOrder.{OrderedEvent}
use Rattle.element.specs.Steps as one
use Rattle.element.specs.Steps.{Excludes, Clashes}
use Rattle.schedule.specs.Setting.{size}
use Rattle.schedule.specs.State.{State, delivered, AreParts}

-- The element's lane takes the token that the pick names, and the tokens that it makes for others go to their lanes.
-- It is one event of each machine that the lanes are the parts of, and hands out frames in order.
pub record Does (old : State) (e pick : ℕ) (new : State) (evs : Events) : Type 0 where
  pub lane : Holding
  pub there : slice_get old.lanes e ≡ Some lane
  pub allowed : lane.made < old.setting.steps
  -- what the lane holds afterwards, and what it made for others
  pub next : Holding
  pub sent : List Token
  pub step : one.Does old.setting.program lane pick [] next sent
  pub setting : new.setting ≡ old.setting
  pub lanes : new.lanes ≡ delivered sent (slice_set old.lanes e next)
  pub events : evs ≡ (e, step.token) ∷ []
  pub event : (m : Machine) → AreParts old m → (n : Machine) × OrderedEvent old.setting.program (size old.setting) e step.token m n × AreParts new n

-- the events that an answer stands for
abbrev pub events_of : Stepped → ℕ → Token → Events
events_of Did e t = (e, t) ∷ []
events_of answer e t = []

-- what a list is after these events, where events are listed and where they are not
abbrev pub logged : Bool → Events → Events → Events
logged true list events = list ++ events
logged false list events = list

-- the lane of the element
pub record IsLane (s : State) (e : ℕ) (h : Holding) : Type 0 where
  pub there : slice_get s.lanes e ≡ Some h

abbrev pub IsIdle : State → ℕ → Type 0
IsIdle s e = (h : Holding) × IsLane s e h × (h.queue ≡ [])

-- it has a token, and has made all its events
abbrev pub IsUsedUp : State → ℕ → Type 0
IsUsedUp s e = (h : Holding) × IsLane s e h × (0 < length h.queue) × (h.made ≡ s.setting.steps)

-- it has a token, and may make one more event
abbrev pub CanStep : State → ℕ → Holding → Type 0
CanStep s e h = IsLane s e h × (0 < length h.queue) × (h.made < s.setting.steps)

-- nothing is changed
abbrev pub Stays : State → State → Events → Type 0
Stays old new events = (new ≡ old) × (events ≡ [])

abbrev pub IsClash : State → ℕ → ℕ → ℕ → Type 0
IsClash s e pick cell = (h : Holding) × CanStep s e h × Clashes h pick cell

abbrev pub IsStuckAt : State → ℕ → ℕ → ℕ → Type 0
IsStuckAt s e pick rule = (h : Holding) × CanStep s e h × Excludes s.setting.program h pick rule

-- with the events that it made, one or none
abbrev pub Steps : State → ℕ → ℕ → Option Stepped → State → Events → Type 0
Steps old e pick None new events = IsUsedUp old e × Stays old new events
Steps old e pick (Some Idle) new events = IsIdle old e × Stays old new events
Steps old e pick (Some Did) new events = Does old e pick new events
Steps old e pick (Some (Clash cell)) new events = IsClash old e pick cell × Stays old new events
Steps old e pick (Some (Stuck rule)) new events = IsStuckAt old e pick rule × Stays old new events
Steps old e pick (Some Memory) new events = ((h : Holding) × CanStep old e h) × Stays old new events
