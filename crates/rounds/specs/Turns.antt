-- What a lane does in its turn, and what lanes do in a round.
use Rattle.std.specs.Prelude.{◌≡◌, ℕ, ◌+◌, ◌<◌, ◌≤◌, ◌⊎◌, Bool, true, List, [], ◌∷◌, ◌++◌, map, length, Option, Some, None, ⊤}
use Rattle.std.specs.List.{flat_map}
use Rattle.tags.specs.declared.token.Token.{Token}
use Rattle.semantics.specs.Program.{Program}
use Rattle.semantics.specs.Machine.{Events}
use Rattle.element.specs.Holding.{Holding, held_of, fixed_of, IsSoundLane}
use Rattle.element.specs.Steps.{Does, Clashes, Excludes}
use Rattle.schedule.specs.declared.halt.Halt.{Halt}
use Rattle.schedule.specs.Setting.{Setting}
use Rattle.schedule.specs.State.{State, delivered}
use Rattle.schedule.specs.Steps.{logged}
use Rattle.rounds.specs.declared.turn.Turner.{Turner}

-- the events of an element that took these tokens
abbrev pub by : ℕ → List Token → Events
by e ts = map (λ (t : Token). (e, t)) ts

-- The lane took these tokens, its oldest first, an event each. Those that it made for others are after `before`.
abbrev pub Turns : Program → ℕ → Holding → List Token → List Token → Holding → List Token → Type 0
Turns p steps old before [] new after = (new ≡ old) × (after ≡ before)
Turns p steps old before (t ∷ ts) new after =
    (mid : Holding) × (sent : List Token) × (does : Does p old 0 before mid sent) × (does.token ≡ t) × (old.made < steps) × IsSoundLane p mid
    × Turns p steps mid sent ts new after

-- why a lane makes no more events; `may_stop`: the gate may answer false
abbrev pub HaltsLane : Program → ℕ → Bool → Holding → Option Halt → Type 0
HaltsLane p steps may_stop h None = ⊤
HaltsLane p steps may_stop h (Some Halt.NoToken) = ⊥
HaltsLane p steps may_stop h (Some (Halt.Clash cell)) = (0 < length h.queue) × (h.made < steps) × Clashes h 0 cell
HaltsLane p steps may_stop h (Some Halt.Steps) = (0 < length h.queue) × (h.made ≡ steps)
HaltsLane p steps may_stop h (Some (Halt.Stuck rule)) = (0 < length h.queue) × (h.made < steps) × Excludes p h 0 rule
HaltsLane p steps may_stop h (Some Halt.Memory) = ⊤
HaltsLane p steps may_stop h (Some Halt.Stop) = may_stop ≡ true

-- How much of its turn a lane made. One that does not halt made all of it, or has no token left. One that halts does so in place of an
-- event, and one that a gate stops had a token and made none.
abbrev pub IsWhole : ℕ → Holding → Holding → Option Halt → Type 0
IsWhole turn old new None = (new.made ≡ old.made + turn) ⊎ (new.queue ≡ [])
IsWhole turn old new (Some Halt.NoToken) = ⊥
IsWhole turn old new (Some (Halt.Clash cell)) = new.made < old.made + turn
IsWhole turn old new (Some Halt.Steps) = new.made < old.made + turn
IsWhole turn old new (Some (Halt.Stuck rule)) = new.made < old.made + turn
IsWhole turn old new (Some Halt.Memory) = new.made < old.made + turn
IsWhole turn old new (Some Halt.Stop) = (new ≡ old) × (0 < length old.queue)

-- A lane with what it made for others, the events that it noted, and why it halts
pub record Turned : Type 0 where
  pub held : Holding
  pub sent : List Token
  pub log : Events
  pub halt : Option Halt

abbrev pub turned_of : {C A L : Type 0} → Turner C A L → Turned
turned_of t = record { held = held_of t.lane; sent = t.sent.items; log = t.log.events.items; halt = t.halt }

-- it took its turn
pub record TakesTurn (p : Program) (steps turn : ℕ) (keeps_events may_stop : Bool) (old new : Turned) : Type 0 where
  pub taken : List Token
  pub turns : Turns p steps old.held old.sent taken new.held new.sent
  pub noted : new.log ≡ logged keeps_events old.log (by old.held.part.shape.element taken)
  pub few : length taken ≤ turn
  pub whole : IsWhole turn old.held new.held new.halt
  pub halts : HaltsLane p steps may_stop new.held new.halt

-- The lane of a turner took its turn, and runs the same code.
pub record TookTurn {C A L : Type 0} (turn : ℕ) (keeps_events may_stop : Bool) (old new : Turner C A L) : Type 0 where
  pub takes : TakesTurn old.lane.program old.lane.steps turn keeps_events may_stop (turned_of old) (turned_of new)
  pub fixed : fixed_of new.lane ≡ fixed_of old.lane

-- lanes before, and after their turns
abbrev pub Round : Setting → Bool → Bool → List Holding → List Turned → Type 0
Round g keeps_events may_stop [] [] = ⊤
Round g keeps_events may_stop (h ∷ hs) (t ∷ ts) = TakesTurn g.program g.steps g.turn keeps_events may_stop
    (record { held = h; sent = []; log = []; halt = None }) t × Round g keeps_events may_stop hs ts
Round g keeps_events may_stop hs ts = ⊥

-- the events of a round, those of one element after those of another
abbrev pub made_in : (g : Setting) (keeps_events may_stop : Bool) (hs : List Holding) (ts : List Turned) → Round g keeps_events may_stop hs ts → Events
made_in g keeps_events may_stop [] [] round = []
made_in g keeps_events may_stop [] (t ∷ ts) round = []
made_in g keeps_events may_stop (h ∷ hs) [] round = []
made_in g keeps_events may_stop (h ∷ hs) (t ∷ ts) (turn, rest) = by h.part.shape.element turn.taken ++ made_in g keeps_events may_stop hs ts rest

abbrev pub helds : List Turned → List Holding
helds ts = map (λ (t : Turned). t.held) ts

abbrev pub all_sent : List Turned → List Token
all_sent ts = flat_map (λ (t : Turned). t.sent) ts

abbrev pub all_noted : List Turned → Events
all_noted ts = flat_map (λ (t : Turned). t.log) ts

-- lanes with tokens that are on their way, each seen where it is addressed to
abbrev pub arriving : Setting → List Holding → List Token → State
arriving g raw ts = record { setting = g; lanes = delivered ts raw }
