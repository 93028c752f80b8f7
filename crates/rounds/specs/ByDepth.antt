-- The turn of element 0 where it holds back the requests for frames that its queue begins with.
use Rattle.std.specs.Prelude.{◌≡◌, ℕ, suc, ◌+◌, ◌-◌, ◌*◌, ◌<◌, ◌≤◌, ◌⊎◌, Bool, true, List, [], ◌∷◌, ◌++◌, length, Option, Some, None, ⊤}
use Rattle.tags.specs.declared.token.Token.{Token}
use Rattle.semantics.specs.Program.{Program}
use Rattle.semantics.specs.Machine.{Events}
use Rattle.element.specs.Holding.{Holding, fixed_of, IsSoundLane}
use Rattle.element.specs.Requests.{held_back}
use Rattle.element.specs.Steps.{Does, Clashes, Excludes}
use Rattle.schedule.specs.declared.halt.Halt.{Halt}
use Rattle.schedule.specs.declared.take.Take.{Take}
use Rattle.schedule.specs.declared.take.Take.TheVariants.{Oldest, Depth}
use Rattle.schedule.specs.Reported.{out_in}
use Rattle.schedule.specs.Setting.{Setting}
use Rattle.schedule.specs.Steps.{logged}
use Rattle.schedule.specs.Turns.{others}
use Rattle.rounds.specs.declared.turn.Turner.{Turner}
use Rattle.rounds.specs.Turns.{by, IsWhole, Turned, turned_of, TookTurn, Round, made_in}

-- So many tokens are few besides the requests that the element holds back: none, or on several elements less than one for each 16 free frames.
abbrev pub AreFew : ℕ → Holding → Type 0
AreFew ordinary h =
    (ordinary ≡ 0) ⊎ ((1 < h.part.shape.elements) × (16 * ordinary < h.part.shape.elements * h.part.shape.frames - out_in h.part.manager))

-- it holds no request back, or there are more other tokens
abbrev pub GrantsNone : ℕ → Holding → Type 0
GrantsNone ordinary h = (held_back h.queue ≡ 0) ⊎ (AreFew ordinary h → ⊥)

-- Events of a lane, one after another, that took these tokens. Each took one that `may` allows, by how many events were before it.
abbrev pub Takes : (ℕ → Holding → ℕ → Type 0) → Program → ℕ → ℕ → Holding → List Token → List Token → Holding → List Token → Type 0
Takes may p steps k old before [] new after = (new ≡ old) × (after ≡ before)
Takes may p steps k old before (t ∷ ts) new after =
    (pick : ℕ) × may k old pick × (mid : Holding) × (sent : List Token) × (does : Does p old pick before mid sent) × (does.token ≡ t) × (old.made < steps)
    × IsSoundLane p mid × Takes may p steps (suc k) mid sent ts new after

-- it may take a request that it holds back, any of them, where few other tokens are left: this is one more of these
abbrev pub MayGrant : ℕ → ℕ → Holding → ℕ → Type 0
MayGrant ordinary k h pick = (pick < held_back h.queue) × AreFew (ordinary + k) h

-- it may take its oldest other token
abbrev pub MayTake : ℕ → Holding → ℕ → Type 0
MayTake k h pick = (pick ≡ held_back h.queue) × (held_back h.queue < length h.queue)

-- Why a lane makes no more events; `may` says which token it was to take.
abbrev pub HaltsTaking : (Holding → ℕ → Type 0) → Program → ℕ → Bool → Holding → Option Halt → Type 0
HaltsTaking may p steps may_stop h None = ⊤
HaltsTaking may p steps may_stop h (Some Halt.NoToken) = ⊥
HaltsTaking may p steps may_stop h (Some (Halt.Clash cell)) =
    (0 < length h.queue) × (h.made < steps) × ((pick : ℕ) × may h pick × Clashes h pick cell)
HaltsTaking may p steps may_stop h (Some Halt.Steps) = (0 < length h.queue) × (h.made ≡ steps)
HaltsTaking may p steps may_stop h (Some (Halt.Stuck rule)) =
    (0 < length h.queue) × (h.made < steps) × ((pick : ℕ) × may h pick × Excludes p h pick rule)
HaltsTaking may p steps may_stop h (Some Halt.Memory) = ⊤
HaltsTaking may p steps may_stop h (Some Halt.Stop) = may_stop ≡ true

-- The turn ends with the requests that were granted: all its events are made, or the lane halts at one more request.
abbrev pub EndsGranting : (Holding → ℕ → Type 0) → Program → ℕ → ℕ → Bool → Holding → Holding → Option Halt → Type 0
EndsGranting may p steps turn may_stop old new None = new.made ≡ old.made + turn
EndsGranting may p steps turn may_stop old new (Some halt) = HaltsTaking may p steps may_stop new (Some halt)

-- At first it grants requests, as long as it may, and then it takes other tokens. `ordinary`: how many of these the machine had before its turn.
pub record TurnsByDepth (p : Program) (steps turn ordinary : ℕ) (may_stop : Bool) (old : Holding) (before taken : List Token) (new : Holding)
    (after : List Token) (halt : Option Halt) : Type 0 where
  pub granted : List Token
  pub later : List Token
  pub all : taken ≡ granted ++ later
  pub mid : Holding
  pub sent : List Token
  pub grants : Takes (MayGrant ordinary) p steps 0 old before granted mid sent
  pub takes : Takes MayTake p steps 0 mid sent later new after
  pub ended : (GrantsNone (ordinary + length granted) mid × HaltsTaking (MayTake 0) p steps may_stop new halt)
      ⊎ ((later ≡ []) × EndsGranting (MayGrant ordinary (length granted)) p steps turn may_stop old new halt)

-- How much of its turn it made: one that does not halt made all of it, or has no token but requests that it holds back.
abbrev pub IsWholeByDepth : ℕ → Holding → Holding → Option Halt → Type 0
IsWholeByDepth turn old new None = (new.made ≡ old.made + turn) ⊎ (held_back new.queue ≡ length new.queue)
IsWholeByDepth turn old new (Some halt) = IsWhole turn old new (Some halt)

-- it took its turn by depth
pub record TakesTurnByDepth (p : Program) (steps turn ordinary : ℕ) (keeps_events may_stop : Bool) (old new : Turned) : Type 0 where
  pub taken : List Token
  pub turns : TurnsByDepth p steps turn ordinary may_stop old.held old.sent taken new.held new.sent new.halt
  pub noted : new.log ≡ logged keeps_events old.log (by old.held.part.shape.element taken)
  pub few : length taken ≤ turn
  pub whole : IsWholeByDepth turn old.held new.held new.halt

pub record TookTurnByDepth {C A L : Type 0} (turn ordinary : ℕ) (keeps_events may_stop : Bool) (old new : Turner C A L) : Type 0 where
  pub takes : TakesTurnByDepth old.lane.program old.lane.steps turn ordinary keeps_events may_stop (turned_of old) (turned_of new)
  pub fixed : fixed_of new.lane ≡ fixed_of old.lane

-- the turn of an element, by the order in which it takes its tokens
abbrev pub TookTaking : {C A L : Type 0} → Take → ℕ → ℕ → Bool → Bool → Turner C A L → Turner C A L → Type 0
TookTaking Oldest turn ordinary keeps_events may_stop old new = TookTurn turn keeps_events may_stop old new
TookTaking Depth turn ordinary keeps_events may_stop old new =
    (old.lane.held.part.shape.element ≡ 0 → TookTurnByDepth turn ordinary keeps_events may_stop old new)
    × ((old.lane.held.part.shape.element ≡ 0 → ⊥) → TookTurn turn keeps_events may_stop old new)

-- LANES BEFORE, AND AFTER THEIR TURNS, by the order in which they take their tokens
abbrev pub RoundTaking : Take → Setting → Bool → Bool → List Holding → List Turned → Type 0
RoundTaking Oldest g keeps_events may_stop hs ts = Round g keeps_events may_stop hs ts
RoundTaking Depth g keeps_events may_stop [] [] = ⊤
RoundTaking Depth g keeps_events may_stop (h ∷ hs) (t ∷ ts) = TakesTurnByDepth g.program g.steps g.turn (others (h ∷ hs)) keeps_events may_stop
    (record { held = h; sent = []; log = []; halt = None }) t × Round g keeps_events may_stop hs ts
RoundTaking Depth g keeps_events may_stop hs ts = ⊥

-- the events of such a round, those of one element after those of another
abbrev pub made_taking : (take : Take) (g : Setting) (keeps_events may_stop : Bool) (hs : List Holding) (ts : List Turned)
    → RoundTaking take g keeps_events may_stop hs ts → Events
made_taking Oldest g keeps_events may_stop hs ts round = made_in g keeps_events may_stop hs ts round
made_taking Depth g keeps_events may_stop [] [] round = []
made_taking Depth g keeps_events may_stop [] (t ∷ ts) round = []
made_taking Depth g keeps_events may_stop (h ∷ hs) [] round = []
made_taking Depth g keeps_events may_stop (h ∷ hs) (t ∷ ts) (turn, rest) =
    by h.part.shape.element turn.taken ++ made_in g keeps_events may_stop hs ts rest
