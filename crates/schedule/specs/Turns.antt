-- Runs in turn, by the order in which the elements take their tokens.
use Rattle.std.specs.Prelude.{◌≡◌, ℕ, zero, suc, ◌+◌, ◌-◌, ◌*◌, ◌%◌, ◌<◌, false, ◌⊎◌, List, [], ◌∷◌, ◌++◌, length, Option, Some, None, ⊤}
use Rattle.tags.specs.declared.token.Token.{Token}
use Rattle.semantics.specs.Machine.{Events}
use Rattle.element.specs.declared.lane.Stepped.{Stepped}
use Rattle.element.specs.declared.lane.Stepped.TheVariants as stepped
use Rattle.element.specs.Holding.{Holding}
use Rattle.element.specs.Requests.{held_back}
use Rattle.schedule.specs.declared.halt.Halt.{Halt}
use Rattle.schedule.specs.declared.take.Take.{Take}
use Rattle.schedule.specs.declared.take.Take.TheVariants.{Oldest, Depth}
use Rattle.schedule.specs.Setting.{Setting, total}
use Rattle.schedule.specs.State.{State, tokens_in}
use Rattle.schedule.specs.Reported.{out_in}
use Rattle.schedule.specs.Runs.{Advances, Then, Plays, rounds_of}

-- THE ORDER THAT NEEDS FEW FRAMES. Each element but element 0 takes its oldest token. Element 0 holds back the requests for frames that its
-- queue begins with. Where few other tokens are left in the machine it takes one of them, any; else it takes its oldest other token, and where
-- it has no other it is passed over.

-- the queue of element 0
abbrev pub first_queue : List Holding → List Token
first_queue [] = []
first_queue (h ∷ hs) = h.queue

-- how many tokens there are besides those that it holds back
abbrev pub others : List Holding → ℕ
others [] = 0
others (h ∷ hs) = (length h.queue - held_back h.queue) + length (tokens_in hs)

abbrev pub free_frames : Setting → List Holding → ℕ
free_frames g [] = 0
free_frames g (h ∷ hs) = total g - out_in h.part.manager

-- Few are left: none, or on several elements less than one for each 16 free frames.
abbrev pub AreFew : Setting → List Holding → Type 0
AreFew g lanes = (others lanes ≡ 0) ⊎ ((1 < g.elements) × (16 * others lanes < free_frames g lanes))

-- element 0 may take this token: a request where few others are left, else its oldest other token
abbrev pub MayTakeFirst : Setting → List Holding → List Token → ℕ → Type 0
MayTakeFirst g lanes queue pick =
    (AreFew g lanes × (pick < held_back queue))
    ⊎ ((0 < held_back queue → AreFew g lanes → ⊥) × (pick ≡ held_back queue) × (held_back queue < length queue))

abbrev pub MayTake : State → ℕ → ℕ → Type 0
MayTake s zero pick = MayTakeFirst s.setting s.lanes (first_queue s.lanes) pick
MayTake s (suc e) pick = pick ≡ 0

-- element 0 has tokens, holds them all back, and others are left
abbrev pub MayPass : State → ℕ → Type 0
MayPass s zero = (0 < length (first_queue s.lanes)) × (held_back (first_queue s.lanes) ≡ length (first_queue s.lanes)) × (AreFew s.setting s.lanes → ⊥)
MayPass s (suc e) = ⊥

-- a step that takes a token, or finds one that cannot be taken, keeps the order; the others take none
abbrev pub Keeps : State → ℕ → ℕ → Option Stepped → Type 0
Keeps s e pick (Some stepped.Did) = MayTake s e pick
Keeps s e pick (Some (stepped.Clash cell)) = MayTake s e pick
Keeps s e pick (Some (stepped.Stuck rule)) = MayTake s e pick
Keeps s e pick (Some stepped.Idle) = ⊤
Keeps s e pick (Some stepped.Memory) = ⊤
Keeps s e pick None = ⊤

-- it takes no token
abbrev pub TakesNone : Option Stepped → Type 0
TakesNone (Some stepped.Did) = ⊥
TakesNone (Some (stepped.Clash cell)) = ⊥
TakesNone (Some (stepped.Stuck rule)) = ⊥
TakesNone (Some stepped.Idle) = ⊤
TakesNone (Some stepped.Memory) = ⊤
TakesNone None = ⊤

-- the turn of an element: one step, or it is passed over
abbrev pub TakesTurn : State → ℕ → Option ℕ → State → Events → Option Halt → Type 0
TakesTurn old e None new evs halt = MayPass old e × (new ≡ old) × (evs ≡ []) × (halt ≡ None)
TakesTurn old e (Some pick) new evs halt = (step : Advances false old e pick new evs halt) × Keeps old e pick step.answer

-- One turn after another, each of an element, up to the halt, with the events that they make.
abbrev pub PlaysTurns : List (ℕ × Option ℕ) → State → State → Halt → Events → Type 0
PlaysTurns [] s last halt evs = ⊥
PlaysTurns (t ∷ ts) s last halt evs =
    (next : State) × (now : Events) × (later : Events) × (why : Option Halt) × TakesTurn s t.0 t.1 next now why × (evs ≡ now ++ later)
    × Then why next last halt later (PlaysTurns ts next last halt later)

-- the turns are those of n elements in order, again and again, from the k-th on
abbrev pub AreInTurn : ℕ → ℕ → List (ℕ × Option ℕ) → Type 0
AreInTurn n k [] = ⊤
AreInTurn n k (t ∷ ts) = (t.0 ≡ k) × AreInTurn n (suc k % n) ts

-- What comes of the second state, from the turn of element k on, comes of the first one after these events.
abbrev pub Leads : ℕ → State → Events → ℕ → State → Type 0
Leads n old made k new =
    (turns : List (ℕ × Option ℕ)) (last : State) (halt : Halt) (later : Events) → AreInTurn n (k % n) turns → PlaysTurns turns new last halt later
    → (all : List (ℕ × Option ℕ)) × AreInTurn n 0 all × PlaysTurns all old last halt (made ++ later)

-- In turn, by the order in which the elements take their tokens.
abbrev pub PlaysTaking : Take → State → State → Halt → Events → Type 0
PlaysTaking Oldest s last halt evs = (rounds : ℕ) × Plays false (rounds_of rounds s.setting.elements) s last halt evs
PlaysTaking Depth s last halt evs = (turns : List (ℕ × Option ℕ)) × AreInTurn s.setting.elements 0 turns × PlaysTurns turns s last halt evs
