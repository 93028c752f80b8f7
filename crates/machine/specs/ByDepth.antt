-- What free runs say of an element, by the order in which the elements take their tokens.
use Rattle.std.specs.Prelude.{◌≡◌, ℕ, zero, suc, ◌+◌, ◌≤◌, ◌⊎◌, List, [], ◌∷◌, length, Bool, false, Option, min, if◌then◌else◌}
use Rattle.tags.specs.declared.token.Token.{Token}
use Rattle.semantics.specs.Program.{Program}
use Rattle.element.specs.Holding.{Holding}
use Rattle.element.specs.Requests.{is_for_manager, held_back}
use Rattle.schedule.specs.declared.halt.Halt.{Halt}
use Rattle.schedule.specs.declared.take.Take.{Take}
use Rattle.schedule.specs.declared.take.Take.TheVariants.{Oldest, Depth}
use Rattle.schedule.specs.Setting.{Setting}
use Rattle.rounds.specs.Turns.{HaltsLane}
use Rattle.rounds.specs.ByDepth.{TurnsByDepth, HaltsTaking}
use Rattle.machine.specs.Blocks.{turn_of}

-- THE TURN OF ELEMENT 0, where it holds back the requests for frames that its queue begins with.

-- how many of the tokens are no requests
abbrev pub besides : List Token → ℕ
besides [] = 0
besides (t ∷ ts) = if is_for_manager t.to then besides ts else suc (besides ts)

-- It took these tokens in its turn, and so many of them were in its queue before: all requests that it granted, and of the others as many as it took, or as
-- it had. There were `ordinary` others before its turn, in the whole machine.
pub record TakesSpending (p : Program) (steps turn ordinary : ℕ) (old : Holding) (before taken : List Token) (new : Holding) (after : List Token)
    (halt : Option Halt) (spent : ℕ) : Type 0 where
  pub turns : TurnsByDepth p steps turn ordinary false old before taken new after halt
  pub spends : spent ≡ length turns.granted + min (length turns.later) (besides old.queue)

-- WHY AN ELEMENT WAITS OR LEAVES

-- it has no token; or it is element 0, and has none but requests that it holds back
abbrev pub HasNone : Take → Holding → Type 0
HasNone Oldest h = h.queue ≡ []
HasNone Depth h = (h.queue ≡ []) ⊎ ((h.part.shape.element ≡ 0) × (held_back h.queue ≡ length h.queue))

-- it had no token left that it might take, or has made as many events as its turns have
abbrev pub HasNoReason : Take → Setting → Holding → Type 0
HasNoReason order g h = HasNone order h ⊎ (turn_of g h.part.shape.element ≤ h.made)

-- the token at which an element halts: its oldest one; or of element 0 a request that it holds back, or its oldest other token
abbrev pub IsNext : Holding → ℕ → Type 0
IsNext h pick = (pick ≡ 0) ⊎ ((h.part.shape.element ≡ 0) × (pick ≤ held_back h.queue))

abbrev pub HaltsFreely : Take → Setting → Bool → Holding → Option Halt → Type 0
HaltsFreely Oldest g may_stop h halt = HaltsLane g.program g.steps may_stop h halt
HaltsFreely Depth g may_stop h halt = HaltsTaking IsNext g.program g.steps may_stop h halt
