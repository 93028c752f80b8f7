-- Events of the only element, which holds back the requests for frames that its queue begins with.
use Rattle.std.specs.Prelude.{◌≡◌, ℕ, zero, suc, ◌-◌, ◌<◌, ◌≤◌, false, ◌⊎◌, List, [], ◌∷◌, ◌++◌, length}
use Rattle.tags.specs.declared.token.Token.{Token}
use Rattle.semantics.specs.Program.{Program}
use Rattle.element.specs.Holding.{Holding, IsSoundLane}
use Rattle.element.specs.Steps.{Does}
use Rattle.element.specs.Requests.{is_for_manager, held_back}

-- it takes a request, any of them, where it has no other token, and else its oldest other token
abbrev pub TakesByDepth : List Token → ℕ → Type 0
TakesByDepth queue pick = ((held_back queue ≡ length queue) × (pick < length queue)) ⊎ ((pick ≡ held_back queue) × (held_back queue < length queue))

-- So many events of a lane, one after another, each with such a token. None makes a token for another element.
abbrev pub MakesByDepth : Program → ℕ → ℕ → Holding → Holding → Type 0
MakesByDepth p steps zero old new = new ≡ old
MakesByDepth p steps (suc n) old new = (mid : Holding) × MakesByDepth p steps n old mid × (mid.made < steps) × IsSoundLane p new × (new.made ≤ steps)
    × ((pick : ℕ) × TakesByDepth mid.queue pick × Does p mid pick [] new [])

-- So many events, each with the oldest token, which is no request.
abbrev pub SendsOthers : Program → ℕ → ℕ → Holding → List Token → Holding → List Token → Type 0
SendsOthers p steps zero old before new after = (new ≡ old) × (after ≡ before)
SendsOthers p steps (suc n) old before new after = (mid : Holding) × (sent : List Token) × SendsOthers p steps n old before mid sent × (mid.made < steps)
    × IsSoundLane p new × (new.made ≤ steps) × ((does : Does p mid 0 sent new after) × (is_for_manager does.token.to ≡ false))

-- REQUESTS THAT ARE PUT ASIDE. What the element holds with them: they are the oldest tokens, and no event took them out.
abbrev pub whole : List Token → Holding → Holding
whole aside h = record { part = h.part; queue = aside ++ h.queue; made = h.made - length aside; answered = h.answered }

pub record AreAside (p : Program) (aside : List Token) (h : Holding) : Type 0 where
  pub sound : IsSoundLane p (whole aside h)
  pub requests : held_back aside ≡ length aside
  pub counted : length aside ≤ h.made

-- a token that was taken out without an event is the oldest one again
abbrev pub offered : Token → Holding → Holding
offered t h = record { part = h.part; queue = t ∷ h.queue; made = h.made - 1; answered = h.answered }
