-- What a step does.
use Rattle.std.specs.Prelude.{◌≡◌, ℕ, zero, suc, ◌+◌, ◌<◌, ◌≤◌, ◌%◌, List, [], ◌++◌, length, remove, All, Some, slice_get, IsPermutation}
use Rattle.tags.specs.declared.token.Token.{Token}
use Rattle.semantics.specs.Program.{Program}
use Rattle.semantics.specs.Machine.{Machine, Size, Event}
use Rattle.element.specs.declared.lane.Stepped.{Stepped}
use Rattle.element.specs.declared.lane.Stepped.TheVariants.{Idle, Did, Clash, Stuck, Memory}
use Rattle.element.specs.Near.{IsNearToken}
use Rattle.element.specs.Parts.{Shape, IsPart, SameElsewhere, bounds}
use Rattle.element.specs.Holding.{Holding, here, elsewhere, IsSoundLane}
use Rattle.element.specs.Acts.{ServesFirst, IsStuck, IsSecond}

abbrev pub size_of : Shape → Size
size_of z = record { elements = z.elements; frames = z.frames }

abbrev pub place_of : Holding → ℕ → ℕ
place_of h pick = pick % length h.queue

-- the token that a pick names
pub record Picks (h : Holding) (pick : ℕ) (t : Token) : Type 0 where
  pub some : 0 < length h.queue
  pub token : slice_get h.queue (place_of h pick) ≡ Some t

-- the lane holds these tokens of the machine, the list for others has those, and the rest are elsewhere
abbrev pub HoldsTokens : Holding → List Token → List Token → Machine → Type 0
HoldsTokens h sent others m = IsPermutation m.pool (h.queue ++ (sent ++ others))

-- In the machine after the event, the lane is the element's part, all that lies on other elements is as it was, and the
-- tokens are those of the lane, those for others, and the rest.
pub record IsAfter (p : Program) (old : Holding) (t : Token) (new : Holding) (after others made : List Token) (m : Machine) : Type 0 where
  pub next : Machine
  pub event : Event p (size_of old.part.shape) old.part.shape.element t m next
  pub makes : event.made ≡ made
  pub part : IsPart new.part next.store
  pub same : SameElsewhere old.part.shape m.store next.store
  pub tokens : HoldsTokens new after others next

-- One event of the machine that takes the token, in any machine of which the lane is the part for its element.
pub record Does (p : Program) (old : Holding) (pick : ℕ) (before : List Token) (new : Holding) (after : List Token) : Type 0 where
  pub token : Token
  pub picks : Picks old pick token
  -- the tokens that the event makes, in order
  pub made : List Token
  pub queue : new.queue ≡ remove old.queue (place_of old pick) ++ here old.part.shape made
  pub sent : after ≡ before ++ elsewhere old.part.shape made
  pub near : All (IsNearToken (bounds p old.part.shape)) made
  pub first : ServesFirst old.part token.to token.word made new.part
  pub count : new.made ≡ old.made + 1
  pub shape : new.part.shape ≡ old.part.shape
  pub event : (m : Machine) (others : List Token) → IsPart old.part m.store → HoldsTokens old before others m → IsAfter p old token new after others made m

-- nothing is changed
pub record Stays (old : Holding) (before : List Token) (new : Holding) (after : List Token) : Type 0 where
  pub held : new ≡ old
  pub sent : after ≡ before

pub record Excludes (p : Program) (h : Holding) (pick rule : ℕ) : Type 0 where
  pub token : Token
  pub picks : Picks h pick token
  pub excluded : IsStuck p h.part token rule

pub record Clashes (h : Holding) (pick cell : ℕ) : Type 0 where
  pub token : Token
  pub picks : Picks h pick token
  pub second : IsSecond h.part token cell

abbrev pub Steps : Program → Holding → ℕ → List Token → Stepped → Holding → List Token → Type 0
Steps p old pick before Idle new after = (old.queue ≡ []) × Stays old before new after
Steps p old pick before Did new after = Does p old pick before new after
Steps p old pick before (Clash cell) new after = Clashes old pick cell × Stays old before new after
Steps p old pick before (Stuck rule) new after = Excludes p old pick rule × Stays old before new after
Steps p old pick before Memory new after = (0 < length old.queue) × Stays old before new after

-- So many events of a lane, one after another, each with its oldest token. None makes a token for another element.
abbrev pub MakesEvents : Program → ℕ → ℕ → Holding → Holding → Type 0
MakesEvents p steps zero old new = new ≡ old
MakesEvents p steps (suc n) old new = (mid : Holding) × MakesEvents p steps n old mid × (mid.made < steps) × IsSoundLane p new × (new.made ≤ steps)
    × Does p mid 0 [] new []

-- So many events of a lane, one after another, each with its oldest token. What they make for other elements goes last among the tokens
-- for these.
abbrev pub SendsEvents : Program → ℕ → ℕ → Holding → List Token → Holding → List Token → Type 0
SendsEvents p steps zero old before new after = (new ≡ old) × (after ≡ before)
SendsEvents p steps (suc n) old before new after = (mid : Holding) × (sent : List Token) × SendsEvents p steps n old before mid sent × (mid.made < steps)
    × IsSoundLane p new × (new.made ≤ steps) × Does p mid 0 sent new after
