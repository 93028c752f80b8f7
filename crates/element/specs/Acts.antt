-- What an element does with one token.
use Rattle.std.specs.Prelude.{◌≡◌, ℕ, ◌*◌, ◌<◌, ◌≤◌, ◌^◌, List, length, All, Option, Some, None, Ok, ◌++◌, ⊤}
use Rattle.tags.specs.declared.value.Value.{Value}
use Rattle.tags.specs.declared.token.Cont.{Cont}
use Rattle.tags.specs.declared.token.Word.{Word}
use Rattle.tags.specs.declared.token.To.{To}
use Rattle.tags.specs.declared.token.Token.{Token}
use Rattle.tags.specs.Addresses.{element_of}
use Rattle.semantics.specs.Program.{Program}
use Rattle.semantics.specs.Machine.{Store, Full, Happens, stuck_rule}
use Rattle.element.specs.declared.lane.Stepped.{Stepped}
use Rattle.element.specs.declared.lane.Stepped.TheVariants.{Idle, Did, Clash, Stuck, Memory}
use Rattle.element.specs.Near.{IsNearToken}
use Rattle.element.specs.Parts.{Part, IsPart, SameElsewhere, IsSound, bounds}
use Rattle.frame_manager.specs.Answered.{request_tokens, release_tokens}
use Rattle.element.specs.Changed.{IsRequested, IsReleased}
use Rattle.element.specs.Holding.{Holding, IsSoundLane, taken, queued, with_part, elsewhere}

-- The element can let the token at a place of its queue act, under code that names slots below a width.
pub record CanAct (p : Program) (slots : ℕ) (h : Holding) (at : ℕ) (t : Token) : Type 0 where
  pub sound : IsSoundLane p h
  pub width : slots ≤ h.part.shape.width
  pub there : at < length h.queue
  pub few : h.made < 2 ^ 63
  pub near : IsNearToken (bounds p h.part.shape) t
  pub addressed : element_of h.part.shape.elements t.to ≡ h.part.shape.element

-- The manager hands out the free frame of least number, and serves first the request that has waited longest.
abbrev pub ServesFirst : Part → To → Word → List Token → Part → Type 0
ServesFirst old To.Manager (Word.Back c) made new = (given : Option ℕ) × (made ≡ request_tokens c given) × IsRequested old.manager c (Ok given) new.manager
ServesFirst old (To.Release f) w made new = (given : Option (Cont × ℕ)) × (made ≡ release_tokens given) × IsReleased old.manager f (Ok given) new.manager
ServesFirst old to w made new = ⊤

-- An event of any machine of which the part is the element's: the token's rule happens there, the new part is the
-- element's, and what lies on other elements stays.
pub record Changes (p : Program) (old : Part) (t : Token) (made : List Token) (new : Part) : Type 0 where
  pub shape : new.shape ≡ old.shape
  pub sound : IsSound p new
  pub near : All (IsNearToken (bounds p old.shape)) made
  pub first : ServesFirst old t.to t.word made new
  pub event : (s : Store) → IsPart old s → (n : Store) × Happens p (old.shape.elements * old.shape.frames) s t.to t.word made n × IsPart new n
      × SameElsewhere old.shape s n

-- The token is taken out of the queue. What it makes goes last: into the queue, or to the others.
pub record Acts (p : Program) (old : Holding) (at : ℕ) (t : Token) (before : List Token) (new : Holding) (after : List Token) : Type 0 where
  pub made : List Token
  pub part : Part
  pub changes : Changes p old.part t made part
  pub held : new ≡ queued (taken (with_part old part) at) made
  pub sent : after ≡ before ++ elsewhere old.part.shape made

-- in each machine of which the part is the element's, a rule of this number excludes the token
abbrev pub IsStuck : Program → Part → Token → ℕ → Type 0
IsStuck p h t rule = (s : Store) → IsPart h s → stuck_rule p s t.to t.word ≡ Some rule

-- the token stores in a cell that is full
pub record IsSecond (h : Part) (t : Token) (cell : ℕ) : Type 0 where
  pub value : Value
  pub to : t.to ≡ To.Store cell value
  pub full : (s : Store) → IsPart h s → (w : Value) × (s.cells cell ≡ Full w)

abbrev pub Still : Holding → List Token → Holding → List Token → Type 0
Still old before new after = (new ≡ old) × (after ≡ before)

abbrev pub ActsAs : Program → Holding → ℕ → Token → List Token → Stepped → Holding → List Token → Type 0
ActsAs p old at t before Idle new after = ⊥
ActsAs p old at t before Did new after = Acts p old at t before new after
ActsAs p old at t before (Clash cell) new after = IsSecond old.part t cell × Still old before new after
ActsAs p old at t before (Stuck rule) new after = IsStuck p old.part t rule × Still old before new after
ActsAs p old at t before Memory new after = Still old before new after

-- The result of a token where these tokens are made, if any, and the part is this then.
abbrev pub FiresAs : Option (List Token) → Part → Holding → ℕ → List Token → Stepped → Holding → List Token → Type 0
FiresAs fired part old at before Did new after = (made : List Token) × (fired ≡ Some made) × (new ≡ queued (taken (with_part old part) at) made)
    × (after ≡ before ++ elsewhere old.part.shape made)
FiresAs fired part old at before (Stuck rule) new after = (fired ≡ None) × (rule ≡ 4) × Still old before new after
FiresAs fired part old at before Memory new after = Still old before new after
FiresAs fired part old at before Idle new after = ⊥
FiresAs fired part old at before (Clash cell) new after = ⊥
