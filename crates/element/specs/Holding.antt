-- What lanes hold, and what contracts see of them.
use Rattle.std.specs.Prelude.{◌≡◌, ℕ, ◌+◌, ◌<◌, ◌≤◌, ◌^◌, List, [], ◌++◌, All, Bool, not, ◌==◌, remove}
use Rattle.std.specs.List.{filter}
use Rattle.tags.specs.declared.token.Cont.{Cont}
use Rattle.tags.specs.declared.token.Token.{Token}
use Rattle.tags.specs.Addresses.{element_of}
use Rattle.frame_store.specs.BankViews.{bank_states}
use Rattle.semantics.specs.Program.{Program}
use Rattle.element.specs.declared.contents.Contents.{Contents}
use Rattle.element.specs.Near.{Bounds, IsNearToken}
use Rattle.element.specs.Parts.{Shape, Part, bounds, IsSound}

pub record Holding : Type 0 where
  pub part : Part
  -- the tokens, oldest first
  pub queue : List Token
  -- how many events it has made
  pub made : ℕ
  -- empty between the events
  pub answered : List Cont

abbrev pub shape_of : {A : Type 0} → Contents A → Shape
shape_of c = record { element = c.element; elements = c.elements; start = c.bank.start; frames = c.bank.frames; width = c.bank.width }

abbrev pub part_of : {A : Type 0} → Contents A → Part
part_of c = record { shape = shape_of c; states = bank_states c.bank; cells = c.cells; manager = c.manager; outputs = c.outputs.items; done = c.done }

abbrev pub held_in : {A : Type 0} → Contents A → Holding
held_in c = record { part = part_of c; queue = c.queue.items; made = c.queue.gone; answered = c.answered.items }

abbrev pub is_here : Shape → Token → Bool
is_here z t = element_of z.elements t.to == z.element

-- the tokens that the element takes itself, and those for others
abbrev pub here : Shape → List Token → List Token
here z ts = filter (is_here z) ts

abbrev pub elsewhere : Shape → List Token → List Token
elsewhere z ts = filter (λ (t : Token). not (is_here z t)) ts

abbrev pub with_queue : Holding → List Token → Holding
with_queue h ts = record { part = h.part; queue = ts; made = h.made; answered = h.answered }

-- new tokens go last
abbrev pub queued : Holding → List Token → Holding
queued h ts = with_queue h (h.queue ++ here h.part.shape ts)

-- a token was taken out, and the others closed up
abbrev pub taken : Holding → ℕ → Holding
taken h at = record { part = h.part; queue = remove h.queue at; made = h.made + 1; answered = h.answered }

abbrev pub with_part : Holding → Part → Holding
with_part h part = record { part = part; queue = h.queue; made = h.made; answered = h.answered }

abbrev pub cleared : Holding → Holding
cleared h = record { part = h.part; queue = h.queue; made = h.made; answered = [] }

-- what holds of it at all times
pub record IsSoundLane (p : Program) (h : Holding) : Type 0 where
  pub part : IsSound p h.part
  pub near : All (IsNearToken (bounds p h.part.shape)) h.queue
  pub addressed : All (λ (t : Token). element_of h.part.shape.elements t.to ≡ h.part.shape.element) h.queue
  pub answered : h.answered ≡ []

-- WHAT CONTRACTS SEE OF A LANE: the program that it runs, how many events it may make, and what it holds
pub record LaneView : Type 0 where
  pub program : Program
  pub steps : ℕ
  pub held : Holding

abbrev pub held_of : LaneView → Holding
held_of l = l.held

-- what stays the same of a lane
pub record Fixed : Type 0 where
  pub program : Program
  pub steps : ℕ
  pub shape : Shape

abbrev pub fixed_of : LaneView → Fixed
fixed_of l = record { program = l.program; steps = l.steps; shape = l.held.part.shape }

abbrev pub bounds_at : Fixed → Bounds
bounds_at f = bounds f.program f.shape

-- the lane can receive the token: it names what there is, and is addressed to the element
pub record IsFor (f : Fixed) (t : Token) : Type 0 where
  pub near : IsNearToken (bounds_at f) t
  pub addressed : element_of f.shape.elements t.to ≡ f.shape.element

-- with more tokens, at the end
abbrev pub with_more : LaneView → List Token → LaneView
with_more l ts = record { program = l.program; steps = l.steps; held = with_queue l.held (l.held.queue ++ ts) }

-- without its tokens
abbrev pub emptied : LaneView → LaneView
emptied l = record { program = l.program; steps = l.steps; held = with_queue l.held [] }

-- it has made all its events
abbrev pub IsSpent : LaneView → Type 0
IsSpent l = l.held.made ≡ l.steps

-- what holds of a lane at all times, under code that names slots below a width
pub record IsRunnable (slots : ℕ) (l : LaneView) : Type 0 where
  pub sound : IsSoundLane l.program l.held
  pub width : slots ≤ l.held.part.shape.width
  pub made : l.held.made ≤ l.steps
  pub few : l.steps < 2 ^ 63
