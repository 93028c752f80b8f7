-- Blocks of events of an element, a commit each, and what they do to its part.
use Rattle.std.specs.Prelude.{◌≡◌, ℕ, ◌+◌, ◌*◌, ◌<◌, List, [], ◌∷◌, ◌++◌, map, length, All, IsPermutation, ⊤, ◌==◌, if◌then◌else◌, sum}
use Rattle.tags.specs.declared.token.Token.{Token}
use Rattle.tags.specs.Addresses.{element_of}
use Rattle.semantics.specs.Program.{Program}
use Rattle.semantics.specs.Machine.{Store, Machine, Events, Happens}
use Rattle.semantics.specs.Pool as pool
use Rattle.semantics.specs.Pool.{LeavesPool}
use Rattle.mesh.specs.declared.view.Commit as mesh
use Rattle.element.specs.Near.{Bounds, IsNearToken}
use Rattle.element.specs.Parts.{Part, IsPart, SameElsewhere}
use Rattle.frame_order.specs.InOrder.{IsInOrder}
use Rattle.schedule.specs.Setting.{Setting, total}

-- one event: the token that it took, and those that it made
pub record Act : Type 0 where
  pub token : Token
  pub made : List Token

-- A commit of an element, with the events that it stands for: the tokens of the pool that they took, and those that they
-- left there.
pub record Block : Type 0 where
  pub element : ℕ
  pub spent : List Token
  pub made : List Token
  pub acts : List Act

abbrev pub by_element : ℕ → List Act → Events
by_element e [] = []
by_element e (a ∷ later) = (e, a.token) ∷ by_element e later

-- the events of a history, block by block
abbrev pub events_in : List Block → Events
events_in [] = []
events_in (b ∷ later) = by_element b.element b.acts ++ events_in later

abbrev pub if_by : ℕ → Block → List Block
if_by e b = if b.element == e then b ∷ [] else []

-- the blocks of one element in a history
abbrev pub blocks_by : ℕ → List Block → List Block
blocks_by e [] = []
blocks_by e (b ∷ later) = if_by e b ++ blocks_by e later

abbrev pub entry_of : Block → pool.Commit
entry_of b = record { element = b.element; spent = b.spent; made = b.made }

-- a block as the history of a mesh has it
abbrev pub commit_of : Block → mesh.Commit
commit_of b = record { element = b.element; spent = b.spent; made = b.made }

-- the history of blocks is legal from these tokens on, and leaves those
abbrev pub LeavesTokens : ℕ → List Token → List Block → List Token → Type 0
LeavesTokens n tokens log last = LeavesPool n tokens (map entry_of log) last

-- each block is of one of n elements
abbrev pub AreBelow : ℕ → List Block → Type 0
AreBelow n [] = ⊤
AreBelow n (b ∷ later) = (b.element < n) × AreBelow n later

-- what tokens, slots and requests of a machine name
abbrev pub bounds_of : Setting → Bounds
bounds_of g = record { frames = total g; cells = sum g.program.arrays }

-- the part of element e
pub record IsOwn (g : Setting) (e : ℕ) (h : Part) : Type 0 where
  pub element : h.shape.element ≡ e
  pub elements : h.shape.elements ≡ g.elements
  pub frames : h.shape.frames ≡ g.frames
  pub own_element : h.cells.element ≡ h.shape.element
  pub own_elements : h.cells.elements ≡ h.shape.elements

-- The law of one event, whatever else lies in the machine: the token's rule happens in each store of which the part is the
-- element's, the new part is the element's then, what lies on other elements stays, and frames are handed out in order.
abbrev pub Acts : Program → Part → Token → List Token → Part → Type 0
Acts p old t made new = (s : Store) → IsPart old s
    → (n : Store) × Happens p (old.shape.elements * old.shape.frames) s t.to t.word made n × IsPart new n × SameElsewhere old.shape s n
    × IsInOrder s t.to made n

-- The events lead from one part of element e to another.
abbrev pub Chain : Setting → ℕ → Part → List Act → Part → Type 0
Chain g e old [] new = new ≡ old
Chain g e old (a ∷ later) new =
    (mid : Part) × IsOwn g e mid × (element_of g.elements a.token.to ≡ e) × All (IsNearToken (bounds_of g)) a.made × Acts g.program old a.token a.made mid
    × Chain g e mid later new

-- The events take one token after another out of the first tokens and those that they make, and leave the last ones.
abbrev pub Flows : List Token → List Act → List Token → Type 0
Flows first [] last = IsPermutation first last
Flows first (a ∷ later) last = (rest : List Token) × IsPermutation first (a.token ∷ rest) × Flows (a.made ++ rest) later last

-- The blocks of element e lead from one part to another; each takes and leaves the tokens of its commit.
abbrev pub Blocks : Setting → ℕ → Part → List Block → Part → Type 0
Blocks g e old [] new = new ≡ old
Blocks g e old (b ∷ later) new = (mid : Part) × IsOwn g e mid × Flows b.spent b.acts b.made × Chain g e old b.acts mid × Blocks g e mid later new

-- In this machine element e has a part, and it is led to its last one by its blocks of the history.
pub record Begins (g : Setting) (m : Machine) (log : List Block) (last : Part) (e : ℕ) : Type 0 where
  pub part : Part
  pub own : IsOwn g e part
  pub is : IsPart part m.store
  pub blocks : Blocks g e part (blocks_by e log) last

-- how many events element e made
abbrev pub count_acts : List Block → ℕ
count_acts [] = 0
count_acts (b ∷ later) = length b.acts + count_acts later
