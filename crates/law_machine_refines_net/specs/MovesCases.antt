-- An event that takes the token of an item, and what it has to show so that the net follows.
use Rattle.std.specs.Prelude.{◌≡◌, ◌⊎◌, ℕ, ℤ, Bool, true, false, List, [], ◌∷◌, ◌++◌, map, Some, Contains, IsPermutation}
use Rattle.tags.specs.declared.token.Token.{Token}
use Rattle.tags.specs.declared.slot.SlotState.TheVariants.{Empty}
use Rattle.semantics.specs.Graph.{Flow}
use Rattle.semantics.specs.Meaning.{Context, Main}
use Rattle.semantics.specs.Machine.{Machine, Size, Event, with_slot}
use Rattle.semantics.specs.Cause.{SameSeen}
use Rattle.semantics.specs.Arcs.{UsesArc}
use Rattle.semantics.specs.Holders.{Holder}
use Rattle.semantics.specs.Credits.{granted_at, released_at}
use Rattle.semantics.specs.Plan.{Plan}
use Rattle.law_confluence.proofs.NetSlots.{InSlots}
use Rattle.law_net.specs.ContextsParts.{Part, Framer, Opener, Giver, Taker, Drainer, Asked, NextAsked, InCell, Drained, Done, Freed, Item, Firing}
use Rattle.law_net.specs.Contexts.{Wires, block_in}
use Rattle.law_net.specs.ContextsFirings.{Config, takes, makes, memory_of, frame_at, HasFired}
use Rattle.law_net.specs.ContextsMirror.{WasUsed, token_of, frame_of, ip_of, word_of, slot_of, on_side, in_slot, only, named_by, is_instr, is_entry_part, Past}
use Rattle.law_net.specs.ContextsMirror.{after, Tracks}
use Rattle.law_net.specs.ContextsTheorem.{IsGood}
use Rattle.law_net.specs.ContextsPackages.{Keeps, Fresh}

-- an event takes the token of item i
pub record Taking : Type 0 where
  pub fl : Flow
  pub p : Plan
  pub w : Wires
  pub inputs : List ℤ
  pub z : Size
  pub q : Past
  pub m : Machine
  pub new : Machine
  pub e : ℕ
  pub t : Token
  pub good : IsGood fl p w
  pub keeps : Keeps fl p w inputs q m
  pub event : Event p.program z e t m new
  pub fresh : Fresh q t event.made
  pub i : Item
  pub others : List Item
  pub perm : IsPermutation keeps.tracks.net.pending (i ∷ others)
  pub is_token : t ≡ token_of fl p w keeps.tracks.net.fired i

abbrev pub net_of : Taking → Config
net_of s = s.keeps.tracks.net

-- the net follows the machine after the event
abbrev pub Followed : Taking → Type 0
Followed s = Tracks s.fl s.p s.w s.inputs (after s.p s.q s.e s.t s.m.store s.event.made s.new) s.new

-- what grants no credit and releases no turn
pub record IsFree (s : Taking) : Type 0 where
  pub granted : (g : ℕ) (h : Holder) → granted_at s.p s.p.program g h s.m.store s.t.to ≡ 0
  pub released : (g base : ℕ) → released_at s.p.program g base s.t.to s.event.made ≡ 0

-- a firing that hands out no frame, and is of no loop's credits, no cell's, and no frame's on its way
abbrev pub is_still : Part → Bool
is_still (Framer n) = false
is_still (Asked n) = false
is_still NextAsked = false
is_still (InCell n) = false
is_still (Drained n) = false
is_still (Opener n) = false
is_still (Taker n) = false
is_still (Giver n) = false
is_still (Drainer n) = false
is_still r = true

-- what such a firing makes
abbrev pub is_quiet : Part → Bool
is_quiet (InCell n) = false
is_quiet (Giver n) = false
is_quiet (Taker n) = false
is_quiet (Drainer n) = false
is_quiet r = true

-- an arc to an item's inlet is used by the event, or was before
abbrev pub IsCaused : Taking → Item → Type 0
IsCaused s j = UsesArc s.p (frame_of s.fl (net_of s).fired j.context) (ip_of s.fl s.p s.w j.context j.inlet.part) j.inlet.port s.t s.event.made s.new
    ⊎ WasUsed s.p s.q.steps (frame_of s.fl (net_of s).fired j.context) (ip_of s.fl s.p s.w j.context j.inlet.part) j.inlet.port

-- ITEM i WAITS in its slot, which was empty
pub record Halts (s : Taking) : Type 0 where
  pub slot : in_slot s.fl s.i ≡ true
  pub none : s.event.made ≡ []
  pub empty : s.m.store.slots (frame_of s.fl (net_of s).fired s.i.context) (slot_of s.fl s.w s.i) ≡ Empty
  pub store : s.new.store ≡ with_slot s.m.store (frame_of s.fl (net_of s).fired s.i.context) (slot_of s.fl s.w s.i)
      (on_side s.i.inlet.port (word_of s.fl s.p s.w (net_of s).fired s.i.word))
  pub free : IsFree s

-- THE STORE after a firing
pub record Shows (s : Taking) (fired : List Firing) (waiting : List Item) : Type 0 where
  pub slots : InSlots (λ (i : Item). frame_of s.fl (net_of s).fired i.context) (slot_of s.fl s.w)
      (λ (i : Item). on_side i.inlet.port (word_of s.fl s.p s.w (net_of s).fired i.word)) s.keeps.tracks.stands.base
      (only (in_slot s.fl) waiting) s.new.store.slots
  pub requests : s.new.store.requests ≡ s.m.store.requests
  pub cells : (x : ℕ) → s.new.store.cells x ≡ s.m.store.cells x
  pub seen : SameSeen s.new.store (memory_of s.fl fired)
  pub done : (s.new.store.done ≡ true → HasFired Main Done fired) × (HasFired Main Done fired → s.new.store.done ≡ true)
  pub out : (c : Context) (g : ℕ) → frame_at s.fl (net_of s).fired c ≡ Some g
      → (s.new.store.out g ≡ false → HasFired c Freed fired) × (HasFired c Freed fired → s.new.store.out g ≡ false)
  pub not_out : (g : ℕ) → s.new.store.out g ≡ true → (c : Context) × (frame_at s.fl (net_of s).fired c ≡ Some g)

-- IT FIRES, with what it finds in its slot
pub record Goes (s : Taking) (f : Firing) : Type 0 where
  pub before : List Item
  pub kept : List Item
  pub later : List Item
  pub waiting : (net_of s).waiting ≡ before ++ (kept ++ later)
  pub paired : (j : Item) → Contains kept j → in_slot s.fl j ≡ true
  pub took : IsPermutation (s.i ∷ kept) (takes s.fl f)
  pub part : s.i.inlet.part ≡ f.part
  pub still : is_still f.part ≡ true
  pub made : IsPermutation s.event.made (map (token_of s.fl s.p s.w (net_of s).fired) (makes s.fl s.w f))
  pub quiet : (j : Item) → Contains (makes s.fl s.w f) j → is_quiet j.inlet.part ≡ true
  pub known : (j : Item) → Contains (makes s.fl s.w f) j → (g : ℕ) × (frame_at s.fl (net_of s).fired j.context ≡ Some g)
  -- what it makes names what it took
  pub named : (j : Item) (d : Context) → Contains (makes s.fl s.w f) j → named_by j.word ≡ Some d → (a : Item) × Contains (s.i ∷ kept) a × (a.word ≡ j.word)
  -- an arc to it is used now, or was used when its continuation was made
  pub caused : (j : Item) → Contains (makes s.fl s.w f) j → (is_instr j.inlet.part ≡ true) → (is_entry_part (block_in s.fl j.context) j.inlet.part ≡ false)
      → IsCaused s j
  pub store : Shows s (f ∷ (net_of s).fired) (before ++ later)
  pub free : IsFree s

-- THE TWO LEMMAS
abbrev pub HaltsFollow : Type 0
HaltsFollow = (s : Taking) → Halts s → Followed s

abbrev pub GoesFollow : Type 0
GoesFollow = (s : Taking) (f : Firing) → Goes s f → Followed s
