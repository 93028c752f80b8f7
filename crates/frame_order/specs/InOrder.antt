-- Events that hand out frames in order.
use Rattle.std.specs.Prelude.{◌≡◌, ℕ, ◌<◌, ℤ, true, List, [], ◌∷◌, IsPermutation, ⊤}
use Rattle.tags.specs.declared.token.Cont.{Cont}
use Rattle.tags.specs.declared.token.Word.{Word}
use Rattle.tags.specs.declared.token.To.{To}
use Rattle.tags.specs.declared.token.Token.{Token}
use Rattle.semantics.specs.Program.{Program}
use Rattle.semantics.specs.Machine.{Store, Machine, Size, Event, Events, at_start}

-- THE ORDER OF FRAMES. The free frame of least number is handed out, and a released frame goes to the request that has waited longest.
abbrev pub IsInOrder : Store → To → List Token → Store → Type 0
IsInOrder old To.Manager (t ∷ ts) new = (f g : ℕ) → t.word ≡ Word.Frame f → g < f → old.out g ≡ true
IsInOrder old (To.Release f) (t ∷ ts) new = (c : Cont) × (old.requests ≡ c ∷ new.requests)
IsInOrder old to made new = ⊤

-- an event in this order
pub record OrderedEvent (p : Program) (z : Size) (e : ℕ) (t : Token) (old new : Machine) : Type 0 where
  pub event : Event p z e t old new
  pub in_order : IsInOrder old.store t.to event.made new.store

-- a run each of whose events is
abbrev pub OrderedRun : Program → Size → Machine → Events → Machine → Type 0
OrderedRun p z old [] new = IsPermutation old.pool new.pool × (new.store ≡ old.store)
OrderedRun p z old (ev ∷ later) new = (mid : Machine) × OrderedEvent p z ev.0 ev.1 old mid × OrderedRun p z mid later new

-- these are the events of such a run on these inputs
abbrev pub IsOrdered : Program → Size → List ℤ → Events → Type 0
IsOrdered p z inputs events = (last : Machine) × OrderedRun p z (at_start p inputs) events last
