-- What is known of the word of an item that fits: it is of the kind that its inlet gets.
use Rattle.std.proofs.Common.{◌≡◌, ℕ, refl, subst}
use Rattle.semantics.specs.Graph.{Flow}
use Rattle.law_net.specs.ContextsParts.{Part, InCell, Item}
use Rattle.law_net.specs.Contexts.{Wires}
use Rattle.law_net.specs.ContextsWires.{arrives_at}
use Rattle.law_net.specs.ContextsLaws.{Carries, HoldsFor, WordAt, WordFits}

carries_at : (fl : Flow) (w : Wires) (i : Item) (r : Part) → WordAt fl w i r → Carries fl w i.context i.inlet.way (arrives_at r i.inlet.port) i.word
carries_at fl w i (InCell n) h = h.0
carries_at fl w i r h = h

-- it is of the kind that its inlet takes
pub carries_of : (fl : Flow) (w : Wires) (i : Item) → WordFits fl w i → Carries fl w i.context i.inlet.way (arrives_at i.inlet.part i.inlet.port) i.word
carries_of fl w i h = carries_at fl w i i.inlet.part h

-- but to a cell, that is all
pub word_there : (fl : Flow) (w : Wires) (i : Item) (r : Part) → ((n : ℕ) → r ≡ InCell n → ⊥)
    → Carries fl w i.context i.inlet.way (arrives_at r i.inlet.port) i.word → WordAt fl w i r
word_there fl w i (InCell n) other h = absurd (other n refl)
word_there fl w i r other h = h

-- and a request has its operands
pub holds_of : (fl : Flow) (w : Wires) (i : Item) (n : ℕ) → i.inlet.part ≡ InCell n → WordFits fl w i → HoldsFor fl i n
holds_of fl w i n e h = let x : WordAt fl w i (InCell n) = subst (WordAt fl w i) e h in x.1
