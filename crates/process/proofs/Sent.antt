-- What a writer took, of a text that was sent to it.
use Rattle.std.proofs.Common.{◌≡◌, ℕ, List, ◌++◌, Result, Ok, Err}
use Rattle.std.specs.Prelude.{Option, ⊤}
use Rattle.std.specs.Io.KnownBytes.{Appends}
use Rattle.sink.specs.Sends.{Sends}

pub sent_all : (E : Type 0) (x : ⊤) (old new : Option (List ℕ)) (text : List ℕ) → Sends {E = E} (Ok x) old new text → Appends old new text
unfolding Sends
sent_all E x old new text sent = sent

pub sent_part : (E : Type 0) (e : E) (old new : Option (List ℕ)) (text : List ℕ) → Sends {E = E} (Err e) old new text
    → (front : List ℕ) × (rest : List ℕ) × (text ≡ front ++ rest) × Appends old new front
unfolding Sends
sent_part E e old new text sent = sent
