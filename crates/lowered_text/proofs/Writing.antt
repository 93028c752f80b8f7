-- What a call wrote, all of it or a beginning.
use Rattle.std.proofs.Common.{◌≡◌, ◌∙◌, sym, subst, ℕ, List, ◌++◌, Option, Ok, Err}
use Rattle.std.specs.Prelude.{⊤}
use Rattle.std.specs.Io.KnownBytes.{Appends}
use Rattle.sink.specs.Sends.{Sends}

pub all_of : (E : Type 0) (x : ⊤) (a b : Option (List ℕ)) (sent bs : List ℕ) → sent ≡ bs → Sends {E = E} (Ok x) a b sent → Appends a b bs
unfolding Sends
all_of E x a b sent bs e s = subst (Appends a b) e s

abbrev pub Front : Option (List ℕ) → Option (List ℕ) → List ℕ → Type 0
Front a b bs = (front : List ℕ) × (rest : List ℕ) × (bs ≡ front ++ rest) × Appends a b front

pub front_of : {E : Type 0} (e : E) (a b : Option (List ℕ)) (sent bs : List ℕ) → sent ≡ bs → Sends (Err e) a b sent → Front a b bs
unfolding Sends
front_of e a b sent bs is (front, rest, whole, s) = (front, rest, sym is ∙ whole, s)
