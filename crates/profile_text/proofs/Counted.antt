-- Numbered items of a list, sent one after the other.
use Rattle.std.proofs.Common.{ℕ, ◌+◌, ◌<◌, List, length, get_or, take, Option, Err, subst}
use Rattle.std.specs.Io.KnownBytes.{Appends}
use Rattle.std.proofs.lemmas.Option.{get_or_from_slice_get}
use Rattle.lemmas.proofs.SliceGet.{get_some}
use Rattle.sink.specs.Numbered.{numbered}
use Rattle.sink.specs.Sends.{Sends}
use Rattle.sink.proofs.Numbered.{more, stop}

pub more_at : {X : Type 0} (text : ℕ → X → List ℕ) (i : ℕ) (xs : List X) (d : X) (a b c : Option (List ℕ)) → i < length xs
    → Appends a b (numbered text 0 (take i xs)) → Appends b c (text i (get_or xs i d))
    → Appends a c (numbered text 0 (take (i + 1) xs))
more_at text i xs d a b c low p q =
    let x = get_some xs i low in
    more text i xs x.0 a b c x.1 p (subst (λ y. Appends b c (text i y)) (get_or_from_slice_get xs i x.0 d x.1) q)

pub stop_at : {X E : Type 0} (text : ℕ → X → List ℕ) (i : ℕ) (xs : List X) (d : X) (e : E) (a b c : Option (List ℕ)) → i < length xs
    → Appends a b (numbered text 0 (take i xs)) → Sends (Err e) b c (text i (get_or xs i d))
    → Sends (Err e) a c (numbered text 0 xs)
stop_at text i xs d e a b c low p q =
    let x = get_some xs i low in
    stop text i xs x.0 e a b c x.1 p (subst (λ y. Sends (Err e) b c (text i y)) (get_or_from_slice_get xs i x.0 d x.1) q)
