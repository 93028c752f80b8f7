-- Lines that are sent in two parts.
use Rattle.std.proofs.Common.{ℕ, List, ◌++◌, Option, Result, Err, sym, append_assoc}
use Rattle.std.specs.Prelude.{⊤}
use Rattle.std.specs.Io.KnownBytes.{Appends}
use Rattle.sink.specs.Sends.{Sends}
use Rattle.sink.proofs.Sent.{sends_more, sends_less, sends_same}

-- the second part has the end
pub ended : {E : Type 0} (r : Result ⊤ E) (a b c : Option (List ℕ)) (front rest end : List ℕ) → Appends a b front → Sends r b c (rest ++ end)
    → Sends r a c (front ++ rest ++ end)
ended r a b c front rest end p q = sends_same r a c (front ++ (rest ++ end)) (front ++ rest ++ end) (sym (append_assoc front rest end))
    (sends_more r a b c front (rest ++ end) p q)

-- only a beginning of the first part was sent
pub begun : {E : Type 0} (e : E) (a b : Option (List ℕ)) (front rest end : List ℕ) → Sends (Err e) a b front → Sends (Err e) a b (front ++ rest ++ end)
begun e a b front rest end q = sends_less e a b (front ++ rest) end (sends_less e a b front rest q)
