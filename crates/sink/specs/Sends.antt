-- What a writer took.
use Rattle.std.specs.Prelude.{◌≡◌, ℕ, List, ◌++◌, Option, Result, Ok, Err, ⊤}
use Rattle.std.specs.Io.KnownBytes.{Appends}

-- all of the bytes, or after a fault a beginning of them
unfoldable pub Sends : {E : Type 0} → Result ⊤ E → Option (List ℕ) → Option (List ℕ) → List ℕ → Type 0
Sends (Ok x) old new bytes = Appends old new bytes
Sends (Err e) old new bytes = (front : List ℕ) × (rest : List ℕ) × (bytes ≡ front ++ rest) × Appends old new front
