-- What is written for a text that should have an object.
use Rattle.std.specs.Prelude.{◌≡◌, ◌++◌, ℕ, List, Option, Result, Ok, Err, ⊤}
use Rattle.std.specs.Io.KnownBytes.{Appends}
use Rattle.semantics.specs.Graph.{Graph}
use Rattle.driver.specs.Refused.{IsCompiled, IsRefusedText}
use Rattle.driver.specs.declared.compiling.CompileRefusal.{CompileRefusal}
use Rattle.driver.specs.declared.compiling.CompileRefusal.TheVariants.{Fault, Write}

-- The object of the text's graph is written; nothing where the text is refused; after a failed write a beginning of the object.
abbrev pub WritesObject : Result ⊤ CompileRefusal → Option (List ℕ) → Option (List ℕ) → List ℕ → Type 0
WritesObject (Ok x) old new text = (g : Graph) × (bytes : List ℕ) × IsCompiled text g bytes × Appends old new bytes
WritesObject (Err (Fault f)) old new text = IsRefusedText text f × (new ≡ old)
WritesObject (Err (Write e)) old new text = (g : Graph) × (bytes : List ℕ) × IsCompiled text g bytes
    × ((front : List ℕ) × (rest : List ℕ) × (bytes ≡ front ++ rest) × Appends old new front)
