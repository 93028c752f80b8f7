-- Objects and their bytes: the bytes determine one version and one code, and no object is refused.
use Rattle.std.specs.Prelude.{◌≡◌, ℕ, List, None}
use Rattle.semantics.specs.Program.{Code}
use Rattle.semantics.specs.Bytes.{bytes_of, IsCode, IsObject}
use Rattle.object_view.specs.Reading.{opened}
use Rattle.object_view.specs.Checks.{first_refusal}

-- what is read from the bytes of a code is this code
abbrev pub ReadsBack : Type 0
ReadsBack = (version : ℕ) (c : Code) → IsCode version c → ((opened (bytes_of version c)).version ≡ version) × ((opened (bytes_of version c)).code ≡ c)

-- no bytes are two objects
abbrev pub IsUnique : Type 0
IsUnique = (bytes : List ℕ) (v w : ℕ) (c d : Code) → IsObject bytes v c → IsObject bytes w d → (v ≡ w) × (c ≡ d)

-- no object is refused
abbrev pub AllOpen : Type 0
AllOpen = (bytes : List ℕ) (version : ℕ) (c : Code) → IsObject bytes version c → first_refusal bytes ≡ None
