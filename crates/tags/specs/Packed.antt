-- Values as two words of 64 bits. An origin is one number: 0 where it is not recorded.
use Rattle.std.specs.Prelude.{◌≡◌, ℕ, ◌+◌, ◌*◌, ◌<◌, List, [], ◌∷◌, FitsSigned, ⊤}
use Rattle.std.specs.Int.{w64, cast_unsigned}
use Rattle.tags.specs.declared.value.Value.{Value}
use Rattle.tags.specs.declared.value.Value.TheVariants.{Int, Fault}
use Rattle.tags.specs.declared.value.FaultKind.TheVariants.{Zero, Range}
use Rattle.tags.specs.declared.value.Origin.{Origin}
use Rattle.tags.specs.declared.value.Origin.TheVariants.{Untold, At}

abbrev pub origin_code : Origin → ℕ
origin_code Untold = 0
origin_code (At b n) = 1 + 1024 * b + n

-- the first word is 0 for an integer, 1 for a division by zero, 2 for an index outside
abbrev pub packed : Value → List ℕ
packed (Int z) = 0 ∷ cast_unsigned w64 z ∷ []
packed (Fault Zero o) = 1 ∷ origin_code o ∷ []
packed (Fault Range o) = 2 ∷ origin_code o ∷ []

-- WHICH ARE THERE. A graph has 256 blocks and a block 1,024 nodes at most.
abbrev pub IsOrigin : Origin → Type 0
IsOrigin Untold = ⊤
IsOrigin (At b n) = (b < 256) × (n < 1024)

abbrev pub IsValue : Value → Type 0
IsValue (Int z) = FitsSigned w64 z
IsValue (Fault k o) = IsOrigin o

-- no two values have the same words
abbrev pub PackingIsExact : Type 0
PackingIsExact = (v w : Value) → IsValue v → IsValue w → packed v ≡ packed w → v ≡ w
