-- A map that finds invocations by the place where each was made.
use Rattle.std.specs.Prelude.{◌≡◌, ℕ, Bool, List, Option, None, Some, ⊤}
use Rattle.std.specs.HashMap.{HashMap, get}
use Rattle.oracle.specs.declared.invocations.Made.{Made}
use Rattle.oracle.specs.declared.invocations.Invocation.{Invocation}
use Rattle.oracle.specs.declared.invocations.Numbered.{Numbered}
use Rattle.oracle.specs.Running.{made_from}

-- the map has exactly the places of these invocations, each with the number of the first that was made there
abbrev pub IsNumbering : {S : Type 0} → (Made → Made → Bool) → HashMap Made ℕ S → List Invocation → Type 0
IsNumbering eq m xs = (made : Made) → get eq m made ≡ made_from made 0 xs

-- the number is that of the first invocation that was made there
abbrev pub IsNumbered : List Invocation → Option Numbered → Type 0
IsNumbered xs None = ⊤
IsNumbered xs (Some last) = made_from last.made 0 xs ≡ Some last.number
