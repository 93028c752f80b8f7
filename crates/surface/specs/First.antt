-- Checks one after another: the first fault counts.
use Rattle.std.specs.Prelude.{ℕ, Bool, true, false, Result, Ok, Err, ⊤}
use Rattle.source.specs.declared.fault.FaultKind.{FaultKind as CoreKind}
use Rattle.surface.specs.declared.fault.Fault.{Fault}
use Rattle.surface.specs.declared.fault.FaultKind.{FaultKind}
use Rattle.surface.specs.declared.fault.FaultKind.TheVariants.{Core}

-- first this, and then that with its answer
infixl 10 ◌>>=◌
abbrev pub ◌>>=◌ : {A B : Type 0} → Result A Fault → (A → Result B Fault) → Result B Fault
(Ok x) >>= f = f x
(Err fault) >>= f = Err fault

abbrev pub refused : {A : Type 0} → FaultKind → ℕ → Result A Fault
refused kind at = Err (record { kind = kind; at = at })

abbrev pub must : Bool → FaultKind → ℕ → Result ⊤ Fault
must true kind at = Ok tt
must false kind at = refused kind at

-- with a kind of the core
abbrev pub must_be : Bool → CoreKind → ℕ → Result ⊤ Fault
must_be b kind at = must b (Core kind) at
