-- Checks one after another, taken apart.
use Rattle.std.specs.Prelude.{◌≡◌, ℕ, Bool, true, false, Result, Ok, Err, ⊤, refl}
use Rattle.surface.specs.declared.fault.Fault.{Fault}
use Rattle.surface.specs.declared.fault.FaultKind.{FaultKind}
use Rattle.surface.specs.First.{◌>>=◌, must}

-- where all went well, both parts did
pub then_ok : {A B : Type 0} (r : Result A Fault) (f : A → Result B Fault) (b : B) → (r >>= f) ≡ Ok b → (a : A) × (r ≡ Ok a) × (f a ≡ Ok b)
then_ok (Ok a) f b h = (a, refl, h)
then_ok (Err fault) f b h = cc

pub must_ok : (b : Bool) (kind : FaultKind) (at : ℕ) (t : ⊤) → must b kind at ≡ Ok t → b ≡ true
must_ok true kind at t h = refl
must_ok false kind at t h = cc

-- a test, and what is after it
pub must_then : {A : Type 0} (b : Bool) (kind : FaultKind) (at : ℕ) (r : Result A Fault) (y : A) → (must b kind at >>= (λ t. r)) ≡ Ok y → (b ≡ true) × (r ≡ Ok y)
must_then true kind at r y h = (refl, h)
must_then false kind at r y h = cc

pub ok_same : {A : Type 0} (a b : A) → Path (Result A Fault) (Ok a) (Ok b) → a ≡ b
ok_same a b h = cc
