-- Checks one after another, taken apart.
use Rattle.std.specs.Prelude.{◌≡◌, ℕ, Bool, true, false, Result, Ok, Err, ⊤, refl}
use Rattle.std.proofs.Common.{◌∙◌, ap, sym}
use Rattle.source.specs.declared.fault.Fault.{Fault}
use Rattle.source.specs.declared.fault.FaultKind.{FaultKind}
use Rattle.source.specs.First.{◌>>=◌, must}

-- where all went well, both parts did
pub then_ok : {A B : Type 0} (r : Result A Fault) (f : A → Result B Fault) (b : B) → (r >>= f) ≡ Ok b → (a : A) × (r ≡ Ok a) × (f a ≡ Ok b)
then_ok (Ok a) f b h = (a, refl, h)
then_ok (Err fault) f b h = cc

-- what holds wherever the second part goes well
pub then_all : {A B : Type 0} (r : Result A Fault) (f : A → Result B Fault) (P : B → Type 0) → ((a : A) (b : B) → f a ≡ Ok b → P b) → (b : B) → (r >>= f) ≡
    Ok b → P b
then_all (Ok a) f P all b h = all a b h
then_all (Err fault) f P all b h = cc

pub must_ok : (b : Bool) (kind : FaultKind) (at : ℕ) (t : ⊤) → must b kind at ≡ Ok t → b ≡ true
must_ok true kind at t h = refl
must_ok false kind at t h = cc

pub ok_same : {A : Type 0} (a b : A) → Path (Result A Fault) (Ok a) (Ok b) → a ≡ b
ok_same a b h = cc

pub ok_as : {A : Type 0} (r : Result A Fault) (a b : A) → r ≡ Ok a → a ≡ b → r ≡ Ok b
ok_as r a b h e = h ∙ ap (λ x. Ok x) e

-- two numbers that are given to be the same, of which the first is n
pub ok_through : {A : Type 0} (r : Result A Fault) (a b n : A) → r ≡ Ok b → a ≡ b → a ≡ n → r ≡ Ok n
ok_through r a b n h e d = h ∙ ap (λ x. Ok x) (sym e ∙ d)
