-- Steps that did not fail.
use Rattle.std.proofs.Common.{◌≡◌, Bool, true, false, cond, Option, Some, None, Result, Ok, Err, refl}
use Rattle.std.specs.Prelude.{ok_or, ⊤}
use Rattle.graph_file.specs.declared.fault.ReadFaultKind.{ReadFaultKind}
use Rattle.graph_file.specs.Giving.{◌>>=◌}
use Rattle.graph_file.specs.Reading.{must}

pub bind_ok : {A B E : Type 0} (r : Result A E) (f : A → Result B E) (y : B) → (r >>= f) ≡ Ok y → (x : A) × (r ≡ Ok x) × (f x ≡ Ok y)
bind_ok (Ok x) f y e = (x, refl, e)
bind_ok (Err d) f y e = absurd cc

abbrev pub done : {A : Type 0} → A → Result A ReadFaultKind
done x = Ok x

pub ok_is : {A : Type 0} (x y : A) → done x ≡ done y → x ≡ y
ok_is x y e = cc

pub ok_or_is : {A : Type 0} (o : Option A) (k : ReadFaultKind) (x : A) → ok_or o k ≡ done x → o ≡ Some x
ok_or_is (Some y) k x e = cc
ok_or_is None k x e = absurd cc

-- a condition that was met, and what followed it
pub must_ok : {B : Type 0} (b : Bool) (k : ReadFaultKind) (f : ⊤ → Result B ReadFaultKind) (y : B) → (must b k >>= f) ≡ Ok y → (b ≡ true) × (f tt ≡ Ok y)
must_ok true k f y e = (refl, e)
must_ok false k f y e = absurd cc

-- a test that was passed
pub guard_ok : {A : Type 0} (b : Bool) (k : ReadFaultKind) (x y : A) → cond b (done x) (Err k) ≡ done y → (b ≡ true) × (x ≡ y)
guard_ok true k x y e = (refl, cc)
guard_ok false k x y e = absurd cc
