-- The places where invocations are made are equal keys where they are one place.
use Rattle.std.proofs.Common.{◌≡◌, Bool, true, false, ◌&&◌, ◌==◌, refl}
use Rattle.oracle.specs.contracts.invocations.MadePartialEq.TheImpl as made_eq
use Rattle.oracle.specs.declared.invocations.Made.{Made}
use Rattle.oracle.specs.declared.invocations.Made.TheVariants.{Main, Called, Turned}
use Rattle.oracle.proofs.Numbers.{DealsApart}

-- what `==` answers
abbrev pub equal : Made → Made → Bool
equal = (made_eq.ghosts).eq

three : (a b x : Bool) → (a && (b && x)) ≡ ((a && b) && x)
three true b x = refl
three false b x = refl

pub equal_apart : DealsApart equal
equal_apart Main Main = refl
equal_apart Main (Called d m) = refl
equal_apart Main (Turned d m j) = refl
equal_apart (Called c n) Main = refl
equal_apart (Called c n) (Called d m) = refl
equal_apart (Called c n) (Turned d m j) = refl
equal_apart (Turned c n i) Main = refl
equal_apart (Turned c n i) (Called d m) = refl
equal_apart (Turned c n i) (Turned d m j) = three (c == d) (n == m) (i == j)
