-- Lists whose elements are compared one by one.
use Rattle.std.proofs.Common.{◌≡◌, Bool, List, ap, refl}
use Rattle.std.specs.Bool.{Decides}
use Rattle.std.specs.Option.{option_eq}
use Rattle.std.specs.Prelude.{Option, Some, None}
use Rattle.std.proofs.lemmas.Bool.Decides.{Decides-at}
use Rattle.std.specs.Cmp.Lexicographic.{pointwise, pointwise_decides}

abbrev value_in : {X : Type 0} → X → Option X → X
value_in d None = d
value_in d (Some x) = x

pub options_decide : {X : Type 0} (E : X → X → Bool) → ((x y : X) → Decides (E x y) (x ≡ y)) → (a b : Option X) → Decides (option_eq E a b) (a ≡ b)
options_decide E e None None = (λ h. refl, λ h. refl)
options_decide E e None (Some y) = (λ h. absurd cc, λ h. absurd cc)
options_decide E e (Some x) None = (λ h. absurd cc, λ h. absurd cc)
options_decide E e (Some x) (Some y) = (λ h. ap (λ z. Some z) ((e x y).0 h), λ h. (e x y).1 (ap (value_in x) h))

pub lists_decide : {X : Type 0} (E : X → X → Bool) (r : Bool) (xs ys : List X) → r ≡ pointwise E xs ys → ((x y : X) → Decides (E x y) (x ≡ y))
    → Decides r (xs ≡ ys)
lists_decide E r xs ys e d = Decides-at r (pointwise E xs ys) e (pointwise_decides d xs ys)
