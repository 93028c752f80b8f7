-- Each use of a name from outside is one of the outside names.
use Rattle.std.proofs.Common.{◌≡◌, Bool, true, false, not, ◌||◌, List, [], ◌∷◌, filter, if◌then◌else◌, refl, ap, ◌∙◌}
use Rattle.semantics.specs.Graph.{same_name}
use Rattle.semantics.proofs.Lines.{same_name_is, same_name_itself}
use Rattle.source.specs.Tree.{Name}
use Rattle.source.specs.Outside.{is_in, once}
use Rattle.source.proofs.NamesUsed.{AreIn}

in_some : (x y : Name) (xs : List Name) → is_in y xs ≡ true → same_name x y ≡ false → is_in y (filter (λ z. not (same_name x z)) xs) ≡ true
in_some x y [] h e = cc
in_some x y (z ∷ xs) h e = go (same_name y z) (same_name x z) refl refl h (λ k. in_some x y xs k e)
  where
    go : (t u : Bool) → same_name y z ≡ t → same_name x z ≡ u → (t || is_in y xs) ≡ true
        → (is_in y xs ≡ true → is_in y (filter (λ z. not (same_name x z)) xs) ≡ true)
        → is_in y (if not u then z ∷ filter (λ z. not (same_name x z)) xs else filter (λ z. not (same_name x z)) xs) ≡ true
    go true true f g k later =
        let same = same_name_is y z f in let other = ap (same_name x) same in absurd (cc)
    go true false f g k later = ap (λ (t : Bool). t || is_in y (filter (λ z. not (same_name x z)) xs)) f
    go false true f g k later = later k
    go false false f g k later = ap (λ (t : Bool). t || is_in y (filter (λ z. not (same_name x z)) xs)) f ∙ later k

in_once : (x : Name) (xs ys : List Name) → AreIn (once xs) ys → AreIn (once (x ∷ xs)) ys
in_once x xs [] h = tt
in_once x xs (y ∷ ys) h = (go (same_name y x) refl, in_once x xs ys h.1)
  where
    go : (t : Bool) → same_name y x ≡ t → (same_name y x || is_in y (filter (λ z. not (same_name x z)) (once xs))) ≡ true
    go true e = ap (λ (t : Bool). t || is_in y (filter (λ z. not (same_name x z)) (once xs))) e
    go false e = ap (λ (t : Bool). t || is_in y (filter (λ z. not (same_name x z)) (once xs))) e ∙ in_some x y (once xs) h.0 (turned (same_name x y) refl)
      where
        turned : (u : Bool) → same_name x y ≡ u → same_name x y ≡ false
        turned false f = f
        turned true f = let same = same_name_is x y f in let self = same_name_itself y in let k = ap (λ x. same_name y x) same in absurd (cc)

pub uses_once : (xs : List Name) → AreIn (once xs) xs
uses_once [] = tt
uses_once (x ∷ xs) = (ap (λ (t : Bool). t || is_in x (filter (λ z. not (same_name x z)) (once xs))) (same_name_itself x), in_once x xs xs (uses_once xs))
