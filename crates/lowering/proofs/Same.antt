-- Names are the same where their bytes are.
use Rattle.std.proofs.Common.{◌≡◌, ℕ, Bool, true, false, List, refl, sym, ◌∙◌, ap, subst}
use Rattle.std.specs.Str.{bytes_eq}
use Rattle.std.proofs.lemmas.Slice.Eq.{bytes_eq-Decides}
use Rattle.semantics.specs.Graph.{same_name}
use Rattle.semantics.proofs.Lines.{same_name_is, same_name_itself}
use Rattle.source.specs.Tree.{Name}

pub same_bytes : (x y : List ℕ) → bytes_eq x y ≡ same_name x y
same_bytes x y = by (bytes_eq x y) refl (same_name x y) refl
  where
    sides : (bytes_eq x y ≡ true → x ≡ y) × (x ≡ y → bytes_eq x y ≡ true)
    sides = bytes_eq-Decides x y

    by : (b : Bool) → bytes_eq x y ≡ b → (c : Bool) → same_name x y ≡ c → bytes_eq x y ≡ same_name x y
    by true e true f = e ∙ sym f
    by false e false f = e ∙ sym f
    by true e false f = e ∙ sym (ap (same_name x) (sym (sides.0 e)) ∙ same_name_itself x)
    by false e true f = sides.1 (same_name_is x y f) ∙ sym f

pub same_way : (x y : Name) → same_name x y ≡ same_name y x
same_way x y = by (same_name x y) refl (same_name y x) refl
  where
    by : (b : Bool) → same_name x y ≡ b → (c : Bool) → same_name y x ≡ c → same_name x y ≡ same_name y x
    by true e true f = e ∙ sym f
    by false e false f = e ∙ sym f
    by true e false f = let p : x ≡ y = same_name_is x y e in e ∙ sym (subst (λ z. same_name z x ≡ true) p (same_name_itself x))
    by false e true f = let p : y ≡ x = same_name_is y x f in subst (λ z. same_name z y ≡ true) p (same_name_itself y) ∙ sym f
