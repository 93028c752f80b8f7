-- What needs no escape.
use Rattle.std.proofs.Common.{◌≡◌, ℕ, Bool, true, false, List, [], ◌∷◌, ◌++◌, refl, ap, ◌∙◌}
use Rattle.std.specs.Prelude.{◌&&◌}
use Rattle.std.specs.List.{list_all}
use Rattle.std.proofs.lemmas.List.Concat.{flat_map-cons}
use Rattle.json_text.specs.Json.{Text, escaped, escaped_byte, is_plain}

pub both : (p q : Bool) → p && q ≡ true → (p ≡ true) × (q ≡ true)
both true q e = (refl, e)
both false q e = absurd cc

one_plain : (b : ℕ) (p : Bool) → is_plain b ≡ p → p ≡ true → escaped_byte b ≡ b ∷ []
one_plain b true e t = rw e refl
one_plain b false e t = absurd cc

pub plain : (text : Text) → list_all is_plain text ≡ true → escaped text ≡ text
plain [] e = refl
plain (b ∷ text) e =
    let p = both (is_plain b) (list_all is_plain text) e in
    flat_map-cons escaped_byte b text ∙ ap (λ (l : List ℕ). l ++ escaped text) (one_plain b (is_plain b) refl p.0) ∙ ap (λ (l : List ℕ). b ∷ l) (plain text p.1)
