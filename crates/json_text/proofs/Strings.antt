-- What is written of a text between two quotation marks.
use Rattle.std.proofs.Common.{arith, ◌≡◌, ◌<◌, ℕ, zero, suc, Bool, true, false, List, [], ◌∷◌, ◌++◌, refl, sym, ap, ◌∙◌}
use Rattle.std.specs.Prelude.{◌&&◌}
use Rattle.std.specs.List.{list_all}
use Rattle.std.proofs.lemmas.List.Concat.{flat_map-cons}
use Rattle.std.proofs.lemmas.List.Elements.{All-tail}
use Rattle.json_text.specs.Json.{Text, escaped_byte}
use Rattle.json_text.specs.Strings.{StringsAreWhole, is_character}
use Rattle.json_text.proofs.Plain.{both}

-- whether all numbers below n have it
all_below : ℕ → (ℕ → Bool) → Bool
all_below zero p = true
all_below (suc n) p = p zero && all_below n (λ k. p (suc k))

below : (n : ℕ) (p : ℕ → Bool) (b : ℕ) → all_below n p ≡ true → b < n → p b ≡ true
unfolding all_below
below zero p b e lt = absurd (omega (arith, lt))
below (suc n) p zero e lt = (both (p zero) (all_below n (λ k. p (suc k))) e).0
below (suc n) p (suc b) e lt = below n (λ k. p (suc k)) b (both (p zero) (all_below n (λ k. p (suc k))) e).1 (omega (arith, lt))

each_byte : all_below 256 (λ b. is_character (escaped_byte b)) ≡ true
unfolding all_below
each_byte = refl

both_true : (p q : Bool) → p ≡ true → q ≡ true → p && q ≡ true
both_true true q e f = f
both_true false q e f = absurd cc

pub strings_are_whole : StringsAreWhole
strings_are_whole [] few = ([], refl, refl)
strings_are_whole (b ∷ text) few =
    let first : b < 256 = few 0 0 (omega arith) in
    let rest = strings_are_whole text (All-tail (λ k. k < 256) b text few) in (
      escaped_byte b ∷ rest.0,
      flat_map-cons escaped_byte b text ∙ ap (λ (l : List ℕ). escaped_byte b ++ l) rest.1 ∙ sym (flat_map-cons (λ (c : Text). c) (escaped_byte b) rest.0),
      both_true (is_character (escaped_byte b)) (list_all is_character rest.0) (below 256 (λ k. is_character (escaped_byte k)) b each_byte first) rest.2,
    )
