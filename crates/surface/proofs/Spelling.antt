-- Tokens are those of a tree where they say the same, one by one, and are where the tree says.
use Rattle.std.specs.Prelude.{◌≡◌, ℕ, ◌==◌, ◌&&◌, Bool, true, List, [], ◌∷◌, map, Option, None, Some}
use Rattle.std.proofs.Common.{eqb-true}
use Rattle.lemmas.proofs.Bools.{first_of_and, second_of_and}
use Rattle.surface.specs.declared.token.Token.{Token}
use Rattle.source.specs.Spelled.{IsPlace}
use Rattle.surface.specs.Spelled.{lexeme, Spelling, AreSpelled}

abbrev pub is_place : Option ℕ → ℕ → Bool
is_place None at = true
is_place (Some place) at = place == at

abbrev pub are_places : List Spelling → List Token → Bool
are_places [] ts = true
are_places (s ∷ ss) [] = true
are_places (s ∷ ss) (t ∷ ts) = is_place s.place t.at && are_places ss ts

place_is : (o : Option ℕ) (at : ℕ) → is_place o at ≡ true → IsPlace o at
place_is None at h = tt
place_is (Some place) at h = eqb-true place at h

pub spelled : (text : List ℕ) (ss : List Spelling) (ts : List Token) → map (λ (s : Spelling). s.lexeme) ss ≡ map (lexeme text) ts → are_places ss ts ≡ true
    → AreSpelled text ss ts
spelled text [] [] e h = tt
spelled text [] (t ∷ ts) e h = cc
spelled text (s ∷ ss) [] e h = cc
spelled text (s ∷ ss) (t ∷ ts) e h =
    let first : lexeme text t ≡ s.lexeme = cc in
    let rest : map (λ (s : Spelling). s.lexeme) ss ≡ map (lexeme text) ts = cc in (
      (first, place_is s.place t.at (first_of_and (is_place s.place t.at) (are_places ss ts) h)),
      spelled text ss ts rest (second_of_and (is_place s.place
          t.at) (are_places ss ts) h),
    )
