-- WHAT IS BETWEEN THE QUOTATION MARKS OF A STRING IN JSON: characters, one after another.
use Rattle.std.specs.Prelude.{◌≡◌, ◌<◌, ℕ, ◌==◌, ◌&&◌, ◌||◌, Bool, true, false, not, nat_le, List, [], ◌∷◌, All, flat_map}
use Rattle.std.specs.List.{list_all}
use Rattle.json_text.specs.Json.{Text, escaped}

-- 0 to 9 and a to f
abbrev pub is_hex : ℕ → Bool
is_hex c = (nat_le 48 c && nat_le c 57) || (nat_le 97 c && nat_le c 102)

-- what may follow a `\` (92): one of " \ / b f n r t
abbrev pub is_short : ℕ → Bool
is_short c = c == 34 || c == 92 || c == 47 || c == 98 || c == 102 || c == 110 || c == 114 || c == 116

-- a character is a byte of ASCII that is no control byte and none of `"` (34) and `\`, or one of these after a `\`, or `\u` and four digits
abbrev pub is_character : Text → Bool
is_character (c ∷ []) = nat_le 32 c && nat_le c 126 && not (c == 34) && not (c == 92)
is_character (c ∷ e ∷ []) = c == 92 && is_short e
is_character (c ∷ u ∷ h ∷ i ∷ j ∷ k ∷ []) = c == 92 && u == 117 && is_hex h && is_hex i && is_hex j && is_hex k
is_character text = false

-- THE LAW: whatever the bytes of a text are, what is written of it between two quotation marks is characters, and no more
abbrev pub StringsAreWhole : Type 0
StringsAreWhole = (text : Text) → All (λ b. b < 256) text
    → (characters : List Text) × (escaped text ≡ flat_map (λ c. c) characters) × (list_all is_character characters ≡ true)
