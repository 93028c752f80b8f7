-- What a text begins with, as the code says it.
use Rattle.std.specs.Prelude.{ℕ, ◌∷◌, [], ◌^◌, ◌&&◌, nat_le, nat_lt, List, find, Option, Some, None, if◌then◌else◌}
use Rattle.std.specs.Str.Parse.{digits_value}
use Rattle.source.specs.Tokens as defined
use Rattle.source.specs.Tokens.{beginning, begins, is_numeral, sign_read, sign_text, signs}
use Rattle.source_tokens.specs.declared.beginning.Beginning.{Beginning}
use Rattle.source_tokens.specs.declared.beginning.Beginning.TheVariants.{Skipped, Read, Refused}

abbrev pub said : Beginning → defined.Beginning
said (Skipped len) = defined.Skipped len
said (Read kind len) = defined.Read kind len
said (Refused kind) = defined.Refused kind

-- what a text begins with, unless it is empty
abbrev pub opening : List ℕ → Option defined.Beginning
opening [] = None
opening (b ∷ bytes) = Some (beginning b bytes)

-- the value of some digits, where 64 bits have it
abbrev pub value_of : List ℕ → Option ℕ
value_of run = if nat_lt (digits_value 10 run) (2 ^ 64) then Some (digits_value 10 run) else None

-- the number that a run is
abbrev pub number_of : List ℕ → Option ℕ
number_of run = if is_numeral run && nat_le (digits_value 10 run) (2 ^ 63) then Some (digits_value 10 run) else None

-- what a text begins with, if that is no blank, comment or run
abbrev pub sign_beginning : ℕ → List ℕ → defined.Beginning
sign_beginning b bytes = sign_read (find (λ s. begins (sign_text s) (b ∷ bytes)) signs)
