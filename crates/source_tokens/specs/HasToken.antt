-- WHAT IS READ IS IN THE TEXT. Words, numbers and names are whole runs.
use Rattle.std.specs.Prelude.{◌≡◌, ℕ, ◌^◌, ◌≤◌, true, List, length, take, drop, take_while}
use Rattle.std.specs.Str.Parse.{digits_value}
use Rattle.source.specs.declared.token.Token.{Token}
use Rattle.source.specs.declared.token.TokenKind.{TokenKind}
use Rattle.source.specs.declared.token.TokenKind.TheVariants.{Word, Mark, Number, Name}
use Rattle.source.specs.Tokens.{begins, is_run_byte, is_numeral, IsSpelledName, keyword_text, sign_text}

-- the run that a text begins with
abbrev pub run_of : List ℕ → List ℕ
run_of rest = take_while is_run_byte rest

-- the run is the digits of a number, which is at most 2 ^ 63
pub record BeginsWithNumber (rest : List ℕ) (number : ℕ) : Type 0 where
  pub numeral : is_numeral (run_of rest) ≡ true
  pub value : digits_value 10 (run_of rest) ≡ number
  pub small : number ≤ 2 ^ 63

-- the run is a name of so many bytes
pub record BeginsWithName (rest : List ℕ) (len : ℕ) : Type 0 where
  pub name : IsSpelledName (run_of rest)
  pub its_len : length (run_of rest) ≡ len
  pub its_bytes : take len rest ≡ run_of rest

abbrev pub BeginsWith : List ℕ → TokenKind → Type 0
BeginsWith rest (Word keyword) = run_of rest ≡ keyword_text keyword
BeginsWith rest (Mark sign) = begins (sign_text sign) rest ≡ true
BeginsWith rest (Number number) = BeginsWithNumber rest number
BeginsWith rest (Name len) = BeginsWithName rest len

-- the text has the token at its place
abbrev pub HasToken : List ℕ → Token → Type 0
HasToken text token = BeginsWith (drop token.at text) token.kind
