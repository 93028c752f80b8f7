-- WHAT IS READ IS IN THE TEXT. Words, numbers and names are whole runs; numbers and names are those of the core.
use Rattle.std.specs.Prelude.{◌≡◌, ℕ, true, List, drop}
use Rattle.source.specs.Tokens.{begins}
use Rattle.source_tokens.specs.HasToken.{run_of, BeginsWithNumber, BeginsWithName}
use Rattle.surface.specs.declared.token.Token.{Token}
use Rattle.surface.specs.declared.token.TokenKind.{TokenKind}
use Rattle.surface.specs.declared.token.TokenKind.TheVariants.{Word, Mark, Number, Name}
use Rattle.surface.specs.Tokens.{keyword_text, sign_text}

abbrev pub BeginsWith : List ℕ → TokenKind → Type 0
BeginsWith rest (Word keyword) = run_of rest ≡ keyword_text keyword
BeginsWith rest (Mark sign) = begins (sign_text sign) rest ≡ true
BeginsWith rest (Number number) = BeginsWithNumber rest number
BeginsWith rest (Name len) = BeginsWithName rest len

-- the text has the token at its place
abbrev pub HasToken : List ℕ → Token → Type 0
HasToken text token = BeginsWith (drop token.at text) token.kind
