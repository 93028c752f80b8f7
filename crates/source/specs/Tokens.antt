-- THE TEXT OF A PROGRAM, AND ITS TOKENS. A text is its bytes, and a place in it is the number of bytes before it.
use Rattle.std.specs.Prelude.{◌≡◌, ℕ, zero, suc, ◌+◌, ◌-◌, ◌^◌, ◌==◌, ◌&&◌, ◌||◌, not, nat_le, Bool, true, false, List, [], ◌∷◌, length, take, drop}
use Rattle.std.specs.Prelude.{fold, find, take_while, bytes_eq, codes, Option, None, Some, Result, Ok, Err, if◌then◌else◌}
use Rattle.std.specs.List.{list_all, list_any}
use Rattle.std.specs.Char.{is_ascii_digit, is_ascii_alphabetic, is_ascii_alphanumeric}
use Rattle.std.specs.Str.Parse.{digits_value}
use Rattle.source.specs.declared.fault.Fault.{Fault}
use Rattle.source.specs.declared.fault.FaultKind.{FaultKind}
use Rattle.source.specs.declared.fault.FaultKind.TheVariants.{BadByte, BadNumber, BadName}
use Rattle.source.specs.declared.token.Keyword.{Keyword}
use Rattle.source.specs.declared.token.Keyword.TheVariants as word
use Rattle.source.specs.declared.token.Sign.{Sign}
use Rattle.source.specs.declared.token.Sign.TheVariants.{Arrow, Becomes, ShiftLeft, ShiftRight, EqualTo, NotEqualTo, AtMost, AtLeast, Less, Greater}
use Rattle.source.specs.declared.token.Sign.TheVariants.{Equals, Plus, Minus, Star, Slash, Percent, Ampersand, Caret, Bar, Tilde, OpenParen}
use Rattle.source.specs.declared.token.Sign.TheVariants.{CloseParen, OpenBracket, CloseBracket, OpenBrace, CloseBrace, Comma, Semicolon, Underscore}
use Rattle.source.specs.declared.token.TokenKind.{TokenKind}
use Rattle.source.specs.declared.token.TokenKind.TheVariants.{Word, Mark, Number, Name}
use Rattle.source.specs.declared.token.Token.{Token}

-- PROGRAM AND INPUTS
-- whether the second list begins with the first
abbrev pub begins : List ℕ → List ℕ → Bool
begins [] bytes = true
begins (p ∷ ps) [] = false
begins (p ∷ ps) (b ∷ bytes) = p == b && begins ps bytes

-- the bytes up to the end of their line
abbrev pub line_from : List ℕ → List ℕ
line_from bytes = take_while (λ b. not (b == 10)) bytes

-- the lines before the first one that is exactly `inputs`, where `fresh` says that a line begins
abbrev pub lines_before_inputs : Bool → List ℕ → List ℕ
lines_before_inputs fresh [] = []
lines_before_inputs fresh (b ∷ bytes) = if fresh && bytes_eq (line_from (b ∷ bytes)) (codes "inputs") then [] else b ∷ lines_before_inputs (b == 10) bytes

-- the program: what is before that line, or all of the text where there is none
abbrev pub program_of : List ℕ → List ℕ
program_of text = lines_before_inputs true text

-- the inputs: what follows that line
abbrev pub inputs_of : List ℕ → List ℕ
inputs_of text = drop (length (program_of text) + 7) text

-- LINE AND COLUMN of a place, both from 1
pub record Position : Type 0 where
  pub line : ℕ
  pub column : ℕ

abbrev pub passed : Position → ℕ → Position
passed p b = if b == 10 then record { line = p.line + 1; column = 1 } else record { line = p.line; column = p.column + 1 }

abbrev pub position : List ℕ → ℕ → Position
position text at = fold passed (record { line = 1; column = 1 }) (take at text)

-- TOKENS
-- space, tab, carriage return and line feed
abbrev pub is_blank : ℕ → Bool
is_blank b = b == 32 || b == 9 || b == 13 || b == 10

-- a letter, a digit or `_`
abbrev pub is_run_byte : ℕ → Bool
is_run_byte b = is_ascii_alphanumeric b || b == 95

abbrev pub keyword_text : Keyword → List ℕ
keyword_text word.Array = codes "array"
keyword_text word.Fn = codes "fn"
keyword_text word.Let = codes "let"
keyword_text word.If = codes "if"
keyword_text word.Else = codes "else"
keyword_text word.Loop = codes "loop"
keyword_text word.While = codes "while"
keyword_text word.Strict = codes "strict"
keyword_text word.Inputs = codes "inputs"

abbrev pub keywords : List Keyword
keywords = word.Array ∷ word.Fn ∷ word.Let ∷ word.If ∷ word.Else ∷ word.Loop ∷ word.While ∷ word.Strict ∷ word.Inputs ∷ []

-- reserved words, which are neither used nor names
abbrev pub kept : List (List ℕ)
kept =
    codes "and" ∷ codes "as" ∷ codes "break" ∷ codes "case" ∷ codes "const" ∷ codes "do" ∷ codes "end" ∷ codes "false" ∷ codes "for" ∷ codes "in" ∷ codes
    "match"
    ∷ codes "mod" ∷ codes "not" ∷ codes "or" ∷ codes "return" ∷ codes "then" ∷ codes "true" ∷ codes "type" ∷ codes "use" ∷ codes "where" ∷ codes "with" ∷
    codes "xor" ∷ []

abbrev pub sign_text : Sign → List ℕ
sign_text Arrow = codes "->"
sign_text Becomes = codes ":="
sign_text ShiftLeft = codes "<<"
sign_text ShiftRight = codes ">>"
sign_text EqualTo = codes "=="
sign_text NotEqualTo = codes "!="
sign_text AtMost = codes "<="
sign_text AtLeast = codes ">="
sign_text Less = codes "<"
sign_text Greater = codes ">"
sign_text Equals = codes "="
sign_text Plus = codes "+"
sign_text Minus = codes "-"
sign_text Star = codes "*"
sign_text Slash = codes "/"
sign_text Percent = codes "%"
sign_text Ampersand = codes "&"
sign_text Caret = codes "^"
sign_text Bar = codes "|"
sign_text Tilde = codes "~"
sign_text OpenParen = codes "("
sign_text CloseParen = codes ")"
sign_text OpenBracket = codes "["
sign_text CloseBracket = codes "]"
sign_text OpenBrace = codes "{"
sign_text CloseBrace = codes "}"
sign_text Comma = codes ","
sign_text Semicolon = codes ";"
sign_text Underscore = codes "_"

-- the signs that are no run, those of two bytes first: the first one that a text begins with is the longest
abbrev pub signs : List Sign
signs =
    Arrow ∷ Becomes ∷ ShiftLeft ∷ ShiftRight ∷ EqualTo ∷ NotEqualTo ∷ AtMost ∷ AtLeast
    ∷ Less ∷ Greater ∷ Equals ∷ Plus ∷ Minus ∷ Star ∷ Slash ∷ Percent ∷ Ampersand ∷ Caret ∷ Bar ∷ Tilde
    ∷ OpenParen ∷ CloseParen ∷ OpenBracket ∷ CloseBracket ∷ OpenBrace ∷ CloseBrace ∷ Comma ∷ Semicolon ∷ []

-- What a text that is not empty begins with: bytes that are no token, a token of so many bytes, or a fault.
pub data Beginning : Type 0 where
  Skipped : (len : ℕ) → Beginning
  Read : (kind : TokenKind) (len : ℕ) → Beginning
  Refused : (kind : FaultKind) → Beginning

-- A run from a digit on: only digits, no leading zero, at most 2 ^ 63.
abbrev pub is_numeral : List ℕ → Bool
is_numeral run = list_all is_ascii_digit run && (not (begins (codes "0") run) || length run == 1)

abbrev pub numeral_run : List ℕ → Beginning
numeral_run run = if is_numeral run && nat_le (digits_value 10 run) (2 ^ 63) then Read (Number (digits_value 10 run)) (length run) else Refused BadNumber

-- whether two `_` are side by side
abbrev pub has_double : List ℕ → Bool
has_double [] = false
has_double (b ∷ bytes) = begins (codes "__") (b ∷ bytes) || has_double bytes

-- A run from a letter on that is no keyword: at most 24 bytes, no `__` in it, not reserved.
abbrev pub is_name : List ℕ → Bool
is_name run = not (begins (codes "_") run) && nat_le (length run) 24 && not (has_double run) && not (list_any (bytes_eq run) kept)

abbrev pub name_run : List ℕ → Beginning
name_run run = if is_name run then Read (Name (length run)) (length run) else Refused BadName

-- the keyword that a run is
abbrev pub keyword_of : List ℕ → Option Keyword
keyword_of run = find (λ k. bytes_eq run (keyword_text k)) keywords

abbrev pub begins_with_letter : List ℕ → Bool
begins_with_letter [] = false
begins_with_letter (b ∷ bytes) = is_ascii_alphabetic b

-- A name as a text has it.
pub record IsSpelledName (x : List ℕ) : Type 0 where
  pub run : list_all is_run_byte x ≡ true
  pub letter : begins_with_letter x ≡ true
  pub no_keyword : keyword_of x ≡ None
  pub name : is_name x ≡ true

abbrev pub keyword_or_name : List ℕ → Option Keyword → Beginning
keyword_or_name run (Some k) = Read (Word k) (length run)
keyword_or_name run None = name_run run

abbrev pub word_run : List ℕ → Beginning
word_run run = if bytes_eq run (codes "_") then Read (Mark Underscore) 1 else keyword_or_name run (keyword_of run)

abbrev pub run_read : ℕ → List ℕ → Beginning
run_read b run = if is_ascii_digit b then numeral_run run else word_run run

abbrev pub sign_read : Option Sign → Beginning
sign_read (Some s) = Read (Mark s) (length (sign_text s))
sign_read None = Refused BadByte

-- Maximal munch: a comment goes up to the end of its line, and a run is as long as it can be.
abbrev pub beginning : ℕ → List ℕ → Beginning
beginning b bytes =
    if is_blank b then Skipped 1
    else if begins (codes "//") (b ∷ bytes) then Skipped (length (line_from (b ∷ bytes)))
    else if is_run_byte b then run_read b (take_while is_run_byte (b ∷ bytes))
    else sign_read (find (λ s. begins (sign_text s) (b ∷ bytes)) signs)

abbrev pub preceded : Token → Result (List Token) Fault → Result (List Token) Fault
preceded t (Ok ts) = Ok (t ∷ ts)
preceded t (Err fault) = Err fault

-- the result of a beginning at a place, where `lexed_past n` has the tokens that follow n more bytes
abbrev pub lexed_then : ℕ → Beginning → (ℕ → Result (List Token) Fault) → Result (List Token) Fault
lexed_then at (Skipped len) lexed_past = lexed_past (len - 1)
lexed_then at (Read kind len) lexed_past = preceded (record { kind = kind; at = at }) (lexed_past (len - 1))
lexed_then at (Refused kind) lexed_past = Err (record { kind = kind; at = at })

-- the tokens of a text from a place on, where so many bytes belong to what was read before
abbrev pub lexed_from : List ℕ → ℕ → ℕ → Result (List Token) Fault
lexed_from [] at past = Ok []
lexed_from (b ∷ bytes) at (suc past) = lexed_from bytes (at + 1) past
lexed_from (b ∷ bytes) at zero = lexed_then at (beginning b bytes) (λ n. lexed_from bytes (at + 1) n)

-- THE TOKENS OF A PROGRAM'S TEXT, or its first fault
abbrev pub lexed : List ℕ → Result (List Token) Fault
lexed text = lexed_from text 0 0
