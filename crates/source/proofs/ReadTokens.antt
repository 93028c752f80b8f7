-- Small texts with their tokens.
use Rattle.std.specs.Prelude.{◌≡◌, ℕ, ◌^◌, List, [], ◌∷◌, ◌++◌, codes, Result, Ok, Err, refl}
use Rattle.source.specs.declared.fault.Fault.{Fault}
use Rattle.source.specs.declared.fault.FaultKind.{FaultKind}
use Rattle.source.specs.declared.fault.FaultKind.TheVariants.{BadByte, BadNumber, BadName}
use Rattle.source.specs.declared.token.Keyword.TheVariants as word
use Rattle.source.specs.declared.token.Sign.TheVariants.{Arrow, Becomes, ShiftLeft, AtMost, Minus, Tilde, OpenParen, CloseParen, OpenBrace}
use Rattle.source.specs.declared.token.Sign.TheVariants.{CloseBrace, Slash, Underscore}
use Rattle.source.specs.declared.token.TokenKind.{TokenKind}
use Rattle.source.specs.declared.token.TokenKind.TheVariants.{Word, Mark, Number, Name}
use Rattle.source.specs.declared.token.Token.{Token}
use Rattle.source.specs.Tokens.{program_of, inputs_of, position, lexed}

abbrev token : TokenKind → ℕ → Token
token kind at = record { kind = kind; at = at }

abbrev refused : FaultKind → ℕ → Result (List Token) Fault
refused kind at = Err (record { kind = kind; at = at })

-- a line feed
abbrev newline : List ℕ
newline = 10 ∷ []

-- a whole function
function : lexed (codes "fn f(n)->2{n}") ≡ Ok (
    token (Word word.Fn) 0 ∷ token (Name 1) 3 ∷ token (Mark OpenParen) 4 ∷ token (Name 1) 5 ∷ token (Mark CloseParen) 6 ∷ token (Mark Arrow) 7 ∷ token
    (Number 2) 9
    ∷ token (Mark OpenBrace) 10 ∷ token (Name 1) 11 ∷ token (Mark CloseBrace) 12 ∷ [])
function = refl

-- the longest sign is read, from left to right
munched : lexed (codes "<<<=:=/--~_") ≡ Ok (
    token (Mark ShiftLeft) 0 ∷ token (Mark AtMost) 2 ∷ token (Mark Becomes) 4 ∷ token (Mark Slash) 6 ∷ token (Mark Minus) 7 ∷ token (Mark Minus) 8 ∷ token
    (Mark Tilde) 9
    ∷ token (Mark Underscore) 10 ∷ [])
munched = refl

-- so is the longest word
longest_word : lexed (codes "iff if loops") ≡ Ok (token (Name 3) 0 ∷ token (Word word.If) 4 ∷ token (Name 5) 7 ∷ [])
longest_word = refl

-- a comment ends with its line, and may have any byte in it
comment : lexed (codes "a // b?" ++ newline ++ codes "c") ≡ Ok (token (Name 1) 0 ∷ token (Name 1) 8 ∷ [])
comment = refl

last_comment : lexed (codes "a//") ≡ Ok (token (Name 1) 0 ∷ [])
last_comment = refl

nothing : lexed (codes " ") ≡ Ok []
nothing = refl

-- the largest number, and what is none
largest : lexed (codes "9223372036854775808 0") ≡ Ok (token (Number (2 ^ 63)) 0 ∷ token (Number 0) 20 ∷ [])
largest = refl

too_large : lexed (codes "1 9223372036854775809") ≡ refused BadNumber 2
too_large = refl

leading_zero : lexed (codes "007") ≡ refused BadNumber 0
leading_zero = refl

hexadecimal : lexed (codes "0x1f") ≡ refused BadNumber 0
hexadecimal = refl

-- names of 24 bytes and of 25
long_name : lexed (codes "a234567890123456789012_4") ≡ Ok (token (Name 24) 0 ∷ [])
long_name = refl

too_long : lexed (codes "a23456789012345678901234x") ≡ refused BadName 0
too_long = refl

double : lexed (codes "f a__b") ≡ refused BadName 2
double = refl

begins_with_underscore : lexed (codes "_x") ≡ refused BadName 0
begins_with_underscore = refl

kept_word : lexed (codes "match") ≡ refused BadName 0
kept_word = refl

-- `!` and `?` begin no token
bad_byte : lexed (codes "n ! n") ≡ refused BadByte 2
bad_byte = refl

-- the first fault counts
first_fault : lexed (codes "a 0x ?") ≡ refused BadNumber 2
first_fault = refl

-- the program ends before the line that is `inputs`, and what follows that line is copied
program_and_inputs : program_of (codes "f inputs" ++ newline ++ codes "inputs" ++ newline ++ codes "6" ++ newline) ≡ codes "f inputs" ++ newline
program_and_inputs = refl

inputs_follow : inputs_of (codes "f inputs" ++ newline ++ codes "inputs" ++ newline ++ codes "6" ++ newline) ≡ codes "6" ++ newline
inputs_follow = refl

-- a line with more on it is none
no_such_line : program_of (codes "inputs " ++ newline) ≡ codes "inputs " ++ newline
no_such_line = refl

no_inputs : inputs_of (codes "inputs " ++ newline) ≡ []
no_inputs = refl

-- the last line needs no line feed
last_line : program_of (codes "inputs") ≡ []
last_line = refl

nothing_follows : inputs_of (codes "inputs") ≡ []
nothing_follows = refl

-- lines and columns count from 1
second_line : position (codes "ab" ++ newline ++ codes "cd") 4 ≡ record { line = 2; column = 2 }
second_line = refl

behind_the_end : position (codes "ab" ++ newline) 3 ≡ record { line = 2; column = 1 }
behind_the_end = refl
