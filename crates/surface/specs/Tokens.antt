-- THE TOKENS OF A TEXT with derived forms. Blanks, runs, numbers and names are as in the core, where each of the new words is
-- reserved: so each name of the core is one here, and there are no others.
use Rattle.std.specs.Prelude.{ℕ, zero, suc, ◌+◌, ◌-◌, ◌^◌, ◌&&◌, not, nat_le, Bool, List, [], ◌∷◌, ◌++◌, map, length, find, bytes_eq}
use Rattle.std.specs.Prelude.{take_while, codes, Option, None, Some, Result, Ok, Err, if◌then◌else◌}
use Rattle.std.specs.List.{list_any}
use Rattle.std.specs.Char.{is_ascii_digit}
use Rattle.std.specs.Str.Parse.{digits_value}
use Rattle.source.specs.declared.fault.FaultKind.TheVariants as core_fault
use Rattle.source.specs.Tokens as core
use Rattle.source.specs.Tokens.{begins, line_from, is_blank, is_run_byte, is_numeral, has_double}
use Rattle.source.specs.declared.token.Sign.TheVariants as core_sign
use Rattle.surface.specs.declared.fault.Fault.{Fault}
use Rattle.surface.specs.declared.fault.FaultKind.{FaultKind}
use Rattle.surface.specs.declared.fault.FaultKind.TheVariants as fault
use Rattle.surface.specs.declared.token.Keyword.{Keyword}
use Rattle.surface.specs.declared.token.Keyword.TheVariants as word
use Rattle.surface.specs.declared.token.Sign.{Sign}
use Rattle.surface.specs.declared.token.Sign.TheVariants as sign
use Rattle.surface.specs.declared.token.TokenKind.{TokenKind}
use Rattle.surface.specs.declared.token.TokenKind.TheVariants.{Word, Mark, Number, Name}
use Rattle.surface.specs.declared.token.Token.{Token}

abbrev pub keyword_text : Keyword → List ℕ
keyword_text (word.Core k) = core.keyword_text k
keyword_text word.Const = codes "const"
keyword_text word.For = codes "for"
keyword_text word.In = codes "in"
keyword_text word.With = codes "with"
keyword_text word.And = codes "and"
keyword_text word.Or = codes "or"
keyword_text word.Not = codes "not"

abbrev pub keywords : List Keyword
keywords = map (λ k. word.Core k) core.keywords ++ word.Const ∷ word.For ∷ word.In ∷ word.With ∷ word.And ∷ word.Or ∷ word.Not ∷ []

-- reserved words, which are neither used nor names
abbrev pub kept : List (List ℕ)
kept =
    codes "as" ∷ codes "break" ∷ codes "case" ∷ codes "do" ∷ codes "end" ∷ codes "false" ∷ codes "match" ∷ codes "mod" ∷ codes "return"
    ∷ codes "then" ∷ codes "true" ∷ codes "type" ∷ codes "use" ∷ codes "where" ∷ codes "xor" ∷ []

abbrev pub sign_text : Sign → List ℕ
sign_text (sign.Core s) = core.sign_text s
sign_text sign.Range = codes ".."

-- the signs that are no run: the first one that a text begins with is the longest
abbrev pub signs : List Sign
signs = sign.Range ∷ map (λ s. sign.Core s) core.signs

-- What a text that is not empty begins with: bytes that are no token, a token of so many bytes, or a fault.
pub data Beginning : Type 0 where
  Skipped : (len : ℕ) → Beginning
  Read : (kind : TokenKind) (len : ℕ) → Beginning
  Refused : (kind : FaultKind) → Beginning

abbrev pub numeral_run : List ℕ → Beginning
numeral_run run = if is_numeral run && nat_le (digits_value 10 run) (2 ^ 63) then Read (Number (digits_value 10 run)) (length run) else Refused (fault.Core
    core_fault.BadNumber)

-- A run from a letter on that is no keyword: at most 24 bytes, no `__` in it, not reserved.
abbrev pub is_name : List ℕ → Bool
is_name run = not (begins (codes "_") run) && nat_le (length run) 24 && not (has_double run) && not (list_any (bytes_eq run) kept)

abbrev pub name_run : List ℕ → Beginning
name_run run = if is_name run then Read (Name (length run)) (length run) else Refused (fault.Core core_fault.BadName)

-- the keyword that a run is
abbrev pub keyword_of : List ℕ → Option Keyword
keyword_of run = find (λ k. bytes_eq run (keyword_text k)) keywords

abbrev pub keyword_or_name : List ℕ → Option Keyword → Beginning
keyword_or_name run (Some k) = Read (Word k) (length run)
keyword_or_name run None = name_run run

abbrev pub word_run : List ℕ → Beginning
word_run run = if bytes_eq run (codes "_") then Read (Mark (sign.Core core_sign.Underscore)) 1 else keyword_or_name run (keyword_of run)

abbrev pub run_read : ℕ → List ℕ → Beginning
run_read b run = if is_ascii_digit b then numeral_run run else word_run run

abbrev pub sign_read : Option Sign → Beginning
sign_read (Some s) = Read (Mark s) (length (sign_text s))
sign_read None = Refused (fault.Core core_fault.BadByte)

abbrev pub one_more : Option ℕ → Option ℕ
one_more None = None
one_more (Some n) = Some (1 + n)

-- how many bytes there are up to the end of the first `*/`
abbrev pub comment_len : List ℕ → Option ℕ
comment_len [] = None
comment_len (b ∷ bytes) = if begins (codes "*/") (b ∷ bytes) then Some 2 else one_more (comment_len bytes)

-- A comment from `/*` on, with what is after these two bytes: it ends with the next `*/`.
abbrev pub comment_read : Option ℕ → Beginning
comment_read (Some n) = Skipped (2 + n)
comment_read None = Refused fault.BadComment

abbrev pub behind : List ℕ → List ℕ
behind [] = []
behind (b ∷ bytes) = bytes

-- Maximal munch: a comment goes up to the end of its line or its `*/`, and a run is as long as it can be.
abbrev pub beginning : ℕ → List ℕ → Beginning
beginning b bytes =
    if is_blank b then Skipped 1
    else if begins (codes "//") (b ∷ bytes) then Skipped (length (line_from (b ∷ bytes)))
    else if begins (codes "/*") (b ∷ bytes) then comment_read (comment_len (behind bytes))
    else if is_run_byte b then run_read b (take_while is_run_byte (b ∷ bytes))
    else sign_read (find (λ s. begins (sign_text s) (b ∷ bytes)) signs)

abbrev pub preceded : Token → Result (List Token) Fault → Result (List Token) Fault
preceded t (Ok ts) = Ok (t ∷ ts)
preceded t (Err fault) = Err fault

-- the result of a beginning at a place, where `lexed_past n` has the tokens that follow n more bytes
abbrev pub lexed_then : ℕ → Beginning → (ℕ → Result (List Token) Fault) → Result (List Token) Fault
lexed_then at (Skipped len) lexed_past = lexed_past (len - 1)
lexed_then at (Read kind len) lexed_past = preceded (record { kind = kind; at = at }) (lexed_past (len - 1))
lexed_then at (Refused kind) lexed_past = Err (record { kind = kind; at = at })

-- the tokens of a text from a place on, where so many bytes belong to what was read before
abbrev pub lexed_from : List ℕ → ℕ → ℕ → Result (List Token) Fault
lexed_from [] at past = Ok []
lexed_from (b ∷ bytes) at (suc past) = lexed_from bytes (at + 1) past
lexed_from (b ∷ bytes) at zero = lexed_then at (beginning b bytes) (λ n. lexed_from bytes (at + 1) n)

-- THE TOKENS OF A PROGRAM'S TEXT, or its first fault
abbrev pub lexed : List ℕ → Result (List Token) Fault
lexed text = lexed_from text 0 0
