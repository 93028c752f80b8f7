-- What a text begins with, as the code says it: what it begins with in the core, and what is new.
use Rattle.std.specs.Prelude.{ℕ, List, [], ◌∷◌, length, find, bytes_eq, Option, Some, None}
use Rattle.source.specs.declared.fault.FaultKind.{FaultKind as CoreFaultKind}
use Rattle.source.specs.declared.fault.FaultKind.TheVariants as core_fault
use Rattle.source.specs.declared.token.TokenKind.{TokenKind as CoreTokenKind}
use Rattle.source.specs.declared.token.TokenKind.TheVariants as core_kind
use Rattle.source.specs.Tokens as core
use Rattle.surface.specs.declared.fault.FaultKind.TheVariants as fault
use Rattle.surface.specs.declared.token.Keyword.{Keyword}
use Rattle.surface.specs.declared.token.Keyword.TheVariants as word
use Rattle.surface.specs.declared.token.Sign.TheVariants as sign
use Rattle.surface.specs.declared.token.TokenKind.{TokenKind}
use Rattle.surface.specs.declared.token.TokenKind.TheVariants.{Word, Mark, Number, Name}
use Rattle.surface.specs.Tokens as defined
use Rattle.surface.specs.Tokens.{beginning, keyword_text}
use Rattle.surface_tokens.specs.declared.beginning.Beginning.{Beginning}
use Rattle.surface_tokens.specs.declared.beginning.Beginning.TheVariants.{Skipped, Read, Refused}

abbrev pub said : Beginning → defined.Beginning
said (Skipped len) = defined.Skipped len
said (Read kind len) = defined.Read kind len
said (Refused kind) = defined.Refused kind

-- what a text begins with, unless it is empty
abbrev pub opening : List ℕ → Option defined.Beginning
opening [] = None
opening (b ∷ bytes) = Some (beginning b bytes)

-- a token of the core as one of this language
abbrev pub lifted : CoreTokenKind → TokenKind
lifted (core_kind.Word k) = Word (word.Core k)
lifted (core_kind.Mark s) = Mark (sign.Core s)
lifted (core_kind.Number n) = Number n
lifted (core_kind.Name len) = Name len

-- the words that the core has not
abbrev pub new_words : List Keyword
new_words = word.Const ∷ word.For ∷ word.In ∷ word.With ∷ word.And ∷ word.Or ∷ word.Not ∷ []

abbrev pub new_word : List ℕ → Option Keyword
new_word run = find (λ k. bytes_eq run (keyword_text k)) new_words

abbrev pub word_or_fault : List ℕ → Option Keyword → defined.Beginning
word_or_fault run (Some k) = defined.Read (Word k) (length run)
word_or_fault run None = defined.Refused (fault.Core core_fault.BadName)

-- a run that the core refuses
abbrev pub refused_run : List ℕ → defined.Beginning
refused_run run = word_or_fault run (new_word run)

abbrev pub refusal : List ℕ → CoreFaultKind → defined.Beginning
refusal run core_fault.BadName = refused_run run
refusal run kind = defined.Refused (fault.Core kind)

-- what a text begins with in the core, with the run that it begins with, as this language has it
abbrev pub with_forms : List ℕ → core.Beginning → defined.Beginning
with_forms run (core.Skipped len) = defined.Skipped len
with_forms run (core.Read kind len) = defined.Read (lifted kind) len
with_forms run (core.Refused kind) = refusal run kind
