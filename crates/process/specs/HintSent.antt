-- What is reported on standard error.
use Rattle.std.specs.Prelude.{ℕ, List, ◌++◌, Option, Some, None}
use Rattle.std.specs.Io.KnownBytes.{Keeps, Appends}
use Rattle.outcomes.specs.declared.outcome.Outcome.{Outcome}
use Rattle.process.specs.declared.sending.HintSent.{HintSent}

-- what may be said of words, of an input, if it was stored, and of the outcome, where that was written whole: a text, or nothing
abbrev pub Account : Type 1
Account = List (List ℕ) → Option (List ℕ) → Option Outcome → Option (List ℕ) → Type 0

-- Standard error holds what it held before, and then the text that explains the run; a beginning of that after a fault; else nothing more.
abbrev pub Speaks : (Option (List ℕ) → Type 0) → Option (List ℕ) → Option (List ℕ) → HintSent → Type 0
Speaks Explains old new HintSent.Nothing = Explains None × Keeps old new
Speaks Explains old new HintSent.Hint = (text : List ℕ) × Explains (Some text) × Appends old new text
Speaks Explains old new HintSent.Beginning = (front : List ℕ) × (rest : List ℕ) × Explains (Some (front ++ rest)) × Appends old new front
Speaks Explains old new HintSent.Unknown = Keeps old new
