-- WHAT AN EXPORT GIVES of an input: the text that the command prints of it.
use Rattle.std.specs.Prelude.{◌≡◌, ℕ, ◌<◌, ◌≤◌, ◌⊎◌, List, [], length, Option, Some, Result, Ok, Err}
use Rattle.std.specs.declared.io.Error.{Error}
use Rattle.outcomes.specs.declared.refusal.Refusal.{Refusal}
use Rattle.outcomes.specs.declared.outcome.Outcome.{Outcome}
use Rattle.commands.specs.Refusals.{refusal_line}
use Rattle.answers.specs.Answers.{result_of}
use Rattle.answers.specs.Filled.{filled}
use Rattle.answers.specs.declared.result.EtsResult.{EtsResult}

-- what a command prints, and with which outcome, where its writer held this and then that
abbrev pub Printing : Type 1
Printing = Result Outcome Error → Option (List ℕ) → Option (List ℕ) → Type 0

-- the text is the line of the refusal
abbrev pub IsRefusal : Refusal → Outcome → List ℕ → Type 0
IsRefusal f outcome text = (outcome ≡ Outcome.Refused f) × (text ≡ refusal_line f)

-- The command prints this text of the input. An input that is too long for it is refused as it refuses it, and so is one for which a growth was refused.
abbrev pub Told : Printing → List ℕ → Outcome → List ℕ → Type 0
Told Prints input outcome text =
    ((length input ≤ 67108864) × Prints (Ok outcome) (Some []) (Some text))
    ⊎ (((67108864 < length input) × IsRefusal Refusal.Input outcome text) ⊎ IsRefusal Refusal.Memory outcome text)

-- The buffer, which held `old`, has the text where it is long enough, and what is said of it tells how long it is.
pub record Answers (outcome : Outcome) (text old new : List ℕ) (said : EtsResult) : Type 0 where
  pub written : new ≡ filled text old
  pub result : said ≡ result_of outcome (length text) (length old)

-- So the buffer has what the command prints of the input.
pub record Gives (Prints : Printing) (input old new : List ℕ) (said : EtsResult) : Type 0 where
  pub outcome : Outcome
  pub text : List ℕ
  pub told : Told Prints input outcome text
  pub answers : Answers outcome text old new said

-- WHAT IS ANSWERED where this was printed: the text of the outcome; or that memory was refused, where it could not be printed.
abbrev pub Answered : Result Outcome Error → List ℕ → List ℕ → List ℕ → EtsResult → Type 0
Answered (Ok outcome) text old new said = Answers outcome text old new said
Answered (Err e) text old new said = Answers (Outcome.Refused Refusal.Memory) (refusal_line Refusal.Memory) old new said
