-- What a process writes, and its exit status.
use Rattle.std.specs.Prelude.{◌≡◌, ℕ, Bool, true, false, List, Option, Some, None, Result, Ok, IfSome, ⊤}
use Rattle.std.specs.Io.KnownBytes.{Keeps, append_known}
use Rattle.std.specs.declared.io.Error.{Error}
use Rattle.outcomes.specs.declared.outcome.Outcome.{Outcome}
use Rattle.outcomes.specs.Outcomes.{outcome_status}
use Rattle.commands.specs.Answered.{ServesWords}
use Rattle.keeping.specs.Kept.{HasRead}
use Rattle.process.specs.declared.sending.HintSent.{HintSent}
use Rattle.process.specs.HintSent.{Account, Speaks}

-- STANDARD OUTPUT
-- All that was served is there, and the outcome is that of serving. Or a write failed: the end of it may be missing.
abbrev pub Flushes : {E : Type 0} → Option (List ℕ) → Option (List ℕ) → Result Outcome E → Option Outcome → Type 0
Flushes all new served (Some outcome) = Keeps all new × (served ≡ Ok outcome)
Flushes all new served None = (rest : List ℕ) × Keeps all (append_known new rest)

-- Standard output held `old`, and holds `new`: what it held before, followed by what is printed for these words and for what standard input had.
abbrev pub Answers : List (List ℕ) → Option (List ℕ) → Option (List ℕ) → Option (List ℕ) → Option Outcome → Type 0
Answers words remaining old new outcome =
    (all : Option (List ℕ)) × (served : Result Outcome Error) × ServesWords words remaining served old all × Flushes all new served outcome

-- the exit status: that of the outcome, and 1 where a write failed
abbrev pub exits : Option Outcome → ℕ
exits None = 1
exits (Some outcome) = outcome_status outcome

-- STANDARD ERROR
-- The explanation of a run is of these words, of all that was read, unless that was not stored, and of the outcome.
abbrev pub Explains : Account → List (List ℕ) → Option (List ℕ) → Option (List ℕ) → Option Outcome → Option (List ℕ) → Type 0
Explains accounts words remaining left outcome text =
    (input : Option (List ℕ)) × IfSome input (λ xs. HasRead remaining left xs) × accounts words input outcome text

-- THE PROCESS
-- `remaining` and `left` are what standard input has before and after; `old` and `new` what standard output holds, and `silent` and `spoken` what
-- standard error holds.
-- `outcome` is the outcome of the words, where no write failed.
pub record Ends (accounts : Account) (words : List (List ℕ)) (remaining left old new silent spoken : Option (List ℕ)) (outcome : Option Outcome)
    (status : ℕ) (hint_sent : HintSent) : Type 0 where
  pub answers : Answers words remaining old new outcome
  pub exit : status ≡ exits outcome
  pub explains : Speaks (Explains accounts words remaining left outcome) silent spoken hint_sent

-- THE HINTS OF ETS: the outcome is one for which a hint is wanted, or it is not
abbrev pub IsWanted : Bool → HintSent → Type 0
IsWanted wanted HintSent.Nothing = wanted ≡ false
IsWanted wanted HintSent.Hint = wanted ≡ true
IsWanted wanted HintSent.Beginning = wanted ≡ true
IsWanted wanted HintSent.Unknown = ⊤
