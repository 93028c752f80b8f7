-- The hints of `ets`.
use Rattle.std.specs.Prelude.{◌≡◌, ℕ, List, Option, IfSome, is_some}
use Rattle.outcomes.specs.declared.outcome.Outcome.{Outcome}
use Rattle.hints.specs.declared.line.Hint.{Hint}
use Rattle.hints.specs.Hints.{hint_text, wants_hint}

-- the text of a hint
abbrev pub text_of : {A : Type 0} → Hint A → List ℕ
text_of hint = hint_text hint.place hint.cause

-- a hint, exactly where one is wanted
abbrev pub accounts_by_hint : List (List ℕ) → Option (List ℕ) → Option Outcome → Option (List ℕ) → Type 0
accounts_by_hint words input outcome text =
    (is_some text ≡ wants_hint outcome) × IfSome text (λ t. (place : Option (List ℕ)) × (cause : List ℕ) × (t ≡ hint_text place cause))
