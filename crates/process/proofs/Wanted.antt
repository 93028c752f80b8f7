-- A hint is reported exactly where one is wanted.
use Rattle.std.proofs.Common.{ℕ, List, Result, Ok, Err, sym}
use Rattle.std.specs.Prelude.{Option, IfOk, MatchResult}
use Rattle.outcomes.specs.declared.outcome.Outcome.{Outcome}
use Rattle.hints.specs.Hints.{wants_hint}
use Rattle.process.specs.declared.sending.HintSent.{HintSent}
use Rattle.process.specs.HintSent.{Speaks}
use Rattle.process.specs.Hinted.{accounts_by_hint}
use Rattle.process.specs.Process.{Explains, IsWanted}

pub is_wanted : (words : List (List ℕ)) (remaining left silent spoken : Option (List ℕ)) (outcome : Option Outcome) (hint_sent : HintSent)
    → Speaks (Explains accounts_by_hint words remaining left outcome) silent spoken hint_sent
    → IsWanted (wants_hint outcome) hint_sent
is_wanted words remaining left silent spoken outcome HintSent.Nothing speaks = sym speaks.0.2.0
is_wanted words remaining left silent spoken outcome HintSent.Hint speaks = sym speaks.1.2.0
is_wanted words remaining left silent spoken outcome HintSent.Beginning speaks = sym speaks.2.2.0
is_wanted words remaining left silent spoken outcome HintSent.Unknown speaks = tt

pub ok_of : {T E : Type 0} (r : Result T E) (P : T → Type 0) (Q : E → Type 0) (R : T → Type 0) → ((x : T) → P x → R x) → MatchResult r P Q → IfOk r R
ok_of (Ok x) P Q R f h = f x h
ok_of (Err e) P Q R f h = tt
