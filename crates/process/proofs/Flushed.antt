-- What is left of an answer in the buffer.
use Rattle.std.proofs.Common.{◌≡◌, ℕ, List, [], ap, ◌∙◌, subst, refl}
use Rattle.std.specs.Prelude.{Option, Some, None, Result, Ok, IfSome}
use Rattle.std.specs.Io.KnownBytes.{Keeps, append_known}
use Rattle.std.proofs.lemmas.List.{append-nil}
use Rattle.outcomes.specs.declared.outcome.Outcome.{Outcome}
use Rattle.process.specs.Process.{Flushes}

pub nothing_more : (known : Option (List ℕ)) → append_known known [] ≡ known
nothing_more None = refl
nothing_more (Some xs) = ap Some (append-nil xs)

-- the bytes of a new buffered writer are those of the writer inside
pub begins : (known held : Option (List ℕ)) (buffer : List ℕ) → known ≡ held → buffer ≡ [] → append_known known buffer ≡ held
begins known held buffer same empty = ap (λ b. append_known known b) empty ∙ (nothing_more known ∙ same)

pub flushes : {E : Type 0} (all new : Option (List ℕ)) (buffer : List ℕ) (served : Result Outcome E) (outcome : Option Outcome)
    → Keeps all (append_known new buffer)
    → IfSome outcome (λ o. (served ≡ Ok o) × (buffer ≡ [])) → Flushes all new served outcome
flushes all new buffer served None keeps whole = (buffer, keeps)
flushes all new buffer served (Some o) keeps whole =
    (subst (λ (k : Option (List ℕ)). Keeps all k) (nothing_more new) (subst (λ (b : List ℕ). Keeps all (append_known new b)) whole.1 keeps), whole.0)
