-- What explains what was read explains the run.
use Rattle.std.proofs.Common.{◌≡◌, ℕ, List, ◌++◌, subst}
use Rattle.std.specs.Prelude.{Option, Some, None, IfSome, option_map}
use Rattle.keeping.specs.Kept.{HasRead}
use Rattle.outcomes.specs.declared.outcome.Outcome.{Outcome}
use Rattle.process.specs.declared.sending.HintSent.{HintSent}
use Rattle.process.specs.HintSent.{Account, Speaks}
use Rattle.process.specs.Process.{Answers, Explains}

-- the same of equal bytes
pub answers_of : (words : List (List ℕ)) (remaining had old held new holds : Option (List ℕ)) (outcome : Option Outcome) → remaining ≡ had → old
    ≡ held → new ≡ holds
    → Answers words remaining old new outcome → Answers words had held holds outcome
answers_of words remaining had old held new holds outcome read before after answers =
    subst (λ r. Answers words r held holds outcome) read (subst (λ o. Answers words remaining o holds outcome) before
    (subst (λ n. Answers words remaining old n outcome) after answers))

pub reads_of : {A : Type 0} (bytes : A → List ℕ) (input : Option A) (remaining had left rest : Option (List ℕ)) → remaining ≡ had → left ≡ rest
    → IfSome input (λ i. HasRead remaining left (bytes i))
    → IfSome (option_map bytes input) (λ xs. HasRead had rest xs)
reads_of bytes None remaining had left rest before after has = tt
reads_of bytes (Some i) remaining had left rest before after has = subst (λ r. HasRead r rest (bytes i)) before
    (subst (λ l. HasRead remaining l (bytes i)) after has)

module _ (accounts : Account) (words : List (List ℕ)) (remaining left input : Option (List ℕ)) (outcome : Option Outcome)
    (has_read : IfSome input (λ xs. HasRead remaining left xs)) where
  explained : (text : Option (List ℕ)) → accounts words input outcome text → Explains accounts words remaining left outcome text
  explained text is = (input, has_read, is)

  pub explained_run : (silent spoken : Option (List ℕ)) (hint_sent : HintSent) → Speaks (accounts words input outcome) silent spoken hint_sent
      → Speaks (Explains accounts words remaining left outcome) silent spoken hint_sent
  explained_run silent spoken HintSent.Nothing is = (explained None is.0, is.1)
  explained_run silent spoken HintSent.Hint is = (is.0, explained (Some is.0) is.1, is.2)
  explained_run silent spoken HintSent.Beginning is = (is.0, is.1, explained (Some (is.0 ++ is.1)) is.2, is.3)
  explained_run silent spoken HintSent.Unknown is = is
