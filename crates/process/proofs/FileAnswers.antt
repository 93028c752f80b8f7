-- What is printed of a file, and what explains it.
use Rattle.std.proofs.Common.{◌≡◌, ◌⊎◌, ℕ, Bool, true, false, List, [], ◌++◌, inl, inr, subst, sym, refl}
use Rattle.std.specs.Prelude.{◌||◌, ⊤, Option, Some, None, Result, Ok, Err, MatchResult, Vec}
use Rattle.std.specs.declared.io.Error.{Error}
use Rattle.command_line.specs.declared.Request.{Request}
use Rattle.command_line.specs.declared.given.FileRequest.{FileRequest}
use Rattle.command_line.specs.declared.inputs.Inputs.{Inputs}
use Rattle.outcomes.specs.declared.outcome.Outcome.{Outcome}
use Rattle.outcomes.specs.declared.refusal.Refusal.{Refusal}
use Rattle.commands.specs.FileInputs.{IsInputOf, IsNoInputOf}
use Rattle.process.specs.declared.sending.HintSent.{HintSent}
use Rattle.process.specs.HintSent.{Account, Speaks}
use Rattle.process.specs.Files.{AnswersInput, AnswersRead, ChosenIf, ExplainsRead, Json, JsonIf, Mapped, Picked, Printing, PrintsFile, PrintsInput, Shown, asks_json, done}
use Rattle.json_text.specs.Json.{json_of}
use Rattle.sink.specs.Sends.{Sends}
use Rattle.sink.proofs.Sent.{sends_same}

-- what was read of the file, or why that is nothing
abbrev pub WasRead : {A : Type 0} → FileRequest → List ℕ → Result (Vec ℕ A) Refusal → Type 0
WasRead file bytes input = MatchResult input (λ v. IsInputOf file.request file.inputs bytes v.items) (IsNoInputOf file.request bytes)

-- what is printed of the input is printed of the file
module _ (P Q : Printing) (go : (s : Result Outcome Error) (o a : Option (List ℕ)) → P s o a → Q s o a) where
  pub chosen_too : (chooses : Bool) (words : List (List ℕ)) (served : Result Outcome Error) (old all : Option (List ℕ))
      → ChosenIf chooses P words served old all → ChosenIf chooses Q words served old all
  chosen_too false words served old all p = go served old all p
  chosen_too true words served old all (inl p) = inl (p.0, p.1, p.2, go (Ok p.1) (Some []) (Some p.0) p.3, p.4, p.5)
  chosen_too true words served old all (inr p) = inr p

  -- so it is as JSON
  pub json_too : (asked : Bool) (served : Result Outcome Error) (old all : Option (List ℕ)) → JsonIf asked P served old all → JsonIf asked Q served old all
  json_too false served old all p = go served old all p
  json_too true served old all (inl p) = inl (p.0, p.1, p.2, go (Ok p.1) (Some []) (Some p.0) p.3, p.4, p.5)
  json_too true served old all (inr p) = inr p

  -- and the map is that of the file's bytes
  pub mapped_too : (asked : Bool) (bytes : List ℕ) (served : Result Outcome Error) (old all : Option (List ℕ))
      → Mapped asked bytes P served old all → Mapped asked bytes Q served old all
  mapped_too false bytes served old all p = go served old all p
  mapped_too true bytes served old all p = p

-- what was printed into an empty text is written as JSON
pub as_json : (P : Printing) (printed : Outcome) (empty text : List ℕ) (old all : Option (List ℕ)) (sent : Result ⊤ Error) (json : List ℕ) → empty ≡ []
    → P (Ok printed) (Some empty) (Some text) → json ≡ json_of text → Sends sent old all json → Json P (done sent printed) old all
as_json P printed empty text old all sent json nothing prints same sends =
    inl (
      text,
      printed,
      sent,
      subst (λ (xs : List ℕ). P (Ok printed) (Some xs) (Some text)) nothing prints,
      sends_same sent old all json (json_of text) same sends,
      refl,
    )

prints_file : {A : Type 0} (file : FileRequest) (bytes : List ℕ) (input : Result (Vec ℕ A) Refusal) → WasRead file bytes input
    → (s : Result Outcome Error) (o a : Option (List ℕ)) → PrintsInput bytes file.request input s o a → PrintsFile bytes file s o a
prints_file file bytes (Ok v) is s o a prints = inl (v.items, is, prints)
prints_file file bytes (Err f) is s o a refuses = inr (f, is, refuses)

pub answers_read : {A : Type 0} (file : FileRequest) (words : List (List ℕ)) (bytes : List ℕ) (input : Result (Vec ℕ A) Refusal)
    (old held new holds : Option (List ℕ)) (outcome : Option Outcome) → old ≡ held → new ≡ holds → WasRead file bytes input
    → AnswersInput file.options words bytes file.request input old new outcome → AnswersRead words bytes file held holds outcome
answers_read file words bytes input old held new holds outcome before after is (all, served, prints, flushes) =
    subst (λ o. AnswersRead words bytes file o holds outcome) before (subst (λ n. AnswersRead words bytes file old n outcome) after (
      all,
      served,
      mapped_too (λ s o a. Shown file.options words (λ s o a. PrintsInput bytes file.request input s o a) s o a)
          (λ s o a. Shown file.options words (λ s o a. PrintsFile bytes file s o a) s o a)
          (json_too (λ s o a. Picked file.options words (λ s o a. PrintsInput bytes file.request input s o a) s o a)
          (λ s o a. Picked file.options words (λ s o a. PrintsFile bytes file s o a) s o a)
          (chosen_too (λ s o a. PrintsInput bytes file.request input s o a) (λ s o a. PrintsFile bytes file s o a) (prints_file file bytes input is)
          (file.options.cells || file.options.grid) words) (asks_json file.options words)) file.options.map bytes served old all prints,
      flushes,
    ))

-- what is shown to those who explain the run
pub shown_is : {A : Type 0} (file : FileRequest) (bytes shown : List ℕ) (input : Result (Vec ℕ A) Refusal) → WasRead file bytes input
    → MatchResult input (λ v. shown ≡ v.items) (λ f. shown ≡ bytes) → (shown ≡ bytes) ⊎ IsInputOf file.request file.inputs bytes shown
shown_is file bytes shown (Ok v) is same = inr (subst (λ (xs : List ℕ). IsInputOf file.request file.inputs bytes xs) (sym same) is)
shown_is file bytes shown (Err f) is same = inl same

module _ (accounts : Account) (words : List (List ℕ)) (bytes shown : List ℕ) (file : FileRequest) (outcome : Option Outcome)
    (is : (shown ≡ bytes) ⊎ IsInputOf file.request file.inputs bytes shown) where
  explained : (text : Option (List ℕ)) → accounts words (Some shown) outcome text → ExplainsRead accounts words bytes file outcome text
  explained text accounted = (shown, is, accounted)

  pub explained_read : (silent spoken : Option (List ℕ)) (hint_sent : HintSent) → Speaks (accounts words (Some shown) outcome) silent spoken hint_sent
      → Speaks (ExplainsRead accounts words bytes file outcome) silent spoken hint_sent
  explained_read silent spoken HintSent.Nothing speaks = (explained None speaks.0, speaks.1)
  explained_read silent spoken HintSent.Hint speaks = (speaks.0, explained (Some speaks.0) speaks.1, speaks.2)
  explained_read silent spoken HintSent.Beginning speaks = (speaks.0, speaks.1, explained (Some (speaks.0 ++ speaks.1)) speaks.2, speaks.3)
  explained_read silent spoken HintSent.Unknown speaks = speaks
