-- WHERE A FAULT HAS A KIND OF ITS OWN: at a `:=` where `+` would be taken, and at 2 ^ 63 where 0 would be.
use Rattle.std.proofs.Common.{◌≡◌, ℕ, zero, suc, ◌+◌, Bool, true, false, [], ◌∷◌, None, Result, Ok, Err, refl, sym, subst, if◌then◌else◌}
use Rattle.std.specs.Prelude.{◌^◌}
use Rattle.operators.specs.declared.Binary.TheVariants.{Add}
use Rattle.source.specs.declared.fault.FaultKind.{FaultKind}
use Rattle.source.specs.declared.fault.FaultKind.TheVariants.{Unexpected, NotACell, BadNumber}
use Rattle.source.specs.declared.token.Sign.{Sign}
use Rattle.source.specs.declared.token.Sign.TheVariants as sign
use Rattle.source.specs.declared.word.InfixSign.TheVariants.{Direct}
use Rattle.source.specs.declared.word.Word.TheVariants as word
use Rattle.source.specs.Tree.{Name}
use Rattle.source.specs.Spelled.{Lexeme, TheSign, TheNumber}
use Rattle.source.specs.Words.{Words}
use Rattle.law_language.specs.declared.symbol.Symbol.{Symbol}
use Rattle.law_language.specs.declared.symbol.Symbol.TheVariants.{Sign as OneSign, Emit, ArrayLength, ResultCount, Steps, StepEnd, Operand, Negated, After}
use Rattle.law_language.specs.declared.symbol.Symbol.TheVariants.{AfterName, AfterIndex, Bound}
use Rattle.law_language.specs.GrammarAutomaton.{Stack, Outcome, Takes, Passes, Refuses, appending, above, is_sign, infix_of, goes_on, after, step, Moved}
use Rattle.law_language.specs.GrammarAutomaton.{moved_after, advance_by, advance}
use Rattle.law_language.specs.GrammarReady.{Ready, AllReady}
use Rattle.law_language.proofs.GrammarTerminals.{that_sign}
use Rattle.law_language.proofs.GrammarLeads.{within_is}

-- what is done with the token that would be taken, and with the one that is not
pub data Paired (kind : FaultKind) : Outcome → Outcome → Type 0 where
  pass_both : {ws : Words} → Paired kind (Passes ws) (Passes ws)
  fault : {ws : Words} {P : Stack} → Paired kind (Takes ws P) (Refuses kind)
  neither : {k : FaultKind} → Paired kind (Refuses k) (Refuses Unexpected)
  itself : {o : Outcome} {ws : Words} {P : Stack} → Paired kind o (Takes ws P)

paired_appending : (kind : FaultKind) (ws : Words) (o p : Outcome) → Paired kind o p → Paired kind (appending ws o) (appending ws p)
paired_appending kind ws _ _ pass_both = pass_both
paired_appending kind ws _ _ fault = fault
paired_appending kind ws _ _ neither = neither
paired_appending kind ws o _ itself = itself

-- `+` AND `:=`
paired_after : (m k d at : ℕ) → Paired NotACell (after m k d at (TheSign sign.Plus)) (after m k d at (TheSign sign.Becomes))
paired_after m k d at = go (goes_on m k (Direct Add))
  where
    go : (b : Bool) → Paired NotACell (if b then Takes (word.Left ∷ []) (Operand 7 d ∷ Emit (word.Infix at (Direct Add)) ∷ After m 6 d ∷ []) else Passes [])
        (if b then Refuses NotACell else Passes [])
    go true = fault
    go false = pass_both

paired_sign : (s : Sign) → infix_of s ≡ None
    → Paired NotACell (if is_sign s (TheSign sign.Plus) then Takes [] [] else Refuses Unexpected)
    (if is_sign s (TheSign sign.Becomes) then Takes [] [] else Refuses Unexpected)
paired_sign s r = go (is_sign s (TheSign sign.Plus)) refl (is_sign s (TheSign sign.Becomes))
  where
    never : is_sign s (TheSign sign.Plus) ≡ true → ⊥
    never e = let p = that_sign s (TheSign sign.Plus) e in let q : sign.Plus ≡ s = cc in
        let n : infix_of sign.Plus ≡ None = subst (λ t. infix_of t ≡ None) (sym q) r in cc

    go : (b : Bool) → is_sign s (TheSign sign.Plus) ≡ b → (c : Bool)
        → Paired NotACell (if b then Takes [] [] else Refuses Unexpected) (if c then Takes [] [] else Refuses Unexpected)
    go true e c = absurd (never e)
    go false e true = itself
    go false e false = neither

module _ (limit at : ℕ) where
  pub paired_cell : (s : Symbol Name) → Ready limit s → Paired NotACell (step limit s at (TheSign sign.Plus)) (step limit s at (TheSign sign.Becomes))
  paired_cell (OneSign s) r = paired_sign s r
  paired_cell (Emit w) r = pass_both
  paired_cell (After m k d) r = paired_after m k d at
  paired_cell (AfterName named x m d) r = paired_appending NotACell (word.Name named x ∷ []) _ _ (paired_after m 9 d at)
  paired_cell (AfterIndex cell a zero d) r = itself
  paired_cell (AfterIndex cell a (suc m) d) r = paired_appending NotACell (word.Fetch cell a ∷ []) _ _ (paired_after (suc m) 9 d at)
  paired_cell s r = neither

  -- 0 AND 2 ^ 63
  pub paired_number : (s : Symbol Name) → Ready limit s → Paired BadNumber (step limit s at (TheNumber 0)) (step limit s at (TheNumber (2 ^ 63)))
  paired_number (Emit w) r = pass_both
  paired_number (After m k d) r = pass_both
  paired_number (AfterName named x m d) r = pass_both
  paired_number (AfterIndex cell a zero d) r = pass_both
  paired_number (AfterIndex cell a (suc m) d) r = pass_both
  paired_number (Operand m d) r =
      subst (λ o. Paired BadNumber o (Refuses BadNumber)) (sym (within_is limit d (Takes (word.Number at 0 ∷ []) (After m 9 d ∷ [])) r.1)) fault
  paired_number (Steps d) r = subst (λ o. Paired BadNumber (appending (word.List ∷ []) (above (StepEnd d ∷ []) o)) (Refuses BadNumber))
      (sym (within_is limit (d + 1) (Takes (word.Number at 0 ∷ []) (After 0 9 (d + 1) ∷ [])) r)) fault
  paired_number (Negated d) r = itself
  paired_number (Bound loop d) r = fault
  paired_number ArrayLength r = fault
  paired_number ResultCount r = fault
  paired_number s r = neither

-- ON A STACK
pub data PairedMoved (kind : FaultKind) : Result Moved FaultKind → Result Moved FaultKind → Type 0 where
  moved_fault : {m : Moved} → PairedMoved kind (Ok m) (Err kind)
  moved_neither : {k : FaultKind} → PairedMoved kind (Err k) (Err Unexpected)
  moved_itself : {r : Result Moved FaultKind} {m : Moved} → PairedMoved kind r (Ok m)

module _ (limit at : ℕ) (kind : FaultKind) (good bad : Lexeme)
    (each : (s : Symbol Name) → Ready limit s → Paired kind (step limit s at good) (step limit s at bad)) where
  paired_later : (ws : Words) (r q : Result Moved FaultKind) → PairedMoved kind r q → PairedMoved kind (moved_after ws r) (moved_after ws q)
  paired_later ws _ _ moved_fault = moved_fault
  paired_later ws _ _ moved_neither = moved_neither
  paired_later ws r _ moved_itself = moved_itself

  paired_by : (S : Stack) (o p : Outcome) → Paired kind o p → PairedMoved kind (advance limit S at good) (advance limit S at bad)
      → PairedMoved kind (advance_by o S (advance limit S at good)) (advance_by p S (advance limit S at bad))
  paired_by S _ _ (pass_both {ws = ws}) h = paired_later ws _ _ h
  paired_by S _ _ fault h = moved_fault
  paired_by S _ _ neither h = moved_neither
  paired_by S o _ itself h = moved_itself

  pub paired_advance : (S : Stack) → AllReady limit S → PairedMoved kind (advance limit S at good) (advance limit S at bad)
  paired_advance [] r = moved_neither
  paired_advance (s ∷ S) r = paired_by S _ _ (each s r.0) (paired_advance S r.1)
