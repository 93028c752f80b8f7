-- WHAT THE AUTOMATON DOES does not depend on places, and on the limit only where something is too deep.
use Rattle.std.proofs.Common.{◌≡◌, ℕ, zero, ◌+◌, ◌<◌, ◌≤◌, Bool, true, false, [], ◌∷◌, ◌++◌, Option, None, Some, refl, sym, ap, subst, arith, inl, inr}
use Rattle.std.proofs.Common.{if◌then◌else◌}
use Rattle.std.specs.Prelude.{◌^◌, ◌==◌, ◌⊎◌, nat_le, nat_lt, ⊤}
use Rattle.std.proofs.lemmas.Bool.{eqb-true}
use Rattle.source.specs.declared.fault.FaultKind.{FaultKind}
use Rattle.source.specs.declared.fault.FaultKind.TheVariants.{Unexpected, TooDeep, NotACell, BadNumber}
use Rattle.source.specs.declared.token.Keyword.{Keyword}
use Rattle.source.specs.declared.token.Keyword.TheVariants as keyword
use Rattle.source.specs.declared.token.Sign.{Sign}
use Rattle.source.specs.declared.token.Sign.TheVariants as sign
use Rattle.source.specs.declared.word.InfixSign.{InfixSign}
use Rattle.source.specs.declared.word.Word.{Word}
use Rattle.source.specs.declared.word.Word.TheVariants as word
use Rattle.source.specs.Tree.{Name}
use Rattle.source.specs.Spelled.{Lexeme, TheWord, TheSign, TheNumber, TheName}
use Rattle.source.specs.Words.{Words}
use Rattle.law_language.specs.declared.symbol.Symbol.{Symbol}
use Rattle.law_language.specs.declared.symbol.Symbol.TheVariants.{Sign as OneSign, Keyword as OneWord, Emit, Items, ArrayName, ArrayLength, FunctionName}
use Rattle.law_language.specs.declared.symbol.Symbol.TheVariants.{Parameter, Parameters, Results, ResultCount, FunctionBody, Steps, Target as OneTarget}
use Rattle.law_language.specs.declared.symbol.Symbol.TheVariants.{Targets, LetEnd, StepEnd, Operand, Negated, After, AfterName, AfterIndex, Callee, CallEnd}
use Rattle.law_language.specs.declared.symbol.Symbol.TheVariants.{Otherwise, Bound, Start, Starts, Turn as OneTurn}
use Rattle.law_language.specs.GrammarAutomaton.{Stack, Outcome, Takes, Passes, Refuses, appending, above, within, small, is_sign, is_word, infix_of, goes_on}
use Rattle.law_language.specs.GrammarAutomaton.{after_infix, after_sign, after, after_name, after_index, conditional, operand_word, operand_sign, operand}
use Rattle.law_language.specs.GrammarAutomaton.{negated, callee, call_end, otherwise, bound, start, starts, turn, steps, target, targets, let_end, step_end}
use Rattle.law_language.specs.GrammarAutomaton.{items, array_name, array_length, function_name, parameter, parameters, function_body, results, result_count}
use Rattle.law_language.specs.GrammarAutomaton.{step}
use Rattle.law_language.specs.GrammarReady.{Ready}
use Rattle.law_language.proofs.GrammarLeads.{within_is}

-- the same up to places
pub data AlikeSymbol : Symbol Name → Symbol Name → Type 0 where
  same : (s : Symbol Name) → AlikeSymbol s s
  emits : (w v : Word Name) → AlikeSymbol (Emit w) (Emit v)
  targets_alike : (a b d : ℕ) → AlikeSymbol (Targets a d) (Targets b d)
  let_ends : (a b d : ℕ) → AlikeSymbol (LetEnd a d) (LetEnd b d)
  names : (a b : ℕ) (x : Name) (m d : ℕ) → AlikeSymbol (AfterName a x m d) (AfterName b x m d)
  indexes : (a b : ℕ) (x : Name) (m d : ℕ) → AlikeSymbol (AfterIndex a x m d) (AfterIndex b x m d)
  call_ends : (a b : ℕ) (strict : Bool) (f : Name) (d : ℕ) → AlikeSymbol (CallEnd a strict f d) (CallEnd b strict f d)
  bounds : (a b d : ℕ) → AlikeSymbol (Bound a d) (Bound b d)

pub data AlikeStacks : Stack → Stack → Type 0 where
  both_empty : AlikeStacks [] []
  on_top : {s t : Symbol Name} {S T : Stack} → AlikeSymbol s t → AlikeStacks S T → AlikeStacks (s ∷ S) (t ∷ T)

pub alike_self : (S : Stack) → AlikeStacks S S
alike_self [] = both_empty
alike_self (s ∷ S) = on_top (same s) (alike_self S)

pub alike_append : (P Q S T : Stack) → AlikeStacks P Q → AlikeStacks S T → AlikeStacks (P ++ S) (Q ++ T)
alike_append _ _ S T both_empty h = h
alike_append _ _ S T (on_top {S = P} {T = Q} a p) h = on_top a (alike_append P Q S T p h)

-- which faults a symbol has with a token, except for depth
abbrev pub Blame : Lexeme → FaultKind → Type 0
Blame l Unexpected = ⊤
Blame l NotACell = l ≡ TheSign sign.Becomes
Blame l BadNumber = l ≡ TheNumber (2 ^ 63)
Blame l kind = ⊥

-- what is done where at most `limit` may be open, and what where at most `most` may
pub data Like (limit most : ℕ) (l : Lexeme) : Outcome → Outcome → Type 0 where
  take_alike : {ws vs : Words} {P Q : Stack} → AlikeStacks P Q → Like limit most l (Takes ws P) (Takes vs Q)
  pass_alike : {ws vs : Words} → Like limit most l (Passes ws) (Passes vs)
  refuse_alike : (kind : FaultKind) → Blame l kind → Like limit most l (Refuses kind) (Refuses kind)
  both_too_deep : most ≡ limit → Like limit most l (Refuses TooDeep) (Refuses TooDeep)
  one_too_deep : {vs : Words} {Q : Stack} → limit < most → Like limit most l (Refuses TooDeep) (Takes vs Q)

data BothTake : Outcome → Outcome → Type 0 where
  taken : {ws vs : Words} {P Q : Stack} → AlikeStacks P Q → BothTake (Takes ws P) (Takes vs Q)

module _ (limit most : ℕ) (wide : (most ≡ limit) ⊎ (limit + 3 ≤ most)) where
  unexpected : {l : Lexeme} → Like limit most l (Refuses Unexpected) (Refuses Unexpected)
  unexpected = refuse_alike Unexpected tt

  module _ (l : Lexeme) where
    like_if : {o p q r : Outcome} (b : Bool) → (b ≡ true → Like limit most l o q) → (b ≡ false → Like limit most l p r)
        → Like limit most l (if b then o else p) (if b then q else r)
    like_if true f g = f refl
    like_if false f g = g refl

    like_within : {o p : Outcome} (d : ℕ) → d ≤ limit + 3 → BothTake o p → Like limit most l (within limit d o) (within most d p)
    like_within d h (taken {ws = ws} {vs = vs} {P = P} {Q = Q} a) = go wide
      where
        narrow : (b : Bool) → nat_le d limit ≡ b → limit + 3 ≤ most → Like limit most l (if b then Takes ws P else Refuses TooDeep) (Takes vs Q)
        narrow true e w = take_alike a
        narrow false e w = one_too_deep (omega arith)

        equal : most ≡ limit → (b : Bool) → Like limit most l (if b then Takes ws P else Refuses TooDeep) (if b then Takes vs Q else Refuses TooDeep)
        equal e true = take_alike a
        equal e false = both_too_deep e

        go : (most ≡ limit) ⊎ (limit + 3 ≤ most) → Like limit most l (within limit d (Takes ws P)) (within most d (Takes vs Q))
        go (inl e) = subst (λ n. Like limit most l (within limit d (Takes ws P)) (within n d (Takes vs Q))) (sym e) (equal e (nat_le d limit))
        go (inr w) = subst (λ o. Like limit most l (within limit d (Takes ws P)) o) (sym (within_is most d (Takes vs Q) (omega arith)))
            (narrow (nat_le d limit) refl w)

    like_appending : (ws vs : Words) {o p : Outcome} → Like limit most l o p → Like limit most l (appending ws o) (appending vs p)
    like_appending ws vs (take_alike a) = take_alike a
    like_appending ws vs pass_alike = pass_alike
    like_appending ws vs (refuse_alike kind b) = refuse_alike kind b
    like_appending ws vs (both_too_deep e) = both_too_deep e
    like_appending ws vs (one_too_deep h) = one_too_deep h

    like_above : (S : Stack) {o p : Outcome} → Like limit most l o p → Like limit most l (above S o) (above S p)
    like_above S (take_alike {P = P} {Q = Q} a) = take_alike (alike_append P Q S S a (alike_self S))
    like_above S pass_alike = pass_alike
    like_above S (refuse_alike kind b) = refuse_alike kind b
    like_above S (both_too_deep e) = both_too_deep e
    like_above S (one_too_deep h) = one_too_deep h

  like_small : (n : ℕ) {o p : Outcome} → Like limit most (TheNumber n) o p → Like limit most (TheNumber n) (small n o) (small n p)
  like_small n h = like_if (TheNumber n) (nat_lt n (2 ^ 63)) (λ e. h)
      (λ e. like_if (TheNumber n) (n == 2 ^ 63) (λ f. refuse_alike BadNumber (ap (λ m. TheNumber m) (eqb-true n (2 ^ 63) f))) (λ f. unexpected))

  -- AFTER AN OPERAND
  like_infix : (m k d at to : ℕ) (s : InfixSign) (l : Lexeme) → Like limit most l (after_infix m k d at s) (after_infix m k d to s)
  like_infix m k d at to s l = like_if l (goes_on m k s) (λ e. take_alike (on_top (same _) (on_top (emits _ _) (on_top (same _) both_empty)))) (λ e. pass_alike)

  like_sign : (m k d at to : ℕ) (s : Option InfixSign) (l : Lexeme) → Like limit most l (after_sign m k d at s) (after_sign m k d to s)
  like_sign m k d at to None l = pass_alike
  like_sign m k d at to (Some s) l = like_infix m k d at to s l

  like_after : (m k d at to : ℕ) (l : Lexeme) → Like limit most l (after m k d at l) (after m k d to l)
  like_after m k d at to (TheSign sign.Becomes) = like_if (TheSign sign.Becomes) _ (λ e. refuse_alike NotACell refl) (λ e. pass_alike)
  like_after m k d at to (TheSign s) = like_sign m k d at to (infix_of s) (TheSign s)
  like_after m k d at to (TheWord k₀) = pass_alike
  like_after m k d at to (TheNumber n) = pass_alike
  like_after m k d at to (TheName x) = pass_alike

  like_name : (a b : ℕ) (x : Name) (m d at to : ℕ) (l : Lexeme) → d ≤ limit → Like limit most l (after_name limit a x m d at l) (after_name most b x m d to l)
  like_name a b x m d at to (TheSign sign.OpenParen) h =
      like_within (TheSign sign.OpenParen) (d + 1) (omega arith) (taken (on_top (same _) (on_top (call_ends a b false x d) (on_top (same _) both_empty))))
  like_name a b x m d at to (TheSign sign.OpenBracket) h =
      like_within (TheSign sign.OpenBracket) (d + 1) (omega arith) (taken (on_top (same _) (on_top (same _) (on_top (indexes a b x m d) both_empty))))
  like_name a b x m d at to l h = like_appending l (word.Name a x ∷ []) (word.Name b x ∷ []) (like_after m 9 d at to l)

  like_index : (a b : ℕ) (x : Name) (m d at to : ℕ) (l : Lexeme) → Like limit most l (after_index a x m d at l) (after_index b x m d to l)
  like_index a b x zero d at to (TheSign sign.Becomes) = take_alike (on_top (same _) (on_top (emits _ _) both_empty))
  like_index a b x m d at to l = like_appending l (word.Fetch a x ∷ []) (word.Fetch b x ∷ []) (like_after m 9 d at to l)

  -- AN OPERAND
  alike_conditional : (at to d : ℕ) → AlikeStacks (conditional at d) (conditional to d)
  alike_conditional at to d =
      on_top (same _) (on_top (same _)
      (on_top (same _) (on_top (same _) (on_top (same _) (on_top (same _) (on_top (same _) (on_top (emits _ _) both_empty)))))))

  like_operand_word : (m d at to : ℕ) (k : Keyword) → d ≤ limit + 1 → Like limit most (TheWord k) (operand_word limit m d at k) (operand_word most m d to k)
  like_operand_word m d at to keyword.Strict h = like_within _ (d + 1) (omega arith) (taken (on_top (same _) (on_top (same _) both_empty)))
  like_operand_word m d at to keyword.If h =
      like_within _ (d + 2) (omega arith)
      (taken (alike_append (conditional at d) (conditional to d) _ _ (alike_conditional at to d) (on_top (same _) both_empty)))
  like_operand_word m d at to keyword.Loop h = like_within _ (d + 1) (omega arith) (taken (on_top (bounds at to d) (on_top (same _) both_empty)))
  like_operand_word m d at to k h = unexpected

  like_operand_sign : (m d at to : ℕ) (s : Sign) → d ≤ limit + 1 → Like limit most (TheSign s) (operand_sign limit m d at s) (operand_sign most m d to s)
  like_operand_sign m d at to sign.OpenParen h =
      like_within _ (d + 1) (omega arith) (taken (on_top (same _) (on_top (same _) (on_top (same _) (on_top (same _) both_empty)))))
  like_operand_sign m d at to sign.Minus h = like_within _ d (omega arith) (taken (on_top (same _) (on_top (emits _ _) (on_top (same _) both_empty))))
  like_operand_sign m d at to sign.Tilde h = like_within _ (d + 1) (omega arith) (taken (on_top (same _) (on_top (emits _ _) (on_top (same _) both_empty))))
  like_operand_sign m d at to s h = unexpected

  like_operand : (m d at to : ℕ) (l : Lexeme) → d ≤ limit + 1 → Like limit most l (operand limit m d at l) (operand most m d to l)
  like_operand m d at to (TheNumber n) h = like_small n (like_within _ d (omega arith) (taken (on_top (same _) both_empty)))
  like_operand m d at to (TheName x) h = like_within _ d (omega arith) (taken (on_top (names at to x m d) both_empty))
  like_operand m d at to (TheSign s) h = like_operand_sign m d at to s h
  like_operand m d at to (TheWord k) h = like_operand_word m d at to k h

  like_negated : (d at to : ℕ) (l : Lexeme) → d ≤ limit → Like limit most l (negated limit d at l) (negated most d to l)
  like_negated d at to (TheNumber n) h = like_if (TheNumber n) (nat_le n (2 ^ 63)) (λ e. take_alike both_empty) (λ e. unexpected)
  like_negated d at to l h = like_operand 8 (d + 1) at to l (omega arith)

  like_callee : (d at to : ℕ) (l : Lexeme) → Like limit most l (callee d at l) (callee d to l)
  like_callee d at to (TheName f) = take_alike (on_top (same _) (on_top (same _) (on_top (call_ends at to true f d) both_empty)))
  like_callee d at to l = unexpected

  like_call_end : (a b : ℕ) (strict : Bool) (f : Name) (d : ℕ) (l : Lexeme) → Like limit most l (call_end a strict f d l) (call_end b strict f d l)
  like_call_end a b strict f d (TheSign sign.Comma) = take_alike (on_top (same _) (on_top (call_ends a b strict f d) both_empty))
  like_call_end a b strict f d (TheSign sign.CloseParen) = take_alike both_empty
  like_call_end a b strict f d l = unexpected

  like_otherwise : (d at to : ℕ) (l : Lexeme) → d ≤ limit → Like limit most l (otherwise limit d at l) (otherwise most d to l)
  like_otherwise d at to (TheSign sign.OpenBrace) h = take_alike (on_top (same _) both_empty)
  like_otherwise d at to (TheWord keyword.If) h =
      like_within _ (d + 2) (omega arith)
      (taken (alike_append (conditional at d) (conditional to d) _ _ (alike_conditional at to d) (on_top (same _) both_empty)))
  like_otherwise d at to l h = unexpected

  -- LOOPS
  like_bound : (a b d at to : ℕ) (l : Lexeme) → Like limit most l (bound a d at l) (bound b d to l)
  like_bound a b d at to (TheNumber n) =
      like_small n (take_alike (on_top (same _) (on_top (same _) (on_top (same _) (on_top (same _) (on_top (emits _ _) both_empty))))))
  like_bound a b d at to l = unexpected

  like_start : (d at to : ℕ) (l : Lexeme) → Like limit most l (start d at l) (start d to l)
  like_start d at to (TheName x) = take_alike (alike_self _)
  like_start d at to l = unexpected

  like_starts : (d : ℕ) (l : Lexeme) → Like limit most l (starts d l) (starts d l)
  like_starts d (TheSign sign.Comma) = take_alike (alike_self _)
  like_starts d (TheSign sign.CloseParen) = take_alike both_empty
  like_starts d l = unexpected

  like_turn : (d : ℕ) (l : Lexeme) → Like limit most l (turn d l) (turn d l)
  like_turn d (TheWord keyword.While) = take_alike (alike_self _)
  like_turn d (TheSign sign.OpenBrace) = take_alike (alike_self _)
  like_turn d l = unexpected

  -- BODIES
  like_steps : (d at to : ℕ) (l : Lexeme) → d ≤ limit → Like limit most l (steps limit d at l) (steps most d to l)
  like_steps d at to (TheWord keyword.Let) h = take_alike (on_top (same _) (on_top (targets_alike at to d) both_empty))
  like_steps d at to l h = like_appending l (word.List ∷ []) (word.List ∷ []) (like_above l (StepEnd d ∷ []) (like_operand 0 (d + 1) at to l (omega arith)))

  like_target : (at to : ℕ) (l : Lexeme) → Like limit most l (target at l) (target to l)
  like_target at to (TheName x) = take_alike both_empty
  like_target at to (TheSign sign.Underscore) = take_alike both_empty
  like_target at to l = unexpected

  like_targets : (a b d : ℕ) (l : Lexeme) → Like limit most l (targets a d l) (targets b d l)
  like_targets a b d (TheSign sign.Comma) = take_alike (on_top (same _) (on_top (targets_alike a b d) both_empty))
  like_targets a b d (TheSign sign.Equals) = take_alike (on_top (same _) (on_top (let_ends a b d) both_empty))
  like_targets a b d l = unexpected

  like_let_end : (a b d : ℕ) (l : Lexeme) → Like limit most l (let_end a d l) (let_end b d l)
  like_let_end a b d (TheSign sign.Comma) = take_alike (on_top (same _) (on_top (let_ends a b d) both_empty))
  like_let_end a b d (TheSign sign.Semicolon) = take_alike (alike_self _)
  like_let_end a b d l = unexpected

  like_step_end : (d : ℕ) (l : Lexeme) → Like limit most l (step_end d l) (step_end d l)
  like_step_end d (TheSign sign.Comma) = take_alike (alike_self _)
  like_step_end d (TheSign sign.Semicolon) = take_alike (alike_self _)
  like_step_end d (TheSign sign.CloseBrace) = take_alike both_empty
  like_step_end d l = unexpected

  -- ITEMS
  like_items : (l : Lexeme) → Like limit most l (items l) (items l)
  like_items (TheWord keyword.Array) = take_alike (alike_self _)
  like_items (TheWord keyword.Fn) = take_alike (alike_self _)
  like_items l = unexpected

  like_array_name : (at to : ℕ) (l : Lexeme) → Like limit most l (array_name at l) (array_name to l)
  like_array_name at to (TheName x) = take_alike both_empty
  like_array_name at to l = unexpected

  like_array_length : (at to : ℕ) (l : Lexeme) → Like limit most l (array_length at l) (array_length to l)
  like_array_length at to (TheNumber n) = like_small n (take_alike both_empty)
  like_array_length at to l = unexpected

  like_function_name : (at to : ℕ) (l : Lexeme) → Like limit most l (function_name at l) (function_name to l)
  like_function_name at to (TheName x) = take_alike both_empty
  like_function_name at to l = unexpected

  like_parameter : (at to : ℕ) (l : Lexeme) → Like limit most l (parameter at l) (parameter to l)
  like_parameter at to (TheName x) = take_alike both_empty
  like_parameter at to l = unexpected

  like_parameters : (l : Lexeme) → Like limit most l (parameters l) (parameters l)
  like_parameters (TheSign sign.Comma) = take_alike (alike_self _)
  like_parameters (TheSign sign.CloseParen) = take_alike both_empty
  like_parameters l = unexpected

  like_function_body : (at to : ℕ) (l : Lexeme) → Like limit most l (function_body at l) (function_body to l)
  like_function_body at to (TheSign sign.OpenBrace) = take_alike (alike_self _)
  like_function_body at to l = unexpected

  like_results : (at to : ℕ) (l : Lexeme) → Like limit most l (results at l) (results to l)
  like_results at to (TheSign sign.Arrow) = take_alike (alike_self _)
  like_results at to l = like_function_body at to l

  like_result_count : (at to : ℕ) (l : Lexeme) → Like limit most l (result_count at l) (result_count to l)
  like_result_count at to (TheNumber n) = like_small n (take_alike both_empty)
  like_result_count at to l = unexpected

  -- EACH SYMBOL
  like_same : (s : Symbol Name) (at to : ℕ) (l : Lexeme) → Ready limit s → Like limit most l (step limit s at l) (step most s to l)
  like_same (OneSign s) at to l r = like_if l (is_sign s l) (λ e. take_alike both_empty) (λ e. unexpected)
  like_same (OneWord k) at to l r = like_if l (is_word k l) (λ e. take_alike both_empty) (λ e. unexpected)
  like_same (Emit w) at to l r = pass_alike
  like_same Items at to l r = like_items l
  like_same ArrayName at to l r = like_array_name at to l
  like_same ArrayLength at to l r = like_array_length at to l
  like_same FunctionName at to l r = like_function_name at to l
  like_same Parameter at to l r = like_parameter at to l
  like_same Parameters at to l r = like_parameters l
  like_same Results at to l r = like_results at to l
  like_same ResultCount at to l r = like_result_count at to l
  like_same FunctionBody at to l r = like_function_body at to l
  like_same (Steps d) at to l r = like_steps d at to l (omega arith)
  like_same OneTarget at to l r = like_target at to l
  like_same (Targets a d) at to l r = like_targets a a d l
  like_same (LetEnd a d) at to l r = like_let_end a a d l
  like_same (StepEnd d) at to l r = like_step_end d l
  like_same (Operand m d) at to l r = like_operand m d at to l (let g = r.1 in omega arith)
  like_same (Negated d) at to l r = like_negated d at to l r
  like_same (After m k d) at to l r = like_after m k d at to l
  like_same (AfterName a x m d) at to l r = like_name a a x m d at to l r.1
  like_same (AfterIndex a x m d) at to l r = like_index a a x m d at to l
  like_same (Callee d) at to l r = like_callee d at to l
  like_same (CallEnd a strict f d) at to l r = like_call_end a a strict f d l
  like_same (Otherwise d) at to l r = like_otherwise d at to l (omega arith)
  like_same (Bound a d) at to l r = like_bound a a d at to l
  like_same (Start d) at to l r = like_start d at to l
  like_same (Starts d) at to l r = like_starts d l
  like_same (OneTurn d) at to l r = like_turn d l

  pub like_step : (s t : Symbol Name) → AlikeSymbol s t → (at to : ℕ) (l : Lexeme) → Ready limit s → Like limit most l (step limit s at l) (step most t to l)
  like_step _ _ (same s) at to l r = like_same s at to l r
  like_step _ _ (emits w v) at to l r = pass_alike
  like_step _ _ (targets_alike a b d) at to l r = like_targets a b d l
  like_step _ _ (let_ends a b d) at to l r = like_let_end a b d l
  like_step _ _ (names a b x m d) at to l r = like_name a b x m d at to l r.1
  like_step _ _ (indexes a b x m d) at to l r = like_index a b x m d at to l
  like_step _ _ (call_ends a b strict f d) at to l r = like_call_end a b strict f d l
  like_step _ _ (bounds a b d) at to l r = like_bound a b d at to l
