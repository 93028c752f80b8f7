-- COMPLETE: the tokens of a fitting program are read to their end, and its words are appended.
use Rattle.std.proofs.Common.{◌≡◌, ℕ, zero, suc, ◌+◌, ◌<◌, ◌≤◌, Bool, true, false, List, [], ◌∷◌, ◌++◌, map, length, Option, None, Some, Result, Ok, Err}
use Rattle.std.proofs.Common.{refl, sym, ap, ◌∙◌, append_assoc, append-nil, arith}
use Rattle.std.specs.Prelude.{replicate}
use Rattle.std.proofs.Math.Nat.{le-max_left, le-max_right}
use Rattle.std.proofs.lemmas.List.Concat.{flat_map-cons}
use Rattle.operators.specs.declared.Unary.TheVariants.{Neg, Not as Inverted}
use Rattle.source.specs.declared.fault.FaultKind.{FaultKind as CoreFaultKind}
use Rattle.source.specs.declared.token.Keyword.TheVariants as core_keyword
use Rattle.source.specs.declared.token.Sign.TheVariants as core_sign
use Rattle.source.specs.declared.word.Word.TheVariants as core_word
use Rattle.source.specs.Tree.{Name, NameAt}
use Rattle.surface.specs.declared.token.Keyword.TheVariants as keyword
use Rattle.surface.specs.declared.token.Sign.TheVariants as sign
use Rattle.surface.specs.declared.token.Token.{Token}
use Rattle.surface.specs.declared.word.Word.TheVariants as word
use Rattle.surface.specs.Tree.{Count, Written, Constant, Expr, Number, Named, Bracket, Prefix, Infix, And, Or, Not, Fetch, Store, Call, If, Loop, For, Exprs, One}
use Rattle.surface.specs.Tree.{More, Body, Let, Do, When, Give, Chain, Tests, Last, Else, Turn as ATurn, Before, After as TestLast, Carried as ACarried}
use Rattle.surface.specs.Tree.{Nothing, With, Param, Function, Item, Cells, Const, Defines, Program}
use Rattle.surface.specs.Spelled.{Lexeme, TheWord, TheSign, TheNumber, TheName, Spelling, a_word, a_sign, sign_at, name_token, tokens}
use Rattle.surface.specs.Spelled.{body_tokens, param_tokens, params_tokens, result_tokens, item_tokens, program_tokens}
use Rattle.surface.specs.Fits.{FitsBody, FitsItem, FitsProgram, IsSmallIfWritten, item_depth, program_depth}
use Rattle.surface.specs.Words.{Words, of_core, body_words, param_word, result_words, item_words, program_words}
use Rattle.surface.specs.Parses.{Parses}
use Rattle.law_surface_text.specs.declared.symbol.NameWord.TheVariants as naming
use Rattle.law_surface_text.specs.declared.symbol.Symbol.TheVariants.{Emit, Name as OneName, Items, Parameter, AfterParameter, Rank, Parameters, Results}
use Rattle.law_surface_text.specs.declared.symbol.Symbol.TheVariants.{ResultCount, FunctionBody, Steps, Operand, Further}
use Rattle.law_surface_text.specs.Automaton.{Stack, Passes, Placed, placed, Moved, Joins, AndAlso, OrElse, step, after_parameter, advance, ended_then}
use Rattle.law_surface_text.specs.Automaton.{finished, words_after, run_on, run, parsed, open_paren, close_paren, open_bracket, close_bracket, semicolon, equals}
use Rattle.law_surface_text.proofs.Meaning.{after_commas}
use Rattle.law_surface_text.proofs.ExplainItems.{params_are}
use Rattle.law_surface_text.proofs.Runs.{Spells, spells}
use Rattle.law_surface_text.proofs.Reading.{Reads, reading, read_on, Follows, Any, Starting, reads_as, reads_none, reads_may, reads_then, reads_pass, reads_at, reads_any}
use Rattle.law_surface_text.proofs.Reading.{reads_sign, reads_emit, emit_passes, reads_passed, symbol_passes}
use Rattle.law_surface_text.proofs.ReadOperands.{small_is, ExprReads, reads_expr, reads_number, reads_named, reads_bracket, reads_inverted, reads_not, reads_neg}
use Rattle.law_surface_text.proofs.ReadOperands.{reads_join, Parts, Indexed, parts_one, parts_more, indexed_one, indexed_more, reads_list, reads_fetch, reads_store}
use Rattle.law_surface_text.proofs.ReadOperands.{reads_call}
use Rattle.law_surface_text.proofs.ReadForms.{Firsts, BodyReads, TurnReads, CarriedReads, firsts_one, firsts_more, reads_before, reads_test_last, reads_loop}
use Rattle.law_surface_text.proofs.ReadForms.{reads_for}
use Rattle.law_surface_text.proofs.ReadBodies.{WholeIf, StepIf, BranchReads, StepBranch, BeginsStep, BeginsSteps, TestsReads, whole_if, step_if, reads_if}
use Rattle.law_surface_text.proofs.ReadBodies.{branch_chain, step_chain, branch_of, step_branch_of, begins_join, begins_if, begins_plain, begins_one, begins_more}
use Rattle.law_surface_text.proofs.ReadBodies.{reads_give, reads_do, reads_let, reads_last, reads_else, reads_when}

module _ (limit : ℕ) where
  -- TREES
  record ExprClaim (e : Expr) : Type 0 where
    reads : ExprReads limit e
    begins : BeginsStep limit e
    whole : WholeIf limit e
    step : StepIf limit e

  record ListClaim (es : Exprs) : Type 0 where
    parts : Parts limit es
    indexed : Indexed limit es
    firsts : Firsts limit es
    begins : BeginsSteps limit es

  record BodyClaim (b : Body) : Type 0 where
    reads : BodyReads limit b
    branch : BranchReads limit b
    step : StepBranch limit b

  in_braces : (b : Body) → ((c : Bool) → FitsBody c b → FitsBody false b) → BodyReads limit b → BodyClaim b
  in_braces b f g = record { reads = g; branch = branch_of limit b f g; step = step_branch_of limit b f g }

  mutual
    expr_claim : (e : Expr) → ExprClaim e
    expr_claim (Number at n) =
        record { reads = reads_number limit at n; begins = begins_plain limit (Number at n) (λ d there. refl); whole = tt; step = tt }
    expr_claim (Named at x) = record { reads = reads_named limit at x; begins = begins_plain limit (Named at x) (λ d there. refl); whole = tt; step = tt }
    expr_claim (Bracket e) =
        record { reads = reads_bracket limit e (expr_claim e).reads; begins = begins_plain limit (Bracket e) (λ d there. refl); whole = tt; step = tt }
    expr_claim (Prefix at Neg e) =
        record { reads = reads_neg limit at e (expr_claim e).reads; begins = begins_plain limit (Prefix at Neg e) (λ d there. refl); whole = tt; step = tt }
    expr_claim (Prefix at Inverted e) = record {
      reads = reads_inverted limit at e (expr_claim e).reads;
      begins = begins_plain limit (Prefix at Inverted e) (λ d there. refl);
      whole = tt;
      step = tt;
    }
    expr_claim (Not at e) =
        record { reads = reads_not limit at e (expr_claim e).reads; begins = begins_plain limit (Not at e) (λ d there. refl); whole = tt; step = tt }
    expr_claim (Infix at s l r) = let c = expr_claim l in record {
      reads = λ m d S is low. reads_join limit (Joins s) at l r c.reads (expr_claim r).reads is.fits.0 is.fits.1 is.fits.2 is.fits.3 m d S is.deep low;
      begins = λ d S is i j f n. begins_join limit l _ (tokens r) c.begins d _ S is.fits.0 is.deep i j f;
      whole = tt;
      step = tt;
    }
    expr_claim (And at l r) = let c = expr_claim l in record {
      reads = λ m d S is low. reads_join limit AndAlso at l r c.reads (expr_claim r).reads is.fits.0 is.fits.1 is.fits.2 is.fits.3 m d S is.deep low;
      begins = λ d S is i j f n. begins_join limit l _ (tokens r) c.begins d _ S is.fits.0 is.deep i j f;
      whole = tt;
      step = tt;
    }
    expr_claim (Or at l r) = let c = expr_claim l in record {
      reads = λ m d S is low. reads_join limit OrElse at l r c.reads (expr_claim r).reads is.fits.0 is.fits.1 is.fits.2 is.fits.3 m d S is.deep low;
      begins = λ d S is i j f n. begins_join limit l _ (tokens r) c.begins d _ S is.fits.0 is.deep i j f;
      whole = tt;
      step = tt;
    }
    expr_claim (Fetch at a es) =
        record { reads = reads_fetch limit at a es (list_claim es).indexed; begins = begins_plain limit (Fetch at a es) (λ d there. refl); whole = tt; step = tt }
    expr_claim (Store at a es e) = record {
      reads = reads_store limit at a es e (list_claim es).indexed (expr_claim e).reads;
      begins = begins_plain limit (Store at a es e) (λ d there. refl);
      whole = tt;
      step = tt;
    }
    expr_claim (Call at true g es) = record {
      reads = reads_call limit at true g es (list_claim es).parts;
      begins = begins_plain limit (Call at true g es) (λ d there. refl);
      whole = tt;
      step = tt;
    }
    expr_claim (Call at false g es) = record {
      reads = reads_call limit at false g es (list_claim es).parts;
      begins = begins_plain limit (Call at false g es) (λ d there. refl);
      whole = tt;
      step = tt;
    }
    expr_claim (If at p l r) =
        let whole = whole_if limit at p l r (expr_claim p).reads (body_claim l).reads (body_claim r).branch in
        let step = step_if limit at p l r (expr_claim p).reads (body_claim l).reads (body_claim r).step in
        record { reads = reads_if limit at p l r whole; begins = begins_if limit at p l r whole step; whole = whole; step = step }
    expr_claim (Loop at n es t) = record {
      reads = reads_loop limit at n es t (list_claim es).firsts (turn_claim t);
      begins = begins_plain limit (Loop at n es t) (λ d there. refl);
      whole = tt;
      step = tt;
    }
    expr_claim (For at n i first end c b) = record {
      reads = reads_for limit at n i first end c b (expr_claim first).reads (expr_claim end).reads (carried_claim c) (body_claim b).reads;
      begins = begins_plain limit (For at n i first end c b) (λ d there. refl);
      whole = tt;
      step = tt;
    }

    list_claim : (es : Exprs) → ListClaim es
    list_claim (One e) = let c = expr_claim e in record {
      parts = parts_one limit e c.reads;
      indexed = indexed_one limit e c.reads;
      firsts = firsts_one limit e c.reads;
      begins = begins_one limit e c.begins;
    }
    list_claim (More e es) = let c = expr_claim e in let cs = list_claim es in record {
      parts = parts_more limit e es c.reads cs.parts;
      indexed = indexed_more limit e es c.reads cs.indexed;
      firsts = firsts_more limit e es c.reads cs.firsts;
      begins = begins_more limit e es c.begins;
    }

    body_claim : (b : Body) → BodyClaim b
    body_claim (Let at ts es rest) = in_braces (Let at ts es rest) (λ c h. h) (reads_let limit at ts es rest (list_claim es).parts (body_claim rest).reads)
    body_claim (Do es rest) =
        let c = list_claim es in in_braces (Do es rest) (λ c h. h) (reads_do limit es rest c.parts c.begins (body_claim rest).reads)
    body_claim (When t rest) = in_braces (When t rest) (λ c h. h) (reads_when limit t rest (tests_claim t) (body_claim rest).reads)
    body_claim (Give es) = let c = list_claim es in in_braces (Give es) (λ c h. h) (reads_give limit es c.parts c.begins)
    body_claim (Chain e) = let c = expr_claim e in
        record { reads = λ d S fits deep. absurd (let g = fits.0 in cc); branch = branch_chain limit e c.whole; step = step_chain limit e c.step }

    tests_claim : (t : Tests) → TestsReads limit t
    tests_claim (Last at p l) = reads_last limit at p l (expr_claim p).reads (body_claim l).reads
    tests_claim (Else at p l t) = reads_else limit at p l t (expr_claim p).reads (body_claim l).reads (tests_claim t)

    turn_claim : (t : ATurn) → TurnReads limit t
    turn_claim (Before xs p b) = reads_before limit xs p b (expr_claim p).reads (body_claim b).reads
    turn_claim (TestLast xs b p) = reads_test_last limit xs b p (body_claim b).reads (expr_claim p).reads

    carried_claim : (c : ACarried) → CarriedReads limit c
    carried_claim Nothing = tt
    carried_claim (With xs es) = (list_claim es).firsts

  -- ITEMS
  cells_read : (x : NameAt) (es : Exprs) (S : Stack) → FitsItem (Cells x es) → item_depth (Cells x es) ≤ limit
      → Reads limit (Items ∷ S) (item_tokens (Cells x es)) (item_words (Cells x es)) Any (reading limit (Items ∷ S))
  cells_read x es S fits deep =
      reads_any limit Items (TheWord (keyword.Core core_keyword.Array)) 0 []
      (OneName naming.Array ∷ open_bracket ∷ Emit (of_core core_word.List) ∷ Operand 0 1 ∷ Further 0 ∷ close_bracket ∷ Emit word.EndArray ∷ semicolon ∷ Items ∷ [])
      (λ at. refl) (omega arith)
      (reads_at limit (OneName naming.Array) x.at (TheName x.name) 0 (of_core (core_word.Array x.at x.name) ∷ []) [] refl (omega arith)
      (reads_sign limit (sign.Core core_sign.OpenBracket) (reads_emit limit (of_core core_word.List)
      (reads_list limit es 0 (list_claim es).parts (record { fits = fits; deep = (let g = deep in omega arith) }) (a_sign core_sign.CloseBracket)
      (record { closes = record { plain = refl; none = refl }; other = refl })
      (reads_sign limit (sign.Core core_sign.CloseBracket) (reads_emit limit word.EndArray
      (reads_sign limit (sign.Core core_sign.Semicolon) (reads_none limit (Items ∷ S)))))))))

  const_reads : (x : NameAt) (e : Expr) (S : Stack) → FitsItem (Const x e) → item_depth (Const x e) ≤ limit
      → Reads limit (Items ∷ S) (item_tokens (Const x e)) (item_words (Const x e)) Any (reading limit (Items ∷ S))
  const_reads x e S fits deep =
      reads_any limit Items (TheWord keyword.Const) 0 []
      (OneName naming.Constant ∷ equals ∷ Operand 0 1 ∷ Emit word.EndConstant ∷ semicolon ∷ Items ∷ []) (λ at. refl) (omega arith)
      (reads_at limit (OneName naming.Constant) x.at (TheName x.name) 0 (word.Constant x.at x.name ∷ []) [] refl (omega arith)
      (reads_sign limit (sign.Core core_sign.Equals)
      (reads_expr limit e 1 (expr_claim e).reads (record { fits = fits; deep = (let g = deep in omega arith) }) (a_sign core_sign.Semicolon)
      (record { plain = refl; none = refl })
      (reads_emit limit word.EndConstant (reads_sign limit (sign.Core core_sign.Semicolon) (reads_none limit (Items ∷ S)))))))

  -- parameters
  abbrev NoBracket : Lexeme → Type 0
  NoBracket l = (at : ℕ) (x : Name) → after_parameter at x l ≡ Passes (of_core (core_word.Parameter at x) ∷ [])

  rank_reads : (at : ℕ) (x : Name) (n k : ℕ) (S : Stack)
      → Reads limit (Rank at x k ∷ S) (replicate n (a_sign core_sign.Comma) ++ a_sign core_sign.CloseBracket ∷ []) (word.ArrayParameter at x (k + n) ∷ []) Any
      (reading limit S)
  rank_reads at x zero k S = let same : k ≡ k + 0 = omega arith in
      reads_as limit (reads_any limit (Rank at x k) (TheSign (sign.Core core_sign.CloseBracket)) 0 (word.ArrayParameter at x k ∷ []) [] (λ there. refl)
      (omega arith) (reads_none limit S)) refl (ap (λ n. word.ArrayParameter at x n ∷ []) same)
  rank_reads at x (suc n) k S = let same : (k + 1) + n ≡ k + suc n = omega arith in
      reads_as limit (reads_any limit (Rank at x k) (TheSign (sign.Core core_sign.Comma)) 0 [] (Rank at x (k + 1) ∷ []) (λ there. refl) (omega arith)
      (rank_reads at x n (k + 1) S)) refl (ap (λ n. word.ArrayParameter at x n ∷ []) same)

  param_reads : (p : Param) (S : Stack) → Reads limit (Parameter ∷ S) (param_tokens p) (param_word p ∷ []) (Starting NoBracket) (reading limit S)
  param_reads p S = go p.rank refl
    where
      named : {ts : List Spelling} {vs : Words} → Reads limit (AfterParameter p.name.at p.name.name ∷ S) ts vs (Starting NoBracket) (reading limit S)
          → Reads limit (Parameter ∷ S) (name_token p.name ∷ ts) vs (Starting NoBracket) (reading limit S)
      named l = reads_at limit Parameter p.name.at (TheName p.name.name) 0 [] (AfterParameter p.name.at p.name.name ∷ []) refl (omega arith) l

      none : Reads limit (AfterParameter p.name.at p.name.name ∷ S) [] (of_core (core_word.Parameter p.name.at p.name.name) ∷ []) (Starting NoBracket)
          (reading limit S)
      none = reads_pass limit (Starting NoBracket) (of_core (core_word.Parameter p.name.at p.name.name) ∷ []) (λ r h. h)
          (λ r h. symbol_passes limit (AfterParameter p.name.at p.name.name) S (of_core (core_word.Parameter p.name.at p.name.name) ∷ []) r (no_bracket r h))
          (reads_none limit {May = Starting NoBracket} (AfterParameter p.name.at p.name.name ∷ S))
        where
          no_bracket : (r : List Placed) → Starting NoBracket r
              → Starting (λ l. (at : ℕ) → step (AfterParameter p.name.at p.name.name) at l ≡ Passes (of_core (core_word.Parameter p.name.at p.name.name) ∷ [])) r
          no_bracket [] h = absurd h
          no_bracket (q ∷ r) h = λ at. h p.name.at p.name.name

      go : (n : ℕ) → p.rank ≡ n → Reads limit (Parameter ∷ S) (param_tokens p) (param_word p ∷ []) (Starting NoBracket) (reading limit S)
      go zero e = rw e (named none)
      go (suc n) e = let same : 1 + n ≡ suc n = omega arith in rw e (named (reads_as limit
          (reads_any limit (AfterParameter p.name.at p.name.name) (TheSign (sign.Core core_sign.OpenBracket)) 0 [] (Rank p.name.at p.name.name 1 ∷ []) (λ at. refl)
          (omega arith) (reads_may limit (Starting NoBracket) (λ r h. tt) (rank_reads p.name.at p.name.name n 1 S))) refl
          (ap (λ n. word.ArrayParameter p.name.at p.name.name n ∷ []) same)))

  no_bracket : (us : List Spelling) (ps : List Param) (i r : List Placed) → Follows (after_commas (map param_tokens ps) ++ a_sign core_sign.CloseParen ∷ us) i r
      → Starting NoBracket i
  no_bracket us [] [] r f = absurd f
  no_bracket us [] (q ∷ i) r f = λ at x. ap (λ l. after_parameter at x l) f.0.0
  no_bracket us (p ∷ ps) [] r f = absurd f
  no_bracket us (p ∷ ps) (q ∷ i) r f = λ at x. ap (λ l. after_parameter at x l) f.0.0

  further_params : {us : List Spelling} {vs : Words} {M : List Placed → Type 0} {k : List Placed → Option Words} (ps : List Param) (S : Stack)
      → Reads limit S (a_sign core_sign.CloseParen ∷ us) vs M k
      → Reads limit (Parameters ∷ S) (after_commas (map param_tokens ps) ++ a_sign core_sign.CloseParen ∷ us) (map param_word ps ++ vs) M k
  further_params [] S l = reads_passed limit Parameters (a_sign core_sign.CloseParen) [] (λ at. refl) l
  further_params {us = us} {M = M} (p ∷ ps) S l =
      reads_as limit (reads_any limit Parameters (TheSign (sign.Core core_sign.Comma)) 0 [] (Parameter ∷ Parameters ∷ []) (λ at. refl) (omega arith)
      (reads_then limit (param_reads p (Parameters ∷ S)) (λ i r f m. no_bracket us ps i r f) (further_params ps S l)))
      (ap (λ t. a_sign core_sign.Comma ∷ t) (sym (append_assoc (param_tokens p) (after_commas (map param_tokens ps)) (a_sign core_sign.CloseParen ∷ us)))) refl

  -- results and body
  results_read : {us : List Spelling} {vs : Words} {M : List Placed → Type 0} {k : List Placed → Option Words} (n : Option Count) (at : ℕ) (S : Stack)
      → IsSmallIfWritten n
      → Reads limit (FunctionBody ∷ S) (sign_at at (sign.Core core_sign.OpenBrace) ∷ us) vs M k
      → Reads limit (Results ∷ FunctionBody ∷ S) (result_tokens n ++ sign_at at (sign.Core core_sign.OpenBrace) ∷ us) (result_words n ++ vs) M k
  results_read None at S small l = reads_passed limit Results (sign_at at (sign.Core core_sign.OpenBrace)) [] (λ there. refl) l
  results_read (Some (Written there n)) at S small l =
      reads_any limit Results (TheSign (sign.Core core_sign.Arrow)) 0 [] (ResultCount ∷ []) (λ to. refl) (omega arith)
      (reads_at limit ResultCount there (TheNumber n) 0 (of_core (core_word.Results there n) ∷ []) [] (small_is n _ small) (omega arith) l)
  results_read (Some (Constant there x)) at S small l =
      reads_any limit Results (TheSign (sign.Core core_sign.Arrow)) 0 [] (ResultCount ∷ []) (λ to. refl) (omega arith)
      (reads_at limit ResultCount there (TheName x) 0 (word.ConstantResults there x ∷ []) [] refl (omega arith) l)

  function_tokens_are : {A : Type 0} (a b c e : List A) (x y : A) → a ++ (b ++ (x ∷ (c ++ (y ∷ e)))) ≡ ((a ++ b) ++ x ∷ c) ++ y ∷ e
  function_tokens_are a b c e x y = simp append_assoc

  function_words_are : {A : Type 0} (b c e : List A) (y z : A) → b ++ (c ++ (y ∷ (e ++ z ∷ []))) ≡ ((b ++ c) ++ y ∷ e) ++ z ∷ []
  function_words_are b c e y z = simp append_assoc

  function_reads : (f : Function) (S : Stack) → FitsItem (Defines f) → item_depth (Defines f) ≤ limit
      → Reads limit (Items ∷ S) (item_tokens (Defines f)) (item_words (Defines f)) Any (reading limit (Items ∷ S))
  function_reads f S fits deep = go f.params fits.0 refl
    where
      go : (ps : List Param) → 0 < length ps → f.params ≡ ps
          → Reads limit (Items ∷ S) (item_tokens (Defines f)) (item_words (Defines f)) Any (reading limit (Items ∷ S))
      go [] some e = absurd (omega arith)
      go (p ∷ ps) some e =
          let Z : Stack = Emit (of_core core_word.EndFunction) ∷ Items ∷ S in
          let B : Spelling = sign_at f.body_at (sign.Core core_sign.OpenBrace) in
          let body : Reads limit (FunctionBody ∷ Z) (B ∷ body_tokens f.body) (of_core (core_word.Body f.body_at) ∷ (body_words f.body ++
          of_core core_word.EndFunction ∷ [])) Any (reading limit (Items ∷ S)) =
          reads_at limit FunctionBody f.body_at (TheSign (sign.Core core_sign.OpenBrace)) 0 (of_core (core_word.Body f.body_at) ∷ []) (Steps 0 ∷ []) refl (omega arith)
          (reads_pass limit Any (of_core core_word.EndFunction ∷ []) (λ r h. tt) (λ r h. emit_passes limit (of_core core_word.EndFunction) (Items ∷ S) r)
          ((body_claim f.body).reads 0 Z fits.2 (let g = deep in omega arith))) in
          let rest = results_read f.results f.body_at Z fits.1 body in
          reads_as limit
          (reads_any limit Items (TheWord (keyword.Core core_keyword.Fn)) 0 []
          (OneName naming.Function ∷ open_paren ∷ Parameter ∷ Parameters ∷ close_paren ∷ Results ∷ FunctionBody ∷ Emit (of_core core_word.EndFunction) ∷ Items ∷ [])
          (λ at. refl) (omega arith)
          (reads_at limit (OneName naming.Function) f.name.at (TheName f.name.name) 0 (of_core (core_word.Function f.name.at f.name.name) ∷ []) [] refl (omega arith)
          (reads_sign limit (sign.Core core_sign.OpenParen)
          (reads_then limit (param_reads p (Parameters ∷ close_paren ∷ Results ∷ FunctionBody ∷ Z)) (λ i r g m. no_bracket (result_tokens f.results ++ B ∷ body_tokens f.body) ps i r g)
          (further_params ps (close_paren ∷ Results ∷ FunctionBody ∷ Z) (reads_sign limit (sign.Core core_sign.CloseParen) rest))))))
          (ap (λ t. a_word core_keyword.Fn ∷ name_token f.name ∷ a_sign core_sign.OpenParen ∷ t)
          (function_tokens_are (param_tokens p) (after_commas (map param_tokens ps)) (result_tokens f.results) (body_tokens f.body) (a_sign core_sign.CloseParen) B
          ∙ ap (λ t. (t ++ a_sign core_sign.CloseParen ∷ result_tokens f.results) ++ B ∷ body_tokens f.body)
          (sym (params_are p ps) ∙ ap (λ qs. params_tokens qs) (sym e))))
          (ap (λ t. of_core (core_word.Function f.name.at f.name.name) ∷ t)
          (ap (λ t. param_word p ∷ t)
          (function_words_are (map param_word ps) (result_words f.results) (body_words f.body) (of_core (core_word.Body f.body_at)) (of_core core_word.EndFunction))
          ∙ ap (λ qs. ((map param_word qs ++ result_words f.results) ++ of_core (core_word.Body f.body_at) ∷ body_words f.body) ++
          of_core core_word.EndFunction ∷ []) (sym e)))

  item_reads : (i : Item) (S : Stack) → FitsItem i → item_depth i ≤ limit
      → Reads limit (Items ∷ S) (item_tokens i) (item_words i) Any (reading limit (Items ∷ S))
  item_reads (Cells x es) S fits deep = cells_read x es S fits deep
  item_reads (Const x e) S fits deep = const_reads x e S fits deep
  item_reads (Defines f) S fits deep = function_reads f S fits deep

  program_reads : (p : Program) (S : Stack) → FitsProgram p → program_depth p ≤ limit
      → Reads limit (Items ∷ S) (program_tokens p) (program_words p) Any (reading limit (Items ∷ S))
  program_reads [] S fits deep = reads_none limit (Items ∷ S)
  program_reads (i ∷ p) S fits deep =
      let f = le-max_left (item_depth i) (program_depth p) in
      let g = le-max_right (item_depth i) (program_depth p) in
      reads_as limit (reads_then limit (item_reads i S fits.0 (omega arith)) (λ j r h m. tt) (program_reads p S fits.1 (omega arith)))
      (sym (flat_map-cons item_tokens i p)) (sym (flat_map-cons item_words i p))

-- WHOLE RUNS
pub follows_all : (ss : List Spelling) (ps : List Placed) → Spells ss ps → Follows ss ps []
follows_all [] [] h = refl
follows_all [] (p ∷ ps) h = absurd h
follows_all (s ∷ ss) [] h = absurd h
follows_all (s ∷ ss) (p ∷ ps) h = (h.0, follows_all ss ps h.1)

-- Tokens that a fitting program has are read to their end, however deep it is.
pub program_is_read : (limit : ℕ) (p : Program) (ps : List Placed) → FitsProgram p → program_depth p ≤ limit → Spells (program_tokens p) ps
    → reading limit (Items ∷ []) ps ≡ Some (program_words p)
program_is_read limit p ps fits deep h = (program_reads limit p [] fits deep).by ps [] (follows_all (program_tokens p) ps h) tt
    ∙ ap (λ ws. Some ws) (append-nil (program_words p))

run_is : (limit end : ℕ) (S : Stack) (ps : List Placed) (ws : Words) → reading limit S ps ≡ Some ws → run limit end S ps ≡ Ok ws
run_is limit end S [] ws e = ap (finished end) e
run_is limit end S (p ∷ ps) ws e = go (λ T vs f. run_is limit end T ps vs f) (advance limit S false p.at p.lexeme) e
  where
    later : (us : Words) (o : Option Words) → ended_then (Some us) o ≡ Some ws → (vs : Words) × (o ≡ Some vs) × (us ++ vs ≡ ws)
    later us None f = absurd cc
    later us (Some vs) f = (vs, refl, cc)

    go : ((T : Stack) (vs : Words) → reading limit T ps ≡ Some vs → run limit end T ps ≡ Ok vs) → (r : Result Moved CoreFaultKind)
        → read_on r (λ T. reading limit T ps) ≡ Some ws
        → run_on limit S p.at p.lexeme r (λ T. run limit end T ps) ≡ Ok ws
    go further (Ok m) f = let l = later m.appended (reading limit m.stack ps) f in
        ap (words_after m.appended) (further m.stack l.0 l.1) ∙ ap (λ us. Ok us) l.2
    go further (Err kind) f = absurd cc

-- COMPLETE
pub parsed_complete : (text : List ℕ) (ts : List Token) (p : Program) → Parses text ts p → parsed text ts ≡ Ok (program_words p)
parsed_complete text ts p h = run_is 200 (length text) (Items ∷ []) (map (placed text) ts) (program_words p)
    (program_is_read 200 p (map (placed text) ts) h.fits h.depth (spells text (program_tokens p) ts h.spelled))
