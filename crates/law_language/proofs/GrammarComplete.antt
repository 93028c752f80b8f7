-- COMPLETE: the automaton reads the tokens of each fitting program, and appends its words.
use Rattle.std.proofs.Common.{◌≡◌, ℕ, ◌<◌, ◌≤◌, List, [], ◌∷◌, ◌++◌, map, length, Option, None, Some, Result, Ok, Err, refl, sym, ap, ◌∙◌, append_assoc}
use Rattle.std.proofs.Common.{append-nil, arith}
use Rattle.std.proofs.Math.Nat.{le-max_left, le-max_right}
use Rattle.std.proofs.lemmas.List.Concat.{flat_map-cons}
use Rattle.operators.specs.declared.Unary.TheVariants.{Neg, Not}
use Rattle.source.specs.declared.fault.Fault.{Fault}
use Rattle.source.specs.declared.token.Keyword.TheVariants as keyword
use Rattle.source.specs.declared.token.Sign.TheVariants as sign
use Rattle.source.specs.declared.token.Token.{Token}
use Rattle.source.specs.declared.word.Word.TheVariants as word
use Rattle.source.specs.Tree.{NameAt, NumberAt, Expr, Number, Named, Bracket, Prefix, Infix, Fetch, Store, Call, If, Loop, Exprs, One, More, Body, Let, Do}
use Rattle.source.specs.Tree.{Give, Chain, Turn, Before, After as TestLast, Function, Item, Cells, Defines, Program}
use Rattle.source.specs.Spelled.{TheWord, TheSign, TheNumber, TheName, Spelling, the_word, the_sign, sign_at, name_token, with_commas, result_tokens}
use Rattle.source.specs.Spelled.{body_tokens}
use Rattle.source.specs.Spelled.{item_tokens, program_tokens}
use Rattle.source.specs.Fits.{IsSmall, FitsItem, FitsProgram, item_depth, program_depth}
use Rattle.source.specs.Words.{Words, result_words, body_words, item_words, program_words}
use Rattle.source.specs.Parses.{Parses}
use Rattle.law_language.specs.declared.symbol.Symbol.TheVariants.{Sign as OneSign, Emit, Items, ArrayName, ArrayLength, FunctionName, Parameter, Parameters}
use Rattle.law_language.specs.declared.symbol.Symbol.TheVariants.{Results, ResultCount, FunctionBody, Steps}
use Rattle.law_language.specs.GrammarAutomaton.{Stack, Placed, placed, Moved, advance, finish, run, parsed}
use Rattle.law_language.proofs.GrammarYielded.{further}
use Rattle.law_language.proofs.GrammarExplainLists.{with_commas_is}
use Rattle.law_language.proofs.GrammarRuns.{Spells, spells, moved_by, advance_all, Ran, whole, unended, stopped, ran}
use Rattle.law_language.proofs.GrammarLeads.{moved_nothing, small_is, advance_append, Leads, leads_as, leads_none, leads_settled, leads_append, Reads}
use Rattle.law_language.proofs.GrammarReadOperands.{ExprReads, leads_step, leads_any, leads_sign, reads_number, reads_named, reads_bracket, reads_neg}
use Rattle.law_language.proofs.GrammarReadOperands.{reads_not}
use Rattle.law_language.proofs.GrammarReadForms.{Lists, Firsts, reads_infix, reads_fetch, reads_store, reads_call, lists_one, lists_more, firsts_one}
use Rattle.law_language.proofs.GrammarReadForms.{firsts_more}
use Rattle.law_language.proofs.GrammarReadBodies.{Any, BodyReads, ChainReads, TurnReads, body_leads, reads_conditional, reads_if, reads_chain, reads_give}
use Rattle.law_language.proofs.GrammarReadBodies.{reads_do, reads_let, reads_before, reads_test_last, reads_loop}

module _ (limit : ℕ) where
  -- TREES
  record ExprClaim (e : Expr) : Type 0 where
    reads : ExprReads limit e
    chains : ChainReads limit e

  record ListClaim (es : Exprs) : Type 0 where
    lists : Lists limit es
    firsts : Firsts limit es

  mutual
    expr_claim : (e : Expr) → ExprClaim e
    expr_claim (Number at n) = record { reads = reads_number limit at n; chains = tt }
    expr_claim (Named at x) = record { reads = reads_named limit at x; chains = tt }
    expr_claim (Bracket e) = record { reads = reads_bracket limit e (expr_claim e).reads; chains = tt }
    expr_claim (Prefix at Neg e) = record { reads = reads_neg limit at e (expr_claim e).reads; chains = tt }
    expr_claim (Prefix at Not e) = record { reads = reads_not limit at e (expr_claim e).reads; chains = tt }
    expr_claim (Infix at s l r) = record { reads = reads_infix limit at s l r (expr_claim l).reads (expr_claim r).reads; chains = tt }
    expr_claim (Fetch at a e) = record { reads = reads_fetch limit at a e (expr_claim e).reads; chains = tt }
    expr_claim (Store at a e s) = record { reads = reads_store limit at a e s (expr_claim e).reads (expr_claim s).reads; chains = tt }
    expr_claim (Call at strict g es) = record { reads = reads_call limit at strict g es (list_claim es).lists; chains = tt }
    expr_claim (If at p l r) = let c = reads_conditional limit at p l r (expr_claim p).reads (body_claim l) (body_claim r) in
        record { reads = reads_if limit at p l r c; chains = c }
    expr_claim (Loop at b es t) = record { reads = reads_loop limit at b es t (list_claim es).firsts (turn_claim t); chains = tt }

    list_claim : (es : Exprs) → ListClaim es
    list_claim (One e) = record { lists = lists_one limit e (expr_claim e).reads; firsts = firsts_one limit e (expr_claim e).reads }
    list_claim (More e es) =
        record {
          lists = lists_more limit e es (expr_claim e).reads (list_claim es).lists;
          firsts = firsts_more limit e es (expr_claim e).reads (list_claim es).firsts;
        }

    body_claim : (b : Body) → BodyReads limit b
    body_claim (Let at ts es rest) = reads_let limit at ts es rest (list_claim es).lists (body_claim rest)
    body_claim (Do es rest) = reads_do limit es rest (list_claim es).lists (body_claim rest)
    body_claim (Give es) = reads_give limit es (list_claim es).lists
    body_claim (Chain e) = reads_chain limit e (expr_claim e).chains

    turn_claim : (t : Turn) → TurnReads limit t
    turn_claim (Before xs p b) = reads_before limit xs p b (expr_claim p).reads (body_claim b)
    turn_claim (TestLast xs b p) = reads_test_last limit xs b p (body_claim b) (expr_claim p).reads

  -- ITEMS
  cells_lead : (x : NameAt) (len : NumberAt) (S : Stack) → FitsItem (Cells x len)
      → Leads limit (Items ∷ S) (item_tokens (Cells x len)) (item_words (Cells x len)) (Items ∷ S)
  cells_lead x len S fits =
      leads_append limit (leads_any limit Items S (TheWord keyword.Array) []
      (ArrayName ∷ OneSign sign.OpenBracket ∷ ArrayLength ∷ OneSign sign.CloseBracket ∷ OneSign sign.Semicolon ∷ Items ∷ []) (λ at. refl))
      (leads_append limit (leads_step limit ArrayName
      (OneSign sign.OpenBracket ∷ ArrayLength ∷ OneSign sign.CloseBracket ∷ OneSign sign.Semicolon ∷ Items ∷ S) x.at (TheName x.name)
      (word.Array x.at x.name ∷ []) [] refl)
      (leads_append limit (leads_sign limit sign.OpenBracket (ArrayLength ∷ OneSign sign.CloseBracket ∷ OneSign sign.Semicolon ∷ Items ∷ S))
      (leads_append limit (leads_step limit ArrayLength (OneSign sign.CloseBracket ∷ OneSign sign.Semicolon ∷ Items ∷ S) len.at (TheNumber len.number)
      (word.Length len.at len.number ∷ []) [] (small_is len.number _ fits))
      (leads_append limit (leads_sign limit sign.CloseBracket (OneSign sign.Semicolon ∷ Items ∷ S)) (leads_sign limit sign.Semicolon (Items ∷ S))))))

  parameter_leads : (x : NameAt) (S : Stack) → Leads limit (Parameter ∷ S) (name_token x ∷ []) (word.Parameter x.at x.name ∷ []) S
  parameter_leads x S = leads_step limit Parameter S x.at (TheName x.name) (word.Parameter x.at x.name ∷ []) [] refl

  parameters_lead : (xs : List NameAt) (S : Stack)
      → Leads limit (Parameters ∷ S) (further (map name_token xs) ++ the_sign sign.CloseParen ∷ []) (map (λ (x : NameAt). word.Parameter x.at x.name) xs) S
  parameters_lead [] S = leads_any limit Parameters S (TheSign sign.CloseParen) [] [] (λ at. refl)
  parameters_lead (x ∷ xs) S = leads_append limit (leads_any limit Parameters S (TheSign sign.Comma) [] (Parameter ∷ Parameters ∷ []) (λ at. refl))
      (leads_append limit (parameter_leads x (Parameters ∷ S)) (parameters_lead xs S))

  results_lead : (f : Function) (S : Stack) → FitsItem (Defines f) → item_depth (Defines f) ≤ limit
      → Leads limit (Results ∷ S) (result_tokens f.results ++ sign_at f.body_at sign.OpenBrace ∷ body_tokens f.body)
      (result_words f.results ++ word.Body f.body_at ∷ body_words f.body) S
  results_lead f S fits deep = go f.results fits.1
    where
      body : Leads limit (Steps 0 ∷ S) (body_tokens f.body) (body_words f.body) S
      body = body_leads limit f.body 0 S (body_claim f.body) (record { fits = fits.2; deep = omega arith })

      go : (r : Option NumberAt) → IsSmall r
          → Leads limit (Results ∷ S) (result_tokens r ++ sign_at f.body_at sign.OpenBrace ∷ body_tokens f.body)
          (result_words r ++ word.Body f.body_at ∷ body_words f.body) S
      go None small = leads_append limit (leads_step limit Results S f.body_at (TheSign sign.OpenBrace) (word.Body f.body_at ∷ []) (Steps 0 ∷ []) refl) body
      go (Some n) small = leads_append limit (leads_any limit Results S (TheSign sign.Arrow) [] (ResultCount ∷ FunctionBody ∷ []) (λ at. refl))
          (leads_append limit (leads_step limit ResultCount (FunctionBody ∷ S) n.at (TheNumber n.number) (word.Results n.at n.number ∷ []) []
          (small_is n.number _ small))
          (leads_append limit (leads_step limit FunctionBody S f.body_at (TheSign sign.OpenBrace) (word.Body f.body_at ∷ []) (Steps 0 ∷ []) refl) body))

  function_tokens : {A : Type 0} (x : A) (F R B : List A) (c : A) → x ∷ ((F ++ c ∷ []) ++ (R ++ B)) ≡ ((x ∷ F) ++ c ∷ R) ++ B
  function_tokens x F R B c = simp append_assoc

  function_words : {A : Type 0} (M R B E : List A) → (M ++ (R ++ B)) ++ E ≡ ((M ++ R) ++ B) ++ E
  function_words M R B E = simp append_assoc

  record ItemReads (i : Item) : Type 0 where
    reads : Reads limit (Items ∷ []) (item_tokens i) (item_words i) Any (Items ∷ [])
    ends : finish reads.reached ≡ Some reads.late

  item_reads : (i : Item) → FitsItem i → item_depth i ≤ limit → ItemReads i
  item_reads (Cells x len) fits deep = record {
    reads = record {
      reached = Items ∷ [];
      early = item_words (Cells x len);
      late = [];
      joined = append-nil (item_words (Cells x len));
      leads = cells_lead x len [] fits;
      settles = λ at l h. sym (moved_nothing (advance limit (Items ∷ []) at l));
    };
    ends = refl;
  }
  item_reads (Defines f) fits deep = go f.params fits.0 refl
    where
      go : (xs : List NameAt) → 0 < length xs → f.params ≡ xs → ItemReads (Defines f)
      go [] some is = absurd (omega arith)
      go (x ∷ xs) some is =
          let Z : Stack = Emit word.EndFunction ∷ Items ∷ [] in
          let R = result_tokens f.results in
          let B = sign_at f.body_at sign.OpenBrace ∷ body_tokens f.body in
          let M = map (λ (x : NameAt). word.Parameter x.at x.name) xs in
          let all = leads_append limit
          (leads_any limit Items [] (TheWord keyword.Fn) []
          (FunctionName ∷ OneSign sign.OpenParen ∷ Parameter ∷ Parameters ∷ Results ∷ Emit word.EndFunction ∷ Items ∷ []) (λ at. refl))
          (leads_append limit (leads_step limit FunctionName (OneSign sign.OpenParen ∷ Parameter ∷ Parameters ∷ Results ∷ Z) f.name.at (TheName f.name.name)
          (word.Function f.name.at f.name.name ∷ []) [] refl)
          (leads_append limit (leads_sign limit sign.OpenParen (Parameter ∷ Parameters ∷ Results ∷ Z))
          (leads_append limit (parameter_leads x (Parameters ∷ Results ∷ Z))
          (leads_append limit (parameters_lead xs (Results ∷ Z)) (results_lead f Z fits deep))))) in
          record {
            reads = record {
              reached = Z;
              early = word.Function f.name.at f.name.name ∷ word.Parameter x.at x.name ∷
                  (M ++ (result_words f.results ++ word.Body f.body_at ∷ body_words f.body));
              late = word.EndFunction ∷ [];
              joined = ap (λ t. word.Function f.name.at f.name.name ∷ word.Parameter x.at x.name ∷ t)
                  (function_words M (result_words f.results) (word.Body f.body_at ∷ body_words f.body) (word.EndFunction ∷ []))
                  ∙ ap (λ ys. word.Function f.name.at f.name.name ∷ map (λ (x : NameAt). word.Parameter x.at x.name) ys ++ result_words f.results
                  ++ word.Body f.body_at ∷ body_words f.body ++ word.EndFunction ∷ []) (sym is);
              leads = leads_as all (ap (λ t. the_word keyword.Fn ∷ name_token f.name ∷ the_sign sign.OpenParen ∷ t)
                  (function_tokens (name_token x) (further (map name_token xs)) R B (the_sign sign.CloseParen)
                  ∙ ap (λ t. (t ++ the_sign sign.CloseParen ∷ R) ++ B)
                  (sym (with_commas_is (name_token x) (map name_token xs)) ∙ ap (λ ys. with_commas (map name_token ys)) (sym is)))) refl;
              settles = λ at l h. refl;
            };
            ends = refl;
          }

  -- PROGRAMS
  record FirstOf (ss : List Spelling) : Type 0 where
    first : Spelling
    others : List Spelling
    is : ss ≡ first ∷ others

  item_first : (i : Item) (rest : List Spelling) → FirstOf (item_tokens i ++ rest)
  item_first (Cells x len) rest = record { first = _; others = _; is = refl }
  item_first (Defines f) rest = record { first = _; others = _; is = refl }

  record ProgramReads (p : Program) : Type 0 where
    reads : Reads limit (Items ∷ []) (program_tokens p) (program_words p) Any (Items ∷ [])
    ends : finish reads.reached ≡ Some reads.late

  program_reads : (p : Program) → FitsProgram p → program_depth p ≤ limit → ProgramReads p
  program_reads [] fits deep = record {
    reads = record {
      reached = Items ∷ [];
      early = [];
      late = [];
      joined = refl;
      leads = leads_none;
      settles = λ at l h. sym (moved_nothing (advance limit (Items ∷ []) at l));
    };
    ends = refl;
  }
  program_reads (i ∷ p) fits deep = go p (program_reads p (fits.1) (let h = le-max_right (item_depth i) (program_depth p) in omega arith))
    where
      one : ItemReads i
      one = item_reads i (fits.0) (let h = le-max_left (item_depth i) (program_depth p) in omega arith)

      tokens_are : (q : Program) → item_tokens i ++ program_tokens q ≡ program_tokens (i ∷ q)
      tokens_are q = sym (flat_map-cons item_tokens i q)

      words_are : (q : Program) → item_words i ++ program_words q ≡ program_words (i ∷ q)
      words_are q = sym (flat_map-cons item_words i q)

      go : (q : Program) → ProgramReads q → ProgramReads (i ∷ q)
      go [] r = let a = one.reads in record {
        reads = record {
          reached = a.reached;
          early = a.early;
          late = a.late;
          joined = a.joined ∙ sym (append-nil (item_words i)) ∙ words_are [];
          leads = leads_as a.leads (sym (append-nil (item_tokens i)) ∙ tokens_are []) refl;
          settles = a.settles;
        };
        ends = one.ends;
      }
      go (j ∷ q) r =
          let a = one.reads in
          let b = r.reads in
          let f = item_first j (program_tokens q) in
          let first_is : program_tokens (j ∷ q) ≡ f.first ∷ f.others = flat_map-cons item_tokens j q ∙ f.is in
          let further = leads_as (leads_settled limit f.first f.others a.late (λ at h. a.settles at f.first.lexeme tt) (leads_as b.leads first_is refl))
          (sym first_is) refl in
          record {
            reads = record {
              reached = b.reached;
              early = a.early ++ (a.late ++ b.early);
              late = b.late;
              joined = ap (λ t. t ++ b.late) (sym (append_assoc a.early a.late b.early) ∙ ap (λ t. t ++ b.early) a.joined)
                  ∙ append_assoc (item_words i) b.early b.late
                  ∙ ap (λ t. item_words i ++ t) b.joined ∙ words_are (j ∷ q);
              leads = leads_as (leads_append limit a.leads further) (tokens_are (j ∷ q)) refl;
              settles = b.settles;
            };
            ends = r.ends;
          }

-- WHOLE RUNS
from_ran : (limit end : ℕ) (S : Stack) (ps : List Placed) (m : Moved) (ws : Words) (r : Result Words Fault) → Ran limit end S ps r
    → advance_all limit S ps ≡ Ok m → finish m.stack ≡ Some ws
    → r ≡ Ok (m.appended ++ ws)
from_ran limit end S ps m ws _ (whole n vs e f) g h = cc
from_ran limit end S ps m ws _ (unended n e f) g h = absurd cc
from_ran limit end S ps m ws _ (stopped before p after n kind is e f) g h =
    let stops : moved_by (advance_all limit S before) (λ stack. advance_all limit stack (p ∷ after)) ≡ Err kind = rw (e, f) refl in
    let all : advance_all limit S ps ≡ Err kind = ap (advance_all limit S) is ∙ advance_append limit S before (p ∷ after) ∙ stops in absurd cc

-- Tokens that a fitting program has are read to its end, however deep it is.
pub run_complete : (limit end : ℕ) (p : Program) (ps : List Placed) → FitsProgram p → program_depth p ≤ limit → Spells (program_tokens p) ps
    → run limit end (Items ∷ []) ps ≡ Ok (program_words p)
run_complete limit end p ps fits deep spelled =
    let r = program_reads limit p fits deep in
    let a = r.reads in
    from_ran limit end (Items ∷ []) ps (record { appended = a.early; stack = a.reached }) a.late _ (ran limit end (Items ∷ []) ps)
    (a.leads.by ps spelled) r.ends ∙ ap (λ ws. Ok ws) a.joined

-- COMPLETE
pub parsed_complete : (text : List ℕ) (ts : List Token) (p : Program) → Parses text ts p → parsed text ts ≡ Ok (program_words p)
parsed_complete text ts p h = run_complete 200 (length text) p (map (placed text) ts) h.fits h.depth (spells text (program_tokens p) ts h.spelled)

-- the same, of what is done with the tokens
pub record Advances (limit : ℕ) (ps : List Placed) : Type 0 where
  pub moved : Moved
  pub last : Words
  pub is : advance_all limit (Items ∷ []) ps ≡ Ok moved
  pub ends : finish moved.stack ≡ Some last

pub program_advances : (limit : ℕ) (p : Program) (ps : List Placed) → FitsProgram p → program_depth p ≤ limit → Spells (program_tokens p) ps → Advances limit ps
program_advances limit p ps fits deep spelled =
    let r = program_reads limit p fits deep in
    record { moved = record { appended = r.reads.early; stack = r.reads.reached }; last = r.reads.late; is = r.reads.leads.by ps spelled; ends = r.ends }
