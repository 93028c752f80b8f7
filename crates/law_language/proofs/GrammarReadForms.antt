-- COMPLETE, operators, cells, calls and lists.
use Rattle.std.proofs.Common.{◌≡◌, ℕ, zero, suc, ◌+◌, ◌<◌, ◌≤◌, max, Bool, true, false, List, [], ◌∷◌, ◌++◌, length, Ok, refl, sym, ap, ◌∙◌, append_assoc}
use Rattle.std.proofs.Common.{append-nil, arith}
use Rattle.std.proofs.Math.Nat.{le-max_left, le-max_right}
use Rattle.source.specs.declared.token.Keyword.TheVariants as keyword
use Rattle.source.specs.declared.token.Sign.TheVariants as sign
use Rattle.source.specs.declared.word.InfixSign.{InfixSign}
use Rattle.source.specs.declared.word.Word.{Word}
use Rattle.source.specs.declared.word.Word.TheVariants as word
use Rattle.source.specs.Tree.{Name, NameAt, Expr, Infix, Fetch, Store, Call, Exprs, One, More}
use Rattle.source.specs.Spelled.{TheWord, TheSign, TheName, Spelling, the_sign, sign_at, name_at, name_token, infix_sign, tokens, list_tokens, first_tokens}
use Rattle.source.specs.Fits.{sign_level, left_level, level, count, depth, list_depth}
use Rattle.source.specs.Words.{Words, words, part_words, first_words}
use Rattle.law_language.specs.declared.symbol.Symbol.{Symbol}
use Rattle.law_language.specs.declared.symbol.Symbol.TheVariants.{Sign as OneSign, Emit, Operand, After, AfterName, AfterIndex, Callee, CallEnd, Start, Starts}
use Rattle.law_language.specs.GrammarAutomaton.{Stack, advance}
use Rattle.law_language.proofs.GrammarYielded.{IsOperand, AreAll}
use Rattle.law_language.proofs.GrammarLeads.{within_is, Leads, leads_as, leads_append, Reads, reads_exactly, reads_as, reads_leads, leads_reads, reads_pass}
use Rattle.law_language.proofs.GrammarLeads.{leads_pass}
use Rattle.law_language.proofs.GrammarFollowed.{close_paren, close_bracket, comma, Stops, closes, operates, stops_more, least_left, after_takes, pass_after}
use Rattle.law_language.proofs.GrammarFollowed.{pass_index}
use Rattle.law_language.proofs.GrammarReadOperands.{ExprReads, one_token, leads_step, leads_any, leads_sign, expr_reads, operand_reads, name_leads}

infix_words : {A : Type 0} (a b c : List A) (x : A) → (a ++ x ∷ []) ++ ((b ++ []) ++ c) ≡ (a ++ x ∷ b) ++ c
infix_words a b c x = simp (append_assoc, append-nil)

store_tokens : {A : Type 0} (a b : List A) (x y : A) → ((a ++ x ∷ []) ++ y ∷ []) ++ b ≡ a ++ x ∷ y ∷ b
store_tokens a b x y = simp append_assoc

store_words : {A : Type 0} (a b c : List A) (x : A) → (a ++ x ∷ []) ++ (b ++ c) ≡ (a ++ x ∷ b) ++ c
store_words a b c x = simp append_assoc

-- what is shallow enough where an operand of it is
pub shallow : (d a b limit : ℕ) → d + max a b ≤ limit → (d + a ≤ limit) × (d + b ≤ limit)
shallow d a b limit h = let f = le-max_left a b in let g = le-max_right a b in (omega arith, omega arith)

module _ (limit : ℕ) where
  -- OPERATORS
  pub reads_infix : (at : ℕ) (s : InfixSign) (l r : Expr) → ExprReads limit l → ExprReads limit r → ExprReads limit (Infix at s l r)
  reads_infix at s l r f g m d S ok =
      let Z : Stack = Emit (word.Infix at s) ∷ After m (sign_level s) d ∷ S in
      let low : m ≤ sign_level s = ok.at_least in
      let high : left_level s ≤ level l = ok.fits.1 in
      let above : sign_level s < level r = ok.fits.3 in
      let deep = shallow d (depth l) (depth r) limit ok.deep in
      let two = least_left s in
      let more : sign_level s ≤ left_level s = le-max_right 2 (sign_level s) in
      let left : Reads limit (Operand m d ∷ S) (tokens l) (words l) (Stops (level l)) (After m (level l) d ∷ S) =
      operand_reads limit l m d S f (record { fits = ok.fits.0; at_least = omega arith; deep = deep.0 }) (omega arith) in
      let middle : Leads limit (After m (level l) d ∷ S) (sign_at at (infix_sign s) ∷ []) (word.Left ∷ []) (Operand (sign_level s + 1) d ∷ Z) =
      leads_step limit (After m (level l) d) S at (TheSign (infix_sign s)) _ _ (after_takes m (level l) d at s low high) in
      let begun : Leads limit (Operand m d ∷ S) (tokens l ++ sign_at at (infix_sign s) ∷ []) (words l ++ word.Left ∷ []) (Operand (sign_level s + 1) d ∷ Z) =
      reads_leads limit (sign_at at (infix_sign s)) (operates s high) left middle in
      let right : Reads limit (Operand (sign_level s + 1) d ∷ Z) (tokens r) (words r) (Stops (level r)) (After (sign_level s + 1) (level r) d ∷ Z) =
      operand_reads limit r (sign_level s + 1) d Z g (record { fits = ok.fits.2; at_least = omega arith; deep = deep.1 }) (omega arith) in
      let passed : Reads limit (Operand (sign_level s + 1) d ∷ Z) (tokens r) (words r ++ []) (Stops (sign_level s)) Z =
      reads_pass limit (Stops (sign_level s)) [] (λ x h. stops_more (sign_level s) (level r) x (omega arith) h)
      (λ there x h. pass_after limit Z (sign_level s + 1) (level r) d (sign_level s) (omega arith) there x h) right in
      let ended : Reads limit (Operand (sign_level s + 1) d ∷ Z) (tokens r) ((words r ++ []) ++ word.Infix at s ∷ []) (Stops (sign_level s))
      (After m (sign_level s) d ∷ S) =
      reads_pass limit (Stops (sign_level s)) (word.Infix at s ∷ []) (λ x h. h) (λ there x h. refl) passed in
      reads_as limit (leads_reads limit begun ended) (append_assoc (tokens l) (sign_at at (infix_sign s) ∷ []) (tokens r))
      (infix_words (words l) (words r) (word.Infix at s ∷ []) word.Left)

  -- CELLS
  cell_leads : (at : ℕ) (a : Name) (e : Expr) (m d : ℕ) (S : Stack) → ExprReads limit e → IsOperand limit 0 (d + 1) e
      → Leads limit (Operand m d ∷ S) (name_at at a ∷ the_sign sign.OpenBracket ∷ tokens e ++ the_sign sign.CloseBracket ∷ []) (word.Cell at a ∷ words e)
      (AfterIndex at a m d ∷ S)
  cell_leads at a e m d S f ok =
      let Z : Stack = AfterIndex at a m d ∷ S in
      let deep : d + 1 ≤ limit = (let g = ok.deep in omega arith) in
      let closed : Leads limit (Operand 0 (d + 1) ∷ OneSign sign.CloseBracket ∷ Z) (tokens e ++ the_sign sign.CloseBracket ∷ []) (words e ++ []) Z =
      reads_leads limit (the_sign sign.CloseBracket) (closes close_bracket) (expr_reads limit e (d + 1) (OneSign sign.CloseBracket ∷ Z) f ok)
      (leads_sign limit sign.CloseBracket Z) in
      let opened : Leads limit (AfterName at a m d ∷ S) (the_sign sign.OpenBracket ∷ []) (word.Cell at a ∷ [])
      (Operand 0 (d + 1) ∷ OneSign sign.CloseBracket ∷ Z) =
      leads_any limit (AfterName at a m d) S (TheSign sign.OpenBracket) _ _ (λ there. within_is limit (d + 1) _ deep) in
      leads_as (leads_append limit (name_leads limit at a m d S (omega arith)) (leads_append limit opened closed)) refl
      (ap (λ t. word.Cell at a ∷ t) (append-nil (words e)))

  pub reads_fetch : (at : ℕ) (a : Name) (e : Expr) → ExprReads limit e → ExprReads limit (Fetch at a e)
  reads_fetch at a e f m d S ok = leads_pass limit (Stops 9) (word.Fetch at a ∷ []) (λ there l h. pass_index limit S at a m d 9 there l h)
      (cell_leads at a e m d S f (record { fits = ok.fits; at_least = omega arith; deep = (let g = ok.deep in omega arith) }))

  pub reads_store : (at : ℕ) (a : Name) (e s : Expr) → ExprReads limit e → ExprReads limit s → ExprReads limit (Store at a e s)
  reads_store at a e s f g (suc m) d S ok = absurd (let h = ok.at_least in omega arith)
  reads_store at a e s f g zero d S ok =
      let deep = shallow d (suc (depth e)) (suc (depth s)) limit (let h = ok.deep in omega arith) in
      let cell = cell_leads at a e 0 d S f (record { fits = ok.fits.0; at_least = omega arith; deep = (let h = deep.0 in omega arith) }) in
      let becomes : Leads limit (AfterIndex at a 0 d ∷ S) (the_sign sign.Becomes ∷ []) (word.Index ∷ []) (Operand 0 (d + 1) ∷ Emit (word.Store at a) ∷ S) =
      leads_any limit (AfterIndex at a 0 d) S (TheSign sign.Becomes) _ _ (λ there. refl) in
      let stored : Reads limit (Operand 0 (d + 1) ∷ Emit (word.Store at a) ∷ S) (tokens s) (words s ++ word.Store at a ∷ []) (Stops 0) S =
      reads_pass limit (Stops 0) (word.Store at a ∷ []) (λ x h. h) (λ there x h. refl)
      (expr_reads limit s (d + 1) (Emit (word.Store at a) ∷ S) g
      (record { fits = ok.fits.1; at_least = omega arith; deep = (let h = deep.1 in omega arith) })) in
      reads_as limit (leads_reads limit (leads_append limit cell becomes) stored)
      (store_tokens (name_at at a ∷ the_sign sign.OpenBracket ∷ tokens e) (tokens s) (the_sign sign.CloseBracket) (the_sign sign.Becomes))
      (store_words (word.Cell at a ∷ words e) (words s) (word.Store at a ∷ []) word.Index)

  -- LISTS. The word that ends a part is appended with the token after the part.
  pub record ListReads (S : Stack) (ss : List Spelling) (ws : Words) (last : Word Name) (T : Stack) : Type 0 where
    pub early : Words
    pub is : early ++ last ∷ [] ≡ ws
    pub reads : Reads limit S ss early (Stops 0) T

  pub list_end : {S T U : Stack} {ss ts : List Spelling} {ws vs : Words} {last : Word Name} (s : Spelling) → Stops 0 s.lexeme → ListReads S ss ws last T
      → Leads limit T (s ∷ ts) (last ∷ vs) U
      → Leads limit S (ss ++ s ∷ ts) (ws ++ vs) U
  list_end {vs = vs} {last = last} s h r l =
      leads_as (reads_leads limit s h r.reads l) refl (sym (append_assoc r.early (last ∷ []) vs) ∙ ap (λ t. t ++ vs) r.is)

  list_more : {S T U : Stack} {ss ts : List Spelling} {ws vs : Words} {last : Word Name} → Reads limit S ss ws (Stops 0) T
      → Leads limit T (the_sign sign.Comma ∷ []) (last ∷ []) U → ListReads U ts vs last T
      → ListReads S (ss ++ the_sign sign.Comma ∷ ts) (ws ++ last ∷ vs) last T
  list_more {ss = ss} {ts = ts} {ws = ws} {vs = vs} {last = last} r l further = record {
    early = (ws ++ last ∷ []) ++ further.early;
    is = append_assoc (ws ++ last ∷ []) further.early (last ∷ []) ∙ ap (λ t. (ws ++ last ∷ []) ++ t) further.is ∙ append_assoc ws (last ∷ []) vs;
    reads = reads_as limit (leads_reads limit (reads_leads limit (the_sign sign.Comma) (closes comma) r l) further.reads)
        (append_assoc ss (the_sign sign.Comma ∷ []) ts) refl;
  }

  pub some_depth : (es : Exprs) → 1 ≤ list_depth es
  some_depth (One e) = omega arith
  some_depth (More e es) = let f = le-max_left (suc (depth e)) (list_depth es) in omega arith

  abbrev pub Lists : Exprs → Type 0
  Lists es = (d : ℕ) (Q : Symbol Name) (S : Stack) → AreAll limit d es
      → ((at : ℕ) → advance limit (Q ∷ S) at (TheSign sign.Comma) ≡ Ok (record { appended = word.Part ∷ []; stack = Operand 0 (d + 1) ∷ Q ∷ S }))
      → ListReads (Operand 0 (d + 1) ∷ Q ∷ S) (list_tokens es) (part_words es) word.Part (Q ∷ S)

  first_of_all : (d : ℕ) (e : Expr) (es : Exprs) → AreAll limit d (More e es) → IsOperand limit 0 (d + 1) e
  first_of_all d e es all =
      record {
        fits = all.fits.0;
        at_least = omega arith;
        deep = (let h = shallow d (suc (depth e)) (list_depth es) limit all.deep in let g = h.0 in omega arith);
      }

  others_of_all : (d : ℕ) (e : Expr) (es : Exprs) → AreAll limit d (More e es) → AreAll limit d es
  others_of_all d e es all = record { fits = all.fits.1; deep = (let h = shallow d (suc (depth e)) (list_depth es) limit all.deep in h.1) }

  only_of_all : (d : ℕ) (e : Expr) → AreAll limit d (One e) → IsOperand limit 0 (d + 1) e
  only_of_all d e all = record { fits = all.fits; at_least = omega arith; deep = (let h = all.deep in omega arith) }

  pub lists_one : (e : Expr) → ExprReads limit e → Lists (One e)
  lists_one e f d Q S all commas = record { early = words e; is = refl; reads = expr_reads limit e (d + 1) (Q ∷ S) f (only_of_all d e all) }

  pub lists_more : (e : Expr) (es : Exprs) → ExprReads limit e → Lists es → Lists (More e es)
  lists_more e es f further d Q S all commas = list_more (expr_reads limit e (d + 1) (Q ∷ S) f (first_of_all d e es all))
      (one_token limit (Q ∷ S) (Operand 0 (d + 1) ∷ Q ∷ S) (the_sign sign.Comma) (word.Part ∷ []) (λ at p. commas at))
      (further d Q S (others_of_all d e es all) commas)

  -- names of a loop with their first values
  abbrev pub Firsts : Exprs → Type 0
  Firsts es = (d : ℕ) (xs : List NameAt) (S : Stack) → AreAll limit d es → count es ≡ length xs
      → ListReads (Start d ∷ Starts d ∷ S) (first_tokens xs es) (first_words xs es) word.First (Starts d ∷ S)

  start_reads : (d : ℕ) (x : NameAt) (e : Expr) (S : Stack) → ExprReads limit e → IsOperand limit 0 (d + 1) e
      → Reads limit (Start d ∷ Starts d ∷ S) (name_token x ∷ the_sign sign.Equals ∷ tokens e) (word.Start x.at x.name ∷ words e) (Stops 0) (Starts d ∷ S)
  start_reads d x e S f ok = leads_reads limit
      (leads_append limit (leads_step limit (Start d) (Starts d ∷ S) x.at (TheName x.name) (word.Start x.at x.name ∷ [])
      (OneSign sign.Equals ∷ Operand 0 (d + 1) ∷ []) refl) (leads_sign limit sign.Equals (Operand 0 (d + 1) ∷ Starts d ∷ S)))
      (expr_reads limit e (d + 1) (Starts d ∷ S) f ok)

  pub firsts_one : (e : Expr) → ExprReads limit e → Firsts (One e)
  firsts_one e f d [] S all many = absurd (omega arith)
  firsts_one e f d (x ∷ xs) S all many = record { early = word.Start x.at x.name ∷ words e; is = refl; reads = start_reads d x e S f (only_of_all d e all) }

  pub firsts_more : (e : Expr) (es : Exprs) → ExprReads limit e → Firsts es → Firsts (More e es)
  firsts_more e es f further d [] S all many = absurd (omega arith)
  firsts_more e es f further d (x ∷ xs) S all many = list_more (start_reads d x e S f (first_of_all d e es all))
      (leads_any limit (Starts d) S (TheSign sign.Comma) (word.First ∷ []) (Start d ∷ Starts d ∷ []) (λ at. refl))
      (further d xs S (others_of_all d e es all) (omega arith))

  -- CALLS
  arguments_lead : (called : ℕ) (strict : Bool) (g : Name) (es : Exprs) (d : ℕ) (S : Stack) → Lists es → AreAll limit d es
      → Leads limit (Operand 0 (d + 1) ∷ CallEnd called strict g d ∷ S) (list_tokens es ++ the_sign sign.CloseParen ∷ [])
      (part_words es ++ word.Call called strict g ∷ []) S
  arguments_lead called strict g es d S f all = list_end (the_sign sign.CloseParen) (closes close_paren) (f d (CallEnd called strict g d) S all (λ at. refl))
      (leads_any limit (CallEnd called strict g d) S (TheSign sign.CloseParen) (word.Part ∷ word.Call called strict g ∷ []) [] (λ at. refl))

  pub reads_call : (at : ℕ) (strict : Bool) (g : Name) (es : Exprs) → Lists es → ExprReads limit (Call at strict g es)
  reads_call at false g es f m d S ok =
      let some = some_depth es in
      let deep : d + 1 ≤ limit = (let h = ok.deep in omega arith) in
      reads_exactly limit (Stops 9) (leads_append limit (name_leads limit at g m d S (omega arith)) (leads_append limit
      (leads_any limit (AfterName at g m d) S (TheSign sign.OpenParen) _ _ (λ there. within_is limit (d + 1) _ deep))
      (arguments_lead at false g es d (After m 9 d ∷ S) f (record { fits = ok.fits; deep = ok.deep }))))
  reads_call at true g es f m d S ok =
      let some = some_depth es in
      let deep : d + 1 ≤ limit = (let h = ok.deep in omega arith) in
      reads_exactly limit (Stops 9)
      (leads_append limit (leads_any limit (Operand m d) S (TheWord keyword.Strict) _ _ (λ there. within_is limit (d + 1) _ deep)) (leads_append limit
      (leads_step limit (Callee d) (After m 9 d ∷ S) at (TheName g) (word.Callee at g ∷ word.List ∷ [])
      (OneSign sign.OpenParen ∷ Operand 0 (d + 1) ∷ CallEnd at true g d ∷ []) refl)
      (leads_append limit (leads_sign limit sign.OpenParen (Operand 0 (d + 1) ∷ CallEnd at true g d ∷ After m 9 d ∷ S))
      (arguments_lead at true g es d (After m 9 d ∷ S) f (record { fits = ok.fits; deep = ok.deep })))))
