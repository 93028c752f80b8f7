-- COMPLETE, operands: the automaton reads the tokens of a fitting expression, and appends its words. The parts of the expression
-- are hypotheses here.
use Rattle.std.proofs.Common.{◌≡◌, ℕ, suc, ◌+◌, ◌≤◌, true, false, List, [], ◌∷◌, ◌++◌, None, Some, Ok, refl, sym, ap, ◌∙◌, subst, append-nil, arith, inl, inr}
use Rattle.std.specs.Prelude.{◌^◌, ◌⊎◌, if◌then◌else◌}
use Rattle.std.proofs.lemmas.Bool.{le-leb}
use Rattle.operators.specs.declared.Unary.{Unary}
use Rattle.operators.specs.declared.Unary.TheVariants.{Neg, Not}
use Rattle.source.specs.declared.fault.FaultKind.TheVariants.{Unexpected}
use Rattle.source.specs.declared.token.Sign.{Sign}
use Rattle.source.specs.declared.token.Sign.TheVariants as sign
use Rattle.source.specs.declared.word.Word.TheVariants as word
use Rattle.source.specs.Tree.{Name, Expr, Number, Named, Bracket, Prefix, Infix, Fetch, Store, Call, If, Loop}
use Rattle.source.specs.Spelled.{Lexeme, TheSign, TheNumber, TheName, Spelling, the_sign, sign_at, number_at, name_at, prefix_sign, tokens}
use Rattle.source.specs.Fits.{sign_level, level, Fits, IsLeast, depth, prefix_depth}
use Rattle.source.specs.Words.{Words, words}
use Rattle.law_language.specs.declared.symbol.Symbol.{Symbol}
use Rattle.law_language.specs.declared.symbol.Symbol.TheVariants.{Sign as OneSign, Emit, Operand, Negated, After, AfterName}
use Rattle.law_language.specs.GrammarAutomaton.{Stack, Takes, Refuses, step, operand, negated, advance_by, advance}
use Rattle.law_language.proofs.GrammarYielded.{IsOperand}
use Rattle.law_language.proofs.GrammarExplainFollowing.{sign_level_most}
use Rattle.law_language.proofs.GrammarLeads.{within_is, small_is, moved_nothing, Leads, Moves, leads_as, leads_none, leads_cons, leads_settled, leads_append}
use Rattle.law_language.proofs.GrammarLeads.{advance_takes, advance_sign, Reads, reads_exactly, reads_as, reads_leads, leads_reads, reads_pass, leads_pass}
use Rattle.law_language.proofs.GrammarFollowed.{close_paren, Stops, closes, stops_more, stops_seven, pass_after, pass_end, pass_name}

-- what is on the stack after an expression
abbrev pub rest_of : Expr → ℕ → ℕ → Stack → Stack
rest_of (Number at n) m d S = After m 9 d ∷ S
rest_of (Named at x) m d S = After m 9 d ∷ S
rest_of (Bracket e) m d S = After m 9 d ∷ S
rest_of (Prefix at op e) m d S = After m 8 d ∷ S
rest_of (Infix at s l r) m d S = After m (sign_level s) d ∷ S
rest_of (Fetch at a e) m d S = After m 9 d ∷ S
rest_of (Store at a e f) m d S = S
rest_of (Call at strict f es) m d S = After m 9 d ∷ S
rest_of (If at p l r) m d S = After m 9 d ∷ S
rest_of (Loop at b es t) m d S = After m 9 d ∷ S

rest_is : (e : Expr) (m d : ℕ) (S : Stack) → 1 ≤ level e → rest_of e m d S ≡ After m (level e) d ∷ S
rest_is (Number at n) m d S h = refl
rest_is (Named at x) m d S h = refl
rest_is (Bracket e) m d S h = refl
rest_is (Prefix at op e) m d S h = refl
rest_is (Infix at s l r) m d S h = refl
rest_is (Fetch at a e) m d S h = refl
rest_is (Store at a e f) m d S h = absurd (omega arith)
rest_is (Call at strict f es) m d S h = refl
rest_is (If at p l r) m d S h = refl
rest_is (Loop at b es t) m d S h = refl

module _ (limit : ℕ) where
  abbrev pub ExprReads : Expr → Type 0
  ExprReads e = (m d : ℕ) (S : Stack) → IsOperand limit m d e → Reads limit (Operand m d ∷ S) (tokens e) (words e) (Stops (level e)) (rest_of e m d S)

  -- ONE TOKEN
  pub moves_at : (S T : Stack) (at : ℕ) (l : Lexeme) (ws : Words) → advance limit S at l ≡ Ok (record { appended = ws; stack = T })
      → Moves limit S (record { place = Some at; lexeme = l }) ws T
  moves_at S T at l ws e = λ there p. subst (λ x. advance limit S x l ≡ Ok (record { appended = ws; stack = T })) p e

  pub one_token : (S T : Stack) (s : Spelling) (ws : Words) → Moves limit S s ws T → Leads limit S (s ∷ []) ws T
  one_token S T s ws m = leads_as (leads_cons limit s ws m leads_none) refl (append-nil ws)

  -- a token that is where the tree says, taken by the symbol on top
  pub moves_step : (s : Symbol Name) (S : Stack) (at : ℕ) (l : Lexeme) (ws : Words) (P : Stack) → step limit s at l ≡ Takes ws P
      → Moves limit (s ∷ S) (record { place = Some at; lexeme = l }) ws (P ++ S)
  moves_step s S at l ws P e = moves_at (s ∷ S) (P ++ S) at l ws (advance_takes limit s at l ws P S e)

  pub leads_step : (s : Symbol Name) (S : Stack) (at : ℕ) (l : Lexeme) (ws : Words) (P : Stack) → step limit s at l ≡ Takes ws P
      → Leads limit (s ∷ S) (record { place = Some at; lexeme = l } ∷ []) ws (P ++ S)
  leads_step s S at l ws P e = one_token (s ∷ S) (P ++ S) (record { place = Some at; lexeme = l }) ws (moves_step s S at l ws P e)

  -- a token whose place the tree does not say
  pub leads_any : (s : Symbol Name) (S : Stack) (l : Lexeme) (ws : Words) (P : Stack) → ((at : ℕ) → step limit s at l ≡ Takes ws P)
      → Leads limit (s ∷ S) (record { place = None; lexeme = l } ∷ []) ws (P ++ S)
  leads_any s S l ws P e = one_token (s ∷ S) (P ++ S) (record { place = None; lexeme = l }) ws (λ at p. advance_takes limit s at l ws P S (e at))

  pub leads_sign : (s : Sign) (S : Stack) → Leads limit (OneSign s ∷ S) (the_sign s ∷ []) [] S
  leads_sign s S = one_token (OneSign s ∷ S) S (the_sign s) [] (λ at p. advance_sign limit s S at)

  -- AN EXPRESSION ALONE
  end_of : (S T : Stack) (ss : List Spelling) (ws : Words) (k d : ℕ) → Reads limit S ss ws (Stops k) (After 0 k d ∷ T) → Reads limit S ss ws (Stops 0) T
  end_of S T ss ws k d r =
      reads_as limit (reads_pass limit (Stops 0) [] (λ l h. stops_more 0 k l (omega arith) h) (λ at l h. pass_end limit T 0 k d at l h) r) refl (append-nil ws)

  pub expr_reads : (e : Expr) (d : ℕ) (S : Stack) → ExprReads e → IsOperand limit 0 d e → Reads limit (Operand 0 d ∷ S) (tokens e) (words e) (Stops 0) S
  expr_reads (Number at n) d S f ok = end_of _ S _ _ 9 d (f 0 d S ok)
  expr_reads (Named at x) d S f ok = end_of _ S _ _ 9 d (f 0 d S ok)
  expr_reads (Bracket e) d S f ok = end_of _ S _ _ 9 d (f 0 d S ok)
  expr_reads (Prefix at op e) d S f ok = end_of _ S _ _ 8 d (f 0 d S ok)
  expr_reads (Infix at s l r) d S f ok = end_of _ S _ _ (sign_level s) d (f 0 d S ok)
  expr_reads (Fetch at a e) d S f ok = end_of _ S _ _ 9 d (f 0 d S ok)
  expr_reads (Store at a e g) d S f ok = f 0 d S ok
  expr_reads (Call at strict g es) d S f ok = end_of _ S _ _ 9 d (f 0 d S ok)
  expr_reads (If at p l r) d S f ok = end_of _ S _ _ 9 d (f 0 d S ok)
  expr_reads (Loop at b es t) d S f ok = end_of _ S _ _ 9 d (f 0 d S ok)

  -- an operand of level 1 or more
  pub operand_reads : (e : Expr) (m d : ℕ) (S : Stack) → ExprReads e → IsOperand limit m d e → 1 ≤ level e
      → Reads limit (Operand m d ∷ S) (tokens e) (words e) (Stops (level e)) (After m (level e) d ∷ S)
  operand_reads e m d S f ok h = subst (λ T. Reads limit (Operand m d ∷ S) (tokens e) (words e) (Stops (level e)) T) (rest_is e m d S h) (f m d S ok)

  -- LEAVES
  pub reads_number : (at n : ℕ) → ExprReads (Number at n)
  reads_number at n m d S ok = reads_exactly limit _ (leads_step (Operand m d) S at (TheNumber n) _ _
      (small_is n _ ok.fits ∙ within_is limit d _ (let g = ok.deep in omega arith)))

  pub name_leads : (at : ℕ) (x : Name) (m d : ℕ) (S : Stack) → d ≤ limit → Leads limit (Operand m d ∷ S) (name_at at x ∷ []) [] (AfterName at x m d ∷ S)
  name_leads at x m d S h = leads_step (Operand m d) S at (TheName x) _ _ (within_is limit d _ h)

  pub reads_named : (at : ℕ) (x : Name) → ExprReads (Named at x)
  reads_named at x m d S ok =
      leads_pass limit (Stops 9) (word.Name at x ∷ []) (λ there l h. pass_name limit S at x m d 9 there l h)
      (name_leads at x m d S (let g = ok.deep in omega arith))

  -- BRACKETS
  pub reads_bracket : (e : Expr) → ExprReads e → ExprReads (Bracket e)
  reads_bracket e f m d S ok =
      let Z : Stack = Emit word.Bracket ∷ After m 9 d ∷ S in
      let deeper : d + 1 ≤ limit = (let g = ok.deep in omega arith) in
      let inside : Reads limit (Operand 0 (d + 1) ∷ OneSign sign.CloseParen ∷ Z) (tokens e) (words e) (Stops 0) (OneSign sign.CloseParen ∷ Z) =
      expr_reads e (d + 1) (OneSign sign.CloseParen ∷ Z) f (record { fits = ok.fits; at_least = omega arith; deep = (let g = ok.deep in omega arith) }) in
      let closed : Leads limit (Operand 0 (d + 1) ∷ OneSign sign.CloseParen ∷ Z) (tokens e ++ the_sign sign.CloseParen ∷ []) (words e ++ []) Z =
      reads_leads limit (the_sign sign.CloseParen) (closes close_paren) inside (leads_sign sign.CloseParen Z) in
      let all : Leads limit (Operand m d ∷ S) (tokens (Bracket e)) (words e ++ []) Z =
      leads_append limit (leads_any (Operand m d) S (TheSign sign.OpenParen) _ _ (λ at. within_is limit (d + 1) _ deeper)) closed in
      reads_as limit (leads_pass limit (Stops 9) (word.Bracket ∷ []) (λ at l h. refl) all) refl (ap (λ t. t ++ word.Bracket ∷ []) (append-nil (words e)))

  -- PREFIXES
  -- what is after the sign
  prefixed : (at : ℕ) (op : Unary) (e : Expr) (m d k : ℕ) (S X : Stack) (ws : Words) → 8 ≤ k
      → Reads limit X (tokens e) (words e) (Stops k) (After 8 k (d + 1) ∷ Emit (word.Prefix at op) ∷ After m 8 d ∷ S)
      → Reads limit X (tokens e) (words e ++ word.Prefix at op ∷ []) (Stops 8) (After m 8 d ∷ S)
  prefixed at op e m d k S X ws h r =
      reads_pass limit {T = Emit (word.Prefix at op) ∷ After m 8 d ∷ S} (Stops 8) (word.Prefix at op ∷ []) (λ l g. g) (λ there l g. refl)
      (reads_as limit (reads_pass limit (Stops 8) [] (λ l g. stops_more 8 k l h g)
      (λ there l g. pass_after limit _ 8 k (d + 1) 7 (omega arith) there l (stops_seven 8 l g)) r) refl (append-nil (words e)))

  with_prefix : (at : ℕ) (op : Unary) (e : Expr) (m d : ℕ) (S X : Stack) → Moves limit (Operand m d ∷ S) (sign_at at (prefix_sign op)) [] X
      → Reads limit X (tokens e) (words e ++ word.Prefix at op ∷ []) (Stops 8) (After m 8 d ∷ S)
      → Reads limit (Operand m d ∷ S) (tokens (Prefix at op e)) (words (Prefix at op e)) (Stops 8) (After m 8 d ∷ S)
  with_prefix at op e m d S X moves r = leads_reads limit (one_token _ _ _ _ moves) r

  pub reads_not : (at : ℕ) (e : Expr) → ExprReads e → ExprReads (Prefix at Not e)
  reads_not at e f m d S ok =
      let fits : Fits e = not_least (ok.fits.1) in
      with_prefix at Not e m d S (Operand 8 (d + 1) ∷ Emit (word.Prefix at Not) ∷ After m 8 d ∷ S)
      (moves_step (Operand m d) S at (TheSign sign.Tilde) _ _ (within_is limit (d + 1) _ (let g = ok.deep in omega arith)))
      (prefixed at Not e m d (level e) S _ [] ok.fits.0
      (operand_reads e 8 (d + 1) _ f (record { fits = fits; at_least = ok.fits.0; deep = (let g = ok.deep in omega arith) })
      (let g = ok.fits.0 in omega arith)))
    where
      not_least : Fits e ⊎ IsLeast Not e → Fits e
      not_least (inl h) = h
      not_least (inr h) = absurd h

  -- after a `-` that is no number
  negated_leads : (d : ℕ) (Z T : Stack) (s : Spelling) (ss : List Spelling) (ws : Words)
      → ((at : ℕ) → negated limit d at s.lexeme ≡ operand limit 8 (d + 1) at s.lexeme)
      → Leads limit (Operand 8 (d + 1) ∷ Z) (s ∷ ss) ws T → Leads limit (Negated d ∷ Z) (s ∷ ss) ws T
  negated_leads d Z T s ss ws same l =
      leads_settled limit s ss []
      (λ at p. ap (λ o. advance_by o Z (advance limit Z at s.lexeme)) (same at) ∙ sym (moved_nothing (advance limit (Operand 8 (d + 1) ∷ Z) at s.lexeme))) l

  negated_expr : (e : Expr) (d : ℕ) (Z T : Stack) (ws : Words) → 8 ≤ level e → prefix_depth Neg e (depth e) ≡ suc (depth e)
      → Leads limit (Operand 8 (d + 1) ∷ Z) (tokens e) ws T → Leads limit (Negated d ∷ Z) (tokens e) ws T
  negated_expr (Number at n) d Z T ws h k l = absurd (omega arith)
  negated_expr (Named at x) d Z T ws h k l = negated_leads d Z T _ _ ws (λ at. refl) l
  negated_expr (Bracket e) d Z T ws h k l = negated_leads d Z T _ _ ws (λ at. refl) l
  negated_expr (Prefix at op e) d Z T ws h k l = negated_leads d Z T _ _ ws (λ at. refl) l
  negated_expr (Infix at s e f) d Z T ws h k l = absurd (let g = sign_level_most s in omega arith)
  negated_expr (Fetch at a e) d Z T ws h k l = negated_leads d Z T _ _ ws (λ at. refl) l
  negated_expr (Store at a e f) d Z T ws h k l = absurd (omega arith)
  negated_expr (Call at true f es) d Z T ws h k l = negated_leads d Z T _ _ ws (λ at. refl) l
  negated_expr (Call at false f es) d Z T ws h k l = negated_leads d Z T _ _ ws (λ at. refl) l
  negated_expr (If at p e f) d Z T ws h k l = negated_leads d Z T _ _ ws (λ at. refl) l
  negated_expr (Loop at b es t) d Z T ws h k l = negated_leads d Z T _ _ ws (λ at. refl) l

  minus_moves : (at m d : ℕ) (S : Stack) → d ≤ limit
      → Moves limit (Operand m d ∷ S) (sign_at at sign.Minus) [] (Negated d ∷ Emit (word.Prefix at Neg) ∷ After m 8 d ∷ S)
  minus_moves at m d S h = moves_step (Operand m d) S at (TheSign sign.Minus) _ _ (within_is limit d _ h)

  negated_reads : (at : ℕ) (e : Expr) (m d : ℕ) (S : Stack) → ExprReads e → Fits e → 8 ≤ level e → d + suc (depth e) ≤ limit
      → prefix_depth Neg e (depth e) ≡ suc (depth e)
      → Reads limit (Operand m d ∷ S) (tokens (Prefix at Neg e)) (words (Prefix at Neg e)) (Stops 8) (After m 8 d ∷ S)
  negated_reads at e m d S f fits h deep k =
      let Z : Stack = Emit (word.Prefix at Neg) ∷ After m 8 d ∷ S in
      let r : Reads limit (Operand 8 (d + 1) ∷ Z) (tokens e) (words e) (Stops (level e)) (After 8 (level e) (d + 1) ∷ Z) =
      operand_reads e 8 (d + 1) Z f (record { fits = fits; at_least = h; deep = omega arith }) (omega arith) in
      let n : Reads limit (Negated d ∷ Z) (tokens e) (words e) (Stops (level e)) (After 8 (level e) (d + 1) ∷ Z) =
      record {
        reached = r.reached;
        early = r.early;
        late = r.late;
        joined = r.joined;
        leads = negated_expr e d Z r.reached r.early h k r.leads;
        settles = r.settles;
      } in
      with_prefix at Neg e m d S (Negated d ∷ Z) (minus_moves at m d S (omega arith)) (prefixed at Neg e m d (level e) S _ [] h n)

  reads_least : (at there n : ℕ) → ExprReads (Prefix at Neg (Number there n))
  reads_least at there n m d S ok =
      let Z : Stack = Emit (word.Prefix at Neg) ∷ After m 8 d ∷ S in
      let number : Leads limit (Negated d ∷ Z) (number_at there n ∷ []) (word.Number there n ∷ []) Z =
      leads_step (Negated d) Z there (TheNumber n) _ _
      (ap (λ b. if b then Takes (word.Number there n ∷ []) [] else Refuses Unexpected) (le-leb n (2 ^ 63) (at_most ok.fits.1))) in
      with_prefix at Neg (Number there n) m d S (Negated d ∷ Z) (minus_moves at m d S (let g = ok.deep in omega arith))
      (leads_pass limit (Stops 8) (word.Prefix at Neg ∷ []) (λ x l h. refl) number)
    where
      at_most : Fits (Number there n) ⊎ IsLeast Neg (Number there n) → n ≤ 2 ^ 63
      at_most (inl h) = omega arith
      at_most (inr h) = omega arith

  deeper : (at : ℕ) (e : Expr) (m d : ℕ) (S : Stack) → ExprReads e → IsOperand limit m d (Prefix at Neg e) → (Fits e ⊎ IsLeast Neg e → Fits e)
      → prefix_depth Neg e (depth e) ≡ suc (depth e)
      → Reads limit (Operand m d ∷ S) (tokens (Prefix at Neg e)) (words (Prefix at Neg e)) (Stops 8) (After m 8 d ∷ S)
  deeper at e m d S f ok g k = negated_reads at e m d S f (g ok.fits.1) ok.fits.0 (let h = ok.deep in omega arith) k

  only_fits : (A : Type 0) → A ⊎ ⊥ → A
  only_fits A (inl h) = h
  only_fits A (inr h) = absurd h

  pub reads_neg : (at : ℕ) (e : Expr) → ExprReads e → ExprReads (Prefix at Neg e)
  reads_neg at (Number there n) f m d S ok = reads_least at there n m d S ok
  reads_neg at (Named there x) f m d S ok = deeper at (Named there x) m d S f ok (only_fits _) refl
  reads_neg at (Bracket e) f m d S ok = deeper at (Bracket e) m d S f ok (only_fits _) refl
  reads_neg at (Prefix there op e) f m d S ok = deeper at (Prefix there op e) m d S f ok (only_fits _) refl
  reads_neg at (Infix there s l r) f m d S ok = absurd (let g = sign_level_most s in let h = ok.fits.0 in omega arith)
  reads_neg at (Fetch there a e) f m d S ok = deeper at (Fetch there a e) m d S f ok (only_fits _) refl
  reads_neg at (Store there a e g) f m d S ok = absurd (let h = ok.fits.0 in omega arith)
  reads_neg at (Call there strict g es) f m d S ok = deeper at (Call there strict g es) m d S f ok (only_fits _) refl
  reads_neg at (If there p l r) f m d S ok = deeper at (If there p l r) m d S f ok (only_fits _) refl
  reads_neg at (Loop there b es t) f m d S ok = deeper at (Loop there b es t) m d S f ok (only_fits _) refl
