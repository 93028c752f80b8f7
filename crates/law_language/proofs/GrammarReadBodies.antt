-- COMPLETE, bodies, conditionals and loops.
use Rattle.std.proofs.Common.{◌≡◌, ℕ, suc, ◌+◌, ◌≤◌, max, true, false, List, [], ◌∷◌, ◌++◌, map, Ok, refl, sym, ap, ◌∙◌, append_assoc, append-nil, arith}
use Rattle.std.specs.Prelude.{⊤}
use Rattle.source.specs.declared.token.Keyword.{Keyword}
use Rattle.source.specs.declared.token.Keyword.TheVariants as keyword
use Rattle.source.specs.declared.token.Sign.{Sign}
use Rattle.source.specs.declared.token.Sign.TheVariants as sign
use Rattle.source.specs.declared.word.Word.{Word}
use Rattle.source.specs.declared.word.Word.TheVariants as word
use Rattle.source.specs.Tree.{Name, NameAt, NumberAt, Target, Bind, Drop, Expr, Number, Named, Bracket, Prefix, Infix, Fetch, Store, Call, If, Loop, Exprs, One}
use Rattle.source.specs.Tree.{More, Body, Let, Do, Give, Chain, Turn, Before, After as TestLast, names_of}
use Rattle.source.specs.Spelled.{Lexeme, TheWord, TheSign, TheNumber, TheName, Spelling, the_word, the_sign, sign_at, word_at, target_token, is_chain, braced}
use Rattle.source.specs.Spelled.{infix_sign, tokens, list_tokens, body_tokens, turn_tokens}
use Rattle.source.specs.Fits.{depth, list_depth, body_depth, turn_depth, Fits}
use Rattle.source.specs.Words.{Words, target_word, words, part_words, body_words, turn_words}
use Rattle.law_language.specs.declared.symbol.Symbol.TheVariants.{Sign as OneSign, Keyword as OneWord, Emit, Steps, Target as OneTarget, Targets, LetEnd}
use Rattle.law_language.specs.declared.symbol.Symbol.TheVariants.{StepEnd, Operand, After, Otherwise, Bound, Start, Starts, Turn as OneTurn}
use Rattle.law_language.specs.GrammarAutomaton.{Stack, Outcome, Takes, Passes, Refuses, appending, above, operand, steps, conditional, moved_after, advance_by}
use Rattle.law_language.specs.GrammarAutomaton.{advance}
use Rattle.law_language.proofs.GrammarYielded.{AreAll, IsBody, IsTurn, further}
use Rattle.law_language.proofs.GrammarExplainLists.{with_commas_is}
use Rattle.law_language.proofs.GrammarExplainBodies.{operand_never_passes}
use Rattle.law_language.proofs.GrammarLeads.{within_is, small_is, Leads, leads_as, leads_none, leads_settled, leads_append, advance_sign, advance_word, Reads}
use Rattle.law_language.proofs.GrammarLeads.{reads_exactly, reads_as, reads_leads, leads_reads, reads_pass, leads_pass}
use Rattle.law_language.proofs.GrammarFollowed.{close_paren, semicolon, close_brace, open_brace, Stops, closes}
use Rattle.law_language.proofs.GrammarReadOperands.{ExprReads, one_token, leads_step, leads_any, leads_sign, expr_reads}
use Rattle.law_language.proofs.GrammarReadForms.{shallow, some_depth, ListReads, list_end, Lists, Firsts}

-- any token
abbrev pub Any : Lexeme → Type 0
Any l = ⊤

conditional_words : {A : Type 0} (a b c : List A) (x : A) → (a ++ x ∷ []) ++ (b ++ c) ≡ (a ++ x ∷ b) ++ c
conditional_words a b c x = simp append_assoc

module _ (limit : ℕ) where
  reads_may : {S T : Stack} {ss : List Spelling} {ws : Words} (Might : Lexeme → Type 0) → Reads limit S ss ws Any T → Reads limit S ss ws Might T
  reads_may Might r = record { reached = r.reached; early = r.early; late = r.late; joined = r.joined; leads = r.leads; settles = λ at l h. r.settles at l tt }

  -- a word that is pending before a token
  emit_sign : (w : Word Name) (s : Sign) (S : Stack) → Leads limit (Emit w ∷ OneSign s ∷ S) (the_sign s ∷ []) (w ∷ []) S
  emit_sign w s S = one_token limit (Emit w ∷ OneSign s ∷ S) S (the_sign s) (w ∷ []) (λ at p. ap (moved_after (w ∷ [])) (advance_sign limit s S at))

  emit_word : (w : Word Name) (k : Keyword) (S : Stack) → Leads limit (Emit w ∷ OneWord k ∷ S) (the_word k ∷ []) (w ∷ []) S
  emit_word w k S = one_token limit (Emit w ∷ OneWord k ∷ S) S (the_word k) (w ∷ []) (λ at p. ap (moved_after (w ∷ [])) (advance_word limit k S at))

  -- WHAT HAS TO BE SHOWN of a body: an `if` that is the whole body is after `else`.
  abbrev pub BodyReads : Body → Type 0
  BodyReads (Chain e) = (d : ℕ) (S : Stack) → IsBody limit true d (Chain e) → Reads limit (Otherwise d ∷ S) (tokens e) (body_words (Chain e)) Any S
  BodyReads (Let at ts es rest) = (d : ℕ) (S : Stack) → IsBody limit false d (Let at ts es rest)
      → Leads limit (Steps d ∷ S) (body_tokens (Let at ts es rest)) (body_words (Let at ts es rest)) S
  BodyReads (Do es rest) = (d : ℕ) (S : Stack) → IsBody limit false d (Do es rest)
      → Leads limit (Steps d ∷ S) (body_tokens (Do es rest)) (body_words (Do es rest)) S
  BodyReads (Give es) = (d : ℕ) (S : Stack) → IsBody limit false d (Give es) → Leads limit (Steps d ∷ S) (body_tokens (Give es)) (body_words (Give es)) S

  pub body_leads : (b : Body) (d : ℕ) (S : Stack) → BodyReads b → IsBody limit false d b → Leads limit (Steps d ∷ S) (body_tokens b) (body_words b) S
  body_leads (Let at ts es rest) d S f ok = f d S ok
  body_leads (Do es rest) d S f ok = f d S ok
  body_leads (Give es) d S f ok = f d S ok
  body_leads (Chain e) d S f ok = absurd (let g = ok.fits.0 in cc)

  -- after an `else`
  braced_reads : (b : Body) (d : ℕ) (S : Stack) → Leads limit (Steps d ∷ S) (body_tokens b) (body_words b) S
      → Reads limit (Otherwise d ∷ S) (the_sign sign.OpenBrace ∷ body_tokens b) (body_words b) Any S
  braced_reads b d S l =
      reads_exactly limit Any (leads_append limit (leads_any limit (Otherwise d) S (TheSign sign.OpenBrace) [] (Steps d ∷ []) (λ at. refl)) l)

  branch_reads : (b : Body) (d : ℕ) (S : Stack) → BodyReads b → IsBody limit true d b
      → Reads limit (Otherwise d ∷ S) (braced (is_chain b) (body_tokens b)) (body_words b) Any S
  branch_reads (Let at ts es rest) d S f ok = braced_reads (Let at ts es rest) d S (f d S (record { fits = ok.fits; deep = ok.deep }))
  branch_reads (Do es rest) d S f ok = braced_reads (Do es rest) d S (f d S (record { fits = ok.fits; deep = ok.deep }))
  branch_reads (Give es) d S f ok = braced_reads (Give es) d S (f d S (record { fits = ok.fits; deep = ok.deep }))
  branch_reads (Chain e) d S f ok = f d S ok

  -- CONDITIONALS, after their `if`
  abbrev if_rest : Expr → Body → Body → List Spelling
  if_rest p l r = tokens p ++ the_sign sign.OpenBrace ∷ body_tokens l ++ the_word keyword.Else ∷ braced (is_chain r) (body_tokens r)

  abbrev pub ChainReads : Expr → Type 0
  ChainReads (If at p l r) = (d : ℕ) (S : Stack) → Fits (If at p l r) → d + depth (If at p l r) ≤ limit
      → Reads limit (conditional at d ++ S) (if_rest p l r) (words (If at p l r)) Any S
  ChainReads e = ⊤

  pub reads_conditional : (at : ℕ) (p : Expr) (l r : Body) → ExprReads limit p → BodyReads l → BodyReads r → ChainReads (If at p l r)
  reads_conditional at p l r f g h d S fits deep =
      let Y : Stack = Otherwise (d + 1) ∷ Emit (word.EndIf at) ∷ S in
      let X : Stack = Emit word.Else ∷ OneWord keyword.Else ∷ Y in
      let once : (d + 1) + max (suc (depth p)) (max (body_depth l) (body_depth r)) ≤ limit = omega arith in
      let parts = shallow (d + 1) (suc (depth p)) (max (body_depth l) (body_depth r)) limit once in
      let arms = shallow (d + 1) (body_depth l) (body_depth r) limit parts.1 in
      let test : Reads limit (Operand 0 (d + 2) ∷ Emit word.Then ∷ OneSign sign.OpenBrace ∷ Steps (d + 1) ∷ X) (tokens p) (words p) (Stops 0)
      (Emit word.Then ∷ OneSign sign.OpenBrace ∷ Steps (d + 1) ∷ X) =
      expr_reads limit p (d + 2) (Emit word.Then ∷ OneSign sign.OpenBrace ∷ Steps (d + 1) ∷ X) f
      (record { fits = fits.0; at_least = omega arith; deep = (let k = parts.0 in omega arith) }) in
      let left : Leads limit (Emit word.Then ∷ OneSign sign.OpenBrace ∷ Steps (d + 1) ∷ X) (the_sign sign.OpenBrace ∷ body_tokens l)
      (word.Then ∷ body_words l) X =
      leads_append limit (emit_sign word.Then sign.OpenBrace (Steps (d + 1) ∷ X)) (body_leads l (d + 1) X g (record { fits = fits.1; deep = arms.0 })) in
      let begun = leads_append limit (reads_leads limit (the_sign sign.OpenBrace) (closes open_brace) test left) (emit_word word.Else keyword.Else Y) in
      let right : Reads limit Y (braced (is_chain r) (body_tokens r)) (body_words r ++ word.EndIf at ∷ []) Any S =
      reads_pass limit Any (word.EndIf at ∷ []) (λ x k. k) (λ there x k. refl)
      (branch_reads r (d + 1) (Emit (word.EndIf at) ∷ S) h (record { fits = fits.2; deep = arms.1 })) in
      reads_as limit (leads_reads limit begun right)
      (append_assoc (tokens p ++ the_sign sign.OpenBrace ∷ body_tokens l) (the_word keyword.Else ∷ []) (braced (is_chain r) (body_tokens r)))
      (conditional_words (words p ++ word.Then ∷ body_words l) (body_words r) (word.EndIf at ∷ []) word.Else)

  two_deep : (d : ℕ) (at : ℕ) (p : Expr) (l r : Body) → d + depth (If at p l r) ≤ limit → d + 2 ≤ limit
  two_deep d at p l r h = let k = (shallow (d + 1) (suc (depth p)) (max (body_depth l) (body_depth r)) limit (omega arith)).0 in omega arith

  pub reads_if : (at : ℕ) (p : Expr) (l r : Body) → ChainReads (If at p l r) → ExprReads limit (If at p l r)
  reads_if at p l r f m d S ok = leads_reads limit
      (leads_step limit (Operand m d) S at (TheWord keyword.If) [] (conditional at d ++ After m 9 d ∷ [])
      (within_is limit (d + 2) _ (two_deep d at p l r ok.deep)))
      (reads_may (Stops 9) (f d (After m 9 d ∷ S) ok.fits ok.deep))

  pub reads_chain : (e : Expr) → ChainReads e → BodyReads (Chain e)
  reads_chain (If at p l r) f d S ok = leads_reads limit
      (leads_step limit (Otherwise d) S at (TheWord keyword.If) [] (conditional at d ++ Emit word.Chain ∷ [])
      (within_is limit (d + 2) _ (two_deep d at p l r ok.deep)))
      (reads_pass limit Any (word.Chain ∷ []) (λ x k. k) (λ there x k. refl) (f d (Emit word.Chain ∷ S) ok.fits.2 ok.deep))
  reads_chain (Number at n) f d S ok = absurd (let g = ok.fits.1 in cc)
  reads_chain (Named at x) f d S ok = absurd (let g = ok.fits.1 in cc)
  reads_chain (Bracket e) f d S ok = absurd (let g = ok.fits.1 in cc)
  reads_chain (Prefix at op e) f d S ok = absurd (let g = ok.fits.1 in cc)
  reads_chain (Infix at s l r) f d S ok = absurd (let g = ok.fits.1 in cc)
  reads_chain (Fetch at a e) f d S ok = absurd (let g = ok.fits.1 in cc)
  reads_chain (Store at a e s) f d S ok = absurd (let g = ok.fits.1 in cc)
  reads_chain (Call at strict g es) f d S ok = absurd (let k = ok.fits.1 in cc)
  reads_chain (Loop at b es t) f d S ok = absurd (let g = ok.fits.1 in cc)

  -- BODIES. The first token of an expression is no `let`.
  pub record Begun (ss : List Spelling) : Type 0 where
    pub first : Spelling
    pub others : List Spelling
    pub is : ss ≡ first ∷ others
    pub no_let : (d at : ℕ) → steps limit d at first.lexeme ≡ appending (word.List ∷ []) (above (StepEnd d ∷ []) (operand limit 0 (d + 1) at first.lexeme))

  begins : (e : Expr) (rest : List Spelling) → Begun (tokens e ++ rest)
  begins (Number at n) rest = record { first = _; others = _; is = refl; no_let = λ d at. refl }
  begins (Named at x) rest = record { first = _; others = _; is = refl; no_let = λ d at. refl }
  begins (Bracket e) rest = record { first = _; others = _; is = refl; no_let = λ d at. refl }
  begins (Prefix at op e) rest = record { first = _; others = _; is = refl; no_let = λ d at. refl }
  begins (Infix at s l r) rest = let b = begins l ((sign_at at (infix_sign s) ∷ tokens r) ++ rest) in
      record { first = b.first; others = b.others; is = append_assoc (tokens l) _ rest ∙ b.is; no_let = b.no_let }
  begins (Fetch at a e) rest = record { first = _; others = _; is = refl; no_let = λ d at. refl }
  begins (Store at a e s) rest = record { first = _; others = _; is = refl; no_let = λ d at. refl }
  begins (Call at true g es) rest = record { first = _; others = _; is = refl; no_let = λ d at. refl }
  begins (Call at false g es) rest = record { first = _; others = _; is = refl; no_let = λ d at. refl }
  begins (If at p l r) rest = record { first = _; others = _; is = refl; no_let = λ d at. refl }
  begins (Loop at b es t) rest = record { first = _; others = _; is = refl; no_let = λ d at. refl }

  list_begins : (es : Exprs) (rest : List Spelling) → Begun (list_tokens es ++ rest)
  list_begins (One e) rest = begins e rest
  list_begins (More e es) rest = let b = begins e ((the_sign sign.Comma ∷ list_tokens es) ++ rest) in
      record { first = b.first; others = b.others; is = append_assoc (tokens e) _ rest ∙ b.is; no_let = b.no_let }

  -- what begins a step does what an expression of a list does
  step_as : (d at : ℕ) (l : Lexeme) (S : Stack) → steps limit d at l ≡ appending (word.List ∷ []) (above (StepEnd d ∷ []) (operand limit 0 (d + 1) at l))
      → advance limit (Steps d ∷ S) at l ≡ moved_after (word.List ∷ []) (advance limit (Operand 0 (d + 1) ∷ StepEnd d ∷ S) at l)
  step_as d at l S same = ap (λ o. advance_by o S (advance limit S at l)) same ∙ go (operand limit 0 (d + 1) at l) (operand_never_passes limit 0 (d + 1) at l)
    where
      go : (o : Outcome) → ((ws : Words) → o ≡ Passes ws → ⊥) → advance_by (appending (word.List ∷ []) (above (StepEnd d ∷ []) o)) S (advance limit S at l)
          ≡ moved_after (word.List ∷ []) (advance_by o (StepEnd d ∷ S) (advance limit (StepEnd d ∷ S) at l))
      go (Takes ws P) never = ap (λ T. Ok (record { appended = word.List ∷ ws; stack = T })) (append_assoc P (StepEnd d ∷ []) S)
      go (Passes ws) never = absurd (never ws refl)
      go (Refuses kind) never = refl

  step_leads : (d : ℕ) (S T : Stack) (ss : List Spelling) (ws : Words) → Begun ss → Leads limit (Operand 0 (d + 1) ∷ StepEnd d ∷ S) ss ws T
      → Leads limit (Steps d ∷ S) ss (word.List ∷ ws) T
  step_leads d S T ss ws b l =
      leads_as (leads_settled limit b.first b.others (word.List ∷ []) (λ at p. step_as d at b.first.lexeme S (b.no_let d at)) (leads_as l b.is refl))
      (sym b.is) refl

  values_lead : (d : ℕ) (S : Stack) (es : Exprs) → Lists limit es → AreAll limit d es
      → ListReads limit (Operand 0 (d + 1) ∷ StepEnd d ∷ S) (list_tokens es) (part_words es) word.Part (StepEnd d ∷ S)
  values_lead d S es f all = f d (StepEnd d) S all (λ at. refl)

  pub reads_give : (es : Exprs) → Lists limit es → BodyReads (Give es)
  reads_give es f d S ok = step_leads d S S _ _ (list_begins es _)
      (list_end limit (the_sign sign.CloseBrace) (closes close_brace) (values_lead d S es f (record { fits = ok.fits; deep = ok.deep }))
      (leads_any limit (StepEnd d) S (TheSign sign.CloseBrace) (word.Part ∷ word.Give ∷ []) [] (λ at. refl)))

  pub reads_do : (es : Exprs) (rest : Body) → Lists limit es → BodyReads rest → BodyReads (Do es rest)
  reads_do es rest f g d S ok =
      let parts = shallow d (list_depth es) (body_depth rest) limit ok.deep in
      step_leads d S S _ _ (list_begins es _)
      (list_end limit (the_sign sign.Semicolon) (closes semicolon) (values_lead d S es f (record { fits = ok.fits.0; deep = parts.0 }))
      (leads_append limit (leads_any limit (StepEnd d) S (TheSign sign.Semicolon) (word.Part ∷ word.Do ∷ []) (Steps d ∷ []) (λ at. refl))
      (body_leads rest d S g (record { fits = ok.fits.1; deep = parts.1 }))))

  target_leads : (t : Target) (S : Stack) → Leads limit (OneTarget ∷ S) (target_token t ∷ []) (target_word t ∷ []) S
  target_leads (Bind x) S = leads_step limit OneTarget S x.at (TheName x.name) (word.Bind x.at x.name ∷ []) [] refl
  target_leads Drop S = leads_any limit OneTarget S (TheSign sign.Underscore) (word.Drop ∷ []) [] (λ at. refl)

  targets_lead : (given d : ℕ) (ts : List Target) (S : Stack)
      → Leads limit (Targets given d ∷ S) (further (map target_token ts)) (map target_word ts) (Targets given d ∷ S)
  targets_lead given d [] S = leads_none
  targets_lead given d (t ∷ ts) S =
      leads_append limit (leads_any limit (Targets given d) S (TheSign sign.Comma) [] (OneTarget ∷ Targets given d ∷ []) (λ at. refl))
      (leads_append limit (target_leads t (Targets given d ∷ S)) (targets_lead given d ts S))

  let_tokens : {A : Type 0} (x : A) (F E R : List A) (c s : A) → ((x ∷ F) ++ (c ∷ E)) ++ s ∷ R ≡ x ∷ (F ++ (c ∷ (E ++ s ∷ R)))
  let_tokens x F E R c s = simp append_assoc

  pub reads_let : (at : ℕ) (ts : List Target) (es : Exprs) (rest : Body) → Lists limit es → BodyReads rest → BodyReads (Let at ts es rest)
  reads_let at [] es rest f g d S ok = absurd (let h = ok.fits.0 in omega arith)
  reads_let at (t ∷ ts) es rest f g d S ok =
      let parts = shallow d (list_depth es) (body_depth rest) limit ok.deep in
      let values : Leads limit (Operand 0 (d + 1) ∷ LetEnd at d ∷ S) (list_tokens es ++ the_sign sign.Semicolon ∷ body_tokens rest)
      (part_words es ++ word.EndLet at ∷ body_words rest) S =
      list_end limit (the_sign sign.Semicolon) (closes semicolon) (f d (LetEnd at d) S (record { fits = ok.fits.1; deep = parts.0 }) (λ at. refl))
      (leads_append limit (leads_any limit (LetEnd at d) S (TheSign sign.Semicolon) (word.Part ∷ word.EndLet at ∷ []) (Steps d ∷ []) (λ at. refl))
      (body_leads rest d S g (record { fits = ok.fits.2; deep = parts.1 }))) in
      let all = leads_append limit (leads_step limit (Steps d) S at (TheWord keyword.Let) (word.Let at ∷ []) (OneTarget ∷ Targets at d ∷ []) refl)
      (leads_append limit (target_leads t (Targets at d ∷ S)) (leads_append limit (targets_lead at d ts S)
      (leads_append limit (leads_any limit (Targets at d) S (TheSign sign.Equals) (word.List ∷ []) (Operand 0 (d + 1) ∷ LetEnd at d ∷ [])
      (λ at. refl)) values))) in
      leads_as all
      (ap (λ u. word_at at keyword.Let ∷ u)
      (sym (let_tokens (target_token t) (further (map target_token ts)) (list_tokens es) (body_tokens rest) (the_sign sign.Equals)
      (the_sign sign.Semicolon))
      ∙ ap (λ u. (u ++ (the_sign sign.Equals ∷ list_tokens es)) ++ the_sign sign.Semicolon ∷ body_tokens rest)
      (sym (with_commas_is (target_token t) (map target_token ts)))))
      (ap (λ u. word.Let at ∷ u) (sym (let_tokens (target_word t) (map target_word ts) (part_words es) (body_words rest) word.List (word.EndLet at))))

  -- LOOPS
  abbrev pub TurnReads : Turn → Type 0
  TurnReads t = (d : ℕ) (S : Stack) → IsTurn limit d t → Leads limit (OneTurn d ∷ S) (turn_tokens t) (turn_words t) S

  pub reads_before : (xs : List NameAt) (p : Expr) (b : Body) → ExprReads limit p → BodyReads b → TurnReads (Before xs p b)
  reads_before xs p b f g d S ok =
      let parts = shallow d (suc (depth p)) (body_depth b) limit ok.deep in
      leads_append limit (leads_any limit (OneTurn d) S (TheWord keyword.While) (word.TestFirst ∷ [])
      (Operand 0 (d + 1) ∷ Emit word.While ∷ OneSign sign.OpenBrace ∷ Steps d ∷ []) (λ at. refl))
      (reads_leads limit (the_sign sign.OpenBrace) (closes open_brace)
      (expr_reads limit p (d + 1) (Emit word.While ∷ OneSign sign.OpenBrace ∷ Steps d ∷ S) f
      (record { fits = ok.fits.0; at_least = omega arith; deep = (let h = parts.0 in omega arith) }))
      (leads_append limit (emit_sign word.While sign.OpenBrace (Steps d ∷ S)) (body_leads b d S g (record { fits = ok.fits.1; deep = parts.1 }))))

  after_tokens : {A : Type 0} (b p : List A) (w o c : A) → b ++ (w ∷ o ∷ (p ++ c ∷ [])) ≡ (b ++ w ∷ o ∷ p) ++ c ∷ []
  after_tokens b p w o c = simp append_assoc

  pub reads_test_last : (xs : List NameAt) (b : Body) (p : Expr) → BodyReads b → ExprReads limit p → TurnReads (TestLast xs b p)
  reads_test_last xs b p g f d S ok =
      let parts = shallow d (body_depth b) (suc (depth p)) limit ok.deep in
      let Z : Stack = OneSign sign.OpenParen ∷ Operand 0 (d + 1) ∷ OneSign sign.CloseParen ∷ S in
      let Y : Stack = Emit word.Until ∷ OneWord keyword.While ∷ Z in
      let test : Leads limit (Operand 0 (d + 1) ∷ OneSign sign.CloseParen ∷ S) (tokens p ++ the_sign sign.CloseParen ∷ []) (words p ++ []) S =
      reads_leads limit (the_sign sign.CloseParen) (closes close_paren)
      (expr_reads limit p (d + 1) (OneSign sign.CloseParen ∷ S) f
      (record { fits = ok.fits.1; at_least = omega arith; deep = (let h = parts.1 in omega arith) })) (leads_sign limit sign.CloseParen S) in
      let all = leads_append limit (leads_any limit (OneTurn d) S (TheSign sign.OpenBrace) (word.BodyFirst ∷ [])
      (Steps d ∷ Emit word.Until ∷ OneWord keyword.While ∷ OneSign sign.OpenParen ∷ Operand 0 (d + 1) ∷ OneSign sign.CloseParen ∷ []) (λ at. refl))
      (leads_append limit (body_leads b d Y g (record { fits = ok.fits.0; deep = parts.0 }))
      (leads_append limit (emit_word word.Until keyword.While Z)
      (leads_append limit (leads_sign limit sign.OpenParen (Operand 0 (d + 1) ∷ OneSign sign.CloseParen ∷ S)) test))) in
      leads_as all
      (ap (λ u. the_sign sign.OpenBrace ∷ u)
      (after_tokens (body_tokens b) (tokens p) (the_word keyword.While) (the_sign sign.OpenParen) (the_sign sign.CloseParen)))
      (ap (λ u. word.BodyFirst ∷ (body_words b ++ word.Until ∷ u)) (append-nil (words p)))

  pub reads_loop : (at : ℕ) (b : NumberAt) (es : Exprs) (t : Turn) → Firsts limit es → TurnReads t → ExprReads limit (Loop at b es t)
  reads_loop at b es t f g m d S ok =
      let parts = shallow d (list_depth es) (turn_depth t) limit ok.deep in
      let some = some_depth limit es in
      let deep : d + 1 ≤ limit = (let h = parts.0 in omega arith) in
      let Z : Stack = Emit (word.EndLoop at b.number) ∷ After m 9 d ∷ S in
      let turns : Leads limit (Starts d ∷ OneTurn d ∷ Z) (the_sign sign.CloseParen ∷ turn_tokens t) (word.First ∷ turn_words t) Z =
      leads_append limit (leads_any limit (Starts d) (OneTurn d ∷ Z) (TheSign sign.CloseParen) (word.First ∷ []) [] (λ there. refl))
      (g d Z (record { fits = ok.fits.3; deep = parts.1 })) in
      let names = list_end limit (the_sign sign.CloseParen) (closes close_paren)
      (f d (names_of t) (OneTurn d ∷ Z) (record { fits = ok.fits.1; deep = parts.0 }) ok.fits.2) turns in
      let all = leads_append limit
      (leads_step limit (Operand m d) S at (TheWord keyword.Loop) (word.Loop at ∷ []) (Bound at d ∷ After m 9 d ∷ []) (within_is limit (d + 1) _ deep))
      (leads_append limit (leads_step limit (Bound at d) (After m 9 d ∷ S) b.at (TheNumber b.number) (word.Bound b.at b.number ∷ [])
      (OneSign sign.OpenParen ∷ Start d ∷ Starts d ∷ OneTurn d ∷ Emit (word.EndLoop at b.number) ∷ []) (small_is b.number _ ok.fits.0))
      (leads_append limit (leads_sign limit sign.OpenParen (Start d ∷ Starts d ∷ OneTurn d ∷ Z)) names)) in
      leads_pass limit (Stops 9) (word.EndLoop at b.number ∷ []) (λ there x h. refl) all
