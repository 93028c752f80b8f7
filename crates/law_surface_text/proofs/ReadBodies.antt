-- COMPLETE, conditionals and bodies. A step that begins with an `if` is read by symbols of its own, until its last `else` is there.
use Rattle.std.proofs.Common.{◌≡◌, ℕ, suc, ◌+◌, ◌≤◌, max, Bool, true, false, List, [], ◌∷◌, ◌++◌, map, Option, None, Some, Result, Ok, Err, refl, sym, ap}
use Rattle.std.proofs.Common.{◌∙◌, subst, append_assoc, append-nil, arith}
use Rattle.std.specs.Prelude.{⊤, if◌then◌else◌, nat_le}
use Rattle.std.proofs.lemmas.Bool.{le-leb}
use Rattle.source.specs.declared.fault.FaultKind.{FaultKind as CoreFaultKind}
use Rattle.source.specs.declared.fault.FaultKind.TheVariants.{TooDeep}
use Rattle.source.specs.declared.token.Keyword.TheVariants as core_keyword
use Rattle.source.specs.declared.token.Sign.TheVariants as core_sign
use Rattle.source.specs.declared.word.Word.TheVariants as core_word
use Rattle.source.specs.Tree.{Target as ATarget, Bind, Drop}
use Rattle.surface.specs.declared.token.Keyword.TheVariants as keyword
use Rattle.surface.specs.declared.token.Sign.TheVariants as sign
use Rattle.surface.specs.declared.word.Word.TheVariants as word
use Rattle.surface.specs.Tree.{Expr, If, Exprs, One, More, Body, Let, Do, When}
use Rattle.surface.specs.Tree.{Give, Chain, Tests, Last, Else}
use Rattle.surface.specs.Spelled.{Lexeme, TheWord, TheSign, TheName, Spelling, a_word, a_sign, word_at, is_chain, braced}
use Rattle.surface.specs.Spelled.{target_token, tokens, list_tokens, body_tokens, tests_tokens}
use Rattle.surface.specs.Fits.{Fits, FitsBody, FitsTests, depth, list_depth, body_depth, tests_depth}
use Rattle.surface.specs.Words.{Words, of_core, target_word, words, part_words, body_words, tests_words}
use Rattle.law_surface_text.specs.declared.symbol.Symbol.TheVariants.{Keyword as OneWord, Emit, Steps, ArmEnd, StepOtherwise, ChainEnd, Target, Targets}
use Rattle.law_surface_text.specs.declared.symbol.Symbol.TheVariants.{StepEnd, Operand, After, Further, Otherwise}
use Rattle.law_surface_text.specs.Automaton.{Stack, Outcome, Takes, Passes, Lacks, Refuses, appending, above, Placed, tested}
use Rattle.law_surface_text.specs.Automaton.{conditional, operand, steps, step, Moved, moved_after, advance, advance_by, ended_then, semicolon, equals}
use Rattle.law_surface_text.proofs.Meaning.{IsExpr, AreAll, after_commas}
use Rattle.law_surface_text.proofs.Givens.{stays}
use Rattle.law_surface_text.proofs.ExplainOperands.{operand_stays, no_chain}
use Rattle.law_surface_text.proofs.ExplainForms.{commas_are}
use Rattle.law_surface_text.proofs.Followed.{Stops, Ends, starting_map}
use Rattle.law_surface_text.proofs.Reading.{Reads, reading, read_on, Follows, follows_append, Any, Starting, Something, then_twice, read_on_after}
use Rattle.law_surface_text.proofs.Reading.{reads_as, reads_none, reads_may, reads_then, reads_from, reads_pass, reads_at, reads_any, reads_sign}
use Rattle.law_surface_text.proofs.Reading.{reads_word, reads_emit, emit_passes, reads_passed, symbol_passes, appending_is}
use Rattle.law_surface_text.proofs.ReadOperands.{shallow, ExprReads, reads_expr, Parts, reads_list, is_first, is_only}
use Rattle.law_surface_text.proofs.ReadForms.{BodyReads}

arm_tokens_are : {A : Type 0} (a b c : List A) (x y : A) → a ++ (x ∷ (b ++ (y ∷ c))) ≡ (a ++ x ∷ b) ++ y ∷ c
arm_tokens_are a b c x y = simp append_assoc

arm_words_are : {A : Type 0} (a b c e : List A) (x y : A) → a ++ (x ∷ (b ++ (y ∷ (c ++ e)))) ≡ ((a ++ x ∷ b) ++ y ∷ c) ++ e
arm_words_are a b c e x y = simp append_assoc

module _ (limit : ℕ) where
  -- CONDITIONALS. What follows the `if`:
  abbrev arm : Expr → Body → List Spelling → List Spelling
  arm p l ts = tokens p ++ (a_sign core_sign.OpenBrace ∷ (body_tokens l ++ ts))

  abbrev arm_words : Expr → Body → Words → Words
  arm_words p l vs = words p ++ (of_core core_word.Then ∷ (body_words l ++ vs))

  abbrev else_tokens : Body → List Spelling
  else_tokens r = a_word core_keyword.Else ∷ braced (is_chain r) (body_tokens r)

  abbrev pub WholeIf : Expr → Type 0
  WholeIf (If at p l r) = (d : ℕ) (S : Stack) → IsExpr limit d (If at p l r)
      → Reads limit (conditional at d S) (arm p l (else_tokens r)) (words (If at p l r)) Any (reading limit S)
  WholeIf e = ⊤

  abbrev pub StepIf : Expr → Type 0
  StepIf (If at p l r) = (d : ℕ) (S : Stack) → IsExpr limit d (If at p l r)
      → Reads limit (tested d (ArmEnd at d ∷ S)) (arm p l (else_tokens r)) (words (If at p l r)) Something (reading limit S)
  StepIf e = ⊤

  abbrev pub BranchReads : Body → Type 0
  BranchReads b = (d : ℕ) (S : Stack) → FitsBody true b → d + body_depth b ≤ limit
      → Reads limit (Otherwise d ∷ S) (braced (is_chain b) (body_tokens b)) (body_words b) Any (reading limit S)

  abbrev pub StepBranch : Body → Type 0
  StepBranch b = (at d : ℕ) (S : Stack) → FitsBody true b → (d + 1) + body_depth b ≤ limit
      → Reads limit (StepOtherwise at d ∷ S) (braced (is_chain b) (body_tokens b)) (body_words b ++ of_core (core_word.EndIf at) ∷ []) Something (reading limit S)

  record Shallow (d : ℕ) (p : Expr) (l : Body) (n : ℕ) : Type 0 where
    test : (d + 2) + depth p ≤ limit
    arm_deep : (d + 1) + body_depth l ≤ limit
    other : (d + 1) + n ≤ limit
    two : d + 2 ≤ limit

  shallow_if : (d : ℕ) (p : Expr) (l : Body) (n : ℕ) → d + suc (max (suc (depth p)) (max (body_depth l) n)) ≤ limit → Shallow d p l n
  shallow_if d p l n h =
      let one = shallow (d + 1) (suc (depth p)) (max (body_depth l) n) limit (omega arith) in
      let arms = shallow (d + 1) (body_depth l) n limit one.1 in
      record { test = (let g = one.0 in omega arith); arm_deep = arms.0; other = arms.1; two = (let g = one.0 in omega arith) }

  -- up to the end of the first arm
  reads_arm : {ts : List Spelling} {vs : Words} {M : List Placed → Type 0} {k : List Placed → Option Words} (d : ℕ) (S : Stack) (p : Expr) (l : Body)
      → ExprReads limit p → BodyReads limit l → IsExpr limit (d + 2) p → FitsBody false l → (d + 1) + body_depth l ≤ limit → Reads limit S ts vs M k
      → Reads limit (tested d S) (arm p l ts) (arm_words p l vs) M k
  reads_arm d S p l f g is fits deep m =
      reads_expr limit p (d + 2) f is (a_sign core_sign.OpenBrace) (record { plain = refl; none = refl })
      (reads_emit limit (of_core core_word.Then) (reads_sign limit (sign.Core core_sign.OpenBrace)
      (reads_then limit (g (d + 1) S fits deep) (λ i r h n. tt) m)))

  pub whole_if : (at : ℕ) (p : Expr) (l r : Body) → ExprReads limit p → BodyReads limit l → BranchReads r → WholeIf (If at p l r)
  whole_if at p l r f g h d S is =
      let k = shallow_if d p l (body_depth r) is.deep in
      reads_as limit (reads_arm d (Emit (of_core core_word.Else) ∷ OneWord core_keyword.Else ∷ Otherwise (d + 1) ∷ Emit (of_core (core_word.EndIf at)) ∷ S) p l f g
      (record { fits = is.fits.0; deep = k.test }) is.fits.1 k.arm_deep
      (reads_emit limit (of_core core_word.Else) (reads_word limit core_keyword.Else
      (reads_pass limit Any (of_core (core_word.EndIf at) ∷ []) (λ i n. tt) (λ i n. emit_passes limit (of_core (core_word.EndIf at)) S i)
      (h (d + 1) (Emit (of_core (core_word.EndIf at)) ∷ S) is.fits.2 k.other)))))
      refl (arm_words_are (words p) (body_words l) (body_words r) (of_core (core_word.EndIf at) ∷ []) (of_core core_word.Then) (of_core core_word.Else))

  pub step_if : (at : ℕ) (p : Expr) (l r : Body) → ExprReads limit p → BodyReads limit l → StepBranch r → StepIf (If at p l r)
  step_if at p l r f g h d S is =
      let k = shallow_if d p l (body_depth r) is.deep in
      reads_as limit (reads_arm d (ArmEnd at d ∷ S) p l f g (record { fits = is.fits.0; deep = k.test }) is.fits.1 k.arm_deep
      (reads_any limit (ArmEnd at d) (TheWord (keyword.Core core_keyword.Else)) 0 (of_core core_word.Else ∷ []) (StepOtherwise at d ∷ []) (λ there. refl)
      (omega arith) (h at d S is.fits.2 k.other)))
      refl (arm_words_are (words p) (body_words l) (body_words r) (of_core (core_word.EndIf at) ∷ []) (of_core core_word.Then) (of_core core_word.Else))

  if_tokens : (at : ℕ) (p : Expr) (l r : Body) → word_at at (keyword.Core core_keyword.If) ∷ arm p l (else_tokens r) ≡ tokens (If at p l r)
  if_tokens at p l r = ap (λ t. word_at at (keyword.Core core_keyword.If) ∷ t)
      (arm_tokens_are (tokens p) (body_tokens l) (braced (is_chain r) (body_tokens r)) (a_sign core_sign.OpenBrace) (a_word core_keyword.Else))

  operand_if : (at : ℕ) (p : Expr) (l r : Body) → WholeIf (If at p l r) → (m d : ℕ) (S : Stack) → IsExpr limit d (If at p l r)
      → Reads limit (Operand m d ∷ S) (tokens (If at p l r)) (words (If at p l r)) Any (reading limit (After m 12 d ∷ S))
  operand_if at p l r f m d S is = reads_as limit
      (reads_at limit (Operand m d) at (TheWord (keyword.Core core_keyword.If)) (d + 2) [] (conditional at d (After m 12 d ∷ [])) refl
      (shallow_if d p l (body_depth r) is.deep).two (f d (After m 12 d ∷ S) is))
      (if_tokens at p l r) refl

  pub reads_if : (at : ℕ) (p : Expr) (l r : Body) → WholeIf (If at p l r) → ExprReads limit (If at p l r)
  reads_if at p l r f m d S is low = reads_may limit (Starting (Stops 12)) (λ i h. tt) (operand_if at p l r f m d S is)

  -- the branch after an `else`: a block, or an `if`
  braces : {M : List Placed → Type 0} {k : List Placed → Option Words} (b : Body) (S : Stack) (ws : Words) → FitsBody false b
      → Reads limit S (a_sign core_sign.OpenBrace ∷ body_tokens b) ws M k → Reads limit S (braced (is_chain b) (body_tokens b)) ws M k
  braces b S ws fits l = reads_as limit l (ap (λ c. braced c (body_tokens b)) (sym (no_chain b fits))) refl

  block_reads : (b : Body) → BodyReads limit b → (d : ℕ) (S : Stack) → FitsBody false b → d + body_depth b ≤ limit
      → Reads limit (Otherwise d ∷ S) (braced (is_chain b) (body_tokens b)) (body_words b) Any (reading limit S)
  block_reads b g d S fits deep = braces b (Otherwise d ∷ S) _ fits
      (reads_any limit (Otherwise d) (TheSign (sign.Core core_sign.OpenBrace)) 0 [] (Steps d ∷ []) (λ at. refl) (omega arith) (g d S fits deep))

  step_block : (b : Body) → BodyReads limit b → (at d : ℕ) (S : Stack) → FitsBody false b → (d + 1) + body_depth b ≤ limit
      → Reads limit (StepOtherwise at d ∷ S) (braced (is_chain b) (body_tokens b)) (body_words b ++ of_core (core_word.EndIf at) ∷ []) Something (reading limit S)
  step_block b g at d S fits deep = braces b (StepOtherwise at d ∷ S) _ fits
      (reads_any limit (StepOtherwise at d) (TheSign (sign.Core core_sign.OpenBrace)) 0 [] (Steps (d + 1) ∷ Emit (of_core (core_word.EndIf at)) ∷ []) (λ there. refl)
      (omega arith)
      (reads_pass limit Something (of_core (core_word.EndIf at) ∷ []) (λ i n. tt) (λ i n. emit_passes limit (of_core (core_word.EndIf at)) S i)
      (g (d + 1) (Emit (of_core (core_word.EndIf at)) ∷ S) fits deep)))

  pub branch_chain : (e : Expr) → WholeIf e → BranchReads (Chain e)
  branch_chain (If at p l r) f d S fits deep = reads_as limit
      (reads_at limit (Otherwise d) at (TheWord (keyword.Core core_keyword.If)) (d + 2) [] (conditional at d (Emit (of_core core_word.Chain) ∷ [])) refl
      (shallow_if d p l (body_depth r) deep).two
      (reads_pass limit Any (of_core core_word.Chain ∷ []) (λ i n. tt) (λ i n. emit_passes limit (of_core core_word.Chain) S i)
      (f d (Emit (of_core core_word.Chain) ∷ S) (record { fits = fits.2; deep = deep }))))
      (if_tokens at p l r) refl
  branch_chain e f d S fits deep = absurd (let g = fits.1 in cc)

  pub step_chain : (e : Expr) → StepIf e → StepBranch (Chain e)
  step_chain (If there p l r) f at d S fits deep = reads_as limit
      (reads_at limit (StepOtherwise at d) there (TheWord (keyword.Core core_keyword.If)) (d + 3) [] (tested (d + 1) (ArmEnd there (d + 1) ∷ ChainEnd at ∷ [])) refl
      (let g = (shallow_if (d + 1) p l (body_depth r) deep).two in omega arith)
      (reads_pass limit Something (of_core core_word.Chain ∷ of_core (core_word.EndIf at) ∷ []) (λ i n. n)
      (λ i n. symbol_passes limit (ChainEnd at) S (of_core core_word.Chain ∷ of_core (core_word.EndIf at) ∷ []) i
      (starting_map (λ l. ⊤) (λ l. (to : ℕ) → step (ChainEnd at) to l ≡ Passes (of_core core_word.Chain ∷ of_core (core_word.EndIf at) ∷ [])) (λ l h to. refl) i n))
      (f (d + 1) (ChainEnd at ∷ S) (record { fits = fits.2; deep = deep }))))
      (if_tokens there p l r) (sym (append_assoc (words (If there p l r)) (of_core core_word.Chain ∷ []) (of_core (core_word.EndIf at) ∷ [])))
  step_chain e f at d S fits deep = absurd (let g = fits.1 in cc)

  pub branch_of : (b : Body) → ((c : Bool) → FitsBody c b → FitsBody false b) → BodyReads limit b → BranchReads b
  branch_of b f g d S fits deep = block_reads b g d S (f true fits) deep

  pub step_branch_of : (b : Body) → ((c : Bool) → FitsBody c b → FitsBody false b) → BodyReads limit b → StepBranch b
  step_branch_of b f g at d S fits deep = step_block b g at d S (f true fits) deep

  -- A STEP THAT BEGINS WITH AN EXPRESSION is read as that
  abbrev pub Same : ℕ → Stack → List Placed → Type 0
  Same d S i = reading limit (Steps d ∷ S) i ≡ ended_then (Some (of_core core_word.List ∷ [])) (reading limit (Operand 0 (d + 1) ∷ Further d ∷ StepEnd d ∷ S) i)

  abbrev pub BeginsStep : Expr → Type 0
  BeginsStep e = (d : ℕ) (S : Stack) → IsExpr limit (d + 1) e → (i r : List Placed) → Follows (tokens e) i r → Something r → Same d S i

  abbrev pub BeginsSteps : Exprs → Type 0
  BeginsSteps es = (d : ℕ) (S : Stack) → AreAll limit d es → (i r : List Placed) → Follows (list_tokens es) i r → Something r → Same d S i

  abbrev PlainStep : ℕ → Lexeme → Type 0
  PlainStep d l = (at : ℕ) → steps d at l ≡ appending (of_core core_word.List ∷ []) (above (Further d ∷ StepEnd d ∷ []) (operand 0 (d + 1) at l))

  above_is : (d : ℕ) (S : Stack) (o : Outcome) (passed other : Bool → Result Moved CoreFaultKind) → stays o ≡ true
      → advance_by limit (above (Further d ∷ StepEnd d ∷ []) o) S passed ≡ advance_by limit o (Further d ∷ StepEnd d ∷ S) other
  above_is d S (Takes needed ws P) passed other h = ap (λ T. if nat_le needed limit then Ok (record { appended = ws; stack = T }) else Err TooDeep)
      (append_assoc P (Further d ∷ StepEnd d ∷ []) S)
  above_is d S (Passes ws) passed other h = absurd cc
  above_is d S (Lacks ws) passed other h = absurd cc
  above_is d S Refuses passed other h = refl

  plain_step : (d : ℕ) (S : Stack) (p : Placed) (i : List Placed) → PlainStep d p.lexeme → Same d S (p ∷ i)
  plain_step d S p i h =
      ap (λ o. read_on (advance_by limit o S (λ b. advance limit S b p.at p.lexeme)) (λ T. reading limit T i)) (h p.at)
      ∙ ap (λ o. read_on o (λ T. reading limit T i))
      (appending_is limit (of_core core_word.List ∷ []) (above (Further d ∷ StepEnd d ∷ []) (operand 0 (d + 1) p.at p.lexeme)) S
      (λ b. advance limit S b p.at p.lexeme)
      ∙ ap (moved_after (of_core core_word.List ∷ []))
      (above_is d S (operand 0 (d + 1) p.at p.lexeme) (λ b. advance limit S b p.at p.lexeme) (λ b. advance limit (Further d ∷ StepEnd d ∷ S) b p.at p.lexeme)
      (operand_stays limit 0 (d + 1) p.at p.lexeme)))
      ∙ read_on_after (of_core core_word.List ∷ []) (advance limit (Operand 0 (d + 1) ∷ Further d ∷ StepEnd d ∷ S) false p.at p.lexeme) (λ T. reading limit T i)

  abbrev PlainFirst : ℕ → List Spelling → Type 0
  PlainFirst d [] = ⊥
  PlainFirst d (s ∷ ss) = PlainStep d s.lexeme

  plain_first : (d : ℕ) (S : Stack) (ss : List Spelling) → PlainFirst d ss → (i r : List Placed) → Follows ss i r → Same d S i
  plain_first d S [] h i r f = absurd h
  plain_first d S (s ∷ ss) h [] r f = absurd f
  plain_first d S (s ∷ ss) h (p ∷ i) r f = plain_step d S p i (subst (PlainStep d) (sym f.0.0) h)

  something_first : (s : Spelling) (ss : List Spelling) (i r : List Placed) → Follows (s ∷ ss) i r → Something i
  something_first s ss [] r f = absurd f
  something_first s ss (p ∷ i) r f = tt

  begins_left : (l : Expr) (s : Spelling) (ss : List Spelling) → BeginsStep l → (d : ℕ) (S : Stack) → IsExpr limit (d + 1) l → (i r : List Placed)
      → Follows (tokens l ++ s ∷ ss) i r → Same d S i
  begins_left l s ss f d S is i r g = let c = follows_append (tokens l) (s ∷ ss) i r g in f d S is i c.0 c.1 (something_first s ss c.0 r c.2)

  pub begins_join : (l : Expr) (s : Spelling) (ss : List Spelling) → BeginsStep l → (d n : ℕ) (S : Stack) → Fits l → (d + 1) + max (depth l) n ≤ limit
      → (i r : List Placed) → Follows (tokens l ++ s ∷ ss) i r → Same d S i
  begins_join l s ss f d n S fits deep i r g =
      begins_left l s ss f d S (record { fits = fits; deep = (shallow (d + 1) (depth l) n limit deep).0 }) i r g

  pub begins_if : (at : ℕ) (p : Expr) (l r : Body) → WholeIf (If at p l r) → StepIf (If at p l r) → BeginsStep (If at p l r)
  begins_if at p l r f g d S is i j h n =
      let Z : Stack = After 0 12 (d + 1) ∷ Further d ∷ StepEnd d ∷ S in
      let W : Words = words (If at p l r) in
      let one : Reads limit (Operand 0 (d + 1) ∷ Further d ∷ StepEnd d ∷ S) (tokens (If at p l r)) W Any (reading limit Z) =
      operand_if at p l r f 0 (d + 1) (Further d ∷ StepEnd d ∷ S) is in
      let two : Reads limit (Steps d ∷ S) (tokens (If at p l r)) (of_core core_word.List ∷ W) Something (reading limit Z) =
      reads_as limit
      (reads_at limit (Steps d) at (TheWord (keyword.Core core_keyword.If)) (d + 3) (of_core core_word.List ∷ [])
      (tested (d + 1) (ArmEnd at (d + 1) ∷ After 0 12 (d + 1) ∷ Further d ∷ StepEnd d ∷ [])) refl
      (let k = (shallow_if (d + 1) p l (body_depth r) is.deep).two in omega arith)
      (g (d + 1) Z is))
      (if_tokens at p l r) refl in
      two.by i j h n ∙ then_twice (of_core core_word.List ∷ []) W (reading limit Z j) ∙ ap (ended_then (Some (of_core core_word.List ∷ []))) (sym (one.by i j h tt))

  pub begins_plain : (e : Expr) → ((d : ℕ) → PlainFirst d (tokens e)) → BeginsStep e
  begins_plain e f d S is i r g n = plain_first d S (tokens e) (f d) i r g

  pub begins_one : (e : Expr) → BeginsStep e → BeginsSteps (One e)
  begins_one e f d S are i r g n = f d S (is_only limit d e are) i r g n

  pub begins_more : (e : Expr) (es : Exprs) → BeginsStep e → BeginsSteps (More e es)
  begins_more e es f d S are i r g n = begins_left e (a_sign core_sign.Comma) (list_tokens es) f d S (is_first limit d e es are) i r g

  -- a list that begins a step, with what ends it
  step_list : {ts : List Spelling} {vs : Words} {M : List Placed → Type 0} {k : List Placed → Option Words} (es : Exprs) (d : ℕ) (S : Stack) → Parts limit es
      → BeginsSteps es → AreAll limit d es → (t : Spelling) → Ends t.lexeme → Reads limit (StepEnd d ∷ S) (t ∷ ts) vs M k
      → Reads limit (Steps d ∷ S) (list_tokens es ++ t ∷ ts) (of_core core_word.List ∷ (part_words es ++ vs)) M k
  step_list {ts = ts} es d S f g are t h l = reads_from limit {N = Same d S} (of_core core_word.List ∷ []) (λ i n. n)
      (λ i r j n. let c = follows_append (list_tokens es) (t ∷ ts) i r j in g d S are i c.0 c.1 (something_first t ts c.0 r c.2))
      (reads_list limit es d f are t h l)

  -- BODIES
  pub reads_give : (es : Exprs) → Parts limit es → BeginsSteps es → BodyReads limit (Give es)
  reads_give es f g d S fits deep = step_list es d S f g (record { fits = fits; deep = deep }) (a_sign core_sign.CloseBrace)
      (record { closes = record { plain = refl; none = refl }; other = refl })
      (reads_any limit (StepEnd d) (TheSign (sign.Core core_sign.CloseBrace)) 0 (of_core core_word.Give ∷ []) [] (λ at. refl) (omega arith) (reads_none limit S))

  pub reads_do : (es : Exprs) (rest : Body) → Parts limit es → BeginsSteps es → BodyReads limit rest → BodyReads limit (Do es rest)
  reads_do es rest f g h d S fits deep =
      let both = shallow d (list_depth es) (body_depth rest) limit deep in
      reads_as limit (step_list es d S f g (record { fits = fits.0; deep = both.0 }) (a_sign core_sign.Semicolon)
      (record { closes = record { plain = refl; none = refl }; other = refl })
      (reads_any limit (StepEnd d) (TheSign (sign.Core core_sign.Semicolon)) 0 (of_core core_word.Do ∷ []) (Steps d ∷ []) (λ at. refl) (omega arith)
      (h d S fits.1 both.1))) refl refl

  -- the targets of a `let`
  one_target : {ts : List Spelling} {vs : Words} {M : List Placed → Type 0} {k : List Placed → Option Words} (t : ATarget) (S : Stack) → Reads limit S ts vs M k
      → Reads limit (Target ∷ S) (target_token t ∷ ts) (target_word t ∷ vs) M k
  one_target (Bind x) S l = reads_at limit Target x.at (TheName x.name) 0 (of_core (core_word.Bind x.at x.name) ∷ []) [] refl (omega arith) l
  one_target Drop S l = reads_any limit Target (TheSign (sign.Core core_sign.Underscore)) 0 (of_core core_word.Drop ∷ []) [] (λ at. refl) (omega arith) l

  further_targets : {us : List Spelling} {vs : Words} {M : List Placed → Type 0} {k : List Placed → Option Words} (ts : List ATarget) (S : Stack)
      → Reads limit S (a_sign core_sign.Equals ∷ us) vs M k
      → Reads limit (Targets ∷ S) (after_commas (map (λ t. target_token t ∷ []) ts) ++ a_sign core_sign.Equals ∷ us) (map target_word ts ++ vs) M k
  further_targets [] S l = reads_passed limit Targets (a_sign core_sign.Equals) [] (λ at. refl) l
  further_targets (t ∷ ts) S l = reads_any limit Targets (TheSign (sign.Core core_sign.Comma)) 0 [] (Target ∷ Targets ∷ []) (λ at. refl) (omega arith)
      (one_target t (Targets ∷ S) (further_targets ts S l))

  pub reads_let : (at : ℕ) (ts : List ATarget) (es : Exprs) (rest : Body) → Parts limit es → BodyReads limit rest → BodyReads limit (Let at ts es rest)
  reads_let at [] es rest f h d S fits deep = absurd (let g = fits.0 in omega arith)
  reads_let at (t ∷ ts) es rest f h d S fits deep =
      let both = shallow d (list_depth es) (body_depth rest) limit deep in
      let C : List Spelling = after_commas (map (λ t. target_token t ∷ []) ts) in
      reads_as limit
      (reads_at limit (Steps d) at (TheWord (keyword.Core core_keyword.Let)) 0 (of_core (core_word.Let at) ∷ [])
      (Target ∷ Targets ∷ equals ∷ Emit (of_core core_word.List) ∷ Operand 0 (d + 1) ∷ Further d ∷ semicolon ∷ Emit (of_core (core_word.EndLet at)) ∷ Steps d ∷ [])
      refl (omega arith)
      (one_target t _ (further_targets ts _ (reads_sign limit (sign.Core core_sign.Equals) (reads_emit limit (of_core core_word.List)
      (reads_list limit es d f (record { fits = fits.1; deep = both.0 }) (a_sign core_sign.Semicolon)
      (record { closes = record { plain = refl; none = refl }; other = refl })
      (reads_sign limit (sign.Core core_sign.Semicolon) (reads_emit limit (of_core (core_word.EndLet at)) (h d S fits.2 both.1)))))))))
      (ap (λ u. word_at at (keyword.Core core_keyword.Let) ∷ target_token t ∷ u)
      (arm_tokens_are C (list_tokens es) (body_tokens rest) (a_sign core_sign.Equals) (a_sign core_sign.Semicolon))
      ∙ ap (λ u. (word_at at (keyword.Core core_keyword.Let) ∷ u ++ a_sign core_sign.Equals ∷ list_tokens es) ++ a_sign core_sign.Semicolon ∷ body_tokens rest)
      (sym (commas_are limit t ts)))
      (ap (λ u. of_core (core_word.Let at) ∷ target_word t ∷ u)
      (arm_tokens_are (map target_word ts) (part_words es) (body_words rest) (of_core core_word.List) (of_core (core_word.EndLet at))))

  -- STATEMENTS: what follows their first `if`, where the last arm has no `else`
  abbrev tests_rest : Tests → List Spelling
  tests_rest (Last at p l) = arm p l []
  tests_rest (Else at p l ts) = arm p l (a_word core_keyword.Else ∷ tests_tokens ts)

  abbrev begun : Tests → ℕ
  begun (Last at p l) = at
  begun (Else at p l ts) = at

  tests_first : (t : Tests) → word_at (begun t) (keyword.Core core_keyword.If) ∷ tests_rest t ≡ tests_tokens t
  tests_first (Last at p l) = ap (λ u. word_at at (keyword.Core core_keyword.If) ∷ (tokens p ++ a_sign core_sign.OpenBrace ∷ u)) (append-nil (body_tokens l))
  tests_first (Else at p l ts) = ap (λ u. word_at at (keyword.Core core_keyword.If) ∷ u)
      (arm_tokens_are (tokens p) (body_tokens l) (tests_tokens ts) (a_sign core_sign.OpenBrace) (a_word core_keyword.Else))

  -- what a stack makes of the tokens that are left, after an `if` without its `else`
  abbrev lacking : Stack → List Placed → Option Words
  lacking S [] = None
  lacking S (p ∷ r) = read_on (advance limit S true p.at p.lexeme) (λ T. reading limit T r)

  abbrev Semicolon : List Placed → Type 0
  Semicolon r = Starting (λ l. l ≡ TheSign (sign.Core core_sign.Semicolon)) r

  abbrev pub TestsReads : Tests → Type 0
  TestsReads t = (d : ℕ) (S : Stack) → FitsTests t → d + tests_depth t ≤ limit
      → Reads limit (tested d (ArmEnd (begun t) d ∷ S)) (tests_rest t) (tests_words t) Semicolon (lacking S)

  arm_lacks : (at d : ℕ) (S : Stack) (r : List Placed) → Semicolon r → reading limit (ArmEnd at d ∷ S) r ≡ ended_then (Some (word.EndWhen at ∷ [])) (lacking S r)
  arm_lacks at d S [] h = absurd h
  arm_lacks at d S (p ∷ r) h =
      ap (λ l. read_on (advance_by limit (step (ArmEnd at d) p.at l) S (λ b. advance limit S b p.at p.lexeme)) (λ T. reading limit T r)) h
      ∙ read_on_after (word.EndWhen at ∷ []) (advance limit S true p.at p.lexeme) (λ T. reading limit T r)

  chain_lacks : (at : ℕ) (S : Stack) (r : List Placed) → lacking (ChainEnd at ∷ S) r ≡ ended_then (Some (word.EndWhen at ∷ [])) (lacking S r)
  chain_lacks at S [] = refl
  chain_lacks at S (p ∷ r) = read_on_after (word.EndWhen at ∷ []) (advance limit S true p.at p.lexeme) (λ T. reading limit T r)

  pub reads_last : (at : ℕ) (p : Expr) (l : Body) → ExprReads limit p → BodyReads limit l → TestsReads (Last at p l)
  reads_last at p l f g d S fits deep =
      let both = shallow (d + 1) (suc (depth p)) (body_depth l) limit (omega arith) in
      let none : Reads limit (ArmEnd at d ∷ S) [] (word.EndWhen at ∷ []) Semicolon (lacking S) =
      record { by = λ i r h m. ap (reading limit (ArmEnd at d ∷ S)) h ∙ arm_lacks at d S r m } in
      reads_as limit
      (reads_arm d (ArmEnd at d ∷ S) p l f g (record { fits = fits.0; deep = (let h = both.0 in omega arith) }) fits.1 both.1 none)
      refl (sym (append_assoc (words p) (of_core core_word.Then ∷ body_words l) (word.EndWhen at ∷ [])))

  pub reads_else : (at : ℕ) (p : Expr) (l : Body) (t : Tests) → ExprReads limit p → BodyReads limit l → TestsReads t → TestsReads (Else at p l t)
  reads_else at p l t f g h d S fits deep =
      let k = shallow_if d p l (tests_depth t) deep in
      reads_as limit
      (reads_arm d (ArmEnd at d ∷ S) p l f g (record { fits = fits.0; deep = k.test }) fits.1 k.arm_deep
      (reads_any limit (ArmEnd at d) (TheWord (keyword.Core core_keyword.Else)) 0 (of_core core_word.Else ∷ []) (StepOtherwise at d ∷ []) (λ there. refl)
      (omega arith)
      (reads_as limit
      (reads_at limit (StepOtherwise at d) (begun t) (TheWord (keyword.Core core_keyword.If)) (d + 3) []
      (tested (d + 1) (ArmEnd (begun t) (d + 1) ∷ ChainEnd at ∷ [])) refl (let i = two_more t (d + 1) k.other in omega arith)
      (further d)) (tests_first t) refl)))
      refl (arm_words_are (words p) (body_words l) (tests_words t) (word.EndWhen at ∷ []) (of_core core_word.Then) (of_core core_word.Else))
    where
      two_more : (t : Tests) (d : ℕ) → d + tests_depth t ≤ limit → d + 2 ≤ limit
      two_more (Last at p l) d h = let i = (shallow (d + 1) (suc (depth p)) (body_depth l) limit (omega arith)).0 in omega arith
      two_more (Else at p l t) d h = (shallow_if d p l (tests_depth t) h).two

      further : (e : ℕ) → Reads limit (tested (d + 1) (ArmEnd (begun t) (d + 1) ∷ ChainEnd at ∷ S)) (tests_rest t) (tests_words t ++ word.EndWhen at ∷ [])
          Semicolon (lacking S)
      further e = record {
        by = λ i r j m. (h (d + 1) (ChainEnd at ∷ S) fits.2 (shallow_if d p l (tests_depth t) deep).other).by i r j m
            ∙ ap (ended_then (Some (tests_words t))) (chain_lacks at S r) ∙ sym (then_twice (tests_words t) (word.EndWhen at ∷ []) (lacking S r));
      }

  -- its `;`
  when_ends : {ts : List Spelling} {vs : Words} {M : List Placed → Type 0} {k : List Placed → Option Words} (d : ℕ) (S : Stack) (i r : List Placed)
      → Reads limit (Steps d ∷ S) ts vs M k → Follows (a_sign core_sign.Semicolon ∷ ts) i r → M r
      → lacking (After 0 12 (d + 1) ∷ Further d ∷ StepEnd d ∷ S) i ≡ ended_then (Some (word.When ∷ vs)) (k r)
  when_ends d S [] r l f m = absurd f
  when_ends {vs = vs} {k = k} d S (p ∷ i) r l f m =
      ap (λ x. read_on (advance limit (After 0 12 (d + 1) ∷ Further d ∷ StepEnd d ∷ S) true p.at x) (λ T. reading limit T i)) f.0.0
      ∙ ap (λ b. read_on (moved_after [] (moved_after [] (if b then Ok (record { appended = word.When ∷ []; stack = Steps d ∷ S }) else Err TooDeep)))
      (λ T. reading limit T i)) (le-leb 0 limit (omega arith))
      ∙ ap (ended_then (Some (word.When ∷ []))) (l.by i r f.1 m) ∙ sym (then_twice (word.When ∷ []) vs (k r))

  pub reads_when : (t : Tests) (rest : Body) → TestsReads t → BodyReads limit rest → BodyReads limit (When t rest)
  reads_when t rest f g d S fits deep =
      let both = shallow d (suc (tests_depth t)) (body_depth rest) limit deep in
      let Z : Stack = After 0 12 (d + 1) ∷ Further d ∷ StepEnd d ∷ S in
      let tests : Reads limit (Steps d ∷ S) (tests_tokens t) (of_core core_word.List ∷ tests_words t) Semicolon (lacking Z) =
      reads_as limit
      (reads_at limit (Steps d) (begun t) (TheWord (keyword.Core core_keyword.If)) (d + 3) (of_core core_word.List ∷ [])
      (tested (d + 1) (ArmEnd (begun t) (d + 1) ∷ After 0 12 (d + 1) ∷ Further d ∷ StepEnd d ∷ [])) refl
      (let i = at_least_two t (let h = both.0 in omega arith) in omega arith)
      (f (d + 1) Z fits.0 (let h = both.0 in omega arith))) (tests_first t) refl in
      reads_as limit (record {
        by = λ i r h m.
            let c = follows_append (tests_tokens t) (a_sign core_sign.Semicolon ∷ body_tokens rest) i r h in
            tests.by i c.0 c.1 (starts_so c.0 r c.2)
            ∙ ap (ended_then (Some (of_core core_word.List ∷ tests_words t))) (when_ends d S c.0 r (g d S fits.1 both.1) c.2 m)
            ∙ sym (then_twice (of_core core_word.List ∷ tests_words t) (word.When ∷ body_words rest) (reading limit S r));
      }) refl refl
    where
      at_least_two : (t : Tests) → (d + 1) + tests_depth t ≤ limit → d + 3 ≤ limit
      at_least_two (Last at p l) h = let i = (shallow (d + 2) (suc (depth p)) (body_depth l) limit (omega arith)).0 in omega arith
      at_least_two (Else at p l t) h = let i = (shallow_if (d + 1) p l (tests_depth t) h).two in omega arith

      starts_so : (i r : List Placed) → Follows (a_sign core_sign.Semicolon ∷ body_tokens rest) i r → Semicolon i
      starts_so [] r h = absurd h
      starts_so (p ∷ i) r h = h.0.0
