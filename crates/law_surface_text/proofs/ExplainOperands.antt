-- What an operand, and what follows it, does with a token is right.
use Rattle.std.proofs.Common.{◌≡◌, ℕ, zero, suc, ◌+◌, ◌<◌, ◌≤◌, max, Bool, true, false, List, [], ◌∷◌, ◌++◌, None, Some, Option, refl, sym, ap, ◌∙◌, subst}
use Rattle.std.proofs.Common.{append_assoc, append-nil, arith, inl, inr}
use Rattle.std.specs.Prelude.{◌^◌, ◌⊎◌, nat_le, nat_lt}
use Rattle.std.proofs.lemmas.Bool.{leb-true}
use Rattle.std.proofs.Math.Nat.{eq-or-lt_of_le}
use Rattle.lemmas.proofs.Bools.{first_of_and, second_of_and}
use Rattle.operators.specs.declared.Unary.TheVariants.{Neg, Not as Inverted}
use Rattle.operators.specs.declared.Binary.TheVariants as binary
use Rattle.source.specs.declared.token.Keyword.TheVariants as core_keyword
use Rattle.source.specs.declared.token.Sign.TheVariants as core_sign
use Rattle.source.specs.declared.word.InfixSign.TheVariants.{Direct, Greater, AtLeast}
use Rattle.source.specs.declared.word.Word.TheVariants as core_word
use Rattle.source.specs.Tree.{Name}
use Rattle.source.specs.Spelled.{infix_sign}
use Rattle.surface.specs.declared.token.Keyword.{Keyword}
use Rattle.surface.specs.declared.token.Keyword.TheVariants as keyword
use Rattle.surface.specs.declared.token.Sign.{Sign}
use Rattle.surface.specs.declared.token.Sign.TheVariants as sign
use Rattle.surface.specs.declared.word.Word.TheVariants as word
use Rattle.surface.specs.Tree.{Expr, Number, Named, Bracket, Prefix, Infix, And, Or, Not, Fetch, Store, Call, If, Loop, For, Body, Let, Do, When, Give, Chain}
use Rattle.surface.specs.Spelled.{name_token, is_chain, Lexeme, TheWord, TheSign, TheNumber, TheName, Spelling, the_word, the_sign, a_sign, word_at, tokens, body_tokens}
use Rattle.surface.specs.Fits.{level, Fits, FitsBody, IsLeast, depth, prefix_depth}
use Rattle.surface.specs.Words.{Words, of_core, words, body_words}
use Rattle.law_language.proofs.GrammarExplainFollowing.{sign_level_most}
use Rattle.law_language.proofs.GrammarGivens.{deep_max}
use Rattle.law_surface_text.specs.declared.symbol.Symbol.TheVariants.{Emit, Operand, Negated, After, AfterName, AfterIndexes, Otherwise}
use Rattle.law_surface_text.specs.Automaton.{Stack, Operator, Joins, AndAlso, OrElse, operator_level, operand_level, between, joined, operator_of, goes_on}
use Rattle.law_surface_text.specs.Automaton.{Outcome, Takes, Passes, Lacks, Refuses, appending}
use Rattle.law_surface_text.specs.Automaton.{after_operator, after, after_name, after_indexes, conditional, operand_word, operand_sign, operand, negated}
use Rattle.law_surface_text.specs.Automaton.{otherwise}
use Rattle.law_surface_text.specs.Ready.{Ready, AllReady}
use Rattle.law_surface_text.proofs.Meaning.{IsExpr, Ops, Bodies, Operands, AfterOperand, Is, meaning, Explains, takes, passes, refuses}
use Rattle.law_surface_text.proofs.Givens.{stays, stays_if, as_is, held, explains_if, explains_small, explains_as}

-- OPERATORS
abbrev pub operator_lexeme : Operator → Lexeme
operator_lexeme (Joins s) = TheSign (sign.Core (infix_sign s))
operator_lexeme AndAlso = TheWord keyword.And
operator_lexeme OrElse = TheWord keyword.Or

pub operator_is : (l : Lexeme) (o : Operator) → operator_of l ≡ Some o → l ≡ operator_lexeme o
operator_is (TheSign (sign.Core core_sign.ShiftLeft)) o e = let f : Joins (Direct binary.Shl) ≡ o = cc in rw (← f) refl
operator_is (TheSign (sign.Core core_sign.ShiftRight)) o e = let f : Joins (Direct binary.Shr) ≡ o = cc in rw (← f) refl
operator_is (TheSign (sign.Core core_sign.EqualTo)) o e = let f : Joins (Direct binary.Eq) ≡ o = cc in rw (← f) refl
operator_is (TheSign (sign.Core core_sign.NotEqualTo)) o e = let f : Joins (Direct binary.Ne) ≡ o = cc in rw (← f) refl
operator_is (TheSign (sign.Core core_sign.AtMost)) o e = let f : Joins (Direct binary.Le) ≡ o = cc in rw (← f) refl
operator_is (TheSign (sign.Core core_sign.AtLeast)) o e = let f : Joins AtLeast ≡ o = cc in rw (← f) refl
operator_is (TheSign (sign.Core core_sign.Less)) o e = let f : Joins (Direct binary.Lt) ≡ o = cc in rw (← f) refl
operator_is (TheSign (sign.Core core_sign.Greater)) o e = let f : Joins Greater ≡ o = cc in rw (← f) refl
operator_is (TheSign (sign.Core core_sign.Plus)) o e = let f : Joins (Direct binary.Add) ≡ o = cc in rw (← f) refl
operator_is (TheSign (sign.Core core_sign.Minus)) o e = let f : Joins (Direct binary.Sub) ≡ o = cc in rw (← f) refl
operator_is (TheSign (sign.Core core_sign.Star)) o e = let f : Joins (Direct binary.Mul) ≡ o = cc in rw (← f) refl
operator_is (TheSign (sign.Core core_sign.Slash)) o e = let f : Joins (Direct binary.Div) ≡ o = cc in rw (← f) refl
operator_is (TheSign (sign.Core core_sign.Percent)) o e = let f : Joins (Direct binary.Rem) ≡ o = cc in rw (← f) refl
operator_is (TheSign (sign.Core core_sign.Ampersand)) o e = let f : Joins (Direct binary.And) ≡ o = cc in rw (← f) refl
operator_is (TheSign (sign.Core core_sign.Caret)) o e = let f : Joins (Direct binary.Xor) ≡ o = cc in rw (← f) refl
operator_is (TheSign (sign.Core core_sign.Bar)) o e = let f : Joins (Direct binary.Or) ≡ o = cc in rw (← f) refl
operator_is (TheWord keyword.And) o e = let f : AndAlso ≡ o = cc in rw (← f) refl
operator_is (TheWord keyword.Or) o e = let f : OrElse ≡ o = cc in rw (← f) refl
operator_is l o e = absurd cc

abbrev pub join : Operator → ℕ → Expr → Expr → Expr
join (Joins s) at l r = Infix at s l r
join AndAlso at l r = And at l r
join OrElse at l r = Or at l r

pub join_tokens : (o : Operator) (at : ℕ) (l r : Expr)
    → tokens (join o at l r) ≡ tokens l ++ record { place = Some at; lexeme = operator_lexeme o } ∷ tokens r
join_tokens (Joins s) at l r = refl
join_tokens AndAlso at l r = refl
join_tokens OrElse at l r = refl

pub join_words : (o : Operator) (at : ℕ) (l r : Expr) → words (join o at l r) ≡ words l ++ between o ∷ words r ++ joined o at ∷ []
join_words (Joins s) at l r = refl
join_words AndAlso at l r = refl
join_words OrElse at l r = refl

pub join_level : (o : Operator) (at : ℕ) (l r : Expr) → level (join o at l r) ≡ operator_level o
join_level (Joins s) at l r = refl
join_level AndAlso at l r = refl
join_level OrElse at l r = refl

pub join_depth : (o : Operator) (at : ℕ) (l r : Expr) → depth (join o at l r) ≡ max (depth l) (depth r)
join_depth (Joins s) at l r = refl
join_depth AndAlso at l r = refl
join_depth OrElse at l r = refl

join_fits : (o : Operator) (at : ℕ) (l r : Expr) → Fits l → operand_level o ≤ level l → Fits r → operator_level o < level r → Fits (join o at l r)
join_fits (Joins s) at l r f g h i = (f, g, h, i)
join_fits AndAlso at l r f g h i = (f, g, h, i)
join_fits OrElse at l r f g h i = (f, g, h, i)

pub level_most : (o : Operator) → operator_level o ≤ 10
level_most (Joins s) = let h = sign_level_most s in omega arith
level_most AndAlso = omega arith
level_most OrElse = omega arith

cons_append : {A : Type 0} (x : A) (a b : List A) → (x ∷ a) ++ b ≡ x ∷ (a ++ b)
cons_append x a b = refl

for_tokens_are : {A : Type 0} (n a b c e s : List A) (i k x y : A)
    → ((((n ++ i ∷ k ∷ a) ++ x ∷ b) ++ c) ++ y ∷ e) ++ s ≡ (n ++ (i ∷ k ∷ (((a ++ x ∷ b) ++ c) ++ y ∷ e))) ++ (s ++ [])
for_tokens_are n a b c e s i k x y = simp (append_assoc, append-nil, cons_append)

for_words_are : {A : Type 0} (n a b c e s : List A) (i x y z f : A)
    → (((((n ++ i ∷ a) ++ x ∷ b) ++ y ∷ c) ++ z ∷ e) ++ f ∷ []) ++ s ≡ (n ++ (i ∷ (((a ++ x ∷ b) ++ y ∷ c) ++ z ∷ e))) ++ (f ∷ (s ++ []))
for_words_are n a b c e s i x y z f = simp (append_assoc, append-nil, cons_append)

-- BODIES in braces
pub no_chain : (b : Body) → FitsBody false b → is_chain b ≡ false
no_chain (Let at ts es rest) h = refl
no_chain (Do es rest) h = refl
no_chain (When ts rest) h = refl
no_chain (Give es) h = refl
no_chain (Chain e) h = absurd (let g = h.0 in cc)

pub fits_behind : (b : Body) → FitsBody false b → FitsBody true b
fits_behind (Let at ts es rest) h = h
fits_behind (Do es rest) h = h
fits_behind (When ts rest) h = h
fits_behind (Give es) h = h
fits_behind (Chain e) h = absurd (let g = h.0 in cc)

abbrev pub behind_else : (limit d : ℕ) → Bodies limit false d → Bodies limit true d
behind_else limit d y = record { b = y.b; fits = fits_behind y.b y.fits; deep = y.deep }

module _ (limit : ℕ) where
  -- AN OPERAND that was made, with equal tokens and words
  pub made : {m d : ℕ} {ss ts : List Spelling} {ws vs : Words} → Operands limit m d ss ws → ss ≡ ts → ws ≡ vs → Is (meaning limit (Operand m d)) false ts vs
  made o p q = record { part = o.of; ends = refl; spelled = o.spelled ∙ p; says = o.says ∙ q }

  pub operands : {m d : ℕ} {ss ts : List Spelling} {ws vs : Words} → Operands limit m d ss ws → ss ≡ ts → ws ≡ vs → Operands limit m d ts vs
  operands o p q = record { of = o.of; spelled = o.spelled ∙ p; says = o.says ∙ q }

  pub one_operand : (m d : ℕ) (e : Expr) → IsExpr limit d e → m ≤ level e → {ss : List Spelling} {ws : Words} → tokens e ≡ ss → words e ≡ ws
      → Operands limit m d ss ws
  one_operand m d e is h p q = record { of = record { e = e; is = is; at_least = h }; spelled = p; says = q }

  -- AFTER AN OPERAND
  passes_after : (m k d : ℕ) → AfterOperand limit m k d [] []
  passes_after m k d e is h g = one_operand m d e is g (sym (append-nil (tokens e))) (sym (append-nil (words e)))

  joins : (m k d at : ℕ) (o : Operator) (r : Ops limit (operator_level o + 1) d) (ss : List Spelling) (ws : Words) → m ≤ operator_level o
      → operand_level o ≤ k → AfterOperand limit m (operator_level o) d ss ws
      → AfterOperand limit m k d (record { place = Some at; lexeme = operator_lexeme o } ∷ (tokens r.e ++ ss)) (between o ∷ (words r.e ++ joined o at ∷ ws))
  joins m k d at o r ss ws low high y e is h g =
      let same : level (join o at e r.e) ≡ operator_level o = join_level o at e r.e in
      let deeper : depth (join o at e r.e) ≡ max (depth e) (depth r.e) = join_depth o at e r.e in
      let both : d + max (depth e) (depth r.e) ≤ limit = deep_max d _ _ limit is.deep r.is.deep in
      operands (y (join o at e r.e)
      (record { fits = join_fits o at e r.e is.fits (omega arith) r.is.fits (let i = r.at_least in omega arith); deep = (let i = both in omega arith) })
      (omega arith) (omega arith))
      (rw (join_tokens o at e r.e) (append_assoc (tokens e) _ ss))
      (rw (join_words o at e r.e) (simp append_assoc))

  pub explains_after : (m k d at : ℕ) (l : Lexeme) → d ≤ limit → Explains limit (meaning limit (After m k d)) at l (after m k d at l)
  explains_after m k d at l r = go (operator_of l) refl
    where
      passing : Is (meaning limit (After m k d)) false [] []
      passing = held (AfterOperand limit m k d) [] [] (passes_after m k d)

      go : (o : Option Operator) → operator_of l ≡ o → Explains limit (meaning limit (After m k d)) at l (after_operator m k d at o)
      go None e = passes passing
      go (Some o) e = explains_if (goes_on m k o) (λ h.
          let low : m ≤ operator_level o = leb-true m (operator_level o) (first_of_and _ _ h) in
          let high : operand_level o ≤ k = leb-true (operand_level o) k (second_of_and (nat_le m (operator_level o)) _ h) in
          takes (Some at) refl (λ n. (((let most = level_most o in omega arith), r), (tt, (r, tt))))
          (λ n a₁ a₂ a₃. as_is (held (AfterOperand limit m k d) _ _ (joins m k d at o a₁ a₃.ss a₃.ws low high a₃.is))
          (rw (operator_is l o e) (simp append-nil)) (simp append-nil)))
          (λ h. passes passing)

  -- AFTER A NAME
  named_then : (named : ℕ) (x : Name) (m d : ℕ) → (m ≤ 11) × (d ≤ limit) → (c : Bool) (ss : List Spelling) (ws : Words)
      → Is (meaning limit (After m 12 d)) c ss ws → Is (meaning limit (AfterName named x m d)) c ss (of_core (core_word.Name named x) ∷ ws)
  named_then named x m d r c ss ws y = record {
    part = record {
      ss = y.part.ss;
      ws = of_core (core_word.Name named x) ∷ y.part.ws;
      is = y.part.is (Named named x) (record { fits = tt; deep = (let g = r.1 in omega arith) }) (omega arith) (let g = r.0 in omega arith);
    };
    ends = y.ends;
    spelled = y.spelled;
    says = ap (λ t. of_core (core_word.Name named x) ∷ t) y.says;
  }

  pub explains_after_name : (named : ℕ) (x : Name) (m d at : ℕ) (l : Lexeme) → Ready limit (AfterName named x m d)
      → Explains limit (meaning limit (AfterName named x m d)) at l (after_name named x m d at l)
  explains_after_name named x m d at (TheSign (sign.Core core_sign.OpenParen)) r = takes None tt
      (λ h. ((omega arith, h), (h, (tt, (tt, (r.1, tt))))))
      (λ h a₁ a₂ a₃ a₄ a₅. let c = a₂.is a₁.e a₁.is in held _ _ _
      (operands (a₅.is (Call named false x c.es) (record { fits = c.are.fits; deep = c.are.deep }) (omega arith) (let g = r.0 in omega arith))
      (rw c.spelled (simp (append_assoc, append-nil))) (rw c.says (simp (append_assoc, append-nil)))))
  explains_after_name named x m d at (TheSign (sign.Core core_sign.OpenBracket)) r = takes None tt
      (λ h. ((omega arith, h), (h, (tt, ((r.0, h), tt)))))
      (λ h a₁ a₂ a₃ a₄. let c = a₂.is a₁.e a₁.is in held _ _ _
      (operands (a₄.is c.es c.are) (rw c.spelled (simp (append_assoc, append-nil))) (rw c.says (simp (append_assoc, append-nil)))))
  explains_after_name named x m d at l r =
      explains_as limit (meaning limit (After m 12 d)) (meaning limit (AfterName named x m d)) at l (of_core (core_word.Name named x) ∷ [])
      (named_then named x m d r) _ (explains_after m 12 d at l r.1)

  -- AFTER THE INDEXES OF AN ARRAY
  fetch_then : (cell : ℕ) (a : Name) (m d : ℕ) → (m ≤ 11) × (d + 1 ≤ limit) → (c : Bool) (ss : List Spelling) (ws : Words)
      → Is (meaning limit (After m 12 d)) c ss ws → Is (meaning limit (AfterIndexes cell a m d)) c ss (of_core (core_word.Fetch cell a) ∷ ws)
  fetch_then cell a m d r c ss ws y = record {
    part = record {
      ss = y.part.ss;
      ws = of_core (core_word.Fetch cell a) ∷ y.part.ws;
      is = λ es are. operands (y.part.is (Fetch cell a es) (record { fits = are.fits; deep = are.deep }) (omega arith) (let g = r.0 in omega arith))
          (simp append_assoc) (simp append_assoc);
    };
    ends = y.ends;
    spelled = y.spelled;
    says = ap (λ t. of_core (core_word.Fetch cell a) ∷ t) y.says;
  }

  pub explains_after_indexes : (cell : ℕ) (a : Name) (m d at : ℕ) (l : Lexeme) → Ready limit (AfterIndexes cell a m d)
      → Explains limit (meaning limit (AfterIndexes cell a m d)) at l (after_indexes cell a m d at l)
  explains_after_indexes cell a zero d at (TheSign (sign.Core core_sign.Becomes)) r = takes None tt (λ h. ((omega arith, r.1), (tt, tt)))
      (λ h a₁ a₂. held _ _ _ (λ es are. one_operand 0 d (Store cell a es a₁.e) (record {
        fits = (are.fits, a₁.is.fits);
        deep = deep_max d _ _ limit are.deep (let g = a₁.is.deep in omega arith);
      }) (omega arith) (simp append-nil) (simp (append_assoc, append-nil))))
  explains_after_indexes cell a m d at l r =
      explains_as limit (meaning limit (After m 12 d)) (meaning limit (AfterIndexes cell a m d)) at l (of_core (core_word.Fetch cell a) ∷ [])
      (fetch_then cell a m d r) _ (explains_after m 12 d at l (let g = r.1 in omega arith))

  -- CONDITIONALS
  pub if_is : (at d : ℕ) (p : Expr) → IsExpr limit (d + 2) p → (l : Bodies limit false (d + 1)) (r : Bodies limit true (d + 1)) → IsExpr limit d (If at p l.b r.b)
  if_is at d p is l r = record {
    fits = (is.fits, l.fits, r.fits);
    deep = (let f : (d + 1) + suc (depth p) ≤ limit = (let g = is.deep in omega arith) in
        let g = deep_max (d + 1) _ _ limit f (deep_max (d + 1) _ _ limit l.deep r.deep) in omega arith);
  }

  ready_conditional : (at d : ℕ) (rest : Stack) → d + 2 ≤ limit → AllReady limit rest → AllReady limit (conditional at d rest)
  ready_conditional at d rest h r = ((omega arith, h), (tt, (tt, (omega arith, (tt, (tt, (omega arith, (tt, r))))))))

  -- OPERANDS
  explains_operand_word : (m d at : ℕ) (k : Keyword) → m ≤ 11 → Explains limit (meaning limit (Operand m d)) at (TheWord k) (operand_word m d at k)
  explains_operand_word m d at (keyword.Core core_keyword.Strict) r = takes None tt (λ h. (h, ((let g = h in omega arith), tt)))
      (λ h c a. made (a.is (Call c.at true c.f c.es) (record { fits = c.are.fits; deep = c.are.deep }) (omega arith) (omega arith))
      (simp append-nil) (simp append-nil))
  explains_operand_word m d at (keyword.Core core_keyword.If) r =
      takes (Some at) refl (λ h. ready_conditional at d (After m 12 d ∷ []) h ((let g = h in omega arith), tt))
      (λ h a₁ a₂ a₃ a₄ a₅ a₆ a₇ a₈ a₉. made (a₉.is (If at a₁.e a₄.b a₇.b) (if_is at d a₁.e a₁.is a₄ a₇) (omega arith) (omega arith))
      (simp (append_assoc, append-nil)) (simp (append_assoc, append-nil)))
  explains_operand_word m d at (keyword.Core core_keyword.Loop) r = takes (Some at) refl (λ h. (h, ((let g = h in omega arith), tt)))
      (λ h l a. made (a.is (Loop at l.bound l.firsts l.turn) (record {
        fits = (l.small, l.are.fits, l.many, l.fits);
        deep = deep_max d _ _ limit l.are.deep l.deep;
      }) (omega arith) (omega arith)) (simp append-nil) (simp append-nil))
  explains_operand_word m d at keyword.For r = takes (Some at) refl (λ h. (h, (tt, ((let g = h in omega arith), tt))))
      (λ h f b a. made (a.is
      (For at f.bound.n f.i f.range.first.e f.range.end.e f.range.carries.c f.range.body.b) (record {
        fits = (f.bound.small, f.range.first.is.fits, f.range.end.is.fits, f.range.carries.fits, f.range.body.fits);
        deep = deep_max d _ _ limit (let g = f.range.first.is.deep in omega arith) (deep_max d _ _ limit (let g = f.range.end.is.deep in omega arith)
            (deep_max d _ _ limit f.range.carries.deep f.range.body.deep));
      }) (omega arith) (omega arith))
      (ap (λ t. word_at at keyword.For ∷ t) (for_tokens_are _ _ _ _ _ a.ss (name_token f.i) (the_word keyword.In) (the_sign sign.Range)
      (a_sign core_sign.OpenBrace)))
      (ap (λ t. word.For at ∷ t) (for_words_are _ _ _ _ _ a.ws (word.Counter f.i.at f.i.name) word.Range word.EndRange word.Turns (word.EndFor at))))
  explains_operand_word m d at keyword.Not r = explains_if (nat_le m 3) (λ low.
      takes (Some at) refl (λ h. ((omega arith, h), (tt, ((let g = h in omega arith), tt))))
      (λ h a₁ a₂ a₃. made (a₃.is (Not at a₁.e) (record { fits = (a₁.is.fits, a₁.at_least); deep = (let g = a₁.is.deep in omega arith) })
      (omega arith) (leb-true m 3 low)) (simp (append_assoc, append-nil)) (simp (append_assoc, append-nil)))) (λ high. refuses)
  explains_operand_word m d at k r = refuses

  explains_operand_sign : (m d at : ℕ) (s : Sign) → m ≤ 11 → Explains limit (meaning limit (Operand m d)) at (TheSign s) (operand_sign m d at s)
  explains_operand_sign m d at (sign.Core core_sign.OpenParen) r =
      takes None tt (λ h. ((omega arith, h), (tt, (tt, ((let g = h in omega arith), tt)))))
      (λ h a₁ a₂ a₃ a₄. made (a₄.is (Bracket a₁.e) (record { fits = a₁.is.fits; deep = (let g = a₁.is.deep in omega arith) }) (omega arith) (omega arith))
      (simp (append_assoc, append-nil)) (simp (append_assoc, append-nil)))
  explains_operand_sign m d at (sign.Core core_sign.Minus) r = takes (Some at) refl (λ h. (h, (tt, (h, tt))))
      (λ h a₁ a₂ a₃. made (a₃.is (Prefix at Neg a₁.e) (record { fits = (a₁.at_least, a₁.fits); deep = a₁.deep }) (omega arith) r)
      (simp append-nil) (simp (append_assoc, append-nil)))
  explains_operand_sign m d at (sign.Core core_sign.Tilde) r =
      takes (Some at) refl (λ h. ((omega arith, h), (tt, ((let g = h in omega arith), tt))))
      (λ h a₁ a₂ a₃. made (a₃.is (Prefix at Inverted a₁.e)
      (record { fits = (a₁.at_least, inl a₁.is.fits); deep = (let g = a₁.is.deep in omega arith) }) (omega arith) r)
      (simp append-nil) (simp (append_assoc, append-nil)))
  explains_operand_sign m d at s r = refuses

  pub explains_operand : (m d at : ℕ) (l : Lexeme) → m ≤ 11 → Explains limit (meaning limit (Operand m d)) at l (operand m d at l)
  explains_operand m d at (TheNumber n) r = explains_small n (λ small. takes (Some at) refl (λ h. (h, tt))
      (λ h a. made (a.is (Number at n) (record { fits = small; deep = omega arith }) (omega arith) (omega arith)) (simp append-nil) (simp append-nil)))
  explains_operand m d at (TheName x) r = takes (Some at) refl (λ h. ((r, h), tt)) (λ h a. made a.is (simp append-nil) (simp append-nil))
  explains_operand m d at (TheSign s) r = explains_operand_sign m d at s r
  explains_operand m d at (TheWord k) r = explains_operand_word m d at k r

  pub operand_stays : (m d at : ℕ) (l : Lexeme) → stays (operand m d at l) ≡ true
  operand_stays m d at (TheNumber n) = stays_if (nat_lt n (2 ^ 63)) (Takes d (of_core (core_word.Number at n) ∷ []) (After m 12 d ∷ [])) refl
  operand_stays m d at (TheName x) = refl
  operand_stays m d at (TheSign (sign.Core core_sign.OpenParen)) = refl
  operand_stays m d at (TheSign (sign.Core core_sign.Minus)) = refl
  operand_stays m d at (TheSign (sign.Core core_sign.Tilde)) = refl
  operand_stays m d at (TheSign s) = refl
  operand_stays m d at (TheWord (keyword.Core core_keyword.Strict)) = refl
  operand_stays m d at (TheWord (keyword.Core core_keyword.If)) = refl
  operand_stays m d at (TheWord (keyword.Core core_keyword.Loop)) = refl
  operand_stays m d at (TheWord keyword.For) = refl
  operand_stays m d at (TheWord keyword.Not) =
      stays_if (nat_le m 3) (Takes (d + 1) [] (Operand 3 (d + 1) ∷ Emit (word.Not at) ∷ After m 3 d ∷ [])) refl
  operand_stays m d at (TheWord k) = refl

  -- UNDER `-`
  no_deeper : (e : Expr) → prefix_depth Neg e (depth e) ≤ suc (depth e)
  no_deeper (Number at n) = omega arith
  no_deeper e = omega arith

  least_or_less : (at n : ℕ) → (n ≡ 2 ^ 63) ⊎ (n < 2 ^ 63) → Fits (Number at n) ⊎ IsLeast Neg (Number at n)
  least_or_less at n (inl e) = inr e
  least_or_less at n (inr h) = inl h

  negated_as : (d : ℕ) (c : Bool) (ss : List Spelling) (ws : Words) → Is (meaning limit (Operand 11 (d + 1))) c ss ws
      → Is (meaning limit (Negated d)) c ss ([] ++ ws)
  negated_as d c ss ws y = record {
    part = record {
      e = y.part.e;
      fits = inl y.part.is.fits;
      at_least = y.part.at_least;
      deep = (let g = y.part.is.deep in let h = no_deeper y.part.e in omega arith);
    };
    ends = y.ends;
    spelled = y.spelled;
    says = y.says;
  }

  appending_none : (o : Outcome) → appending [] o ≡ o
  appending_none (Takes needed ws P) = refl
  appending_none (Passes ws) = refl
  appending_none (Lacks ws) = refl
  appending_none Refuses = refl

  negated_other : (d at : ℕ) (l : Lexeme) → Explains limit (meaning limit (Negated d)) at l (operand 11 (d + 1) at l)
  negated_other d at l = subst (Explains limit (meaning limit (Negated d)) at l) (appending_none (operand 11 (d + 1) at l))
      (explains_as limit (meaning limit (Operand 11 (d + 1))) (meaning limit (Negated d)) at l [] (negated_as d) _ (explains_operand 11 (d + 1) at l (omega arith)))

  pub explains_negated : (d at : ℕ) (l : Lexeme) → d ≤ limit → Explains limit (meaning limit (Negated d)) at l (negated d at l)
  explains_negated d at (TheNumber n) r = explains_if (nat_le n (2 ^ 63)) (λ h. takes (Some at) refl (λ k. tt) (λ k. record {
    part = record { e = Number at n; fits = least_or_less at n (eq-or-lt_of_le (leb-true n (2 ^ 63) h)); at_least = omega arith; deep = omega arith };
    ends = refl;
    spelled = refl;
    says = refl;
  })) (λ h. refuses)
  explains_negated d at l r = negated_other d at l

  -- AFTER `else`
  braced_branch : (d : ℕ) (y : Bodies limit false d)
      → Is (meaning limit (Otherwise d)) false (a_sign core_sign.OpenBrace ∷ (body_tokens y.b ++ [])) (body_words y.b ++ [])
  braced_branch d y = record {
    part = behind_else limit d y;
    ends = refl;
    spelled = rw (no_chain y.b y.fits) (ap (λ t. a_sign core_sign.OpenBrace ∷ t) (sym (append-nil (body_tokens y.b))));
    says = sym (append-nil (body_words y.b));
  }

  pub explains_otherwise : (d at : ℕ) (l : Lexeme) → d + 1 ≤ limit → Explains limit (meaning limit (Otherwise d)) at l (otherwise d at l)
  explains_otherwise d at (TheSign (sign.Core core_sign.OpenBrace)) r = takes None tt (λ h. (r, tt)) (λ h b. braced_branch d b)
  explains_otherwise d at (TheWord (keyword.Core core_keyword.If)) r =
      takes (Some at) refl (λ h. ready_conditional at d (Emit (of_core core_word.Chain) ∷ []) h (tt, tt))
      (λ h a₁ a₂ a₃ a₄ a₅ a₆ a₇ a₈ a₉. let is = if_is at d a₁.e a₁.is a₄ a₇ in record {
        part = record { b = Chain (If at a₁.e a₄.b a₇.b); fits = (refl, refl, is.fits); deep = is.deep };
        ends = refl;
        spelled = simp (append_assoc, append-nil);
        says = simp (append_assoc, append-nil);
      })
  explains_otherwise d at l r = refuses
