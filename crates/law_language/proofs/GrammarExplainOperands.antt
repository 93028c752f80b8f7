-- What an operand does with a token is right.
use Rattle.std.proofs.Common.{◌≡◌, ℕ, suc, ◌+◌, ◌<◌, ◌≤◌, true, false, List, [], ◌∷◌, ◌++◌, None, Some, refl, sym, ap, append-nil, arith, inl, inr}
use Rattle.std.specs.Prelude.{◌^◌, ◌⊎◌, nat_le, IsTrue}
use Rattle.std.proofs.lemmas.Bool.{leb-true}
use Rattle.std.proofs.Math.Nat.{eq-or-lt_of_le}
use Rattle.operators.specs.declared.Unary.TheVariants.{Neg, Not}
use Rattle.source.specs.declared.token.Keyword.{Keyword}
use Rattle.source.specs.declared.token.Keyword.TheVariants as keyword
use Rattle.source.specs.declared.token.Sign.{Sign}
use Rattle.source.specs.declared.token.Sign.TheVariants as sign
use Rattle.source.specs.declared.word.Word.TheVariants as word
use Rattle.source.specs.Tree.{Name, Expr, Number, Named, Bracket, Prefix, Infix, Fetch, Store, Call, If, Loop, Body, Let, Do, Give, Chain}
use Rattle.source.specs.Spelled.{Lexeme, TheWord, TheSign, TheNumber, TheName, Spelling, the_word, the_sign, sign_at, number_at, word_at, tokens, body_tokens}
use Rattle.source.specs.Fits.{is_if, depth, prefix_depth, Fits, IsLeast}
use Rattle.source.specs.Words.{Words, words, body_words}
use Rattle.law_language.specs.declared.symbol.Symbol.TheVariants.{Operand, Negated, After, Otherwise, Emit}
use Rattle.law_language.specs.GrammarAutomaton.{conditional, operand_word, operand_sign, operand, negated, otherwise}
use Rattle.law_language.proofs.GrammarYielded.{IsOperand, IsBody, Operands, Negateds, Bodies, Branches}
use Rattle.law_language.specs.GrammarReady.{Ready, AllReady}
use Rattle.law_language.proofs.GrammarMeaning.{Given, Explains, takes, refuses}
use Rattle.law_language.proofs.GrammarGivens.{deep_max, none_between, none_after, none_between₂, regroup_tokens, regroup_words, given_then, explains_if}
use Rattle.law_language.proofs.GrammarGivens.{explains_within, explains_small, explains_for, as_operand, ready_append}

module _ (limit : ℕ) where
  -- AN OPERAND
  explains_number : (m d at n : ℕ) → m ≤ 8 → Explains limit (Operand m d) at (TheNumber n) (operand limit m d at (TheNumber n))
  explains_number m d at n r = explains_small n (λ small. explains_within d (λ h.
      takes (Some at) refl ((omega arith, h), tt)
      (λ ss ws y. y (Number at n) (record { fits = small; at_least = omega arith; deep = omega arith }))))

  explains_name : (m d at : ℕ) (x : Name) → m ≤ 8 → Explains limit (Operand m d) at (TheName x) (operand limit m d at (TheName x))
  explains_name m d at x r = explains_within d (λ h. takes (Some at) refl ((r, h), tt) (λ ss ws y. y))

  explains_bracket : (m d at : ℕ) → m ≤ 8 → Explains limit (Operand m d) at (TheSign sign.OpenParen) (operand_sign limit m d at sign.OpenParen)
  explains_bracket m d at r = explains_within (d + 1) (λ h.
      takes None tt ((omega arith, h), (refl, (tt, ((omega arith, omega arith), tt))))
      (λ ss₁ ws₁ y₁ ss₂ ws₂ y₂ ss₃ ws₃ y₃ ss₄ ws₄ y₄.
      as_operand (y₄ (Bracket y₁.e) (record { fits = y₁.ok.fits; at_least = omega arith; deep = (let g = y₁.ok.deep in omega arith) }))
      (rw (y₁.spelled, y₂.spelled, y₃.spelled) (ap (λ t. the_sign sign.OpenParen ∷ t) (none_after ss₁ _ ss₄)))
      (rw (y₁.says, y₂.says, y₃.says) (none_between₂ ws₁ _ ws₄))))

  explains_minus : (m d at : ℕ) → m ≤ 8 → Explains limit (Operand m d) at (TheSign sign.Minus) (operand_sign limit m d at sign.Minus)
  explains_minus m d at r = explains_within d (λ h.
      takes (Some at) refl (h, (tt, ((r, h), tt)))
      (λ ss₁ ws₁ y₁ ss₂ ws₂ y₂ ss₃ ws₃ y₃.
      as_operand (y₃ (Prefix at Neg y₁.e) (record { fits = (y₁.ok.at_least, y₁.ok.fits); at_least = omega arith; deep = y₁.ok.deep }))
      (rw (y₁.spelled, y₂.spelled) (ap (λ t. sign_at at sign.Minus ∷ t) (none_between ss₁ ss₃))) (rw (y₁.says, y₂.says) refl)))

  explains_tilde : (m d at : ℕ) → m ≤ 8 → Explains limit (Operand m d) at (TheSign sign.Tilde) (operand_sign limit m d at sign.Tilde)
  explains_tilde m d at r = explains_within (d + 1) (λ h.
      takes (Some at) refl ((omega arith, h), (tt, ((r, omega arith), tt)))
      (λ ss₁ ws₁ y₁ ss₂ ws₂ y₂ ss₃ ws₃ y₃.
      as_operand (y₃ (Prefix at Not y₁.e)
      (record { fits = (y₁.ok.at_least, inl y₁.ok.fits); at_least = omega arith; deep = (let g = y₁.ok.deep in omega arith) }))
      (rw (y₁.spelled, y₂.spelled) (ap (λ t. sign_at at sign.Tilde ∷ t) (none_between ss₁ ss₃))) (rw (y₁.says, y₂.says) refl)))

  explains_strict : (m d at : ℕ) → m ≤ 8 → Explains limit (Operand m d) at (TheWord keyword.Strict) (operand_word limit m d at keyword.Strict)
  explains_strict m d at r = explains_within (d + 1) (λ h.
      takes None tt (h, ((omega arith, omega arith), tt))
      (λ ss₁ ws₁ y₁ ss₂ ws₂ y₂.
      as_operand (y₂ (Call y₁.at true y₁.f y₁.es) (record { fits = y₁.ok.fits; at_least = omega arith; deep = y₁.ok.deep }))
      (ap (λ t. the_word keyword.Strict ∷ t ++ ss₂) y₁.spelled) (ap (λ t. t ++ ws₂) y₁.says)))

  explains_loop : (m d at : ℕ) → m ≤ 8 → Explains limit (Operand m d) at (TheWord keyword.Loop) (operand_word limit m d at keyword.Loop)
  explains_loop m d at r = explains_within (d + 1) (λ h.
      takes (Some at) refl (h, ((omega arith, omega arith), tt))
      (λ ss₁ ws₁ y₁ ss₂ ws₂ y₂.
      as_operand (y₂ (Loop at y₁.bound y₁.firsts y₁.t) (record {
        fits = (y₁.small, y₁.ok.fits, y₁.many, y₁.turn_ok.fits);
        at_least = omega arith;
        deep = deep_max d _ _ limit y₁.ok.deep y₁.turn_ok.deep;
      }))
      (ap (λ t. word_at at keyword.Loop ∷ t ++ ss₂) y₁.spelled) (ap (λ t. word.Loop at ∷ t ++ ws₂) y₁.says)))

-- CONDITIONALS
-- one that is there, with what its `if` does not say
pub record Conditionals (limit at d : ℕ) (ss : List Spelling) (ws : Words) : Type 0 where
  pub e : Expr
  pub ok : IsOperand limit 9 d e
  pub conditional : IsTrue (is_if e)
  pub spelled : tokens e ≡ word_at at keyword.If ∷ ss
  pub says : words e ≡ ws

module _ (limit : ℕ) where
  pub given_conditional : (at d : ℕ) → d + 2 ≤ limit → Given limit (conditional at d) (Conditionals limit at d) [] []
  given_conditional at d h ss₁ ws₁ y₁ ss₂ ws₂ y₂ ss₃ ws₃ y₃ ss₄ ws₄ y₄ ss₅ ws₅ y₅ ss₆ ws₆ y₆ ss₇ ws₇ y₇ ss₈ ws₈ y₈ = record {
    e = If at y₁.e y₄.b y₇.b;
    ok = record {
      fits = (y₁.ok.fits, y₄.ok.fits, y₇.ok.fits);
      at_least = omega arith;
      deep = (let f : (d + 1) + suc (depth y₁.e) ≤ limit = (let g = y₁.ok.deep in omega arith) in
          let g = deep_max (d + 1) _ _ limit f (deep_max (d + 1) _ _ limit y₄.ok.deep y₇.ok.deep) in omega arith);
    };
    conditional = refl;
    spelled = rw (y₁.spelled, y₂.spelled, y₃.spelled, y₄.spelled, y₅.spelled, y₆.spelled, y₇.spelled, y₈.spelled)
        (ap (λ t. word_at at keyword.If ∷ t) (regroup_tokens ss₁ ss₄ ss₇ (the_sign sign.OpenBrace) (the_word keyword.Else)));
    says = rw (y₁.says, y₂.says, y₃.says, y₄.says, y₅.says, y₆.says, y₇.says, y₈.says) (regroup_words ws₁ ws₄ ws₇ word.Then word.Else (word.EndIf at));
  }

  ready_conditional : (at d : ℕ) → d + 2 ≤ limit → AllReady limit (conditional at d)
  ready_conditional at d h = ((omega arith, h), (tt, (refl, (omega arith, (tt, (tt, (omega arith, (tt, tt))))))))

  explains_if_operand : (m d at : ℕ) → m ≤ 8 → Explains limit (Operand m d) at (TheWord keyword.If) (operand_word limit m d at keyword.If)
  explains_if_operand m d at r = explains_within (d + 2) (λ h.
      takes (Some at) refl (ready_append limit (conditional at d) (After m 9 d ∷ []) (ready_conditional at d h) ((omega arith, omega arith), tt))
      (given_then limit (conditional at d) (After m 9 d ∷ []) (Conditionals limit at d) (λ ss ws. Operands limit m d (word_at at keyword.If ∷ ss) ws) [] []
      (λ ss ws c ts vs y. as_operand (y c.e c.ok) (ap (λ t. t ++ ts) c.spelled) (ap (λ t. t ++ vs) c.says)) [] [] (given_conditional at d h)))

  braced_branch : (d : ℕ) (ss : List Spelling) (ws : Words) → Bodies limit d ss ws → Branches limit d (the_sign sign.OpenBrace ∷ ss) ws
  braced_branch d ss ws y = go y.b y.ok y.spelled y.says
    where
      go : (b : Body) → IsBody limit false d b → body_tokens b ≡ ss → body_words b ≡ ws → Branches limit d (the_sign sign.OpenBrace ∷ ss) ws
      go (Let at ts es rest) ok p q =
          record { b = Let at ts es rest; ok = record { fits = ok.fits; deep = ok.deep }; spelled = ap (λ t. the_sign sign.OpenBrace ∷ t) p; says = q }
      go (Do es rest) ok p q =
          record { b = Do es rest; ok = record { fits = ok.fits; deep = ok.deep }; spelled = ap (λ t. the_sign sign.OpenBrace ∷ t) p; says = q }
      go (Give es) ok p q = record { b = Give es; ok = record { fits = ok.fits; deep = ok.deep }; spelled = ap (λ t. the_sign sign.OpenBrace ∷ t) p; says = q }
      go (Chain e) ok p q = absurd (let g = ok.fits.0 in cc)

  pub explains_otherwise : (d at : ℕ) (l : Lexeme) → Ready limit (Otherwise d) → Explains limit (Otherwise d) at l (otherwise limit d at l)
  explains_otherwise d at (TheSign sign.OpenBrace) r = takes None tt (r, tt) (λ ss ws y. braced_branch d ss ws y)
  explains_otherwise d at (TheWord keyword.If) r = explains_within (d + 2) (λ h.
      takes (Some at) refl (ready_append limit (conditional at d) (Emit word.Chain ∷ []) (ready_conditional at d h) (tt, tt))
      (given_then limit (conditional at d) (Emit word.Chain ∷ []) (Conditionals limit at d) (λ ss ws. Branches limit d (word_at at keyword.If ∷ ss) ws) [] []
      (λ ss ws c ts vs y. record {
        b = Chain c.e;
        ok = record { fits = (refl, c.conditional, c.ok.fits); deep = c.ok.deep };
        spelled = rw (c.spelled, y.spelled) (ap (λ t. word_at at keyword.If ∷ t) (sym (append-nil ss)));
        says = rw (c.says, y.says) refl;
      }) [] [] (given_conditional at d h)))
  explains_otherwise d at l r = refuses

  explains_operand_sign : (m d at : ℕ) (s : Sign) → m ≤ 8 → Explains limit (Operand m d) at (TheSign s) (operand_sign limit m d at s)
  explains_operand_sign m d at sign.OpenParen r = explains_bracket limit m d at r
  explains_operand_sign m d at sign.Minus r = explains_minus limit m d at r
  explains_operand_sign m d at sign.Tilde r = explains_tilde limit m d at r
  explains_operand_sign m d at s r = refuses

  explains_operand_word : (m d at : ℕ) (k : Keyword) → m ≤ 8 → Explains limit (Operand m d) at (TheWord k) (operand_word limit m d at k)
  explains_operand_word m d at keyword.Strict r = explains_strict limit m d at r
  explains_operand_word m d at keyword.If r = explains_if_operand m d at r
  explains_operand_word m d at keyword.Loop r = explains_loop limit m d at r
  explains_operand_word m d at k r = refuses

  pub explains_operand : (m d at : ℕ) (l : Lexeme) → m ≤ 8 → Explains limit (Operand m d) at l (operand limit m d at l)
  explains_operand m d at (TheNumber n) r = explains_number limit m d at n r
  explains_operand m d at (TheName x) r = explains_name limit m d at x r
  explains_operand m d at (TheSign s) r = explains_operand_sign m d at s r
  explains_operand m d at (TheWord k) r = explains_operand_word m d at k r

  -- UNDER `-`
  no_deeper : (e : Expr) → prefix_depth Neg e (depth e) ≤ suc (depth e)
  no_deeper (Number at n) = omega arith
  no_deeper (Named at x) = omega arith
  no_deeper (Bracket e) = omega arith
  no_deeper (Prefix at op e) = omega arith
  no_deeper (Infix at s l r) = omega arith
  no_deeper (Fetch at a e) = omega arith
  no_deeper (Store at a e d) = omega arith
  no_deeper (Call at strict f es) = omega arith
  no_deeper (If at p l r) = omega arith
  no_deeper (Loop at bound firsts turn) = omega arith

  -- what is no number is an operand that is one deeper
  negated_operand : (d : ℕ) (ss : List Spelling) (ws : Words) → Operands limit 8 (d + 1) ss ws → Negateds limit d ss ws
  negated_operand d ss ws y = record {
    e = y.e;
    ok = record { fits = inl y.ok.fits; at_least = y.ok.at_least; deep = (let g = y.ok.deep in let h = no_deeper y.e in omega arith) };
    spelled = y.spelled;
    says = y.says;
  }

  least_or_less : (at n : ℕ) → (n ≡ 2 ^ 63) ⊎ (n < 2 ^ 63) → Fits (Number at n) ⊎ IsLeast Neg (Number at n)
  least_or_less at n (inl e) = inr e
  least_or_less at n (inr h) = inl h

  explains_negated_operand : (d at : ℕ) (l : Lexeme) → Ready limit (Negated d) → Explains limit (Negated d) at l (operand limit 8 (d + 1) at l)
  explains_negated_operand d at l r =
      explains_for limit (Operand 8 (d + 1)) (Negated d) at l (negated_operand d) _ (explains_operand 8 (d + 1) at l (omega arith))

  pub explains_negated : (d at : ℕ) (l : Lexeme) → Ready limit (Negated d) → Explains limit (Negated d) at l (negated limit d at l)
  explains_negated d at (TheNumber n) r =
      explains_if (nat_le n (2 ^ 63)) (λ h. takes (Some at) refl tt (least_number at n (leb-true n (2 ^ 63) h))) (λ h. refuses)
    where
      least_number : (at n : ℕ) → n ≤ 2 ^ 63 → Negateds limit d (number_at at n ∷ []) (word.Number at n ∷ [])
      least_number at n h =
          record {
            e = Number at n;
            ok = record { fits = least_or_less at n (eq-or-lt_of_le h); at_least = omega arith; deep = omega arith };
            spelled = refl;
            says = refl;
          }
  explains_negated d at l r = explains_negated_operand d at l r
