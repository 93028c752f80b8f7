-- What follows an operand does what is right with a token.
use Rattle.std.proofs.Common.{ℕ, zero, ◌+◌, ◌≤◌, false, [], ◌∷◌, ◌++◌, None, Some, refl, sym, ap, append_assoc, append-nil, arith}
use Rattle.std.specs.Prelude.{nat_le}
use Rattle.std.proofs.lemmas.Bool.{leb-true}
use Rattle.lemmas.proofs.Bools.{first_of_and, second_of_and}
use Rattle.operators.specs.declared.Binary.TheVariants.{Add, Sub, Mul, Div, Rem, And, Or, Xor, Shl, Shr, Eq, Ne, Lt, Le}
use Rattle.source.specs.declared.token.Sign.TheVariants as sign
use Rattle.source.specs.declared.word.InfixSign.{InfixSign}
use Rattle.source.specs.declared.word.InfixSign.TheVariants.{Direct, Greater, AtLeast}
use Rattle.source.specs.declared.word.Word.TheVariants as word
use Rattle.source.specs.Tree.{Name, Expr, Named, Infix, Fetch, Store, Call}
use Rattle.source.specs.Spelled.{Lexeme, TheWord, TheSign, TheNumber, TheName, infix_sign, tokens}
use Rattle.source.specs.Fits.{sign_level, left_level}
use Rattle.source.specs.Words.{words}
use Rattle.law_language.specs.declared.symbol.Symbol.TheVariants.{After, AfterName, AfterIndex}
use Rattle.law_language.specs.GrammarAutomaton.{appending, goes_on, after_infix, after_cell, after, after_name, after_index}
use Rattle.law_language.proofs.GrammarYielded.{IsOperand, Operands}
use Rattle.law_language.specs.GrammarReady.{Ready}
use Rattle.law_language.proofs.GrammarMeaning.{Explains, takes, passes, refuses}
use Rattle.law_language.proofs.GrammarGivens.{deep_max, regroup, none_between, explains_if, explains_within, explains_as, as_operand}

-- AFTER AN OPERAND
pub sign_level_most : (s : InfixSign) → sign_level s ≤ 7
sign_level_most (Direct Add) = omega arith
sign_level_most (Direct Sub) = omega arith
sign_level_most (Direct Mul) = omega arith
sign_level_most (Direct Div) = omega arith
sign_level_most (Direct Rem) = omega arith
sign_level_most (Direct And) = omega arith
sign_level_most (Direct Or) = omega arith
sign_level_most (Direct Xor) = omega arith
sign_level_most (Direct Shl) = omega arith
sign_level_most (Direct Shr) = omega arith
sign_level_most (Direct Eq) = omega arith
sign_level_most (Direct Ne) = omega arith
sign_level_most (Direct Lt) = omega arith
sign_level_most (Direct Le) = omega arith
sign_level_most Greater = omega arith
sign_level_most AtLeast = omega arith

module _ (limit : ℕ) where
  pub passes_after : (m k d : ℕ) → m ≤ k → (e : Expr) → IsOperand limit k d e → Operands limit m d (tokens e ++ []) (words e ++ [])
  passes_after m k d h e ok = record {
    e = e;
    ok = record { fits = ok.fits; at_least = (let g = ok.at_least in omega arith); deep = ok.deep };
    spelled = sym (append-nil (tokens e));
    says = sym (append-nil (words e));
  }

  pub explains_infix : (m k d at : ℕ) (s : InfixSign) → Ready limit (After m k d)
      → Explains limit (After m k d) at (TheSign (infix_sign s)) (after_infix m k d at s)
  explains_infix m k d at s r = explains_if (goes_on m k s) (λ h.
      let low : m ≤ sign_level s = leb-true m (sign_level s) (first_of_and _ _ h) in
      let high : left_level s ≤ k = leb-true (left_level s) k (second_of_and (nat_le m (sign_level s)) _ h) in
      takes (Some at) refl (((let most = sign_level_most s in omega arith), r.1), (tt, ((low, r.1), tt)))
      (λ ss₁ ws₁ y₁ ss₂ ws₂ y₂ ss₃ ws₃ y₃ e ok.
      as_operand (y₃ (Infix at s e y₁.e) (record {
        fits = (ok.fits, (let g = ok.at_least in omega arith), y₁.ok.fits, (let g = y₁.ok.at_least in omega arith));
        at_least = omega arith;
        deep = deep_max d _ _ limit ok.deep y₁.ok.deep;
      }))
      (rw (y₁.spelled, y₂.spelled) (simp (append_assoc, append-nil))) (rw (y₁.says, y₂.says) (regroup (words e) (word.Left ∷ ws₁) (word.Infix at s ∷ []) ws₃))))
      (λ h. passes (passes_after m k d r.0))

  pub explains_after_cell : (m k d at : ℕ) (l : Lexeme) → Ready limit (After m k d) → Explains limit (After m k d) at l (after_cell m k)
  explains_after_cell m k d at l r = explains_if (goes_on m k (Direct Add)) (λ h. refuses) (λ h. passes (passes_after m k d r.0))

  pub explains_after : (m k d at : ℕ) (l : Lexeme) → Ready limit (After m k d) → Explains limit (After m k d) at l (after m k d at l)
  explains_after m k d at (TheSign sign.Becomes) r = explains_after_cell m k d at _ r
  explains_after m k d at (TheSign sign.ShiftLeft) r = explains_infix m k d at (Direct Shl) r
  explains_after m k d at (TheSign sign.ShiftRight) r = explains_infix m k d at (Direct Shr) r
  explains_after m k d at (TheSign sign.EqualTo) r = explains_infix m k d at (Direct Eq) r
  explains_after m k d at (TheSign sign.NotEqualTo) r = explains_infix m k d at (Direct Ne) r
  explains_after m k d at (TheSign sign.AtMost) r = explains_infix m k d at (Direct Le) r
  explains_after m k d at (TheSign sign.AtLeast) r = explains_infix m k d at AtLeast r
  explains_after m k d at (TheSign sign.Less) r = explains_infix m k d at (Direct Lt) r
  explains_after m k d at (TheSign sign.Greater) r = explains_infix m k d at Greater r
  explains_after m k d at (TheSign sign.Plus) r = explains_infix m k d at (Direct Add) r
  explains_after m k d at (TheSign sign.Minus) r = explains_infix m k d at (Direct Sub) r
  explains_after m k d at (TheSign sign.Star) r = explains_infix m k d at (Direct Mul) r
  explains_after m k d at (TheSign sign.Slash) r = explains_infix m k d at (Direct Div) r
  explains_after m k d at (TheSign sign.Percent) r = explains_infix m k d at (Direct Rem) r
  explains_after m k d at (TheSign sign.Ampersand) r = explains_infix m k d at (Direct And) r
  explains_after m k d at (TheSign sign.Caret) r = explains_infix m k d at (Direct Xor) r
  explains_after m k d at (TheSign sign.Bar) r = explains_infix m k d at (Direct Or) r
  explains_after m k d at (TheSign sign.Arrow) r = passes (passes_after m k d r.0)
  explains_after m k d at (TheSign sign.Equals) r = passes (passes_after m k d r.0)
  explains_after m k d at (TheSign sign.Tilde) r = passes (passes_after m k d r.0)
  explains_after m k d at (TheSign sign.OpenParen) r = passes (passes_after m k d r.0)
  explains_after m k d at (TheSign sign.CloseParen) r = passes (passes_after m k d r.0)
  explains_after m k d at (TheSign sign.OpenBracket) r = passes (passes_after m k d r.0)
  explains_after m k d at (TheSign sign.CloseBracket) r = passes (passes_after m k d r.0)
  explains_after m k d at (TheSign sign.OpenBrace) r = passes (passes_after m k d r.0)
  explains_after m k d at (TheSign sign.CloseBrace) r = passes (passes_after m k d r.0)
  explains_after m k d at (TheSign sign.Comma) r = passes (passes_after m k d r.0)
  explains_after m k d at (TheSign sign.Semicolon) r = passes (passes_after m k d r.0)
  explains_after m k d at (TheSign sign.Underscore) r = passes (passes_after m k d r.0)
  explains_after m k d at (TheWord k₀) r = passes (passes_after m k d r.0)
  explains_after m k d at (TheNumber n) r = passes (passes_after m k d r.0)
  explains_after m k d at (TheName x) r = passes (passes_after m k d r.0)

  -- AFTER A NAME
  pub explains_named : (named : ℕ) (x : Name) (m d at : ℕ) (l : Lexeme) → Ready limit (AfterName named x m d)
      → Explains limit (AfterName named x m d) at l (appending (word.Name named x ∷ []) (after m 9 d at l))
  explains_named named x m d at l r = explains_as limit (After m 9 d) (AfterName named x m d) at l (word.Name named x ∷ [])
      (λ ss ws y. y (Named named x) (record { fits = tt; at_least = omega arith; deep = (let g = r.1 in omega arith) })) _
      (explains_after m 9 d at l ((let g = r.0 in omega arith), r.1))

  pub explains_call : (named : ℕ) (x : Name) (m d at : ℕ) → Ready limit (AfterName named x m d)
      → Explains limit (AfterName named x m d) at (TheSign sign.OpenParen) (after_name limit named x m d at (TheSign sign.OpenParen))
  explains_call named x m d at r = explains_within (d + 1) (λ h.
      takes None tt ((omega arith, h), (h, (((let g = r.0 in omega arith), r.1), tt)))
      (λ ss₁ ws₁ y₁ ss₂ ws₂ y₂ ss₃ ws₃ y₃.
      let call = y₂ y₁.e y₁.ok in
      as_operand (y₃ (Call named false x call.es) (record { fits = call.ok.fits; at_least = omega arith; deep = call.ok.deep }))
      (rw (call.spelled, y₁.spelled) refl) (rw (call.says, y₁.says) refl)))

  pub explains_cell : (named : ℕ) (x : Name) (m d at : ℕ) → Ready limit (AfterName named x m d)
      → Explains limit (AfterName named x m d) at (TheSign sign.OpenBracket) (after_name limit named x m d at (TheSign sign.OpenBracket))
  explains_cell named x m d at r = explains_within (d + 1) (λ h.
      takes None tt ((omega arith, h), (refl, ((r.0, h), tt)))
      (λ ss₁ ws₁ y₁ ss₂ ws₂ y₂ ss₃ ws₃ y₃. as_operand (y₃ y₁.e y₁.ok)
      (rw (y₁.spelled, y₂.spelled) (simp append_assoc)) (rw (y₁.says, y₂.says) (ap (λ t. word.Cell named x ∷ t) (none_between ws₁ ws₃)))))

  -- AFTER THE INDEX OF AN ARRAY
  pub explains_store : (cell : ℕ) (a : Name) (d at : ℕ) → Ready limit (AfterIndex cell a 0 d)
      → Explains limit (AfterIndex cell a 0 d) at (TheSign sign.Becomes) (after_index cell a 0 d at (TheSign sign.Becomes))
  explains_store cell a d at r = takes None tt ((omega arith, r.1), (tt, tt))
      (λ ss₁ ws₁ y₁ ss₂ ws₂ y₂ e ok. record {
        e = Store cell a e y₁.e;
        ok = record {
          fits = (ok.fits, y₁.ok.fits);
          at_least = omega arith;
          deep = (let g = deep_max (d + 1) _ _ limit ok.deep y₁.ok.deep in omega arith);
        };
        spelled = rw (y₁.spelled, y₂.spelled) (simp (append_assoc, append-nil));
        says = rw (y₁.says, y₂.says) (append_assoc (word.Cell cell a ∷ words e) (word.Index ∷ ws₁) (word.Store cell a ∷ []));
      })

  pub explains_fetch : (cell : ℕ) (a : Name) (m d at : ℕ) (l : Lexeme) → Ready limit (AfterIndex cell a m d)
      → Explains limit (AfterIndex cell a m d) at l (appending (word.Fetch cell a ∷ []) (after m 9 d at l))
  explains_fetch cell a m d at l r = explains_as limit (After m 9 d) (AfterIndex cell a m d) at l (word.Fetch cell a ∷ [])
      (λ ss ws y e ok. as_operand (y (Fetch cell a e) (record { fits = ok.fits; at_least = omega arith; deep = (let g = ok.deep in omega arith) }))
      (simp append_assoc) (simp append_assoc)) _ (explains_after m 9 d at l ((let g = r.0 in omega arith), (let g = r.1 in omega arith)))

  pub explains_after_name : (named : ℕ) (x : Name) (m d at : ℕ) (l : Lexeme) → Ready limit (AfterName named x m d)
      → Explains limit (AfterName named x m d) at l (after_name limit named x m d at l)
  explains_after_name named x m d at (TheSign sign.OpenParen) r = explains_call named x m d at r
  explains_after_name named x m d at (TheSign sign.OpenBracket) r = explains_cell named x m d at r
  explains_after_name named x m d at l r = explains_named named x m d at l r

  pub explains_after_index : (cell : ℕ) (a : Name) (m d at : ℕ) (l : Lexeme) → Ready limit (AfterIndex cell a m d)
      → Explains limit (AfterIndex cell a m d) at l (after_index cell a m d at l)
  explains_after_index cell a zero d at (TheSign sign.Becomes) r = explains_store cell a d at r
  explains_after_index cell a m d at l r = explains_fetch cell a m d at l r
