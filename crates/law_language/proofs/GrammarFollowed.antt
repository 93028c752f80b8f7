-- WHAT MAY FOLLOW AN EXPRESSION, and how what is on the stack then passes it.
use Rattle.std.proofs.Common.{◌≡◌, ℕ, zero, suc, ◌+◌, ◌<◌, ◌≤◌, false, [], ◌∷◌, refl, ap, ◌∙◌, arith, if◌then◌else◌}
use Rattle.std.specs.Prelude.{◌&&◌, nat_le}
use Rattle.std.proofs.lemmas.Bool.{le-leb, lt-leb}
use Rattle.std.proofs.Math.Nat.{le-max_right}
use Rattle.operators.specs.declared.Binary.TheVariants.{Add, Sub, Mul, Div, Rem, And, Or, Xor, Shl, Shr, Eq, Ne, Lt, Le}
use Rattle.source.specs.declared.token.Sign.{Sign}
use Rattle.source.specs.declared.token.Sign.TheVariants as sign
use Rattle.source.specs.declared.word.InfixSign.{InfixSign}
use Rattle.source.specs.declared.word.InfixSign.TheVariants.{Direct, Greater, AtLeast}
use Rattle.source.specs.declared.word.Word.TheVariants as word
use Rattle.source.specs.Tree.{Name}
use Rattle.source.specs.Spelled.{Lexeme, TheSign, infix_sign}
use Rattle.source.specs.Fits.{sign_level, left_level}
use Rattle.law_language.specs.declared.symbol.Symbol.TheVariants.{Emit, Operand, After, AfterName, AfterIndex}
use Rattle.law_language.specs.GrammarAutomaton.{Stack, Takes, Passes, appending, after_infix, after, after_name, after_index, moved_after, advance_by, advance}
use Rattle.law_language.proofs.GrammarLeads.{appending_is}

pub data Closes : Sign → Type 0 where
  close_paren : Closes sign.CloseParen
  close_bracket : Closes sign.CloseBracket
  comma : Closes sign.Comma
  semicolon : Closes sign.Semicolon
  close_brace : Closes sign.CloseBrace
  open_brace : Closes sign.OpenBrace

-- after an operand of this level: what closes, and an operator that takes it to its left
pub data Stops (k : ℕ) : Lexeme → Type 0 where
  closes : {s : Sign} → Closes s → Stops k (TheSign s)
  operates : (s : InfixSign) → left_level s ≤ k → Stops k (TheSign (infix_sign s))

pub stops_more : (j k : ℕ) (l : Lexeme) → j ≤ k → Stops j l → Stops k l
stops_more j k _ h (closes c) = closes c
stops_more j k _ h (operates s g) = operates s (omega arith)

pub least_left : (s : InfixSign) → 2 ≤ left_level s
least_left (Direct Add) = omega arith
least_left (Direct Sub) = omega arith
least_left (Direct Mul) = omega arith
least_left (Direct Div) = omega arith
least_left (Direct Rem) = omega arith
least_left (Direct And) = omega arith
least_left (Direct Or) = omega arith
least_left (Direct Xor) = omega arith
least_left (Direct Shl) = omega arith
least_left (Direct Shr) = omega arith
least_left (Direct Eq) = omega arith
least_left (Direct Ne) = omega arith
least_left (Direct Lt) = omega arith
least_left (Direct Le) = omega arith
least_left Greater = omega arith
least_left AtLeast = omega arith

most_left : (s : InfixSign) → left_level s ≤ 7
most_left (Direct Add) = omega arith
most_left (Direct Sub) = omega arith
most_left (Direct Mul) = omega arith
most_left (Direct Div) = omega arith
most_left (Direct Rem) = omega arith
most_left (Direct And) = omega arith
most_left (Direct Or) = omega arith
most_left (Direct Xor) = omega arith
most_left (Direct Shl) = omega arith
most_left (Direct Shr) = omega arith
most_left (Direct Eq) = omega arith
most_left (Direct Ne) = omega arith
most_left (Direct Lt) = omega arith
most_left (Direct Le) = omega arith
most_left Greater = omega arith
most_left AtLeast = omega arith

pub stops_seven : (k : ℕ) (l : Lexeme) → Stops k l → Stops 7 l
stops_seven k _ (closes c) = closes c
stops_seven k _ (operates s h) = operates s (most_left s)

-- AFTER AN OPERAND
after_at_infix : (m k d at : ℕ) (s : InfixSign) → after m k d at (TheSign (infix_sign s)) ≡ after_infix m k d at s
after_at_infix m k d at (Direct Add) = refl
after_at_infix m k d at (Direct Sub) = refl
after_at_infix m k d at (Direct Mul) = refl
after_at_infix m k d at (Direct Div) = refl
after_at_infix m k d at (Direct Rem) = refl
after_at_infix m k d at (Direct And) = refl
after_at_infix m k d at (Direct Or) = refl
after_at_infix m k d at (Direct Xor) = refl
after_at_infix m k d at (Direct Shl) = refl
after_at_infix m k d at (Direct Shr) = refl
after_at_infix m k d at (Direct Eq) = refl
after_at_infix m k d at (Direct Ne) = refl
after_at_infix m k d at (Direct Lt) = refl
after_at_infix m k d at (Direct Le) = refl
after_at_infix m k d at Greater = refl
after_at_infix m k d at AtLeast = refl

after_closes : (m k d at : ℕ) {s : Sign} → Closes s → after m k d at (TheSign s) ≡ Passes []
after_closes m k d at close_paren = refl
after_closes m k d at close_bracket = refl
after_closes m k d at comma = refl
after_closes m k d at semicolon = refl
after_closes m k d at close_brace = refl
after_closes m k d at open_brace = refl

-- an operator that takes what is longer
pub after_passes : (m k d at j : ℕ) (l : Lexeme) → Stops j l → j < m → after m k d at l ≡ Passes []
after_passes m k d at j _ (closes c) h = after_closes m k d at c
after_passes m k d at j _ (operates s g) h =
    let low : sign_level s < m = (let f = le-max_right 2 (sign_level s) in omega arith) in
    let never : nat_le m (sign_level s) ≡ false = lt-leb m (sign_level s) low in
    after_at_infix m k d at s
    ∙ ap (λ b. if b && nat_le (left_level s) k then Takes (word.Left ∷ [])
    (Operand (sign_level s + 1) d ∷ Emit (word.Infix at s) ∷ After m (sign_level s) d ∷ []) else Passes []) never

pub after_ends : (m k d at : ℕ) (l : Lexeme) → Stops 0 l → after m k d at l ≡ Passes []
after_ends m k d at _ (closes c) = after_closes m k d at c
after_ends m k d at _ (operates s g) = absurd (let h = least_left s in omega arith)

-- an operator that takes just this
pub after_takes : (m k d at : ℕ) (s : InfixSign) → m ≤ sign_level s → left_level s ≤ k
    → after m k d at (TheSign (infix_sign s)) ≡ Takes (word.Left ∷ []) (Operand (sign_level s + 1) d ∷ Emit (word.Infix at s) ∷ After m (sign_level s) d ∷ [])
after_takes m k d at s low high = after_at_infix m k d at s ∙ rw (le-leb m (sign_level s) low, le-leb (left_level s) k high) refl

-- AFTER A NAME, AND AFTER AN INDEX
pub after_name_is : (limit named : ℕ) (x : Name) (m d at k : ℕ) (l : Lexeme) → Stops k l
    → after_name limit named x m d at l ≡ appending (word.Name named x ∷ []) (after m 9 d at l)
after_name_is limit named x m d at k _ (closes close_paren) = refl
after_name_is limit named x m d at k _ (closes close_bracket) = refl
after_name_is limit named x m d at k _ (closes comma) = refl
after_name_is limit named x m d at k _ (closes semicolon) = refl
after_name_is limit named x m d at k _ (closes close_brace) = refl
after_name_is limit named x m d at k _ (closes open_brace) = refl
after_name_is limit named x m d at k _ (operates (Direct Add) h) = refl
after_name_is limit named x m d at k _ (operates (Direct Sub) h) = refl
after_name_is limit named x m d at k _ (operates (Direct Mul) h) = refl
after_name_is limit named x m d at k _ (operates (Direct Div) h) = refl
after_name_is limit named x m d at k _ (operates (Direct Rem) h) = refl
after_name_is limit named x m d at k _ (operates (Direct And) h) = refl
after_name_is limit named x m d at k _ (operates (Direct Or) h) = refl
after_name_is limit named x m d at k _ (operates (Direct Xor) h) = refl
after_name_is limit named x m d at k _ (operates (Direct Shl) h) = refl
after_name_is limit named x m d at k _ (operates (Direct Shr) h) = refl
after_name_is limit named x m d at k _ (operates (Direct Eq) h) = refl
after_name_is limit named x m d at k _ (operates (Direct Ne) h) = refl
after_name_is limit named x m d at k _ (operates (Direct Lt) h) = refl
after_name_is limit named x m d at k _ (operates (Direct Le) h) = refl
after_name_is limit named x m d at k _ (operates Greater h) = refl
after_name_is limit named x m d at k _ (operates AtLeast h) = refl

pub after_index_is : (cell : ℕ) (a : Name) (m d at k : ℕ) (l : Lexeme) → Stops k l
    → after_index cell a m d at l ≡ appending (word.Fetch cell a ∷ []) (after m 9 d at l)
after_index_is cell a zero d at k _ (closes close_paren) = refl
after_index_is cell a zero d at k _ (closes close_bracket) = refl
after_index_is cell a zero d at k _ (closes comma) = refl
after_index_is cell a zero d at k _ (closes semicolon) = refl
after_index_is cell a zero d at k _ (closes close_brace) = refl
after_index_is cell a zero d at k _ (closes open_brace) = refl
after_index_is cell a zero d at k _ (operates (Direct Add) h) = refl
after_index_is cell a zero d at k _ (operates (Direct Sub) h) = refl
after_index_is cell a zero d at k _ (operates (Direct Mul) h) = refl
after_index_is cell a zero d at k _ (operates (Direct Div) h) = refl
after_index_is cell a zero d at k _ (operates (Direct Rem) h) = refl
after_index_is cell a zero d at k _ (operates (Direct And) h) = refl
after_index_is cell a zero d at k _ (operates (Direct Or) h) = refl
after_index_is cell a zero d at k _ (operates (Direct Xor) h) = refl
after_index_is cell a zero d at k _ (operates (Direct Shl) h) = refl
after_index_is cell a zero d at k _ (operates (Direct Shr) h) = refl
after_index_is cell a zero d at k _ (operates (Direct Eq) h) = refl
after_index_is cell a zero d at k _ (operates (Direct Ne) h) = refl
after_index_is cell a zero d at k _ (operates (Direct Lt) h) = refl
after_index_is cell a zero d at k _ (operates (Direct Le) h) = refl
after_index_is cell a zero d at k _ (operates Greater h) = refl
after_index_is cell a zero d at k _ (operates AtLeast h) = refl
after_index_is cell a (suc m) d at k _ (closes close_paren) = refl
after_index_is cell a (suc m) d at k _ (closes close_bracket) = refl
after_index_is cell a (suc m) d at k _ (closes comma) = refl
after_index_is cell a (suc m) d at k _ (closes semicolon) = refl
after_index_is cell a (suc m) d at k _ (closes close_brace) = refl
after_index_is cell a (suc m) d at k _ (closes open_brace) = refl
after_index_is cell a (suc m) d at k _ (operates (Direct Add) h) = refl
after_index_is cell a (suc m) d at k _ (operates (Direct Sub) h) = refl
after_index_is cell a (suc m) d at k _ (operates (Direct Mul) h) = refl
after_index_is cell a (suc m) d at k _ (operates (Direct Div) h) = refl
after_index_is cell a (suc m) d at k _ (operates (Direct Rem) h) = refl
after_index_is cell a (suc m) d at k _ (operates (Direct And) h) = refl
after_index_is cell a (suc m) d at k _ (operates (Direct Or) h) = refl
after_index_is cell a (suc m) d at k _ (operates (Direct Xor) h) = refl
after_index_is cell a (suc m) d at k _ (operates (Direct Shl) h) = refl
after_index_is cell a (suc m) d at k _ (operates (Direct Shr) h) = refl
after_index_is cell a (suc m) d at k _ (operates (Direct Eq) h) = refl
after_index_is cell a (suc m) d at k _ (operates (Direct Ne) h) = refl
after_index_is cell a (suc m) d at k _ (operates (Direct Lt) h) = refl
after_index_is cell a (suc m) d at k _ (operates (Direct Le) h) = refl
after_index_is cell a (suc m) d at k _ (operates Greater h) = refl
after_index_is cell a (suc m) d at k _ (operates AtLeast h) = refl

-- ON A STACK
module _ (limit : ℕ) (S : Stack) where
  pub pass_after : (m k d j : ℕ) → j < m → (at : ℕ) (l : Lexeme) → Stops j l → advance limit (After m k d ∷ S) at l ≡ moved_after [] (advance limit S at l)
  pass_after m k d j h at l stops = ap (λ o. advance_by o S (advance limit S at l)) (after_passes m k d at j l stops h)

  pub pass_end : (m k d at : ℕ) (l : Lexeme) → Stops 0 l → advance limit (After m k d ∷ S) at l ≡ moved_after [] (advance limit S at l)
  pass_end m k d at l stops = ap (λ o. advance_by o S (advance limit S at l)) (after_ends m k d at l stops)

  pub pass_name : (named : ℕ) (x : Name) (m d k at : ℕ) (l : Lexeme) → Stops k l
      → advance limit (AfterName named x m d ∷ S) at l ≡ moved_after (word.Name named x ∷ []) (advance limit (After m 9 d ∷ S) at l)
  pass_name named x m d k at l stops = ap (λ o. advance_by o S (advance limit S at l)) (after_name_is limit named x m d at k l stops)
      ∙ appending_is (word.Name named x ∷ []) (after m 9 d at l) S (advance limit S at l)

  pub pass_index : (cell : ℕ) (a : Name) (m d k at : ℕ) (l : Lexeme) → Stops k l
      → advance limit (AfterIndex cell a m d ∷ S) at l ≡ moved_after (word.Fetch cell a ∷ []) (advance limit (After m 9 d ∷ S) at l)
  pass_index cell a m d k at l stops = ap (λ o. advance_by o S (advance limit S at l)) (after_index_is cell a m d at k l stops)
      ∙ appending_is (word.Fetch cell a ∷ []) (after m 9 d at l) S (advance limit S at l)
