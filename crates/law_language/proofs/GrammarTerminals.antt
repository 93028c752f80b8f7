-- A token that must follow as it is: the test says that it is this one.
use Rattle.std.proofs.Common.{◌≡◌, true, List, [], ◌∷◌, get_or, refl, sym, ap, ◌∙◌}
use Rattle.std.proofs.lemmas.Bool.{eqb-true, eq-eqb}
use Rattle.source.specs.declared.token.Keyword.{Keyword}
use Rattle.source.specs.declared.token.Keyword.TheVariants as keyword
use Rattle.source.specs.declared.token.Sign.{Sign}
use Rattle.source.specs.declared.token.Sign.TheVariants as sign
use Rattle.source.specs.Spelled.{Lexeme, TheWord, TheSign, TheNumber, TheName}
use Rattle.law_language.specs.GrammarAutomaton.{sign_number, keyword_number, is_sign, is_word}

abbrev all_signs : List Sign
all_signs =
    sign.Arrow ∷ sign.Becomes ∷ sign.ShiftLeft ∷ sign.ShiftRight ∷ sign.EqualTo ∷ sign.NotEqualTo ∷ sign.AtMost ∷ sign.AtLeast ∷ sign.Less ∷ sign.Greater
    ∷ sign.Equals
    ∷ sign.Plus ∷ sign.Minus ∷ sign.Star ∷ sign.Slash ∷ sign.Percent ∷ sign.Ampersand ∷ sign.Caret ∷ sign.Bar ∷ sign.Tilde ∷ sign.OpenParen ∷ sign.CloseParen
    ∷ sign.OpenBracket ∷ sign.CloseBracket ∷ sign.OpenBrace ∷ sign.CloseBrace ∷ sign.Comma ∷ sign.Semicolon ∷ sign.Underscore ∷ []

abbrev all_words : List Keyword
all_words = keyword.Array ∷ keyword.Fn ∷ keyword.Let ∷ keyword.If ∷ keyword.Else ∷ keyword.Loop ∷ keyword.While ∷ keyword.Strict ∷ keyword.Inputs ∷ []

sign_again : (s : Sign) → get_or all_signs (sign_number s) sign.Arrow ≡ s
sign_again sign.Arrow = refl
sign_again sign.Becomes = refl
sign_again sign.ShiftLeft = refl
sign_again sign.ShiftRight = refl
sign_again sign.EqualTo = refl
sign_again sign.NotEqualTo = refl
sign_again sign.AtMost = refl
sign_again sign.AtLeast = refl
sign_again sign.Less = refl
sign_again sign.Greater = refl
sign_again sign.Equals = refl
sign_again sign.Plus = refl
sign_again sign.Minus = refl
sign_again sign.Star = refl
sign_again sign.Slash = refl
sign_again sign.Percent = refl
sign_again sign.Ampersand = refl
sign_again sign.Caret = refl
sign_again sign.Bar = refl
sign_again sign.Tilde = refl
sign_again sign.OpenParen = refl
sign_again sign.CloseParen = refl
sign_again sign.OpenBracket = refl
sign_again sign.CloseBracket = refl
sign_again sign.OpenBrace = refl
sign_again sign.CloseBrace = refl
sign_again sign.Comma = refl
sign_again sign.Semicolon = refl
sign_again sign.Underscore = refl

word_again : (k : Keyword) → get_or all_words (keyword_number k) keyword.Array ≡ k
word_again keyword.Array = refl
word_again keyword.Fn = refl
word_again keyword.Let = refl
word_again keyword.If = refl
word_again keyword.Else = refl
word_again keyword.Loop = refl
word_again keyword.While = refl
word_again keyword.Strict = refl
word_again keyword.Inputs = refl

pub that_sign : (s : Sign) (l : Lexeme) → is_sign s l ≡ true → l ≡ TheSign s
that_sign s (TheSign t) h =
    ap (λ x. TheSign x) (sym (sign_again t) ∙ ap (λ n. get_or all_signs n sign.Arrow) (eqb-true (sign_number t) (sign_number s) h) ∙ sign_again s)
that_sign s (TheWord k) h = absurd cc
that_sign s (TheNumber n) h = absurd cc
that_sign s (TheName x) h = absurd cc

pub that_word : (k : Keyword) (l : Lexeme) → is_word k l ≡ true → l ≡ TheWord k
that_word k (TheWord j) h =
    ap (λ x. TheWord x) (sym (word_again j) ∙ ap (λ n. get_or all_words n keyword.Array) (eqb-true (keyword_number j) (keyword_number k) h) ∙ word_again k)
that_word k (TheSign s) h = absurd cc
that_word k (TheNumber n) h = absurd cc
that_word k (TheName x) h = absurd cc

pub is_that_sign : (s : Sign) → is_sign s (TheSign s) ≡ true
is_that_sign s = eq-eqb (sign_number s) (sign_number s) refl

pub is_that_word : (k : Keyword) → is_word k (TheWord k) ≡ true
is_that_word k = eq-eqb (keyword_number k) (keyword_number k) refl
