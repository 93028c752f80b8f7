-- A token that must follow as it is: the test says that it is this one.
use Rattle.std.proofs.Common.{◌≡◌, true, refl, ap}
use Rattle.std.proofs.lemmas.Bool.{eq-eqb}
use Rattle.source.specs.declared.token.Keyword.{Keyword as CoreKeyword}
use Rattle.source.specs.declared.token.Sign.{Sign as CoreSign}
use Rattle.source.specs.Spelled as core
use Rattle.surface.specs.declared.token.Keyword.TheVariants as keyword
use Rattle.surface.specs.declared.token.Sign.{Sign}
use Rattle.surface.specs.declared.token.Sign.TheVariants as sign
use Rattle.surface.specs.Spelled.{Lexeme, TheWord, TheSign}
use Rattle.law_language.specs.GrammarAutomaton as core_automaton
use Rattle.law_language.proofs.GrammarTerminals as core_terminals
use Rattle.law_surface_text.specs.Automaton.{is_sign, is_word}

same_sign : (s t : CoreSign) → core.TheSign t ≡ core.TheSign s → t ≡ s
same_sign s t e = cc

same_word : (k j : CoreKeyword) → core.TheWord j ≡ core.TheWord k → j ≡ k
same_word k j e = cc

pub that_sign : (s : Sign) (l : Lexeme) → is_sign s l ≡ true → l ≡ TheSign s
that_sign (sign.Core s) (TheSign (sign.Core t)) h = ap (λ x. TheSign (sign.Core x)) (same_sign s t (core_terminals.that_sign s (core.TheSign t) h))
that_sign sign.Range (TheSign sign.Range) h = refl
that_sign s l h = absurd cc

pub that_word : (k : CoreKeyword) (l : Lexeme) → is_word k l ≡ true → l ≡ TheWord (keyword.Core k)
that_word k (TheWord (keyword.Core j)) h = ap (λ x. TheWord (keyword.Core x)) (same_word k j (core_terminals.that_word k (core.TheWord j) h))
that_word k l h = absurd cc

pub is_that_sign : (s : Sign) → is_sign s (TheSign s) ≡ true
is_that_sign (sign.Core s) = eq-eqb (core_automaton.sign_number s) (core_automaton.sign_number s) refl
is_that_sign sign.Range = refl

pub is_that_word : (k : CoreKeyword) → is_word k (TheWord (keyword.Core k)) ≡ true
is_that_word k = eq-eqb (core_automaton.keyword_number k) (core_automaton.keyword_number k) refl
