-- What the symbols of lists and loops do with a token is right.
use Rattle.std.proofs.Common.{◌≡◌, ℕ, suc, ◌+◌, Bool, List, [], ◌∷◌, ◌++◌, length, None, Some, refl, sym, ap, ◌∙◌, append_assoc, append-nil, arith}
use Rattle.source.specs.declared.token.Keyword.TheVariants as keyword
use Rattle.source.specs.declared.token.Sign.TheVariants as sign
use Rattle.source.specs.declared.word.Word.TheVariants as word
use Rattle.source.specs.Tree.{Name, Expr, Exprs, One, More, Before, After as TestLast}
use Rattle.source.specs.Spelled.{Lexeme, TheWord, TheSign, TheNumber, TheName, Spelling, the_word, the_sign, number_at, name_at, name_token}
use Rattle.source.specs.Spelled.{with_commas, tokens}
use Rattle.source.specs.Spelled.{list_tokens, first_tokens, turn_tokens}
use Rattle.source.specs.Words.{Words, words, part_words, first_words, body_words, turn_words}
use Rattle.law_language.specs.declared.symbol.Symbol.TheVariants.{LetEnd, StepEnd, Callee, CallEnd, Bound, Start, Starts, Turn as OneTurn}
use Rattle.law_language.specs.GrammarAutomaton.{callee, call_end, bound, start, starts, turn, let_end, step_end}
use Rattle.law_language.proofs.GrammarYielded.{IsOperand, AreAll, Further, Last, further}
use Rattle.law_language.specs.GrammarReady.{Ready}
use Rattle.law_language.proofs.GrammarMeaning.{Explains, takes, refuses}
use Rattle.law_language.proofs.GrammarGivens.{deep_max, explains_small}

-- LISTS
pub all_one : (limit d : ℕ) (e : Expr) → IsOperand limit 0 (d + 1) e → AreAll limit d (One e)
all_one limit d e ok = record { fits = ok.fits; deep = (let g = ok.deep in omega arith) }

pub all_more : (limit d : ℕ) (e : Expr) (es : Exprs) → IsOperand limit 0 (d + 1) e → AreAll limit d es → AreAll limit d (More e es)
all_more limit d e es ok all = record { fits = (ok.fits, all.fits); deep = deep_max d _ _ limit (let g = ok.deep in omega arith) all.deep }

pub more_tokens : (e f : Expr) (es : Exprs) (end ss₁ ss₂ : List Spelling) → list_tokens es ++ end ≡ tokens f ++ ss₂ → tokens f ≡ ss₁
    → list_tokens (More e es) ++ end ≡ tokens e ++ the_sign sign.Comma ∷ (ss₁ ++ ss₂)
more_tokens e f es end ss₁ ss₂ p q = append_assoc (tokens e) (the_sign sign.Comma ∷ list_tokens es) end
    ∙ ap (λ t. tokens e ++ the_sign sign.Comma ∷ t) (p ∙ ap (λ t. t ++ ss₂) q)

pub more_words : (e f : Expr) (es : Exprs) (end ws₁ ws₂ : Words) → part_words es ++ end ≡ words f ++ ws₂ → words f ≡ ws₁
    → part_words (More e es) ++ end ≡ words e ++ word.Part ∷ (ws₁ ++ ws₂)
more_words e f es end ws₁ ws₂ p q = append_assoc (words e) (word.Part ∷ part_words es) end ∙ ap (λ t. words e ++ word.Part ∷ t) (p ∙ ap (λ t. t ++ ws₂) q)

pub with_commas_is : (s : Spelling) (ss : List Spelling) → with_commas (s ∷ ss) ≡ s ∷ further ss
with_commas_is s [] = refl
with_commas_is s (t ∷ ss) = ap (λ u. s ∷ the_sign sign.Comma ∷ u) (with_commas_is t ss)

pub test_first_tokens : {A : Type 0} (a b : List A) (x : A) → a ++ x ∷ b ≡ ((a ++ []) ++ x ∷ []) ++ b
test_first_tokens a b x = simp (append_assoc, append-nil)

pub test_first_words : {A : Type 0} (a b : List A) (x : A) → a ++ x ∷ b ≡ ((a ++ x ∷ []) ++ []) ++ b
test_first_words a b x = simp (append_assoc, append-nil)

pub body_first_tokens : {A : Type 0} (a b : List A) (x y z : A) → (a ++ x ∷ y ∷ b) ++ z ∷ [] ≡ ((((a ++ []) ++ x ∷ []) ++ y ∷ []) ++ b) ++ z ∷ []
body_first_tokens a b x y z = simp (append_assoc, append-nil)

pub body_first_words : {A : Type 0} (a b : List A) (x : A) → a ++ x ∷ b ≡ ((((a ++ x ∷ []) ++ []) ++ []) ++ b) ++ []
body_first_words a b x = simp (append_assoc, append-nil)

module _ (limit : ℕ) where
  pub explains_call_end : (called : ℕ) (strict : Bool) (f : Name) (d at : ℕ) (l : Lexeme) → Ready limit (CallEnd called strict f d)
      → Explains limit (CallEnd called strict f d) at l (call_end called strict f d l)
  explains_call_end called strict f d at (TheSign sign.Comma) r = takes None tt ((omega arith, r), (r, tt)) (λ ss₁ ws₁ y₁ ss₂ ws₂ y₂ e ok.
      let a = y₂ y₁.e y₁.ok in record {
        es = More e a.es;
        ok = all_more limit d e a.es ok a.ok;
        spelled = more_tokens e y₁.e a.es _ ss₁ ss₂ a.spelled y₁.spelled;
        says = more_words e y₁.e a.es _ ws₁ ws₂ a.says y₁.says;
      })
  explains_call_end called strict f d at (TheSign sign.CloseParen) r = takes None tt tt (λ e ok. record {
    es = One e;
    ok = all_one limit d e ok;
    spelled = refl;
    says = append_assoc (words e) (word.Part ∷ []) (word.Call called strict f ∷ []);
  })
  explains_call_end called strict f d at l r = refuses

  pub explains_let_end : (given d at : ℕ) (l : Lexeme) → Ready limit (LetEnd given d) → Explains limit (LetEnd given d) at l (let_end given d l)
  explains_let_end given d at (TheSign sign.Comma) r = takes None tt ((omega arith, r), (r, tt)) (λ ss₁ ws₁ y₁ ss₂ ws₂ y₂ e ok.
      let a = y₂ y₁.e y₁.ok in record {
        es = More e a.es;
        rest = a.rest;
        ok = all_more limit d e a.es ok a.ok;
        rest_ok = a.rest_ok;
        spelled = more_tokens e y₁.e a.es _ ss₁ ss₂ a.spelled y₁.spelled;
        says = more_words e y₁.e a.es _ ws₁ ws₂ a.says y₁.says;
      })
  explains_let_end given d at (TheSign sign.Semicolon) r = takes None tt (r, tt) (λ ss ws y e ok. record {
    es = One e;
    rest = y.b;
    ok = all_one limit d e ok;
    rest_ok = y.ok;
    spelled = ap (λ t. tokens e ++ the_sign sign.Semicolon ∷ t) y.spelled;
    says = append_assoc (words e) (word.Part ∷ []) (word.EndLet given ∷ body_words y.b) ∙ ap (λ t. words e ++ word.Part ∷ word.EndLet given ∷ t) y.says;
  })
  explains_let_end given d at l r = refuses

  pub explains_step_end : (d at : ℕ) (l : Lexeme) → Ready limit (StepEnd d) → Explains limit (StepEnd d) at l (step_end d l)
  explains_step_end d at (TheSign sign.Comma) r = takes None tt ((omega arith, r), (r, tt)) (λ ss₁ ws₁ y₁ ss₂ ws₂ y₂ e ok.
      let a = y₂ y₁.e y₁.ok in record {
        es = More e a.es;
        ok = all_more limit d e a.es ok a.ok;
        ending = a.ending;
        spelled = more_tokens e y₁.e a.es _ ss₁ ss₂ a.spelled y₁.spelled;
        says = more_words e y₁.e a.es _ ws₁ ws₂ a.says y₁.says;
      })
  explains_step_end d at (TheSign sign.Semicolon) r = takes None tt (r, tt) (λ ss ws y e ok. record {
    es = One e;
    ok = all_one limit d e ok;
    ending = Further y.b y.ok;
    spelled = ap (λ t. tokens e ++ the_sign sign.Semicolon ∷ t) y.spelled;
    says = append_assoc (words e) (word.Part ∷ []) (word.Do ∷ body_words y.b) ∙ ap (λ t. words e ++ word.Part ∷ word.Do ∷ t) y.says;
  })
  explains_step_end d at (TheSign sign.CloseBrace) r = takes None tt tt (λ e ok. record {
    es = One e;
    ok = all_one limit d e ok;
    ending = Last;
    spelled = refl;
    says = append_assoc (words e) (word.Part ∷ []) (word.Give ∷ []);
  })
  explains_step_end d at l r = refuses

  pub explains_callee : (d at : ℕ) (l : Lexeme) → Ready limit (Callee d) → Explains limit (Callee d) at l (callee d at l)
  explains_callee d at (TheName f) r = takes (Some at) refl (refl, ((omega arith, r), (r, tt))) (λ ss₁ ws₁ y₁ ss₂ ws₂ y₂ ss₃ ws₃ y₃.
      let a = y₃ y₂.e y₂.ok in record {
        at = at;
        f = f;
        es = a.es;
        ok = a.ok;
        spelled = rw y₁.spelled (ap (λ t. name_at at f ∷ the_sign sign.OpenParen ∷ t) (a.spelled ∙ ap (λ t. t ++ ss₃) y₂.spelled));
        says = rw y₁.says (ap (λ t. word.Callee at f ∷ word.List ∷ t) (a.says ∙ ap (λ t. t ++ ws₃) y₂.says));
      })
  explains_callee d at l r = refuses

  -- LOOPS
  pub explains_start : (d at : ℕ) (l : Lexeme) → Ready limit (Start d) → Explains limit (Start d) at l (start d at l)
  explains_start d at (TheName x) r = takes (Some at) refl (refl, ((omega arith, r), tt)) (λ ss₁ ws₁ y₁ ss₂ ws₂ y₂. record {
    x = record { at = at; name = x };
    e = y₂.e;
    ok = y₂.ok;
    spelled = rw (y₁.spelled, y₂.spelled) refl;
    says = rw (y₁.says, y₂.says) refl;
  })
  explains_start d at l r = refuses

  pub explains_starts : (d at : ℕ) (l : Lexeme) → Ready limit (Starts d) → Explains limit (Starts d) at l (starts d l)
  explains_starts d at (TheSign sign.Comma) r = takes None tt (r, (r, tt)) (λ ss₁ ws₁ y₁ ss₂ ws₂ y₂ x e ok.
      let a = y₂ y₁.x y₁.e y₁.ok in record {
        x = x;
        xs = a.x ∷ a.xs;
        es = More e a.es;
        ok = all_more limit d e a.es ok a.ok;
        many = ap suc a.many;
        spelled = append_assoc (name_token x ∷ the_sign sign.Equals ∷ tokens e) (the_sign sign.Comma ∷ first_tokens (a.x ∷ a.xs) a.es)
            (the_sign sign.CloseParen ∷ [])
            ∙ ap (λ t. (name_token x ∷ the_sign sign.Equals ∷ tokens e) ++ the_sign sign.Comma ∷ t) (a.spelled ∙ ap (λ t. t ++ ss₂) y₁.spelled);
        says = ap (λ t. (word.Start x.at x.name ∷ words e) ++ word.First ∷ t) (a.says ∙ ap (λ t. t ++ ws₂) y₁.says);
      })
  explains_starts d at (TheSign sign.CloseParen) r = takes None tt tt (λ x e ok. record {
    x = x;
    xs = [];
    es = One e;
    ok = all_one limit d e ok;
    many = refl;
    spelled = refl;
    says = refl;
  })
  explains_starts d at l r = refuses

  pub explains_turn : (d at : ℕ) (l : Lexeme) → Ready limit (OneTurn d) → Explains limit (OneTurn d) at l (turn d l)
  explains_turn d at (TheWord keyword.While) r =
      takes None tt ((omega arith, r), (tt, (refl, (r, tt)))) (λ ss₁ ws₁ y₁ ss₂ ws₂ y₂ ss₃ ws₃ y₃ ss₄ ws₄ y₄ xs. record {
        t = Before xs y₁.e y₄.b;
        ok = record { fits = (y₁.ok.fits, y₄.ok.fits); deep = deep_max d _ _ limit (let g = y₁.ok.deep in omega arith) y₄.ok.deep };
        names = refl;
        spelled = rw (y₁.spelled, y₂.spelled, y₃.spelled, y₄.spelled)
            (ap (λ t. the_word keyword.While ∷ t) (test_first_tokens ss₁ ss₄ (the_sign sign.OpenBrace)));
        says = rw (y₁.says, y₂.says, y₃.says, y₄.says) (ap (λ t. word.TestFirst ∷ t) (test_first_words ws₁ ws₄ word.While));
      })
  explains_turn d at (TheSign sign.OpenBrace) r =
      takes None tt (r, (tt, (tt, (refl, ((omega arith, r), (refl, tt)))))) (λ ss₁ ws₁ y₁ ss₂ ws₂ y₂ ss₃ ws₃ y₃ ss₄ ws₄ y₄ ss₅ ws₅ y₅ ss₆ ws₆ y₆ xs. record {
        t = TestLast xs y₁.b y₅.e;
        ok = record { fits = (y₁.ok.fits, y₅.ok.fits); deep = deep_max d _ _ limit y₁.ok.deep (let g = y₅.ok.deep in omega arith) };
        names = refl;
        spelled = rw (y₁.spelled, y₂.spelled, y₃.spelled, y₄.spelled, y₅.spelled, y₆.spelled)
            (ap (λ t. the_sign sign.OpenBrace ∷ t) (body_first_tokens ss₁ ss₅ (the_word keyword.While) (the_sign sign.OpenParen) (the_sign sign.CloseParen)));
        says = rw (y₁.says, y₂.says, y₃.says, y₄.says, y₅.says, y₆.says) (ap (λ t. word.BodyFirst ∷ t) (body_first_words ws₁ ws₅ word.Until));
      })
  explains_turn d at l r = refuses

  pub explains_bound : (loop d at : ℕ) (l : Lexeme) → Ready limit (Bound loop d) → Explains limit (Bound loop d) at l (bound loop d at l)
  explains_bound loop d at (TheNumber n) r = explains_small n (λ small. takes (Some at) refl (refl, (r, (r, (r, (tt, tt)))))
      (λ ss₁ ws₁ y₁ ss₂ ws₂ y₂ ss₃ ws₃ y₃ ss₄ ws₄ y₄ ss₅ ws₅ y₅.
      let a = y₃ y₂.x y₂.e y₂.ok in
      let u = y₄ (a.x ∷ a.xs) in record {
        bound = record { at = at; number = n };
        firsts = a.es;
        t = u.t;
        small = small;
        ok = a.ok;
        many = a.many ∙ sym (ap length u.names);
        turn_ok = u.ok;
        spelled = ap (λ xs. number_at at n ∷ the_sign sign.OpenParen ∷ first_tokens xs a.es ++ the_sign sign.CloseParen ∷ turn_tokens u.t) u.names
            ∙ ap (λ t. number_at at n ∷ the_sign sign.OpenParen ∷ t)
            (sym (append_assoc (first_tokens (a.x ∷ a.xs) a.es) (the_sign sign.CloseParen ∷ []) (turn_tokens u.t))
            ∙ ap (λ t. t ++ turn_tokens u.t) (a.spelled ∙ ap (λ t. t ++ ss₃) y₂.spelled) ∙ ap (λ t. (ss₂ ++ ss₃) ++ t) u.spelled
            ∙ sym (append-nil ((ss₂ ++ ss₃) ++ ss₄)))
            ∙ sym (rw (y₁.spelled, y₅.spelled) refl);
        says = ap (λ xs. word.Bound at n ∷ first_words xs a.es ++ turn_words u.t ++ word.EndLoop loop n ∷ []) u.names
            ∙ ap (λ t. word.Bound at n ∷ t ++ turn_words u.t ++ word.EndLoop loop n ∷ []) (a.says ∙ ap (λ t. t ++ ws₃) y₂.says)
            ∙ ap (λ t. word.Bound at n ∷ (ws₂ ++ ws₃) ++ t ++ word.EndLoop loop n ∷ []) u.says
            ∙ sym (rw (y₁.says, y₅.says) refl);
      }))
  explains_bound loop d at l r = refuses
