-- What the symbols of bodies do with a token is right.
use Rattle.std.proofs.Common.{◌≡◌, ℕ, ◌+◌, Bool, true, false, List, [], ◌∷◌, ◌++◌, map, None, Some, refl, ap, ◌∙◌, arith, if◌then◌else◌}
use Rattle.source.specs.declared.fault.FaultKind.{FaultKind}
use Rattle.source.specs.declared.token.Keyword.TheVariants as keyword
use Rattle.source.specs.declared.token.Sign.TheVariants as sign
use Rattle.source.specs.declared.word.Word.TheVariants as word
use Rattle.source.specs.Tree.{Bind, Drop, Exprs, Let}
use Rattle.source.specs.Spelled.{Lexeme, TheWord, TheSign, TheNumber, TheName, Spelling, the_sign, word_at, target_token, list_tokens, body_tokens}
use Rattle.source.specs.Words.{Words, target_word, part_words, body_words}
use Rattle.law_language.specs.declared.symbol.Symbol.TheVariants.{Steps, Target as OneTarget, Targets, StepEnd, Operand}
use Rattle.law_language.specs.GrammarAutomaton.{Stack, Outcome, Takes, Passes, Refuses, appending, above, operand, steps, target, targets}
use Rattle.law_language.proofs.GrammarYielded.{AreAll, IsBody, Operands, Ending, Further, Last, ending_tokens, ending_words, body_of, Bodies}
use Rattle.law_language.specs.GrammarReady.{Ready}
use Rattle.law_language.proofs.GrammarMeaning.{Yields, Explains, takes, refuses}
use Rattle.law_language.proofs.GrammarGivens.{deep_max, explains_above}
use Rattle.law_language.proofs.GrammarExplainOperands.{explains_operand}
use Rattle.law_language.proofs.GrammarExplainLists.{with_commas_is}

module _ (limit : ℕ) where
  -- BODIES
  pub explains_target : (at : ℕ) (l : Lexeme) → Explains limit OneTarget at l (target at l)
  explains_target at (TheName x) = takes (Some at) refl tt (record { t = Bind (record { at = at; name = x }); spelled = refl; says = refl })
  explains_target at (TheSign sign.Underscore) = takes None tt tt (record { t = Drop; spelled = refl; says = refl })
  explains_target at l = refuses

  pub explains_targets : (given d at : ℕ) (l : Lexeme) → Ready limit (Targets given d) → Explains limit (Targets given d) at l (targets given d l)
  explains_targets given d at (TheSign sign.Comma) r = takes None tt (tt, (r, tt)) (λ ss₁ ws₁ y₁ ss₂ ws₂ y₂. record {
    ts = y₁.t ∷ y₂.ts;
    es = y₂.es;
    rest = y₂.rest;
    ok = y₂.ok;
    rest_ok = y₂.rest_ok;
    spelled = rw y₁.spelled (ap (λ t. the_sign sign.Comma ∷ target_token y₁.t ∷ t) y₂.spelled);
    says = rw y₁.says (ap (λ t. target_word y₁.t ∷ t) y₂.says);
  })
  explains_targets given d at (TheSign sign.Equals) r = takes None tt ((omega arith, r), (r, tt)) (λ ss₁ ws₁ y₁ ss₂ ws₂ y₂.
      let a = y₂ y₁.e y₁.ok in record {
        ts = [];
        es = a.es;
        rest = a.rest;
        ok = a.ok;
        rest_ok = a.rest_ok;
        spelled = ap (λ t. the_sign sign.Equals ∷ t) (a.spelled ∙ ap (λ t. t ++ ss₂) y₁.spelled);
        says = ap (λ t. word.List ∷ t) (a.says ∙ ap (λ t. t ++ ws₂) y₁.says);
      })
  explains_targets given d at l r = refuses

  -- a step that begins with a list
  body_of_tokens : (d : ℕ) (es : Exprs) (end : Ending limit d) → body_tokens (body_of limit d es end) ≡ list_tokens es ++ ending_tokens limit d end
  body_of_tokens d es (Further b ok) = refl
  body_of_tokens d es Last = refl

  body_of_words : (d : ℕ) (es : Exprs) (end : Ending limit d) → body_words (body_of limit d es end) ≡ word.List ∷ (part_words es ++ ending_words limit d end)
  body_of_words d es (Further b ok) = refl
  body_of_words d es Last = refl

  is_body_of : (d : ℕ) (es : Exprs) (end : Ending limit d) → AreAll limit d es → IsBody limit false d (body_of limit d es end)
  is_body_of d es (Further b ok) all = record { fits = (all.fits, ok.fits); deep = deep_max d _ _ limit all.deep ok.deep }
  is_body_of d es Last all = record { fits = all.fits; deep = all.deep }

  step_body : (d : ℕ) (ss : List Spelling) (ws : Words) → Operands limit 0 (d + 1) ss ws → (ts : List Spelling) (vs : Words) → Yields limit (StepEnd d) ts vs
      → Bodies limit d (ss ++ ts) ((word.List ∷ ws) ++ vs)
  step_body d ss ws y ts vs z = let a = z y.e y.ok in record {
    b = body_of limit d a.es a.ending;
    ok = is_body_of d a.es a.ending a.ok;
    spelled = body_of_tokens d a.es a.ending ∙ a.spelled ∙ ap (λ t. t ++ ts) y.spelled;
    says = body_of_words d a.es a.ending ∙ ap (λ t. word.List ∷ t) (a.says ∙ ap (λ t. t ++ vs) y.says);
  }

  -- No operand lets a token pass.
  never_if : {o p : Outcome} (b : Bool) → ((ws : Words) → o ≡ Passes ws → ⊥) → ((ws : Words) → p ≡ Passes ws → ⊥) → (ws : Words)
      → (if b then o else p) ≡ Passes ws → ⊥
  never_if true f g = f
  never_if false f g = g

  never_takes : (vs : Words) (P : Stack) (ws : Words) → Takes vs P ≡ Passes ws → ⊥
  never_takes vs P ws e = cc

  never_refuses : (kind : FaultKind) (ws : Words) → Refuses kind ≡ Passes ws → ⊥
  never_refuses kind ws e = cc

  pub operand_never_passes : (m d at : ℕ) (l : Lexeme) (ws : Words) → operand limit m d at l ≡ Passes ws → ⊥
  operand_never_passes m d at (TheNumber n) = never_if _ (never_if _ (never_takes _ _) (never_refuses _)) (never_if _ (never_refuses _) (never_refuses _))
  operand_never_passes m d at (TheName x) = never_if _ (never_takes _ _) (never_refuses _)
  operand_never_passes m d at (TheSign sign.OpenParen) = never_if _ (never_takes _ _) (never_refuses _)
  operand_never_passes m d at (TheSign sign.Minus) = never_if _ (never_takes _ _) (never_refuses _)
  operand_never_passes m d at (TheSign sign.Tilde) = never_if _ (never_takes _ _) (never_refuses _)
  operand_never_passes m d at (TheSign s) = never_refuses _
  operand_never_passes m d at (TheWord keyword.Strict) = never_if _ (never_takes _ _) (never_refuses _)
  operand_never_passes m d at (TheWord keyword.If) = never_if _ (never_takes _ _) (never_refuses _)
  operand_never_passes m d at (TheWord keyword.Loop) = never_if _ (never_takes _ _) (never_refuses _)
  operand_never_passes m d at (TheWord k) = never_refuses _

  explains_step : (d at : ℕ) (l : Lexeme) → Ready limit (Steps d)
      → Explains limit (Steps d) at l (appending (word.List ∷ []) (above (StepEnd d ∷ []) (operand limit 0 (d + 1) at l)))
  explains_step d at l r = explains_above limit (Operand 0 (d + 1)) (Steps d) at l (word.List ∷ []) (StepEnd d) r (step_body d) _
      (explains_operand limit 0 (d + 1) at l (omega arith)) (operand_never_passes 0 (d + 1) at l)

  pub explains_steps : (d at : ℕ) (l : Lexeme) → Ready limit (Steps d) → Explains limit (Steps d) at l (steps limit d at l)
  explains_steps d at (TheWord keyword.Let) r = takes (Some at) refl (tt, (r, tt)) (λ ss₁ ws₁ y₁ ss₂ ws₂ y₂. record {
    b = Let at (y₁.t ∷ y₂.ts) y₂.es y₂.rest;
    ok = record { fits = (omega arith, y₂.ok.fits, y₂.rest_ok.fits); deep = deep_max d _ _ limit y₂.ok.deep y₂.rest_ok.deep };
    spelled = rw (y₁.spelled, with_commas_is (target_token y₁.t) (map target_token y₂.ts))
        (ap (λ t. word_at at keyword.Let ∷ target_token y₁.t ∷ t) y₂.spelled);
    says = rw y₁.says (ap (λ t. word.Let at ∷ target_word y₁.t ∷ t) y₂.says);
  })
  explains_steps d at l r = explains_step d at l r
