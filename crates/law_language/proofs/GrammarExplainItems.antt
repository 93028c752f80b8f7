-- What the symbols of items do with a token is right; and so what every symbol does.
use Rattle.std.proofs.Common.{◌≡◌, ℕ, ◌≤◌, List, [], ◌∷◌, ◌++◌, map, None, Some, refl, sym, ap, ◌∙◌, append_assoc, append-nil, arith, if◌then◌else◌}
use Rattle.std.proofs.Math.Nat.{max-le}
use Rattle.std.proofs.lemmas.List.Concat.{flat_map-cons}
use Rattle.source.specs.declared.fault.FaultKind.TheVariants.{Unexpected}
use Rattle.source.specs.declared.token.Keyword.{Keyword}
use Rattle.source.specs.declared.token.Keyword.TheVariants as keyword
use Rattle.source.specs.declared.token.Sign.{Sign}
use Rattle.source.specs.declared.token.Sign.TheVariants as sign
use Rattle.source.specs.declared.word.Word.TheVariants as word
use Rattle.source.specs.Tree.{Name, Item, Cells, Defines, Function}
use Rattle.source.specs.Spelled.{Lexeme, TheWord, TheSign, TheNumber, TheName, Spelling, the_word, the_sign, number_at, name_token, sign_at, item_tokens}
use Rattle.source.specs.Spelled.{program_tokens}
use Rattle.source.specs.Fits.{FitsItem, item_depth}
use Rattle.source.specs.Words.{Words, item_words, program_words}
use Rattle.law_language.specs.declared.symbol.Symbol.{Symbol}
use Rattle.law_language.specs.declared.symbol.Symbol.TheVariants.{Sign as OneSign, Keyword as OneWord, Emit, Items, ArrayName, ArrayLength, FunctionName}
use Rattle.law_language.specs.declared.symbol.Symbol.TheVariants.{Parameter, Parameters, Results, ResultCount, FunctionBody, Steps, Target as OneTarget}
use Rattle.law_language.specs.declared.symbol.Symbol.TheVariants.{Targets, LetEnd, StepEnd, Operand, Negated, After, AfterName, AfterIndex, Callee, CallEnd}
use Rattle.law_language.specs.declared.symbol.Symbol.TheVariants.{Otherwise, Bound, Start, Starts, Turn as OneTurn}
use Rattle.law_language.specs.GrammarAutomaton.{Takes, Refuses, is_sign, is_word, items, array_name, array_length, function_name, parameter, parameters}
use Rattle.law_language.specs.GrammarAutomaton.{results, result_count, function_body, step}
use Rattle.law_language.proofs.GrammarYielded.{Programs}
use Rattle.law_language.specs.GrammarReady.{Ready}
use Rattle.law_language.proofs.GrammarMeaning.{Explains, takes, passes, refuses}
use Rattle.law_language.proofs.GrammarGivens.{explains_if, explains_small}
use Rattle.law_language.proofs.GrammarTerminals.{that_sign, that_word}
use Rattle.law_language.proofs.GrammarExplainFollowing.{explains_after, explains_after_name, explains_after_index}
use Rattle.law_language.proofs.GrammarExplainOperands.{explains_operand, explains_negated, explains_otherwise}
use Rattle.law_language.proofs.GrammarExplainLists.{with_commas_is, explains_call_end, explains_let_end, explains_step_end, explains_callee, explains_start}
use Rattle.law_language.proofs.GrammarExplainLists.{explains_starts, explains_turn, explains_bound}
use Rattle.law_language.proofs.GrammarExplainBodies.{explains_target, explains_targets, explains_steps}

function_tokens : {A : Type 0} (F R B s₄ s₅ : List A) (c : A) → F ++ c ∷ [] ≡ s₄ → R ++ B ≡ s₅ → (F ++ c ∷ R) ++ B ≡ (s₄ ++ s₅) ++ []
function_tokens F R B s₄ s₅ c p q = append_assoc F (c ∷ R) B ∙ sym (append_assoc F (c ∷ []) (R ++ B)) ∙ ap (λ t. t ++ (R ++ B)) p ∙ ap (λ t. s₄ ++ t) q
    ∙ sym (append-nil (s₄ ++ s₅))

function_words : {A : Type 0} (M R B E w₄ w₅ : List A) → M ≡ w₄ → R ++ B ≡ w₅ → ((M ++ R) ++ B) ++ E ≡ (w₄ ++ w₅) ++ E
function_words M R B E w₄ w₅ p q = ap (λ t. t ++ E) (append_assoc M R B ∙ ap (λ t. M ++ t) q ∙ ap (λ t. t ++ w₅) p)

module _ (limit : ℕ) where
  pub with_item : (i : Item) (ss ts : List Spelling) (ws vs : Words) → FitsItem i → item_depth i ≤ limit → item_tokens i ≡ ss → item_words i ≡ ws
      → Programs limit ts vs
      → Programs limit (ss ++ ts) (ws ++ vs)
  with_item i ss ts ws vs fits deep p q y = record {
    p = i ∷ y.p;
    fits = (fits, y.fits);
    deep = max-le deep y.deep;
    spelled = flat_map-cons item_tokens i y.p ∙ ap (λ t. t ++ program_tokens y.p) p ∙ ap (λ t. ss ++ t) y.spelled;
    says = flat_map-cons item_words i y.p ∙ ap (λ t. t ++ program_words y.p) q ∙ ap (λ t. ws ++ t) y.says;
  }

  explains_items : (at : ℕ) (l : Lexeme) → Ready limit Items → Explains limit Items at l (items l)
  explains_items at (TheWord keyword.Array) r = takes None tt (tt, (refl, (tt, (refl, (refl, (r, tt))))))
      (λ ss₁ ws₁ y₁ ss₂ ws₂ y₂ ss₃ ws₃ y₃ ss₄ ws₄ y₄ ss₅ ws₅ y₅ ss₆ ws₆ y₆.
      let i = Cells y₁.x y₃.n in
      with_item i (the_word keyword.Array ∷ ((((ss₁ ++ ss₂) ++ ss₃) ++ ss₄) ++ ss₅)) ss₆ ((((ws₁ ++ ws₂) ++ ws₃) ++ ws₄) ++ ws₅) ws₆ y₃.small (omega arith)
      (rw (y₁.spelled, y₂.spelled, y₃.spelled, y₄.spelled, y₅.spelled) refl) (rw (y₁.says, y₂.says, y₃.says, y₄.says, y₅.says) refl) y₆)
  explains_items at (TheWord keyword.Fn) r = takes None tt (tt, (refl, (tt, (tt, (r, (tt, (r, tt)))))))
      (λ ss₁ ws₁ y₁ ss₂ ws₂ y₂ ss₃ ws₃ y₃ ss₄ ws₄ y₄ ss₅ ws₅ y₅ ss₆ ws₆ y₆ ss₇ ws₇ y₇.
      let f : Function = record { name = y₁.x; params = y₃.x ∷ y₄.xs; results = y₅.results; body_at = y₅.at; body = y₅.b } in
      with_item (Defines f) (the_word keyword.Fn ∷ (((((ss₁ ++ ss₂) ++ ss₃) ++ ss₄) ++ ss₅) ++ ss₆)) ss₇ (((((ws₁ ++ ws₂) ++ ws₃) ++ ws₄) ++ ws₅) ++ ws₆) ws₇
      (omega arith, y₅.small, y₅.ok.fits) (let g = y₅.ok.deep in omega arith)
      (rw (y₁.spelled, y₂.spelled, y₃.spelled, y₆.spelled, with_commas_is (name_token y₃.x) (map name_token y₄.xs))
      (ap (λ t. the_word keyword.Fn ∷ name_token y₁.x ∷ the_sign sign.OpenParen ∷ name_token y₃.x ∷ t) (function_tokens _ _ _ ss₄ ss₅ _ y₄.spelled y₅.spelled)))
      (rw (y₁.says, y₂.says, y₃.says, y₆.says)
      (ap (λ t. word.Function y₁.x.at y₁.x.name ∷ word.Parameter y₃.x.at y₃.x.name ∷ t) (function_words _ _ _ _ ws₄ ws₅ y₄.says y₅.says)))
      y₇)
  explains_items at l r = refuses

  explains_array_name : (at : ℕ) (l : Lexeme) → Explains limit ArrayName at l (array_name at l)
  explains_array_name at (TheName x) = takes (Some at) refl tt (record { x = record { at = at; name = x }; spelled = refl; says = refl })
  explains_array_name at l = refuses

  explains_array_length : (at : ℕ) (l : Lexeme) → Explains limit ArrayLength at l (array_length at l)
  explains_array_length at (TheNumber n) =
      explains_small n (λ small. takes (Some at) refl tt (record { n = record { at = at; number = n }; small = small; spelled = refl; says = refl }))
  explains_array_length at l = refuses

  explains_function_name : (at : ℕ) (l : Lexeme) → Explains limit FunctionName at l (function_name at l)
  explains_function_name at (TheName x) = takes (Some at) refl tt (record { x = record { at = at; name = x }; spelled = refl; says = refl })
  explains_function_name at l = refuses

  explains_parameter : (at : ℕ) (l : Lexeme) → Explains limit Parameter at l (parameter at l)
  explains_parameter at (TheName x) = takes (Some at) refl tt (record { x = record { at = at; name = x }; spelled = refl; says = refl })
  explains_parameter at l = refuses

  explains_parameters : (at : ℕ) (l : Lexeme) → Explains limit Parameters at l (parameters l)
  explains_parameters at (TheSign sign.Comma) = takes None tt (tt, (tt, tt)) (λ ss₁ ws₁ y₁ ss₂ ws₂ y₂. record {
    xs = y₁.x ∷ y₂.xs;
    spelled = rw y₁.spelled (ap (λ t. the_sign sign.Comma ∷ name_token y₁.x ∷ t) y₂.spelled);
    says = rw y₁.says (ap (λ t. word.Parameter y₁.x.at y₁.x.name ∷ t) y₂.says);
  })
  explains_parameters at (TheSign sign.CloseParen) = takes None tt tt (record { xs = []; spelled = refl; says = refl })
  explains_parameters at l = refuses

  explains_function_body : (at : ℕ) (l : Lexeme) → Ready limit FunctionBody → Explains limit FunctionBody at l (function_body at l)
  explains_function_body at (TheSign sign.OpenBrace) r = takes (Some at) refl (r, tt) (λ ss ws y. record {
    at = at;
    b = y.b;
    ok = y.ok;
    spelled = ap (λ t. sign_at at sign.OpenBrace ∷ t) y.spelled;
    says = ap (λ t. word.Body at ∷ t) y.says;
  })
  explains_function_body at l r = refuses

  explains_result_count : (at : ℕ) (l : Lexeme) → Explains limit ResultCount at l (result_count at l)
  explains_result_count at (TheNumber n) =
      explains_small n (λ small. takes (Some at) refl tt (record { n = record { at = at; number = n }; small = small; spelled = refl; says = refl }))
  explains_result_count at l = refuses

  explains_results : (at : ℕ) (l : Lexeme) → Ready limit Results → Explains limit Results at l (results at l)
  explains_results at (TheSign sign.Arrow) r = takes None tt (tt, (r, tt)) (λ ss₁ ws₁ y₁ ss₂ ws₂ y₂. record {
    results = Some y₁.n;
    at = y₂.at;
    b = y₂.b;
    small = y₁.small;
    ok = y₂.ok;
    spelled = rw y₁.spelled (ap (λ t. the_sign sign.Arrow ∷ number_at y₁.n.at y₁.n.number ∷ t) y₂.spelled);
    says = rw y₁.says (ap (λ t. word.Results y₁.n.at y₁.n.number ∷ t) y₂.says);
  })
  explains_results at (TheSign sign.OpenBrace) r = takes (Some at) refl (r, tt) (λ ss ws y. record {
    results = None;
    at = at;
    b = y.b;
    small = tt;
    ok = y.ok;
    spelled = ap (λ t. sign_at at sign.OpenBrace ∷ t) y.spelled;
    says = ap (λ t. word.Body at ∷ t) y.says;
  })
  explains_results at l r = refuses

  -- EVERY SYMBOL
  explains_sign : (s : Sign) (at : ℕ) (l : Lexeme) → Explains limit (OneSign s) at l (if is_sign s l then Takes [] [] else Refuses Unexpected)
  explains_sign s at l =
      explains_if (is_sign s l)
      (λ h. takes None tt tt (record { spelled = ap (λ l. record { place = None; lexeme = l } ∷ []) (that_sign s l h); says = refl })) (λ h. refuses)

  explains_word : (k : Keyword) (at : ℕ) (l : Lexeme) → Explains limit (OneWord k) at l (if is_word k l then Takes [] [] else Refuses Unexpected)
  explains_word k at l =
      explains_if (is_word k l)
      (λ h. takes None tt tt (record { spelled = ap (λ l. record { place = None; lexeme = l } ∷ []) (that_word k l h); says = refl })) (λ h. refuses)

  pub explained : (s : Symbol Name) (at : ℕ) (l : Lexeme) → Ready limit s → Explains limit s at l (step limit s at l)
  explained (OneSign s) at l r = explains_sign s at l
  explained (OneWord k) at l r = explains_word k at l
  explained (Emit w) at l r = passes (record { spelled = refl; says = refl })
  explained Items at l r = explains_items at l r
  explained ArrayName at l r = explains_array_name at l
  explained ArrayLength at l r = explains_array_length at l
  explained FunctionName at l r = explains_function_name at l
  explained Parameter at l r = explains_parameter at l
  explained Parameters at l r = explains_parameters at l
  explained Results at l r = explains_results at l r
  explained ResultCount at l r = explains_result_count at l
  explained FunctionBody at l r = explains_function_body at l r
  explained (Steps d) at l r = explains_steps limit d at l r
  explained OneTarget at l r = explains_target limit at l
  explained (Targets given d) at l r = explains_targets limit given d at l r
  explained (LetEnd given d) at l r = explains_let_end limit given d at l r
  explained (StepEnd d) at l r = explains_step_end limit d at l r
  explained (Operand m d) at l r = explains_operand limit m d at l r.0
  explained (Negated d) at l r = explains_negated limit d at l r
  explained (After m k d) at l r = explains_after limit m k d at l r
  explained (AfterName named x m d) at l r = explains_after_name limit named x m d at l r
  explained (AfterIndex cell a m d) at l r = explains_after_index limit cell a m d at l r
  explained (Callee d) at l r = explains_callee limit d at l r
  explained (CallEnd called strict f d) at l r = explains_call_end limit called strict f d at l r
  explained (Otherwise d) at l r = explains_otherwise limit d at l r
  explained (Bound loop d) at l r = explains_bound limit loop d at l r
  explained (Start d) at l r = explains_start limit d at l r
  explained (Starts d) at l r = explains_starts limit d at l r
  explained (OneTurn d) at l r = explains_turn limit d at l r
