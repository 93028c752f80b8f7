-- What the symbols of items do with a token is right; and so it is of each symbol.
use Rattle.std.proofs.Common.{◌≡◌, ℕ, suc, ◌+◌, ◌≤◌, Bool, true, false, List, [], ◌∷◌, ◌++◌, map, None, Some, refl, sym, ap, ◌∙◌}
use Rattle.std.proofs.Common.{append_assoc, append-nil, arith}
use Rattle.std.proofs.lemmas.List.Concat.{flat_map-cons}
use Rattle.source.specs.declared.token.Keyword.TheVariants as core_keyword
use Rattle.source.specs.declared.token.Sign.TheVariants as core_sign
use Rattle.source.specs.declared.word.Word.TheVariants as core_word
use Rattle.source.specs.Tree.{Name}
use Rattle.surface.specs.declared.token.Keyword.TheVariants as keyword
use Rattle.surface.specs.declared.token.Sign.TheVariants as sign
use Rattle.surface.specs.declared.word.Word.TheVariants as word
use Rattle.surface.specs.Tree.{Written, Constant, Param, Function, Item, Cells, Const, Defines}
use Rattle.surface.specs.Spelled.{Lexeme, TheWord, TheSign, TheNumber, TheName, Spelling, the_word, a_word, a_sign, sign_at, name_at, name_token}
use Rattle.surface.specs.Spelled.{tokens, body_tokens, param_tokens, params_tokens, result_tokens, item_tokens, program_tokens}
use Rattle.surface.specs.Fits.{FitsItem, item_depth}
use Rattle.surface.specs.Words.{Words, of_core, words, body_words, param_word, result_words, item_words, program_words}
use Rattle.std.proofs.Math.Nat.{max-le}
use Rattle.law_surface_text.specs.declared.symbol.Symbol.{Symbol}
use Rattle.law_surface_text.specs.declared.symbol.Symbol.TheVariants.{Sign as OneSign, Keyword as OneWord, Emit, Name as OneName, Items, Parameter}
use Rattle.law_surface_text.specs.declared.symbol.Symbol.TheVariants.{AfterParameter, Rank, Parameters, Results, ResultCount, FunctionBody, Steps, ArmEnd}
use Rattle.law_surface_text.specs.declared.symbol.Symbol.TheVariants.{StepOtherwise, ChainEnd, Target, Targets, StepEnd, Operand, Negated, After, AfterName}
use Rattle.law_surface_text.specs.declared.symbol.Symbol.TheVariants.{AfterIndexes, Callee, Further, Indexes, Otherwise, Bound, Starts, Turn, ForBound}
use Rattle.law_surface_text.specs.declared.symbol.Symbol.TheVariants.{AfterForName, Range, Carried}
use Rattle.law_surface_text.specs.Automaton.{is_sign, is_word, one_name, items, parameter, after_parameter, rank, parameters, results, result_count}
use Rattle.law_surface_text.specs.Automaton.{function_body, step, step_below, lacking_step}
use Rattle.law_surface_text.specs.Ready.{Ready}
use Rattle.law_surface_text.proofs.Meaning.{Programs, Parameters1, Ranks, after_commas, Is, meaning, lacking_meaning, meaning_below, Explains, takes}
use Rattle.law_surface_text.proofs.Meaning.{passes, lacks, refuses}
use Rattle.law_surface_text.proofs.Givens.{held, explains_if, explains_small}
use Rattle.law_surface_text.proofs.Terminals.{that_sign, that_word}
use Rattle.law_surface_text.proofs.ExplainOperands.{explains_after, explains_after_name, explains_after_indexes, explains_operand, explains_negated}
use Rattle.law_surface_text.proofs.ExplainOperands.{explains_otherwise}
use Rattle.law_surface_text.proofs.ExplainForms.{explains_further, explains_indexes, explains_callee, explains_starts, explains_turn, explains_bound}
use Rattle.law_surface_text.proofs.ExplainForms.{explains_range, explains_for_bound, explains_after_for_name, explains_carried, explains_step_end}
use Rattle.law_surface_text.proofs.ExplainForms.{explains_when_end, explains_target, explains_targets, explains_arm_end, explains_step_otherwise}
use Rattle.law_surface_text.proofs.ExplainForms.{explains_steps}

-- LISTS
cons_append : {A : Type 0} (x : A) (a b : List A) → (x ∷ a) ++ b ≡ x ∷ (a ++ b)
cons_append x a b = refl

cells_lists : {A : Type 0} (a b c : List A) (x y : A) → ((a ++ b) ++ x ∷ y ∷ []) ++ c ≡ a ++ (b ++ (x ∷ (y ∷ (c ++ []))))
cells_lists a b c x y = simp (append_assoc, append-nil, cons_append)

cells_words : {A : Type 0} (a b c : List A) (x : A) → ((a ++ b) ++ x ∷ []) ++ c ≡ a ++ (b ++ (x ∷ (c ++ [])))
cells_words a b c x = simp (append_assoc, append-nil, cons_append)

const_lists : {A : Type 0} (a c : List A) (x : A) → (a ++ x ∷ []) ++ c ≡ a ++ (x ∷ (c ++ []))
const_lists a c x = simp (append_assoc, append-nil, cons_append)

function_tokens : {A : Type 0} (p q r b c : List A) (x y : A) → (((p ++ q) ++ x ∷ r) ++ y ∷ b) ++ c ≡ p ++ (q ++ (x ∷ (r ++ (y ∷ (b ++ (c ++ []))))))
function_tokens p q r b c x y = simp (append_assoc, append-nil, cons_append)

function_words : {A : Type 0} (q r b c : List A) (y z : A) → (((q ++ r) ++ y ∷ b) ++ z ∷ []) ++ c ≡ q ++ (r ++ (y ∷ (b ++ (z ∷ (c ++ [])))))
function_words q r b c y z = simp (append_assoc, append-nil, cons_append)

pub params_are : (p : Param) (ps : List Param) → params_tokens (p ∷ ps) ≡ param_tokens p ++ after_commas (map param_tokens ps)
params_are p [] = sym (append-nil (param_tokens p))
params_are p (q ∷ ps) = ap (λ t. param_tokens p ++ a_sign core_sign.Comma ∷ t) (params_are q ps)

module _ (limit : ℕ) where
  -- one item more
  one_more : (i : Item) → FitsItem i → item_depth i ≤ limit → (p : Programs limit) {ss : List Spelling} {ws : Words}
      → item_tokens i ++ program_tokens p.p ≡ ss → item_words i ++ program_words p.p ≡ ws → Is (meaning limit Items) false ss ws
  one_more i fits deep p e f = record {
    part = record { p = i ∷ p.p; fits = (fits, p.fits); deep = max-le deep p.deep };
    ends = refl;
    spelled = flat_map-cons item_tokens i p.p ∙ e;
    says = flat_map-cons item_words i p.p ∙ f;
  }

  explains_items : (at : ℕ) (l : Lexeme) → 1 ≤ limit → Explains limit (meaning limit Items) at l (items l)
  explains_items at (TheWord (keyword.Core core_keyword.Array)) r =
      takes None tt (λ h. (tt, (tt, (tt, ((omega arith, r), (r, (tt, (tt, (tt, (r, tt)))))))))) (λ h x a₂ a₃ a₄ a₅ a₆ a₇ a₈ p.
      let c = a₅.is a₄.e a₄.is in one_more (Cells x c.es) c.are.fits (let g = c.are.deep in omega arith) p
      (ap (λ t. ((a_word core_keyword.Array ∷ name_token x ∷ a_sign core_sign.OpenBracket ∷ t) ++
      a_sign core_sign.CloseBracket ∷ a_sign core_sign.Semicolon ∷ []) ++ program_tokens p.p) c.spelled
      ∙ ap (λ t. a_word core_keyword.Array ∷ name_token x ∷ a_sign core_sign.OpenBracket ∷ t)
      (cells_lists (tokens a₄.e) a₅.ss (program_tokens p.p) (a_sign core_sign.CloseBracket) (a_sign core_sign.Semicolon)))
      (ap (λ t. ((of_core (core_word.Array x.at x.name) ∷ of_core core_word.List ∷ t) ++ word.EndArray ∷ []) ++ program_words p.p) c.says
      ∙ ap (λ t. of_core (core_word.Array x.at x.name) ∷ of_core core_word.List ∷ t)
      (cells_words (words a₄.e) a₅.ws (program_words p.p) word.EndArray)))
  explains_items at (TheWord keyword.Const) r = takes None tt (λ h. (tt, (tt, ((omega arith, r), (tt, (tt, (r, tt))))))) (λ h x a₂ a₃ a₄ a₅ p.
      one_more (Const x a₃.e) a₃.is.fits (let g = a₃.is.deep in omega arith) p
      (ap (λ t. the_word keyword.Const ∷ name_token x ∷ a_sign core_sign.Equals ∷ t)
      (const_lists (tokens a₃.e) (program_tokens p.p) (a_sign core_sign.Semicolon)))
      (ap (λ t. word.Constant x.at x.name ∷ t) (const_lists (words a₃.e) (program_words p.p) word.EndConstant)))
  explains_items at (TheWord (keyword.Core core_keyword.Fn)) r =
      takes None tt (λ h. (tt, (tt, (tt, (tt, (tt, (tt, (r, (tt, (r, tt)))))))))) (λ h x a₂ q qs a₅ n b a₈ p.
      let f : Function = record { name = x; params = q ∷ qs; results = n.n; body_at = b.at; body = b.body.b } in
      one_more (Defines f) (omega arith, n.small, b.body.fits) (let g = b.body.deep in omega arith) p
      (ap (λ t. (((a_word core_keyword.Fn ∷ name_token x ∷ a_sign core_sign.OpenParen ∷ t) ++ a_sign core_sign.CloseParen ∷ result_tokens n.n) ++
      sign_at b.at (sign.Core core_sign.OpenBrace) ∷ body_tokens b.body.b) ++ program_tokens p.p) (params_are q qs)
      ∙ ap (λ t. a_word core_keyword.Fn ∷ name_token x ∷ a_sign core_sign.OpenParen ∷ t)
      (function_tokens (param_tokens q) (after_commas (map param_tokens qs)) (result_tokens n.n) (body_tokens b.body.b) (program_tokens p.p)
      (a_sign core_sign.CloseParen) (sign_at b.at (sign.Core core_sign.OpenBrace))))
      (ap (λ t. of_core (core_word.Function x.at x.name) ∷ param_word q ∷ t)
      (function_words (map param_word qs) (result_words n.n) (body_words b.body.b) (program_words p.p) (of_core (core_word.Body b.at))
      (of_core core_word.EndFunction))))
  explains_items at l r = refuses

  explains_name : (w : _) (at : ℕ) (l : Lexeme) → Explains limit (meaning limit (OneName w)) at l (one_name w at l)
  explains_name w at (TheName x) = takes (Some at) refl (λ h. tt) (λ h. record { part = record { at = at; name = x }; ends = refl; spelled = refl; says = refl })
  explains_name w at l = refuses

  explains_parameter : (at : ℕ) (l : Lexeme) → Explains limit (meaning limit Parameter) at l (parameter at l)
  explains_parameter at (TheName x) = takes (Some at) refl (λ h. (tt, tt)) (λ h a. record {
    part = record { name = record { at = at; name = x }; rank = a.is.rank };
    ends = refl;
    spelled = ap (λ t. name_at at x ∷ t) (a.is.spelled ∙ sym (append-nil a.ss));
    says = a.is.says ∙ sym (append-nil a.ws);
  })
  explains_parameter at l = refuses

  explains_after_parameter : (named : ℕ) (x : Name) (at : ℕ) (l : Lexeme)
      → Explains limit (meaning limit (AfterParameter named x)) at l (after_parameter named x l)
  explains_after_parameter named x at (TheSign (sign.Core core_sign.OpenBracket)) = takes None tt (λ h. (tt, tt)) (λ h a.
      let n : suc a.is.more ≡ 1 + a.is.more = omega arith in held (Parameters1 named x) _ _ (record {
        rank = suc a.is.more;
        spelled = ap (λ t. a_sign core_sign.OpenBracket ∷ t) (a.is.spelled ∙ sym (append-nil a.ss));
        says = ap (λ n. word.ArrayParameter named x n ∷ []) n ∙ a.is.says ∙ sym (append-nil a.ws);
      }))
  explains_after_parameter named x at l = passes (held (Parameters1 named x) _ _ (record { rank = 0; spelled = refl; says = refl }))

  explains_rank : (named : ℕ) (x : Name) (n at : ℕ) (l : Lexeme) → Explains limit (meaning limit (Rank named x n)) at l (rank named x n l)
  explains_rank named x n at (TheSign (sign.Core core_sign.Comma)) = takes None tt (λ h. (tt, tt)) (λ h a.
      let m : n + suc a.is.more ≡ (n + 1) + a.is.more = omega arith in held (Ranks named x n) _ _ (record {
        more = suc a.is.more;
        spelled = ap (λ t. a_sign core_sign.Comma ∷ t) (a.is.spelled ∙ sym (append-nil a.ss));
        says = ap (λ n. word.ArrayParameter named x n ∷ []) m ∙ a.is.says ∙ sym (append-nil a.ws);
      }))
  explains_rank named x n at (TheSign (sign.Core core_sign.CloseBracket)) = takes None tt (λ h. tt) (λ h.
      let m : n + 0 ≡ n = omega arith in held (Ranks named x n) _ _
      (record { more = 0; spelled = refl; says = ap (λ n. word.ArrayParameter named x n ∷ []) m }))
  explains_rank named x n at l = refuses

  explains_parameters : (at : ℕ) (l : Lexeme) → Explains limit (meaning limit Parameters) at l (parameters l)
  explains_parameters at (TheSign (sign.Core core_sign.Comma)) = takes None tt (λ h. (tt, (tt, tt))) (λ h p ps. record {
    part = p ∷ ps;
    ends = refl;
    spelled = ap (λ t. a_sign core_sign.Comma ∷ param_tokens p ++ t) (sym (append-nil (after_commas (map param_tokens ps))));
    says = ap (λ t. param_word p ∷ t) (sym (append-nil (map param_word ps)));
  })
  explains_parameters at l = passes (record { part = []; ends = refl; spelled = refl; says = refl })

  explains_results : (at : ℕ) (l : Lexeme) → Explains limit (meaning limit Results) at l (results l)
  explains_results at (TheSign (sign.Core core_sign.Arrow)) = takes None tt (λ h. (tt, tt)) (λ h n. record {
    part = record { n = Some n.n; small = n.small };
    ends = refl;
    spelled = refl;
    says = sym (append-nil (result_words (Some n.n)));
  })
  explains_results at l = passes (record { part = record { n = None; small = tt }; ends = refl; spelled = refl; says = refl })

  explains_result_count : (at : ℕ) (l : Lexeme) → Explains limit (meaning limit ResultCount) at l (result_count at l)
  explains_result_count at (TheNumber n) = explains_small n (λ small. takes (Some at) refl (λ h. tt)
      (λ h. record { part = record { n = Written at n; small = small }; ends = refl; spelled = refl; says = refl }))
  explains_result_count at (TheName x) = takes (Some at) refl (λ h. tt)
      (λ h. record { part = record { n = Constant at x; small = tt }; ends = refl; spelled = refl; says = refl })
  explains_result_count at l = refuses

  explains_function_body : (at : ℕ) (l : Lexeme) → 1 ≤ limit → Explains limit (meaning limit FunctionBody) at l (function_body at l)
  explains_function_body at (TheSign (sign.Core core_sign.OpenBrace)) r = takes (Some at) refl (λ h. (omega arith, tt)) (λ h b. record {
    part = record { at = at; body = b };
    ends = refl;
    spelled = ap (λ t. sign_at at (sign.Core core_sign.OpenBrace) ∷ t) (sym (append-nil (body_tokens b.b)));
    says = ap (λ t. of_core (core_word.Body at) ∷ t) (sym (append-nil (body_words b.b)));
  })
  explains_function_body at l r = refuses

  -- EACH SYMBOL
  explained : (s : Symbol Name) (at : ℕ) (l : Lexeme) → Ready limit s → Explains limit (meaning limit s) at l (step s at l)
  explained (OneSign s) at l r = explains_if (is_sign s l) (λ h. takes None tt (λ k. tt) (λ k.
      record { part = tt; ends = refl; spelled = ap (λ x. record { place = None; lexeme = x } ∷ []) (sym (that_sign s l h)); says = refl })) (λ h. refuses)
  explained (OneWord k) at l r = explains_if (is_word k l) (λ h. takes None tt (λ k. tt) (λ i.
      record { part = tt; ends = refl; spelled = ap (λ x. record { place = None; lexeme = x } ∷ []) (sym (that_word k l h)); says = refl })) (λ h. refuses)
  explained (Emit w) at l r = passes (record { part = tt; ends = refl; spelled = refl; says = refl })
  explained (OneName w) at l r = explains_name w at l
  explained Items at l r = explains_items at l r
  explained Parameter at l r = explains_parameter at l
  explained (AfterParameter named x) at l r = explains_after_parameter named x at l
  explained (Rank named x n) at l r = explains_rank named x n at l
  explained Parameters at l r = explains_parameters at l
  explained Results at l r = explains_results at l
  explained ResultCount at l r = explains_result_count at l
  explained FunctionBody at l r = explains_function_body at l r
  explained (Steps d) at l r = explains_steps limit d at l r
  explained (ArmEnd begun d) at l r = explains_arm_end limit begun d at l r
  explained (StepOtherwise begun d) at l r = explains_step_otherwise limit begun d at l r
  explained (ChainEnd begun) at l r = passes (record { part = tt; ends = refl; spelled = refl; says = refl })
  explained Target at l r = explains_target limit at l
  explained Targets at l r = explains_targets limit at l
  explained (StepEnd d) at l r = explains_step_end limit d at l r
  explained (Operand m d) at l r = explains_operand limit m d at l r.0
  explained (Negated d) at l r = explains_negated limit d at l r
  explained (After m k d) at l r = explains_after limit m k d at l r
  explained (AfterName named x m d) at l r = explains_after_name limit named x m d at l r
  explained (AfterIndexes cell a m d) at l r = explains_after_indexes limit cell a m d at l r
  explained (Callee d) at l r = explains_callee limit d at l r
  explained (Further d) at l r = explains_further limit d at l r
  explained (Indexes d) at l r = explains_indexes limit d at l r
  explained (Otherwise d) at l r = explains_otherwise limit d at l r
  explained (Bound loop d) at l r = explains_bound limit loop d at l r
  explained (Starts d) at l r = explains_starts limit d at l r
  explained (Turn d) at l r = explains_turn limit d at l r
  explained (ForBound d) at l r = explains_for_bound limit d at l r
  explained (AfterForName named x d) at l r = explains_after_for_name limit named x d at l r
  explained (Range d) at l r = explains_range limit d at l r
  explained (Carried d) at l r = explains_carried limit d at l r

  lacking_explained : (s : Symbol Name) (at : ℕ) (l : Lexeme) → Ready limit s → Explains limit (lacking_meaning limit s) at l (lacking_step s l)
  lacking_explained (ChainEnd begun) at l r = lacks (record { part = tt; ends = refl; spelled = refl; says = refl })
  lacking_explained (After m k d) at l r = lacks (record { part = tt; ends = refl; spelled = refl; says = refl })
  lacking_explained (Further d) at l r = lacks (record { part = tt; ends = refl; spelled = refl; says = refl })
  lacking_explained (StepEnd d) at l r = explains_when_end limit d at l r
  lacking_explained s at l r = refuses

  pub each_explained : (b : Bool) (s : Symbol Name) (at : ℕ) (l : Lexeme) → Ready limit s → Explains limit (meaning_below b limit s) at l (step_below b s at l)
  each_explained true s at l r = lacking_explained s at l r
  each_explained false s at l r = explained s at l r
