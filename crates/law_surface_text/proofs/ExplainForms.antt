-- What the symbols of lists, loops, bodies and items do with a token is right.
use Rattle.std.proofs.Common.{◌≡◌, ℕ, suc, ◌+◌, ◌≤◌, max, Bool, true, false, List, [], ◌∷◌, ◌++◌, map, length, None, Some, refl, sym, ap, ◌∙◌}
use Rattle.std.proofs.Common.{subst, append_assoc, append-nil, arith}
use Rattle.std.specs.Prelude.{IsTrue}
use Rattle.source.specs.declared.token.Keyword.TheVariants as core_keyword
use Rattle.source.specs.declared.token.Sign.TheVariants as core_sign
use Rattle.source.specs.declared.word.Word.TheVariants as core_word
use Rattle.source.specs.Tree.{Name, Bind, Drop}
use Rattle.surface.specs.declared.token.Keyword.TheVariants as keyword
use Rattle.surface.specs.declared.token.Sign.TheVariants as sign
use Rattle.surface.specs.declared.word.Word.{Word}
use Rattle.surface.specs.declared.word.Word.TheVariants as word
use Rattle.surface.specs.Tree.{Count, Written, Constant, Expr, If, Exprs, One, More, Let, Do, When, Give, Chain, Last, Else, Before}
use Rattle.surface.specs.Tree.{After as TestLast, Nothing, With}
use Rattle.surface.specs.Spelled.{Lexeme, TheWord, TheSign, TheNumber, TheName, Spelling, the_word, a_word, a_sign, word_at, name_at, name_token, target_token}
use Rattle.surface.specs.Spelled.{with_commas, count_token, tokens, list_tokens, first_tokens, body_tokens, turn_tokens}
use Rattle.surface.specs.Spelled.{braced, the_sign, carried_tokens}
use Rattle.surface.specs.Fits.{body_depth, IsSmall, is_if, level, depth}
use Rattle.surface.specs.Words.{Words, of_core, target_word, words, part_words, index_words, first_words, body_words, tests_words, turn_words, end_loop}
use Rattle.surface.specs.Words.{bound_word, carried_words}
use Rattle.law_language.proofs.GrammarGivens.{deep_max}
use Rattle.law_surface_text.specs.declared.symbol.Symbol.TheVariants.{Steps, ArmEnd}
use Rattle.law_surface_text.specs.declared.symbol.Symbol.TheVariants.{StepOtherwise, ChainEnd, Target, Targets, StepEnd, Operand, After, Callee, Further}
use Rattle.law_surface_text.specs.declared.symbol.Symbol.TheVariants.{Indexes, Bound, Starts, Turn, ForBound, AfterForName, Range, Carried}
use Rattle.law_surface_text.specs.Automaton.{callee, further, indexes, starts, loop_rest, bound, turn}
use Rattle.law_surface_text.specs.Automaton.{range_rest, for_bound, after_for_name, range, carried, steps, arm_end, step_otherwise, target, targets, step_end}
use Rattle.law_surface_text.specs.Automaton.{tested, lacking_step, Stack}
use Rattle.law_surface_text.specs.Ready.{AllReady}
use Rattle.law_surface_text.proofs.Meaning.{Sort, IsExpr, AreAll, Ops, Bodies, Branches}
use Rattle.law_surface_text.proofs.Meaning.{AfterArm, AfterPart, after_commas}
use Rattle.law_surface_text.proofs.Meaning.{Is, Given, meaning, lacking_meaning, Explains, takes, passes, lacks, refuses}
use Rattle.law_surface_text.proofs.Givens.{given_map, as_is, held, explains_small, explains_above}
use Rattle.law_surface_text.proofs.ExplainOperands.{no_chain, behind_else, if_is, explains_operand, operand_stays}

cons_append : {A : Type 0} (x : A) (a b : List A) → (x ∷ a) ++ b ≡ x ∷ (a ++ b)
cons_append x a b = refl

both_then : {A : Type 0} (a b c : List A) (x : A) → (a ++ b) ++ x ∷ c ≡ a ++ (b ++ (x ∷ (c ++ [])))
both_then a b c x = simp (append_assoc, append-nil)

let_tokens_are : {A : Type 0} (a b c e : List A) (x y : A) → (a ++ x ∷ (b ++ c)) ++ y ∷ e ≡ a ++ (x ∷ (b ++ (c ++ (y ∷ (e ++ [])))))
let_tokens_are a b c e x y = simp (append_assoc, append-nil, cons_append)

three_then : {A : Type 0} (a b c d : List A) → ((a ++ b) ++ c) ++ d ≡ a ++ (b ++ (c ++ d))
three_then a b c d = simp append_assoc

range_tokens_are : {A : Type 0} (a b c e : List A) (x y : A) → ((a ++ x ∷ b) ++ c) ++ y ∷ e ≡ a ++ (x ∷ (b ++ (c ++ (y ∷ (e ++ [])))))
range_tokens_are a b c e x y = simp (append_assoc, append-nil)

range_words_are : {A : Type 0} (a b c e : List A) (x y z : A) → ((a ++ x ∷ b) ++ y ∷ c) ++ z ∷ e ≡ a ++ (x ∷ (b ++ (y ∷ (c ++ (z ∷ (e ++ []))))))
range_words_are a b c e x y z = simp (append_assoc, append-nil)

step_tokens : {A : Type 0} (a b c e : List A) → ((a ++ b) ++ c) ++ e ≡ a ++ (b ++ (c ++ (e ++ [])))
step_tokens a b c e = simp (append_assoc, append-nil)

module _ (limit : ℕ) where
  -- LISTS
  pub all_one : (d : ℕ) (e : Expr) → IsExpr limit (d + 1) e → AreAll limit d (One e)
  all_one d e is = record { fits = is.fits; deep = (let g = is.deep in omega arith) }

  pub all_more : (d : ℕ) (e : Expr) (es : Exprs) → IsExpr limit (d + 1) e → AreAll limit d es → AreAll limit d (More e es)
  all_more d e es is are = record { fits = (is.fits, are.fits); deep = deep_max d _ _ limit (let g = is.deep in omega arith) are.deep }

  pub explains_further : (d at : ℕ) (l : Lexeme) → d + 1 ≤ limit → Explains limit (meaning limit (Further d)) at l (further d l)
  explains_further d at (TheSign (sign.Core core_sign.Comma)) r = takes None tt (λ h. ((omega arith, r), (r, tt)))
      (λ h a₁ a₂. held (AfterPart limit d part_words) _ _ (λ e is. let b = a₂.is a₁.e a₁.is in record {
        es = More e b.es;
        are = all_more d e b.es is b.are;
        spelled = rw b.spelled (simp append-nil);
        says = rw b.says (simp append-nil);
      }))
  explains_further d at l r =
      passes (held (AfterPart limit d part_words) _ _ (λ e is. record { es = One e; are = all_one d e is; spelled = sym (append-nil (tokens e)); says = refl }))

  pub explains_indexes : (d at : ℕ) (l : Lexeme) → d + 1 ≤ limit → Explains limit (meaning limit (Indexes d)) at l (indexes d l)
  explains_indexes d at (TheSign (sign.Core core_sign.Comma)) r = takes None tt (λ h. ((omega arith, r), (r, tt)))
      (λ h a₁ a₂. held (AfterPart limit d index_words) _ _ (λ e is. let b = a₂.is a₁.e a₁.is in record {
        es = More e b.es;
        are = all_more d e b.es is b.are;
        spelled = rw b.spelled (simp append-nil);
        says = rw b.says (simp append-nil);
      }))
  explains_indexes d at l r = passes (held (AfterPart limit d index_words) _ _
      (λ e is. record { es = One e; are = all_one d e is; spelled = sym (append-nil (tokens e)); says = sym (append-nil (words e)) }))

  pub explains_callee : (d at : ℕ) (l : Lexeme) → d + 1 ≤ limit → Explains limit (meaning limit (Callee d)) at l (callee d at l)
  explains_callee d at (TheName f) r = takes (Some at) refl (λ h. (tt, ((omega arith, r), (r, (tt, (tt, tt))))))
      (λ h a₁ a₂ a₃ a₄ a₅. let c = a₃.is a₂.e a₂.is in record {
        part = record { at = at; f = f; es = c.es; are = c.are };
        ends = refl;
        spelled = rw c.spelled (simp append_assoc);
        says = rw c.says (simp append_assoc);
      })
  explains_callee d at l r = refuses

  -- LOOPS
  pub explains_starts : (d at : ℕ) (l : Lexeme) → d + 1 ≤ limit → Explains limit (meaning limit (Starts d)) at l (starts d l)
  explains_starts d at (TheSign (sign.Core core_sign.Comma)) r = takes None tt (λ h. (tt, (tt, ((omega arith, r), (r, tt)))))
      (λ h y a₂ a₃ a₄. held _ _ _ (λ x e is. let b = a₄.is y a₃.e a₃.is in record {
        x = x;
        xs = b.x ∷ b.xs;
        es = More e b.es;
        are = all_more d e b.es is b.are;
        many = ap suc b.many;
        spelled = rw b.spelled (simp append-nil);
        says = rw b.says (simp append-nil);
      }))
  explains_starts d at l r = passes (held _ _ _ (λ x e is. record {
    x = x;
    xs = [];
    es = One e;
    are = all_one d e is;
    many = refl;
    spelled = ap (λ t. name_token x ∷ a_sign core_sign.Equals ∷ t) (sym (append-nil (tokens e)));
    says = refl;
  }))

  pub explains_turn : (d at : ℕ) (l : Lexeme) → d + 1 ≤ limit → Explains limit (meaning limit (Turn d)) at l (turn d l)
  explains_turn d at (TheWord (keyword.Core core_keyword.While)) r = takes None tt (λ h. ((omega arith, r), (tt, (tt, (r, tt)))))
      (λ h a₁ a₂ a₃ a₄. held _ _ _ (λ xs. record {
        turn = Before xs a₁.e a₄.b;
        names = refl;
        fits = (a₁.is.fits, a₄.fits);
        deep = deep_max d _ _ limit (let g = a₁.is.deep in omega arith) a₄.deep;
        spelled = simp append-nil;
        says = simp append-nil;
      }))
  explains_turn d at (TheSign (sign.Core core_sign.OpenBrace)) r = takes None tt (λ h. (r, (tt, (tt, (tt, ((omega arith, r), (tt, tt)))))))
      (λ h a₁ a₂ a₃ a₄ a₅ a₆. held _ _ _ (λ xs. record {
        turn = TestLast xs a₁.b a₅.e;
        names = refl;
        fits = (a₁.fits, a₅.is.fits);
        deep = deep_max d _ _ limit a₁.deep (let g = a₅.is.deep in omega arith);
        spelled = simp append_assoc;
        says = simp append-nil;
      }))
  explains_turn d at l r = refuses

  ready_loop : (d : ℕ) (last : Word Name) → d + 1 ≤ limit → AllReady limit (loop_rest d last)
  ready_loop d last r = (tt, (tt, (tt, ((omega arith, r), (r, (tt, (r, (tt, tt))))))))

  -- a loop after its bound
  loop_of : (loop d : ℕ) (n : Count) → IsSmall n → (last : Word Name) → end_loop loop n ≡ last
      → Given limit false (loop_rest d last) (λ c ss ws. Is (meaning limit (Bound loop d)) c (count_token n ∷ ss) (bound_word n ∷ ws))
  loop_of loop d n is_small last q = λ a₁ x a₃ a₄ a₅ a₆ a₇ a₈.
      let f = a₅.is x a₄.e a₄.is in
      let t = a₇.is (f.x ∷ f.xs) in record {
        part = record {
          bound = n;
          firsts = f.es;
          turn = t.turn;
          small = is_small;
          are = f.are;
          many = f.many ∙ sym (ap length t.names);
          fits = t.fits;
          deep = t.deep;
        };
        ends = refl;
        spelled = ap (λ ys. count_token n ∷ a_sign core_sign.OpenParen ∷ first_tokens ys f.es ++ a_sign core_sign.CloseParen ∷ turn_tokens t.turn) t.names
            ∙ ap (λ u. count_token n ∷ a_sign core_sign.OpenParen ∷ u ++ a_sign core_sign.CloseParen ∷ turn_tokens t.turn) f.spelled
            ∙ ap (λ u. count_token n ∷ a_sign core_sign.OpenParen ∷ (name_token x ∷ a_sign core_sign.Equals ∷ tokens a₄.e ++ a₅.ss) ++
            a_sign core_sign.CloseParen ∷ u) t.spelled
            ∙ ap (λ u. count_token n ∷ a_sign core_sign.OpenParen ∷ name_token x ∷ a_sign core_sign.Equals ∷ u)
            (both_then (tokens a₄.e) a₅.ss a₇.ss (a_sign core_sign.CloseParen));
        says = ap (λ ys. bound_word n ∷ first_words ys f.es ++ turn_words t.turn ++ end_loop loop n ∷ []) t.names
            ∙ ap (λ u. bound_word n ∷ u ++ turn_words t.turn ++ end_loop loop n ∷ []) f.says
            ∙ ap (λ u. bound_word n ∷ (of_core (core_word.Start x.at x.name) ∷ words a₄.e ++ a₅.ws) ++ u ++ end_loop loop n ∷ []) t.says
            ∙ ap (λ w. bound_word n ∷ (of_core (core_word.Start x.at x.name) ∷ words a₄.e ++ a₅.ws) ++ a₇.ws ++ w ∷ []) q
            ∙ ap (λ u. bound_word n ∷ of_core (core_word.Start x.at x.name) ∷ u) (three_then (words a₄.e) a₅.ws a₇.ws (last ∷ []));
      }

  pub explains_bound : (loop d at : ℕ) (l : Lexeme) → d + 1 ≤ limit → Explains limit (meaning limit (Bound loop d)) at l (bound loop d at l)
  explains_bound loop d at (TheNumber n) r = explains_small n (λ small. takes (Some at) refl (λ h. ready_loop d (of_core (core_word.EndLoop loop n)) r)
      (λ h. loop_of loop d (Written at n) small (of_core (core_word.EndLoop loop n)) refl))
  explains_bound loop d at (TheName x) r =
      takes (Some at) refl (λ h. ready_loop d (word.EndConstantLoop loop x) r) (λ h. loop_of loop d (Constant at x) tt (word.EndConstantLoop loop x) refl)
  explains_bound loop d at l r = refuses

  -- `for`
  ready_range : (d : ℕ) → d + 1 ≤ limit → AllReady limit (range_rest d)
  ready_range d r = ((omega arith, r), (tt, (tt, ((omega arith, r), (tt, (r, (tt, (tt, (r, tt)))))))))

  range_of : (d : ℕ) → Given limit false (range_rest d) (λ c ss ws. Is (meaning limit (Range d)) c (the_word keyword.In ∷ ss) ws)
  range_of d = λ a₁ a₂ a₃ a₄ a₅ a₆ a₇ a₈ a₉.
      record {
        part = record { first = a₁; end = a₄; carries = a₆; body = a₉ };
        ends = refl;
        spelled = ap (λ t. the_word keyword.In ∷ t) (range_tokens_are (tokens a₁.e) (tokens a₄.e) (carried_tokens a₆.c) (body_tokens a₉.b) (the_sign sign.Range) (a_sign core_sign.OpenBrace));
        says = (range_words_are (words a₁.e) (words a₄.e) (carried_words a₆.c) (body_words a₉.b) word.Range word.EndRange word.Turns);
      }

  pub explains_range : (d at : ℕ) (l : Lexeme) → d + 1 ≤ limit → Explains limit (meaning limit (Range d)) at l (range d l)
  explains_range d at (TheWord keyword.In) r = takes None tt (λ h. ready_range d r) (λ h. range_of d)
  explains_range d at l r = refuses

  pub explains_for_bound : (d at : ℕ) (l : Lexeme) → d + 1 ≤ limit → Explains limit (meaning limit (ForBound d)) at l (for_bound d at l)
  explains_for_bound d at (TheNumber n) r = explains_small n (λ small. takes (Some at) refl (λ h. (tt, (r, tt))) (λ h i a. record {
    part = record { bound = record { n = Some (Written at n); small = small }; i = i; range = a };
    ends = refl;
    spelled = simp append-nil;
    says = simp append-nil;
  }))
  explains_for_bound d at (TheName x) r = takes (Some at) refl (λ h. (r, tt))
      (λ h a. record { part = a.is.of; ends = refl; spelled = a.is.spelled ∙ simp append-nil; says = a.is.says ∙ simp append-nil })
  explains_for_bound d at l r = refuses

  pub explains_after_for_name : (named : ℕ) (x : Name) (d at : ℕ) (l : Lexeme) → d + 1 ≤ limit
      → Explains limit (meaning limit (AfterForName named x d)) at l (after_for_name named x d at l)
  explains_after_for_name named x d at (TheName i) r = takes (Some at) refl (λ h. (r, tt)) (λ h a. held _ _ _ (record {
    of = record { bound = record { n = Some (Constant named x); small = tt }; i = record { at = at; name = i }; range = a };
    spelled = simp append-nil;
    says = simp append-nil;
  }))
  explains_after_for_name named x d at (TheWord keyword.In) r = takes None tt (λ h. ready_range d r)
      (λ h a₁ a₂ a₃ a₄ a₅ a₆ a₇ a₈ a₉. held _ _ _ (record {
        of = record {
          bound = record { n = None; small = tt };
          i = record { at = named; name = x };
          range = record { first = a₁; end = a₄; carries = a₆; body = a₉ };
        };
        spelled = ap (λ t. name_at named x ∷ the_word keyword.In ∷ t) (range_tokens_are (tokens a₁.e) (tokens a₄.e) (carried_tokens a₆.c) (body_tokens a₉.b) (the_sign sign.Range) (a_sign core_sign.OpenBrace));
        says = ap (λ t. word.Counter named x ∷ t) (range_words_are (words a₁.e) (words a₄.e) (carried_words a₆.c) (body_words a₉.b) word.Range word.EndRange word.Turns);
      }))
  explains_after_for_name named x d at l r = refuses

  pub explains_carried : (d at : ℕ) (l : Lexeme) → d + 1 ≤ limit → Explains limit (meaning limit (Carried d)) at l (carried d l)
  explains_carried d at (TheWord keyword.With) r = takes None tt (λ h. (tt, (tt, ((omega arith, r), (r, tt)))))
      (λ h x a₂ a₃ a₄. let f = a₄.is x a₃.e a₃.is in record {
        part = record { c = With (f.x ∷ f.xs) f.es; fits = (f.are.fits, f.many); deep = f.are.deep };
        ends = refl;
        spelled = rw f.spelled (simp append-nil);
        says = rw f.says (simp append-nil);
      })
  explains_carried d at l r = passes (record { part = record { c = Nothing; fits = tt; deep = omega arith }; ends = refl; spelled = refl; says = refl })

  -- BODIES
  pub explains_step_end : (d at : ℕ) (l : Lexeme) → d + 1 ≤ limit → Explains limit (meaning limit (StepEnd d)) at l (step_end d l)
  explains_step_end d at (TheSign (sign.Core core_sign.Semicolon)) r = takes None tt (λ h. (r, tt)) (λ h b. held _ _ _ (λ es are. record {
    of = record { b = Do es b.b; fits = (are.fits, b.fits); deep = deep_max d _ _ limit are.deep b.deep };
    spelled = simp append-nil;
    says = simp append-nil;
  }))
  explains_step_end d at (TheSign (sign.Core core_sign.CloseBrace)) r = takes None tt (λ h. tt) (λ h. held _ _ _ (λ es are. record {
    of = record { b = Give es; fits = are.fits; deep = are.deep };
    spelled = refl;
    says = refl;
  }))
  explains_step_end d at l r = refuses

  pub explains_when_end : (d at : ℕ) (l : Lexeme) → d + 1 ≤ limit → Explains limit (lacking_meaning limit (StepEnd d)) at l (lacking_step (StepEnd d) l)
  explains_when_end d at (TheSign (sign.Core core_sign.Semicolon)) r = takes None tt (λ h. (r, tt)) (λ h b. held _ _ _ (λ t fits deep. record {
    of = record { b = When t b.b; fits = (fits, b.fits); deep = deep_max d _ _ limit (let g = deep in omega arith) b.deep };
    spelled = simp append-nil;
    says = simp append-nil;
  }))
  explains_when_end d at l r = refuses

  pub explains_target : (at : ℕ) (l : Lexeme) → Explains limit (meaning limit Target) at l (target at l)
  explains_target at (TheName x) =
      takes (Some at) refl (λ h. tt) (λ h. record { part = Bind (record { at = at; name = x }); ends = refl; spelled = refl; says = refl })
  explains_target at (TheSign (sign.Core core_sign.Underscore)) =
      takes None tt (λ h. tt) (λ h. record { part = Drop; ends = refl; spelled = refl; says = refl })
  explains_target at l = refuses

  pub explains_targets : (at : ℕ) (l : Lexeme) → Explains limit (meaning limit Targets) at l (targets l)
  explains_targets at (TheSign (sign.Core core_sign.Comma)) = takes None tt (λ h. (tt, (tt, tt)))
      (λ h t ts. record { part = t ∷ ts; ends = refl; spelled = simp append-nil; says = simp append-nil })
  explains_targets at l = passes (record { part = []; ends = refl; spelled = refl; says = refl })

  pub commas_are : (t : _) (ts : List _) → with_commas (map target_token (t ∷ ts)) ≡ target_token t ∷ after_commas (map (λ t. target_token t ∷ []) ts)
  commas_are t [] = refl
  commas_are t (u ∷ ts) = ap (λ v. target_token t ∷ a_sign core_sign.Comma ∷ v) (commas_are u ts)

  -- a step that begins with such an `if`, whether it lacks its last `else` or not
  branch_step : (d : ℕ) (c : Bool) (ss : List Spelling) (ws : Words) → Branches limit (d + 1) c ss ws
      → Given limit c (After 0 12 (d + 1) ∷ Further d ∷ StepEnd d ∷ []) (λ e ts vs. Is (meaning limit (Steps d)) e (ss ++ ts) (of_core core_word.List ∷ (ws ++ vs)))
  branch_step d true ss ws y = λ a₁ a₂ a₃.
      let z = a₃.is y.of y.fits y.deep in record {
        part = z.of;
        ends = refl;
        spelled = z.spelled ∙ rw y.spelled (simp append-nil);
        says = z.says ∙ rw y.says (simp append-nil);
      }
  branch_step d false ss ws y = λ a₁.
      let o = a₁.is y.of.0 (record { fits = y.fits; deep = y.deep }) (level_of_if y.of.0 y.of.1) (omega arith) in λ a₂ a₃.
      let b = a₂.is o.of.e o.of.is in
      let z = a₃.is b.es b.are in record {
        part = z.of;
        ends = refl;
        spelled = z.spelled ∙ ap (λ t. t ++ a₃.ss) (b.spelled ∙ ap (λ t. t ++ a₂.ss) (o.spelled ∙ ap (λ t. t ++ a₁.ss) y.spelled))
            ∙ step_tokens ss a₁.ss a₂.ss a₃.ss;
        says = z.says ∙ ap (λ t. of_core core_word.List ∷ t ++ a₃.ws) (b.says ∙ ap (λ t. t ++ a₂.ws) (o.says ∙ ap (λ t. t ++ a₁.ws) y.says))
            ∙ ap (λ t. of_core core_word.List ∷ t) (step_tokens ws a₁.ws a₂.ws a₃.ws);
      }
    where
      level_of_if : (e : Expr) → IsTrue (is_if e) → 12 ≤ level e
      level_of_if (If at p l r) h = omega arith
      level_of_if e h = absurd cc

  -- an `if`, up to what ends its first arm
  arm_of : (begun d : ℕ) (c : Bool) (ss : List Spelling) (ws : Words) → AfterArm limit begun d c ss ws → (p : Ops limit 0 (d + 2)) (b : Bodies limit false (d + 1))
      → Branches limit d c (word_at begun (keyword.Core core_keyword.If) ∷ (tokens p.e ++ (a_sign core_sign.OpenBrace ∷ (body_tokens b.b ++ ss))))
      (words p.e ++ (of_core core_word.Then ∷ (body_words b.b ++ ws)))
  arm_of begun d c ss ws f p b = let y = f p.e p.is b in record {
    of = y.of;
    fits = y.fits;
    deep = y.deep;
    spelled = y.spelled ∙ ap (λ t. word_at begun (keyword.Core core_keyword.If) ∷ t) (append_assoc (tokens p.e) (a_sign core_sign.OpenBrace ∷ body_tokens b.b) ss);
    says = y.says ∙ append_assoc (words p.e) (of_core core_word.Then ∷ body_words b.b) ws;
  }

  ready_tested : (d : ℕ) (rest : Stack) → d + 2 ≤ limit → AllReady limit rest → AllReady limit (tested d rest)
  ready_tested d rest h r = ((omega arith, h), (tt, (tt, ((let g = h in omega arith), r))))

  -- an `if` that goes on after the `else` of another one
  pub explains_arm_end : (begun d at : ℕ) (l : Lexeme) → d + 2 ≤ limit → Explains limit (meaning limit (ArmEnd begun d)) at l (arm_end begun d l)
  explains_arm_end begun d at (TheWord (keyword.Core core_keyword.Else)) r = takes None tt (λ h. (r, tt)) (λ h a. record {
    part = record { lacks = a.lacks; ss = a_word core_keyword.Else ∷ a.ss; ws = of_core core_word.Else ∷ a.ws; is = a.is };
    ends = refl;
    spelled = simp append-nil;
    says = simp append-nil;
  })
  explains_arm_end begun d at l r = lacks (record {
    part = record {
      lacks = true;
      ss = [];
      ws = word.EndWhen begun ∷ [];
      is = λ p is b. record {
        of = Last begun p b.b;
        fits = (is.fits, b.fits);
        deep = (let f : d + suc (max (suc (depth p)) (body_depth b.b)) ≤ limit = (let g = deep_max (d + 1) _ _ limit (first_deep d p is) b.deep in omega arith) in f);
        spelled = simp append-nil;
        says = refl;
      };
    };
    ends = refl;
    spelled = refl;
    says = refl;
  })
    where
      first_deep : (d : ℕ) (p : Expr) → IsExpr limit (d + 2) p → (d + 1) + suc (depth p) ≤ limit
      first_deep d p is = let g = is.deep in omega arith

  -- with what is below it on the stack
  arm_then : (T : Sort) (at : ℕ) (u : Words) (c : Bool) (Q : Stack) (P ss B : List Spelling) (V ws W : Words)
      → Given limit c Q (λ e ts vs. Is T e ((word_at at (keyword.Core core_keyword.If) ∷ (P ++ (a_sign core_sign.OpenBrace ∷ (B ++ ss)))) ++ ts)
      (u ++ ((V ++ (of_core core_word.Then ∷ (W ++ ws))) ++ vs)))
      → Given limit c Q (λ e ts vs. Is T e (word_at at (keyword.Core core_keyword.If) ∷ (P ++ (a_sign core_sign.OpenBrace ∷ (B ++ (ss ++ ts)))))
      (u ++ (V ++ (of_core core_word.Then ∷ (W ++ (ws ++ vs))))))
  arm_then T at u c Q P ss B V ws W h = given_map limit c Q _ _ (λ e ts vs y.
      as_is y (ap (λ t. word_at at (keyword.Core core_keyword.If) ∷ t) (arm_lists P ss B ts (a_sign core_sign.OpenBrace)))
      (ap (λ t. u ++ t) (arm_lists V ws W vs (of_core core_word.Then)))) h
    where
      arm_lists : {A : Type 0} (a b c d : List A) (x : A) → (a ++ (x ∷ (c ++ b))) ++ d ≡ a ++ (x ∷ (c ++ (b ++ d)))
      arm_lists a b c d x = simp (append_assoc, cons_append)

  -- a chain that ends, after the `else` of the `if` that it is in
  chain_of : (begun d : ℕ) (c : Bool) (ss : List Spelling) (ws : Words) → Branches limit (d + 1) c ss ws
      → Given limit c (ChainEnd begun ∷ []) (λ e ts vs. Is (meaning limit (StepOtherwise begun d)) e (ss ++ ts) (ws ++ vs))
  chain_of begun d true ss ws y = λ a. record {
    part = record {
      lacks = true;
      ss = ss;
      ws = ws ++ word.EndWhen begun ∷ [];
      is = λ p is b. record {
        of = Else begun p b.b y.of;
        fits = (is.fits, b.fits, y.fits);
        deep = (let f : (d + 1) + suc (depth p) ≤ limit = (let g = is.deep in omega arith) in
            let g = deep_max (d + 1) _ _ limit f (deep_max (d + 1) _ _ limit b.deep y.deep) in omega arith);
        spelled = ap (λ t. (word_at begun (keyword.Core core_keyword.If) ∷ tokens p ++ a_sign core_sign.OpenBrace ∷ body_tokens b.b) ++
            a_word core_keyword.Else ∷ t) y.spelled;
        says = append_assoc (words p ++ of_core core_word.Then ∷ body_words b.b) (of_core core_word.Else ∷ tests_words y.of) (word.EndWhen begun ∷ [])
            ∙ ap (λ t. (words p ++ of_core core_word.Then ∷ body_words b.b) ++ of_core core_word.Else ∷ (t ++ word.EndWhen begun ∷ [])) y.says;
      };
    };
    ends = refl;
    spelled = sym (append-nil ss);
    says = refl;
  }
  chain_of begun d false ss ws y = λ a. record {
    part = record {
      lacks = false;
      ss = ss;
      ws = ws ++ of_core core_word.Chain ∷ of_core (core_word.EndIf begun) ∷ [];
      is = λ p is b.
          let r : Bodies limit true (d + 1) = record { b = Chain y.of.0; fits = (refl, y.of.1, y.fits); deep = y.deep } in
          let i = if_is limit begun d p is b r in record {
            of = (If begun p b.b (Chain y.of.0), refl);
            fits = i.fits;
            deep = i.deep;
            spelled = ap (λ t. (word_at begun (keyword.Core core_keyword.If) ∷ tokens p ++ a_sign core_sign.OpenBrace ∷ body_tokens b.b) ++
                a_word core_keyword.Else ∷ t) y.spelled;
            says = append_assoc (words p ++ of_core core_word.Then ∷ body_words b.b)
                (of_core core_word.Else ∷ words y.of.0 ++ of_core core_word.Chain ∷ []) (of_core (core_word.EndIf begun) ∷ [])
                ∙ ap (λ t. (words p ++ of_core core_word.Then ∷ body_words b.b) ++ of_core core_word.Else ∷ t)
                (append_assoc (words y.of.0) (of_core core_word.Chain ∷ []) (of_core (core_word.EndIf begun) ∷ [])
                ∙ ap (λ t. t ++ of_core core_word.Chain ∷ of_core (core_word.EndIf begun) ∷ []) y.says);
          };
    };
    ends = refl;
    spelled = sym (append-nil ss);
    says = refl;
  }

  pub explains_step_otherwise : (begun d at : ℕ) (l : Lexeme) → d + 2 ≤ limit
      → Explains limit (meaning limit (StepOtherwise begun d)) at l (step_otherwise begun d at l)
  explains_step_otherwise begun d at (TheSign (sign.Core core_sign.OpenBrace)) r = takes None tt (λ h. ((let g = r in omega arith), (tt, tt))) (λ h b e. record {
    part = record {
      lacks = false;
      ss = a_sign core_sign.OpenBrace ∷ body_tokens b.b;
      ws = body_words b.b ++ of_core (core_word.EndIf begun) ∷ [];
      is = λ p is l. let i = if_is limit begun d p is l (behind_else limit (d + 1) b) in record {
        of = (If begun p l.b b.b, refl);
        fits = i.fits;
        deep = i.deep;
        spelled = ap (λ c. (word_at begun (keyword.Core core_keyword.If) ∷ tokens p ++ a_sign core_sign.OpenBrace ∷ body_tokens l.b) ++
            a_word core_keyword.Else ∷ braced c (body_tokens b.b)) (no_chain b.b b.fits);
        says = append_assoc (words p ++ of_core core_word.Then ∷ body_words l.b) (of_core core_word.Else ∷ body_words b.b)
            (of_core (core_word.EndIf begun) ∷ []);
      };
    };
    ends = refl;
    spelled = simp append-nil;
    says = refl;
  })
  explains_step_otherwise begun d at (TheWord (keyword.Core core_keyword.If)) r =
      takes (Some at) refl (λ h. ready_tested (d + 1) (ArmEnd at (d + 1) ∷ ChainEnd begun ∷ []) (let g = h in omega arith) ((let g = h in omega arith), (tt, tt)))
      (λ h a₁ a₂ a₃ a₄ a₅. arm_then (meaning limit (StepOtherwise begun d)) at [] a₅.lacks (ChainEnd begun ∷ []) (tokens a₁.e) a₅.ss (body_tokens a₄.b)
      (words a₁.e) a₅.ws (body_words a₄.b)
      (chain_of begun d a₅.lacks _ _ (arm_of at (d + 1) a₅.lacks a₅.ss a₅.ws a₅.is a₁ a₄)))
  explains_step_otherwise begun d at l r = refuses

  -- STEPS
  part_step : (d : ℕ) (c : Bool) (ss : List Spelling) (ws : Words) → Is (meaning limit (Operand 0 (d + 1))) c ss ws
      → Given limit c (Further d ∷ StepEnd d ∷ []) (λ e ts vs. Is (meaning limit (Steps d)) e (ss ++ ts) (of_core core_word.List ∷ (ws ++ vs)))
  part_step d c ss ws y = subst (λ c. Given limit c (Further d ∷ StepEnd d ∷ [])
      (λ e ts vs. Is (meaning limit (Steps d)) e (ss ++ ts) (of_core core_word.List ∷ (ws ++ vs)))) y.ends (λ a₁ a₂.
      let b = a₁.is y.part.e y.part.is in
      let z = a₂.is b.es b.are in record {
        part = z.of;
        ends = refl;
        spelled = z.spelled ∙ ap (λ t. t ++ a₂.ss) (b.spelled ∙ ap (λ t. t ++ a₁.ss) y.spelled) ∙ two_steps ss a₁.ss a₂.ss;
        says = z.says ∙ ap (λ t. of_core core_word.List ∷ t ++ a₂.ws) (b.says ∙ ap (λ t. t ++ a₁.ws) y.says)
            ∙ ap (λ t. of_core core_word.List ∷ t) (two_steps ws a₁.ws a₂.ws);
      })
    where
      two_steps : {A : Type 0} (a b c : List A) → (a ++ b) ++ c ≡ a ++ (b ++ (c ++ []))
      two_steps a b c = simp (append_assoc, append-nil)

  pub explains_steps : (d at : ℕ) (l : Lexeme) → d + 1 ≤ limit → Explains limit (meaning limit (Steps d)) at l (steps d at l)
  explains_steps d at (TheWord (keyword.Core core_keyword.Let)) r =
      takes (Some at) refl (λ h. (tt, (tt, (tt, (tt, ((omega arith, r), (r, (tt, (tt, (r, tt)))))))))) (λ h t ts a₃ a₄ a₅ a₆ a₇ a₈ b.
      let c = a₆.is a₅.e a₅.is in record {
        part = record {
          b = Let at (t ∷ ts) c.es b.b;
          fits = (omega arith, c.are.fits, b.fits);
          deep = deep_max d _ _ limit c.are.deep b.deep;
        };
        ends = refl;
        spelled = ap (λ u. (word_at at (keyword.Core core_keyword.Let) ∷ u ++ a_sign core_sign.Equals ∷ list_tokens c.es) ++
            a_sign core_sign.Semicolon ∷ body_tokens b.b) (commas_are t ts)
            ∙ ap (λ u. (word_at at (keyword.Core core_keyword.Let) ∷ target_token t ∷ after_commas (map (λ t. target_token t ∷ []) ts) ++
            a_sign core_sign.Equals ∷ u) ++ a_sign core_sign.Semicolon ∷ body_tokens b.b) c.spelled
            ∙ ap (λ u. word_at at (keyword.Core core_keyword.Let) ∷ target_token t ∷ u)
            (let_tokens_are (after_commas (map (λ t. target_token t ∷ []) ts)) (tokens a₅.e) a₆.ss (body_tokens b.b) (a_sign core_sign.Equals)
            (a_sign core_sign.Semicolon));
        says = ap (λ u. (of_core (core_word.Let at) ∷ target_word t ∷ map target_word ts ++ of_core core_word.List ∷ u) ++
            of_core (core_word.EndLet at) ∷ body_words b.b) c.says
            ∙ ap (λ u. of_core (core_word.Let at) ∷ target_word t ∷ u)
            (let_tokens_are (map target_word ts) (words a₅.e) a₆.ws (body_words b.b) (of_core core_word.List) (of_core (core_word.EndLet at)));
      })
  explains_steps d at (TheWord (keyword.Core core_keyword.If)) r = takes (Some at) refl
      (λ h. ready_tested (d + 1) (ArmEnd at (d + 1) ∷ After 0 12 (d + 1) ∷ Further d ∷ StepEnd d ∷ []) (let g = h in omega arith)
      ((let g = h in omega arith), (r, (r, (r, tt)))))
      (λ h a₁ a₂ a₃ a₄ a₅. arm_then (meaning limit (Steps d)) at (of_core core_word.List ∷ []) a₅.lacks (After 0 12 (d + 1) ∷ Further d ∷ StepEnd d ∷ [])
      (tokens a₁.e) a₅.ss (body_tokens a₄.b) (words a₁.e) a₅.ws (body_words a₄.b)
      (branch_step d a₅.lacks _ _ (arm_of at (d + 1) a₅.lacks a₅.ss a₅.ws a₅.is a₁ a₄)))
  explains_steps d at l r = explains_above limit (meaning limit (Operand 0 (d + 1))) (meaning limit (Steps d)) at l (of_core core_word.List ∷ [])
      (Further d ∷ StepEnd d ∷ []) (r, (r, tt)) (part_step d) _ (explains_operand limit 0 (d + 1) at l (omega arith)) (operand_stays limit 0 (d + 1) at l)
