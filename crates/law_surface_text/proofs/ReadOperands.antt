-- COMPLETE, operands: the automaton reads the tokens of a fitting expression, and appends its words. The parts of the expression
-- are hypotheses here.
use Rattle.std.proofs.Common.{◌≡◌, ℕ, zero, suc, ◌+◌, ◌<◌, ◌≤◌, max, Bool, true, false, List, [], ◌∷◌, ◌++◌, Option, Some, refl, sym, ap, ◌∙◌}
use Rattle.std.proofs.Common.{subst, append_assoc, append-nil, arith, inl, inr}
use Rattle.std.specs.Prelude.{◌^◌, ◌⊎◌, if◌then◌else◌}
use Rattle.std.proofs.lemmas.Bool.{le-leb, lt-ltb}
use Rattle.std.proofs.Math.Nat.{le-max_left, le-max_right}
use Rattle.operators.specs.declared.Unary.TheVariants.{Neg, Not as Inverted}
use Rattle.source.specs.declared.token.Keyword.TheVariants as core_keyword
use Rattle.source.specs.declared.token.Sign.TheVariants as core_sign
use Rattle.source.specs.declared.word.Word.TheVariants as core_word
use Rattle.source.specs.Tree.{Name}
use Rattle.surface.specs.declared.token.Keyword.TheVariants as keyword
use Rattle.surface.specs.declared.token.Sign.TheVariants as sign
use Rattle.surface.specs.declared.word.Word.{Word}
use Rattle.surface.specs.declared.word.Word.TheVariants as word
use Rattle.surface.specs.Tree.{Expr, Number, Named, Bracket, Prefix, Infix, And, Or, Not, Fetch, Store, Call, Exprs, One, More}
use Rattle.surface.specs.Spelled.{Lexeme, TheWord, TheSign, TheNumber, TheName, Spelling, a_sign, sign_at, name_at, tokens, list_tokens}
use Rattle.surface.specs.Fits.{level, Fits, IsLeast, depth, list_depth, prefix_depth}
use Rattle.surface.specs.Words.{Words, of_core, words, part_words, index_words}
use Rattle.law_surface_text.specs.declared.symbol.Symbol.TheVariants.{Emit, Operand, Negated, After, AfterName, AfterIndexes, Callee, Further}
use Rattle.law_surface_text.specs.declared.symbol.Symbol.TheVariants.{Indexes}
use Rattle.law_surface_text.specs.Automaton.{Stack, Outcome, Takes, Refuses, Passes, Placed, Operator, Joins, operator_level, operand_level}
use Rattle.law_surface_text.specs.Automaton.{ended_then, between, joined, small, operand, negated, step, advance, advance_by, close_bracket, close_paren, open_paren}
use Rattle.law_surface_text.proofs.Meaning.{IsExpr, AreAll}
use Rattle.law_surface_text.proofs.ExplainOperands.{operator_lexeme, level_most}
use Rattle.law_surface_text.proofs.Followed.{Stops, Closes, Ends, stops, stops_more, starting_map, operator_stops, level_below, none_at_three, after_takes}
use Rattle.law_surface_text.proofs.Followed.{pass_after, pass_end, pass_name, pass_indexes, further_passes, indexes_pass, least_level}
use Rattle.law_surface_text.proofs.Reading.{Reads, reading, read_on, Follows, Starting, then_none, reads_as, reads_none}
use Rattle.law_surface_text.proofs.Reading.{reads_upto, reads_from, reads_pass, reads_at, reads_any, reads_sign, reads_emit, emit_passes}
use Rattle.law_surface_text.proofs.Reading.{symbol_passes}

-- what is shallow enough where an operand of it is
pub shallow : (d a b limit : ℕ) → d + max a b ≤ limit → (d + a ≤ limit) × (d + b ≤ limit)
shallow d a b limit h = let f = le-max_left a b in let g = le-max_right a b in (omega arith, omega arith)

-- what is on the stack after an expression
abbrev pub rest_of : Expr → ℕ → ℕ → Stack → Stack
rest_of (Store at a es e) m d S = S
rest_of e m d S = After m (level e) d ∷ S

rest_is : (e : Expr) (m d : ℕ) (S : Stack) → 1 ≤ level e → rest_of e m d S ≡ After m (level e) d ∷ S
rest_is (Store at a es e) m d S h = absurd (omega arith)
rest_is e m d S h = refl

pub small_is : (n : ℕ) (o : Outcome) → n < 2 ^ 63 → small n o ≡ o
small_is n o h = rw (lt-ltb n (2 ^ 63) h) refl

module _ (limit : ℕ) where
  abbrev pub ExprReads : Expr → Type 0
  ExprReads e = (m d : ℕ) (S : Stack) → IsExpr limit d e → m ≤ level e
      → Reads limit (Operand m d ∷ S) (tokens e) (words e) (Starting (Stops (level e))) (reading limit (rest_of e m d S))

  -- AN EXPRESSION ALONE
  end_of : (S T : Stack) (ss : List Spelling) (ws : Words) (k d : ℕ) → Reads limit S ss ws (Starting (Stops k)) (reading limit (After 0 k d ∷ T))
      → Reads limit S ss ws (Starting (Stops 0)) (reading limit T)
  end_of S T ss ws k d r = reads_as limit (reads_pass limit (Starting (Stops 0)) [] (λ i h. starting_map _ _ (λ l s. stops_more 0 k l (omega arith) s) i h)
      (λ i h. pass_end limit T k d i h) r) refl (append-nil ws)

  pub expr_ends : (e : Expr) (d : ℕ) (S : Stack) → ExprReads e → IsExpr limit d e
      → Reads limit (Operand 0 d ∷ S) (tokens e) (words e) (Starting (Stops 0)) (reading limit S)
  expr_ends (Store at a es g) d S f is = f 0 d S is (omega arith)
  expr_ends e d S f is = end_of _ S _ _ (level e) d (f 0 d S is (omega arith))

  -- with what closes it
  pub reads_expr : {S : Stack} {ts : List Spelling} {vs : Words} {M : List Placed → Type 0} {k : List Placed → Option Words} (e : Expr) (d : ℕ) → ExprReads e
      → IsExpr limit d e → (t : Spelling) → Closes t.lexeme
      → Reads limit S (t ∷ ts) vs M k → Reads limit (Operand 0 d ∷ S) (tokens e ++ t ∷ ts) (words e ++ vs) M k
  reads_expr {S = S} e d f is t c l = reads_upto limit (Stops 0) t (stops 0 t.lexeme c) (expr_ends e d S f is) l

  -- an operand of level 1 or more
  pub operand_reads : (e : Expr) (m d : ℕ) (S : Stack) → ExprReads e → IsExpr limit d e → m ≤ level e → 1 ≤ level e
      → Reads limit (Operand m d ∷ S) (tokens e) (words e) (Starting (Stops (level e))) (reading limit (After m (level e) d ∷ S))
  operand_reads e m d S f is low h =
      subst (λ T. Reads limit (Operand m d ∷ S) (tokens e) (words e) (Starting (Stops (level e))) (reading limit T)) (rest_is e m d S h) (f m d S is low)

  -- LEAVES
  pub reads_number : (at n : ℕ) → ExprReads (Number at n)
  reads_number at n m d S is low = reads_at limit (Operand m d) at (TheNumber n) d (of_core (core_word.Number at n) ∷ []) (After m 12 d ∷ [])
      (small_is n _ is.fits) (let g = is.deep in omega arith) (reads_none limit (After m 12 d ∷ S))

  pub reads_named : (at : ℕ) (x : Name) → ExprReads (Named at x)
  reads_named at x m d S is low = reads_pass limit (Starting (Stops 12)) (of_core (core_word.Name at x) ∷ []) (λ r h. h) (λ r h. pass_name limit S at x m d 12 r h)
      (reads_at limit (Operand m d) at (TheName x) d [] (AfterName at x m d ∷ []) refl (let g = is.deep in omega arith)
      (reads_none limit (AfterName at x m d ∷ S)))

  -- BRACKETS
  pub reads_bracket : (e : Expr) → ExprReads e → ExprReads (Bracket e)
  reads_bracket e f m d S is low = reads_any limit (Operand m d) (TheSign (sign.Core core_sign.OpenParen)) (d + 1) []
      (Operand 0 (d + 1) ∷ close_paren ∷ Emit (of_core core_word.Bracket) ∷ After m 12 d ∷ []) (λ at. refl) (let g = is.deep in omega arith)
      (reads_expr e (d + 1) f (record { fits = is.fits; deep = (let g = is.deep in omega arith) }) (a_sign core_sign.CloseParen)
      (record { plain = refl; none = refl })
      (reads_sign limit (sign.Core core_sign.CloseParen) (reads_emit limit (of_core core_word.Bracket) (reads_none limit (After m 12 d ∷ S)))))

  -- PREFIXES: an operand, a word, and what may follow both
  prefixed : (e : Expr) (m n d j : ℕ) (S X : Stack) (w : Word Name) → n ≤ level e → ((o : Operator) → operand_level o ≤ n → operator_level o < n)
      → Reads limit X (tokens e) (words e) (Starting (Stops (level e))) (reading limit (After n (level e) (d + 1) ∷ Emit w ∷ After m n d ∷ S))
      → Reads limit X (tokens e) (words e ++ w ∷ []) (Starting (Stops n)) (reading limit (After m n d ∷ S))
  prefixed e m n d j S X w h f r =
      reads_pass limit {T = Emit w ∷ After m n d ∷ S} {N = Starting (Stops n)} (Starting (Stops n)) (w ∷ []) (λ i g. g)
      (λ i g. emit_passes limit w (After m n d ∷ S) i)
      (reads_as limit (reads_pass limit (Starting (Stops n)) [] (λ i g. starting_map _ _ (λ l s. stops_more n (level e) l h s) i g)
      (λ i g. pass_after limit (Emit w ∷ After m n d ∷ S) n (level e) (d + 1) n f i g) r) refl (append-nil (words e)))

  below_eleven : (o : Operator) → operand_level o ≤ 11 → operator_level o < 11
  below_eleven o h = let g = level_most o in omega arith

  pub reads_inverted : (at : ℕ) (e : Expr) → ExprReads e → ExprReads (Prefix at Inverted e)
  reads_inverted at e f m d S is low =
      let inside : IsExpr limit (d + 1) e = record { fits = not_least is.fits.1; deep = (let g = is.deep in omega arith) } in
      let Z : Stack = Emit (of_core (core_word.Prefix at Inverted)) ∷ After m 11 d ∷ S in
      reads_at limit (Operand m d) at (TheSign (sign.Core core_sign.Tilde)) (d + 1) []
      (Operand 11 (d + 1) ∷ Emit (of_core (core_word.Prefix at Inverted)) ∷ After m 11 d ∷ []) refl (let g = is.deep in omega arith)
      (prefixed e m 11 d 0 S (Operand 11 (d + 1) ∷ Z) (of_core (core_word.Prefix at Inverted)) is.fits.0 below_eleven
      (operand_reads e 11 (d + 1) Z f inside is.fits.0 (let g = is.fits.0 in omega arith)))
    where
      not_least : Fits e ⊎ IsLeast Inverted e → Fits e
      not_least (inl h) = h
      not_least (inr h) = absurd h

  pub reads_not : (at : ℕ) (e : Expr) → ExprReads e → ExprReads (Not at e)
  reads_not at e f m d S is low =
      let inside : IsExpr limit (d + 1) e = record { fits = is.fits.0; deep = (let g = is.deep in omega arith) } in
      let Z : Stack = Emit (word.Not at) ∷ After m 3 d ∷ S in
      reads_at limit (Operand m d) at (TheWord keyword.Not) (d + 1) [] (Operand 3 (d + 1) ∷ Emit (word.Not at) ∷ After m 3 d ∷ [])
      (rw (le-leb m 3 low) refl) (let g = is.deep in omega arith)
      (prefixed e m 3 d 0 S (Operand 3 (d + 1) ∷ Z) (word.Not at) is.fits.1 none_at_three
      (operand_reads e 3 (d + 1) Z f inside is.fits.1 (let g = is.fits.1 in omega arith)))

  -- under a `-`, where what follows is no number
  negated_as : (d : ℕ) (Z : Stack) (i : List Placed) → Starting (λ l. (at : ℕ) → negated d at l ≡ operand 11 (d + 1) at l) i
      → reading limit (Negated d ∷ Z) i ≡ ended_then (Some []) (reading limit (Operand 11 (d + 1) ∷ Z) i)
  negated_as d Z [] h = absurd h
  negated_as d Z (p ∷ i) h =
      ap (λ o. read_on (advance_by limit o Z (λ b. advance limit Z b p.at p.lexeme)) (λ T. reading limit T i)) (h p.at)
      ∙ sym (then_none (reading limit (Operand 11 (d + 1) ∷ Z) (p ∷ i)))

  abbrev NoNumber : ℕ → List Placed → Type 0
  NoNumber d i = Starting (λ l. (at : ℕ) → negated d at l ≡ operand 11 (d + 1) at l) i

  abbrev BeginsSo : ℕ → List Spelling → Type 0
  BeginsSo d [] = ⊥
  BeginsSo d (s ∷ ss) = (at : ℕ) → negated d at s.lexeme ≡ operand 11 (d + 1) at s.lexeme

  begins_so : (d : ℕ) (ss : List Spelling) → BeginsSo d ss → (i r : List Placed) → Follows ss i r → NoNumber d i
  begins_so d [] h i r f = absurd h
  begins_so d (s ∷ ss) h [] r f = absurd f
  begins_so d (s ∷ ss) h (p ∷ i) r f = λ at. ap (λ x. negated d at x) f.0.0 ∙ h at ∙ ap (λ x. operand 11 (d + 1) at x) (sym f.0.0)

  no_number : (e : Expr) (d : ℕ) → 11 ≤ level e → prefix_depth Neg e (depth e) ≡ suc (depth e) → BeginsSo d (tokens e)
  no_number (Number at n) d h k = absurd (omega arith)
  no_number (Infix at s e g) d h k = absurd (let l = level_most (Joins s) in omega arith)
  no_number (And at e g) d h k = absurd (omega arith)
  no_number (Or at e g) d h k = absurd (omega arith)
  no_number (Call at true g es) d h k = λ at. refl
  no_number (Call at false g es) d h k = λ at. refl
  no_number (Prefix at Neg e) d h k = λ at. refl
  no_number (Prefix at Inverted e) d h k = λ at. refl
  no_number e d h k = λ at. refl

  minus : {ss : List Spelling} {vs : Words} {M : List Placed → Type 0} {k : List Placed → Option Words} (at m d : ℕ) (S : Stack) → d ≤ limit
      → Reads limit (Negated d ∷ Emit (of_core (core_word.Prefix at Neg)) ∷ After m 11 d ∷ S) ss vs M k
      → Reads limit (Operand m d ∷ S) (sign_at at (sign.Core core_sign.Minus) ∷ ss) vs M k
  minus at m d S h l = reads_at limit (Operand m d) at (TheSign (sign.Core core_sign.Minus)) d []
      (Negated d ∷ Emit (of_core (core_word.Prefix at Neg)) ∷ After m 11 d ∷ []) refl h l

  reads_deeper : (at : ℕ) (e : Expr) → ExprReads e → prefix_depth Neg e (depth e) ≡ suc (depth e) → (Fits e ⊎ IsLeast Neg e → Fits e) → ExprReads (Prefix at Neg e)
  reads_deeper at e f k g m d S is low =
      let Z : Stack = Emit (of_core (core_word.Prefix at Neg)) ∷ After m 11 d ∷ S in
      let inside : IsExpr limit (d + 1) e = record { fits = g is.fits.1; deep = (let h = is.deep in omega arith) } in
      let r : Reads limit (Negated d ∷ Z) (tokens e) (words e) (Starting (Stops (level e))) (reading limit (After 11 (level e) (d + 1) ∷ Z)) =
      reads_from limit {N = NoNumber d} [] (λ i n. negated_as d Z i n) (λ i r h n. begins_so d (tokens e) (no_number e d is.fits.0 k) i r h)
      (operand_reads e 11 (d + 1) Z f inside is.fits.0 (let h = is.fits.0 in omega arith)) in
      minus at m d S (let h = is.deep in omega arith)
      (prefixed e m 11 d 0 S (Negated d ∷ Z) (of_core (core_word.Prefix at Neg)) is.fits.0 below_eleven r)

  reads_least : (at there n : ℕ) → ExprReads (Prefix at Neg (Number there n))
  reads_least at there n m d S is low =
      minus at m d S (let h = is.deep in omega arith)
      (reads_at limit (Negated d) there (TheNumber n) 0 (of_core (core_word.Number there n) ∷ []) []
      (ap (λ b. if b then Takes 0 (of_core (core_word.Number there n) ∷ []) [] else Refuses) (le-leb n (2 ^ 63) (at_most is.fits.1))) (omega arith)
      (reads_emit limit (of_core (core_word.Prefix at Neg)) (reads_none limit (After m 11 d ∷ S))))
    where
      at_most : Fits (Number there n) ⊎ IsLeast Neg (Number there n) → n ≤ 2 ^ 63
      at_most (inl h) = omega arith
      at_most (inr h) = omega arith

  pub reads_neg : (at : ℕ) (e : Expr) → ExprReads e → ExprReads (Prefix at Neg e)
  reads_neg at (Number there n) f = reads_least at there n
  reads_neg at e f = reads_deeper at e f refl no_least
    where
      no_least : Fits e ⊎ IsLeast Neg e → Fits e
      no_least (inl h) = h
      no_least (inr h) = absurd h

  -- OPERATORS
  pub reads_join : (o : Operator) (at : ℕ) (l r : Expr) → ExprReads l → ExprReads r → Fits l → operand_level o ≤ level l → Fits r → operator_level o < level r
      → (m d : ℕ) (S : Stack) → d + max (depth l) (depth r) ≤ limit → m ≤ operator_level o
      → Reads limit (Operand m d ∷ S) (tokens l ++ record { place = Some at; lexeme = operator_lexeme o } ∷ tokens r)
      (words l ++ between o ∷ words r ++ joined o at ∷ []) (Starting (Stops (operator_level o))) (reading limit (After m (operator_level o) d ∷ S))
  reads_join o at l r f g fits high fits_too above m d S deep low =
      let both = shallow d (depth l) (depth r) limit deep in
      let Z : Stack = Emit (joined o at) ∷ After m (operator_level o) d ∷ S in
      let j : ℕ = operator_level o in
      let least = least_level o in
      let under = level_below o in
      let right : Reads limit (Operand (j + 1) d ∷ Z) (tokens r) (words r) (Starting (Stops (level r))) (reading limit (After (j + 1) (level r) d ∷ Z)) =
      operand_reads r (j + 1) d Z g (record { fits = fits_too; deep = both.1 }) (omega arith) (omega arith) in
      let passed : Reads limit (Operand (j + 1) d ∷ Z) (tokens r) (words r ++ []) (Starting (Stops j)) (reading limit Z) =
      reads_pass limit (Starting (Stops j)) [] (λ i h. starting_map _ _ (λ x s. stops_more j (level r) x (omega arith) s) i h)
      (λ i h. pass_after limit Z (j + 1) (level r) d j (λ q h. (let k = level_below q in omega arith)) i h) right in
      let ended : Reads limit (Operand (j + 1) d ∷ Z) (tokens r) (words r ++ joined o at ∷ []) (Starting (Stops j)) (reading limit (After m j d ∷ S)) =
      reads_pass limit (Starting (Stops j)) (joined o at ∷ []) (λ i h. h) (λ i h. emit_passes limit (joined o at) (After m j d ∷ S) i)
      (reads_as limit passed refl (append-nil (words r))) in
      reads_as limit (reads_upto limit (Stops (level l)) (record { place = Some at; lexeme = operator_lexeme o }) (operator_stops (level l) o high)
      (operand_reads l m d S f (record { fits = fits; deep = both.0 }) (omega arith) (omega arith))
      (reads_at limit (After m (level l) d) at (operator_lexeme o) 0 (between o ∷ [])
      (Operand (j + 1) d ∷ Emit (joined o at) ∷ After m j d ∷ []) (after_takes m (level l) d at o low high) (omega arith) ended))
      refl (sym (append_assoc (words l) (between o ∷ words r) (joined o at ∷ [])))

  -- LISTS
  abbrev pub Parts : Exprs → Type 0
  Parts es = (d : ℕ) (S : Stack) → AreAll limit d es
      → Reads limit (Operand 0 (d + 1) ∷ Further d ∷ S) (list_tokens es) (part_words es) (Starting Ends) (reading limit S)

  abbrev pub Indexed : Exprs → Type 0
  Indexed es = (d : ℕ) (S : Stack) → AreAll limit d es
      → Reads limit (Operand 0 (d + 1) ∷ Indexes d ∷ S) (list_tokens es) (index_words es) (Starting Ends) (reading limit S)

  pub ending : (l : Lexeme) → Ends l → Stops 0 l
  ending l h = stops 0 l h.closes

  pub is_first : (d : ℕ) (e : Expr) (es : Exprs) → AreAll limit d (More e es) → IsExpr limit (d + 1) e
  is_first d e es are = record { fits = are.fits.0; deep = (let g = (shallow d (suc (depth e)) (list_depth es) limit are.deep).0 in omega arith) }

  pub are_others : (d : ℕ) (e : Expr) (es : Exprs) → AreAll limit d (More e es) → AreAll limit d es
  are_others d e es are = record { fits = are.fits.1; deep = (shallow d (suc (depth e)) (list_depth es) limit are.deep).1 }

  pub is_only : (d : ℕ) (e : Expr) → AreAll limit d (One e) → IsExpr limit (d + 1) e
  is_only d e are = record { fits = are.fits; deep = (let g = are.deep in omega arith) }

  pub at_least_one : (d : ℕ) (es : Exprs) → AreAll limit d es → d + 1 ≤ limit
  at_least_one d (One e) are = let g = are.deep in omega arith
  at_least_one d (More e es) are = let g = (is_first d e es are).deep in omega arith

  pub parts_one : (e : Expr) → ExprReads e → Parts (One e)
  parts_one e f d S are = reads_pass limit (Starting Ends) (of_core core_word.Part ∷ []) (λ r h. starting_map Ends (Stops 0) ending r h)
      (λ r h. symbol_passes limit (Further d) S (of_core core_word.Part ∷ []) r
      (starting_map Ends (λ l. (at : ℕ) → step (Further d) at l ≡ Passes (of_core core_word.Part ∷ [])) (λ l h at. further_passes d l h.other) r h))
      (expr_ends e (d + 1) (Further d ∷ S) f (is_only d e are))

  pub parts_more : (e : Expr) (es : Exprs) → ExprReads e → Parts es → Parts (More e es)
  parts_more e es f g d S are = reads_expr e (d + 1) f (is_first d e es are) (a_sign core_sign.Comma) (record { plain = refl; none = refl })
      (reads_any limit (Further d) (TheSign (sign.Core core_sign.Comma)) 0 (of_core core_word.Part ∷ []) (Operand 0 (d + 1) ∷ Further d ∷ []) (λ at. refl)
      (omega arith) (g d S (are_others d e es are)))

  pub indexed_one : (e : Expr) → ExprReads e → Indexed (One e)
  indexed_one e f d S are = reads_as limit (reads_pass limit (Starting Ends) [] (λ r h. starting_map Ends (Stops 0) ending r h)
      (λ r h. symbol_passes limit (Indexes d) S [] r
      (starting_map Ends (λ l. (at : ℕ) → step (Indexes d) at l ≡ Passes []) (λ l h at. indexes_pass d l h.other) r h))
      (expr_ends e (d + 1) (Indexes d ∷ S) f (is_only d e are))) refl (append-nil (words e))

  pub indexed_more : (e : Expr) (es : Exprs) → ExprReads e → Indexed es → Indexed (More e es)
  indexed_more e es f g d S are = reads_expr e (d + 1) f (is_first d e es are) (a_sign core_sign.Comma) (record { plain = refl; none = refl })
      (reads_any limit (Indexes d) (TheSign (sign.Core core_sign.Comma)) 0 (word.NextIndex ∷ []) (Operand 0 (d + 1) ∷ Indexes d ∷ []) (λ at. refl)
      (omega arith) (g d S (are_others d e es are)))

  -- with what ends them
  pub reads_list : {S : Stack} {ts : List Spelling} {vs : Words} {M : List Placed → Type 0} {k : List Placed → Option Words} (es : Exprs) (d : ℕ) → Parts es
      → AreAll limit d es → (t : Spelling) → Ends t.lexeme → Reads limit S (t ∷ ts) vs M k
      → Reads limit (Operand 0 (d + 1) ∷ Further d ∷ S) (list_tokens es ++ t ∷ ts) (part_words es ++ vs) M k
  reads_list {S = S} es d f are t h l = reads_upto limit Ends t h (f d S are) l

  reads_indexes : {S : Stack} {ts : List Spelling} {vs : Words} {M : List Placed → Type 0} {k : List Placed → Option Words} (es : Exprs) (d : ℕ) → Indexed es
      → AreAll limit d es → (t : Spelling) → Ends t.lexeme → Reads limit S (t ∷ ts) vs M k
      → Reads limit (Operand 0 (d + 1) ∷ Indexes d ∷ S) (list_tokens es ++ t ∷ ts) (index_words es ++ vs) M k
  reads_indexes {S = S} es d f are t h l = reads_upto limit Ends t h (f d S are) l

  -- CELLS
  cell : {ts : List Spelling} {vs : Words} {M : List Placed → Type 0} {k : List Placed → Option Words} (at : ℕ) (a : Name) (es : Exprs) (m d : ℕ) (S : Stack)
      → Indexed es → AreAll limit d es → Reads limit (AfterIndexes at a m d ∷ S) ts vs M k
      → Reads limit (Operand m d ∷ S) (name_at at a ∷ a_sign core_sign.OpenBracket ∷ (list_tokens es ++ a_sign core_sign.CloseBracket ∷ ts))
      (of_core (core_word.Cell at a) ∷ (index_words es ++ vs)) M k
  cell at a es m d S f are l = let some = at_least_one d es are in
      reads_at limit (Operand m d) at (TheName a) d [] (AfterName at a m d ∷ []) refl (omega arith)
      (reads_any limit (AfterName at a m d) (TheSign (sign.Core core_sign.OpenBracket)) (d + 1) (of_core (core_word.Cell at a) ∷ [])
      (Operand 0 (d + 1) ∷ Indexes d ∷ close_bracket ∷ AfterIndexes at a m d ∷ []) (λ there. refl) some
      (reads_indexes es d f are (a_sign core_sign.CloseBracket) (record { closes = record { plain = refl; none = refl }; other = refl })
      (reads_sign limit (sign.Core core_sign.CloseBracket) l)))

  pub reads_fetch : (at : ℕ) (a : Name) (es : Exprs) → Indexed es → ExprReads (Fetch at a es)
  reads_fetch at a es f m d S is low =
      reads_as limit (reads_pass limit (Starting (Stops 12)) (of_core (core_word.Fetch at a) ∷ []) (λ r h. h) (λ r h. pass_indexes limit S at a m d 12 r h)
      (cell at a es m d S f (record { fits = is.fits; deep = is.deep }) (reads_none limit (AfterIndexes at a m d ∷ S)))) refl
      (ap (λ t. of_core (core_word.Cell at a) ∷ (t ++ of_core (core_word.Fetch at a) ∷ [])) (append-nil (index_words es)))

  pub reads_store : (at : ℕ) (a : Name) (es : Exprs) (e : Expr) → Indexed es → ExprReads e → ExprReads (Store at a es e)
  reads_store at a es e f g (suc m) d S is low = absurd (omega arith)
  reads_store at a es e f g zero d S is low =
      let both = shallow d (list_depth es) (suc (depth e)) limit is.deep in
      let stored : Reads limit (Operand 0 (d + 1) ∷ Emit (of_core (core_word.Store at a)) ∷ S) (tokens e) (words e ++ of_core (core_word.Store at a) ∷ [])
      (Starting (Stops 0)) (reading limit S) =
      reads_pass limit (Starting (Stops 0)) (of_core (core_word.Store at a) ∷ []) (λ r h. h) (λ r h. emit_passes limit (of_core (core_word.Store at a)) S r)
      (expr_ends e (d + 1) (Emit (of_core (core_word.Store at a)) ∷ S) g (record { fits = is.fits.1; deep = (let h = both.1 in omega arith) })) in
      reads_as limit (cell at a es 0 d S f (record { fits = is.fits.0; deep = both.0 })
      (reads_any limit (AfterIndexes at a 0 d) (TheSign (sign.Core core_sign.Becomes)) 0 (of_core core_word.Index ∷ [])
      (Operand 0 (d + 1) ∷ Emit (of_core (core_word.Store at a)) ∷ []) (λ there. refl) (omega arith) stored)) refl
      (sym (append_assoc (of_core (core_word.Cell at a) ∷ index_words es) (of_core core_word.Index ∷ words e) (of_core (core_word.Store at a) ∷ [])))

  -- CALLS
  pub reads_call : (at : ℕ) (strict : Bool) (g : Name) (es : Exprs) → Parts es → ExprReads (Call at strict g es)
  reads_call at false g es f m d S is low =
      let are : AreAll limit d es = record { fits = is.fits; deep = is.deep } in
      let some = at_least_one d es are in
      reads_at limit (Operand m d) at (TheName g) d [] (AfterName at g m d ∷ []) refl (omega arith)
      (reads_any limit (AfterName at g m d) (TheSign (sign.Core core_sign.OpenParen)) (d + 1) (of_core (core_word.Callee at g) ∷ of_core core_word.List ∷ [])
      (Operand 0 (d + 1) ∷ Further d ∷ close_paren ∷ Emit (of_core (core_word.Call at false g)) ∷ After m 12 d ∷ []) (λ there. refl) some
      (reads_list es d f are (a_sign core_sign.CloseParen) (record { closes = record { plain = refl; none = refl }; other = refl })
      (reads_sign limit (sign.Core core_sign.CloseParen) (reads_emit limit (of_core (core_word.Call at false g)) (reads_none limit (After m 12 d ∷ S))))))
  reads_call at true g es f m d S is low =
      let are : AreAll limit d es = record { fits = is.fits; deep = is.deep } in
      let some = at_least_one d es are in
      reads_any limit (Operand m d) (TheWord (keyword.Core core_keyword.Strict)) (d + 1) [] (Callee d ∷ After m 12 d ∷ []) (λ there. refl) some
      (reads_at limit (Callee d) at (TheName g) 0 (of_core (core_word.Callee at g) ∷ of_core core_word.List ∷ [])
      (open_paren ∷ Operand 0 (d + 1) ∷ Further d ∷ close_paren ∷ Emit (of_core (core_word.Call at true g)) ∷ []) refl (omega arith)
      (reads_sign limit (sign.Core core_sign.OpenParen)
      (reads_list es d f are (a_sign core_sign.CloseParen) (record { closes = record { plain = refl; none = refl }; other = refl })
      (reads_sign limit (sign.Core core_sign.CloseParen) (reads_emit limit (of_core (core_word.Call at true g)) (reads_none limit (After m 12 d ∷ S)))))))
