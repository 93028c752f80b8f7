-- COMPLETE, loops.
use Rattle.std.proofs.Common.{◌≡◌, ℕ, suc, ◌+◌, ◌≤◌, max, false, List, [], ◌∷◌, ◌++◌, length, Option, None, Some, refl, sym, ap}
use Rattle.std.proofs.Common.{append_assoc, append-nil, arith}
use Rattle.std.specs.Prelude.{⊤}
use Rattle.source.specs.declared.token.Keyword.TheVariants as core_keyword
use Rattle.source.specs.declared.token.Sign.TheVariants as core_sign
use Rattle.source.specs.declared.word.Word.TheVariants as core_word
use Rattle.source.specs.Tree.{NameAt}
use Rattle.surface.specs.declared.token.Keyword.TheVariants as keyword
use Rattle.surface.specs.declared.token.Sign.TheVariants as sign
use Rattle.surface.specs.declared.word.Word.TheVariants as word
use Rattle.surface.specs.Tree.{Count, Written, Constant, Expr, Loop, For, Exprs, One, More, Body, Turn as ATurn, Before, After as TestLast}
use Rattle.surface.specs.Tree.{Carried as ACarried, Nothing, With, names_of}
use Rattle.surface.specs.Spelled.{TheWord, TheSign, TheNumber, TheName, Spelling, the_word, the_sign, a_word, a_sign, word_at, name_token, count_token}
use Rattle.surface.specs.Spelled.{count_tokens, tokens, first_tokens, body_tokens, turn_tokens, carried_tokens}
use Rattle.surface.specs.Fits.{count, FitsBody, FitsTurn, FitsCarried, IsSmallIfWritten, depth, list_depth, body_depth, turn_depth, carried_depth}
use Rattle.surface.specs.Words.{Words, of_core, bound_word, bound_words, end_loop, words, first_words, body_words, turn_words, carried_words}
use Rattle.law_surface_text.specs.declared.symbol.NameWord.TheVariants as naming
use Rattle.law_surface_text.specs.declared.symbol.Symbol.TheVariants.{Emit, Name as OneName, Steps, Operand, After, Bound, Starts, Turn, ForBound}
use Rattle.law_surface_text.specs.declared.symbol.Symbol.TheVariants.{AfterForName, Range, Carried}
use Rattle.law_surface_text.specs.Automaton.{Stack, Passes, Placed, step, first_of, loop_rest, range_rest, open_paren, close_paren, open_brace}
use Rattle.law_surface_text.specs.declared.symbol.Symbol.TheVariants.{Keyword as OneWord}
use Rattle.law_surface_text.proofs.Meaning.{IsExpr, AreAll}
use Rattle.law_surface_text.proofs.Followed.{Stops, Ends, starting_map, starts_pass}
use Rattle.law_surface_text.proofs.Reading.{Reads, reading, Any, Starting, reads_as, reads_none, reads_then, reads_upto, reads_pass, reads_at, reads_any}
use Rattle.law_surface_text.proofs.Reading.{reads_sign, reads_word, reads_emit, emit_passes, reads_passed, symbol_passes}
use Rattle.law_surface_text.proofs.ReadOperands.{shallow, small_is, ExprReads, expr_ends, reads_expr, ending, is_first, are_others, is_only, at_least_one}

for_tokens_are : {A : Type 0} (n a b c e : List A) (i k x y : A)
    → n ++ (i ∷ (k ∷ (a ++ (x ∷ (b ++ (c ++ (y ∷ e))))))) ≡ (((n ++ i ∷ k ∷ a) ++ x ∷ b) ++ c) ++ y ∷ e
for_tokens_are n a b c e i k x y = simp append_assoc

for_words_are : {A : Type 0} (n a b c e : List A) (i x y z f : A)
    → n ++ (i ∷ ((a ++ (x ∷ (b ++ (y ∷ (c ++ (z ∷ e)))))) ++ f ∷ [])) ≡ ((((n ++ i ∷ a) ++ x ∷ b) ++ y ∷ c) ++ z ∷ e) ++ f ∷ []
for_words_are n a b c e i x y z f = simp (append_assoc, cons_append)
  where
    cons_append : {A : Type 0} (x : A) (a b : List A) → (x ∷ a) ++ b ≡ x ∷ (a ++ b)
    cons_append x a b = refl

module _ (limit : ℕ) where
  abbrev pub Firsts : Exprs → Type 0
  Firsts es = (xs : List NameAt) (d : ℕ) (S : Stack) → AreAll limit d es → count es ≡ length xs
      → Reads limit (first_of d S) (first_tokens xs es) (first_words xs es) (Starting Ends) (reading limit S)

  abbrev pub BodyReads : Body → Type 0
  BodyReads b = (d : ℕ) (S : Stack) → FitsBody false b → d + body_depth b ≤ limit
      → Reads limit (Steps d ∷ S) (body_tokens b) (body_words b) Any (reading limit S)

  abbrev pub TurnReads : ATurn → Type 0
  TurnReads t = (d : ℕ) (S : Stack) → FitsTurn t → d + turn_depth t ≤ limit
      → Reads limit (Turn d ∷ S) (turn_tokens t) (turn_words t) Any (reading limit S)

  -- FIRST VALUES
  name_equals : {S : Stack} {ts : List Spelling} {vs : Words} {M : List Placed → Type 0} {k : List Placed → Option Words} (x : NameAt) (d : ℕ)
      → Reads limit (Operand 0 (d + 1) ∷ Starts d ∷ S) ts vs M k
      → Reads limit (first_of d S) (name_token x ∷ a_sign core_sign.Equals ∷ ts) (of_core (core_word.Start x.at x.name) ∷ vs) M k
  name_equals x d l = reads_at limit (OneName naming.Start) x.at (TheName x.name) 0 (of_core (core_word.Start x.at x.name) ∷ []) [] refl (omega arith)
      (reads_sign limit (sign.Core core_sign.Equals) l)

  pub firsts_one : (e : Expr) → ExprReads limit e → Firsts (One e)
  firsts_one e f [] d S are many = absurd (omega arith)
  firsts_one e f (x ∷ y ∷ xs) d S are many = absurd (omega arith)
  firsts_one e f (x ∷ []) d S are many =
      name_equals x d (reads_pass limit (Starting Ends) (of_core core_word.First ∷ []) (λ r h. starting_map Ends (Stops 0) (ending limit) r h)
      (λ r h. symbol_passes limit (Starts d) S (of_core core_word.First ∷ []) r
      (starting_map Ends (λ l. (at : ℕ) → step (Starts d) at l ≡ Passes (of_core core_word.First ∷ [])) (λ l h at. starts_pass d l h.other) r h))
      (expr_ends limit e (d + 1) (Starts d ∷ S) f (is_only limit d e are)))

  pub firsts_more : (e : Expr) (es : Exprs) → ExprReads limit e → Firsts es → Firsts (More e es)
  firsts_more e es f g [] d S are many = absurd (omega arith)
  firsts_more e es f g (x ∷ xs) d S are many =
      name_equals x d (reads_expr limit e (d + 1) f (is_first limit d e es are) (a_sign core_sign.Comma) (record { plain = refl; none = refl })
      (reads_any limit (Starts d) (TheSign (sign.Core core_sign.Comma)) 0 (of_core core_word.First ∷ []) (first_of d []) (λ at. refl) (omega arith)
      (g xs d S (are_others limit d e es are) (omega arith))))

  -- LOOPS
  pub reads_before : (xs : List NameAt) (p : Expr) (b : Body) → ExprReads limit p → BodyReads b → TurnReads (Before xs p b)
  reads_before xs p b f g d S fits deep =
      let both = shallow d (suc (depth p)) (body_depth b) limit deep in
      reads_any limit (Turn d) (TheWord (keyword.Core core_keyword.While)) 0 (of_core core_word.TestFirst ∷ [])
      (Operand 0 (d + 1) ∷ Emit (of_core core_word.While) ∷ open_brace ∷ Steps d ∷ []) (λ at. refl) (omega arith)
      (reads_expr limit p (d + 1) f (record { fits = fits.0; deep = (let h = both.0 in omega arith) }) (a_sign core_sign.OpenBrace)
      (record { plain = refl; none = refl })
      (reads_emit limit (of_core core_word.While) (reads_sign limit (sign.Core core_sign.OpenBrace) (g d S fits.1 both.1))))

  pub reads_test_last : (xs : List NameAt) (b : Body) (p : Expr) → BodyReads b → ExprReads limit p → TurnReads (TestLast xs b p)
  reads_test_last xs b p g f d S fits deep =
      let both = shallow d (body_depth b) (suc (depth p)) limit deep in
      let inside : IsExpr limit (d + 1) p = record { fits = fits.1; deep = (let h = both.1 in omega arith) } in
      let Z : Stack = OneWord core_keyword.While ∷ open_paren ∷ Operand 0 (d + 1) ∷ close_paren ∷ S in
      let tested : Reads limit (Operand 0 (d + 1) ∷ close_paren ∷ S) (tokens p ++ a_sign core_sign.CloseParen ∷ []) (words p) Any (reading limit S) =
      reads_as limit (reads_expr limit p (d + 1) f inside (a_sign core_sign.CloseParen) (record { plain = refl; none = refl })
      (reads_sign limit (sign.Core core_sign.CloseParen) (reads_none limit S))) refl (append-nil (words p)) in
      reads_as limit (reads_any limit (Turn d) (TheSign (sign.Core core_sign.OpenBrace)) 0 (of_core core_word.BodyFirst ∷ [])
      (Steps d ∷ Emit (of_core core_word.Until) ∷ OneWord core_keyword.While ∷ open_paren ∷ Operand 0 (d + 1) ∷ close_paren ∷ []) (λ at. refl) (omega arith)
      (reads_then limit (g d (Emit (of_core core_word.Until) ∷ Z) fits.0 both.0) (λ i r h m. tt) (reads_emit limit (of_core core_word.Until)
      (reads_word limit core_keyword.While (reads_sign limit (sign.Core core_sign.OpenParen) tested)))))
      (sym (append_assoc (a_sign core_sign.OpenBrace ∷ body_tokens b) (a_word core_keyword.While ∷ a_sign core_sign.OpenParen ∷ tokens p)
      (a_sign core_sign.CloseParen ∷ []))) refl

  after_bound : (loop : ℕ) (n : Count) (es : Exprs) (t : ATurn) → Firsts es → TurnReads t → (m d : ℕ) (S : Stack) → IsExpr limit d (Loop loop n es t)
      → Reads limit (loop_rest d (end_loop loop n) ++ After m 12 d ∷ S) (a_sign core_sign.OpenParen ∷ (first_tokens (names_of t) es ++
      (a_sign core_sign.CloseParen ∷ turn_tokens t)))
      (first_words (names_of t) es ++ (turn_words t ++ end_loop loop n ∷ [])) (Starting (Stops 12)) (reading limit (After m 12 d ∷ S))
  after_bound loop n es t f g m d S is =
      let both = shallow d (list_depth es) (turn_depth t) limit is.deep in
      let A : Stack = After m 12 d ∷ S in
      reads_sign limit (sign.Core core_sign.OpenParen) (reads_upto limit Ends (a_sign core_sign.CloseParen)
      (record { closes = record { plain = refl; none = refl }; other = refl })
      (f (names_of t) d (close_paren ∷ Turn d ∷ Emit (end_loop loop n) ∷ A) (record { fits = is.fits.1; deep = both.0 }) is.fits.2)
      (reads_sign limit (sign.Core core_sign.CloseParen)
      (reads_pass limit (Starting (Stops 12)) (end_loop loop n ∷ []) (λ r h. tt) (λ r h. emit_passes limit (end_loop loop n) A r)
      (g d (Emit (end_loop loop n) ∷ A) is.fits.3 both.1))))

  pub reads_loop : (at : ℕ) (n : Count) (es : Exprs) (t : ATurn) → Firsts es → TurnReads t → ExprReads limit (Loop at n es t)
  reads_loop at n es t f g m d S is low =
      reads_as limit (reads_at limit (Operand m d) at (TheWord (keyword.Core core_keyword.Loop)) (d + 1) (of_core (core_word.Loop at) ∷ [])
      (Bound at d ∷ After m 12 d ∷ []) refl (at_least_one limit d es (record { fits = is.fits.1; deep = (shallow d (list_depth es) (turn_depth t) limit is.deep).0 }))
      (go n is)) refl
      (sym (append_assoc (of_core (core_word.Loop at) ∷ bound_word n ∷ first_words (names_of t) es) (turn_words t) (end_loop at n ∷ [])))
    where
      go : (n : Count) → IsExpr limit d (Loop at n es t)
          → Reads limit (Bound at d ∷ After m 12 d ∷ S) (count_token n ∷ a_sign core_sign.OpenParen ∷ (first_tokens (names_of t) es ++
          (a_sign core_sign.CloseParen ∷ turn_tokens t)))
          (bound_word n ∷ (first_words (names_of t) es ++ (turn_words t ++ end_loop at n ∷ []))) (Starting (Stops 12)) (reading limit (After m 12 d ∷ S))
      go (Written there n) is = reads_at limit (Bound at d) there (TheNumber n) 0 (of_core (core_word.Bound there n) ∷ [])
          (loop_rest d (of_core (core_word.EndLoop at n))) (small_is n _ is.fits.0) (omega arith) (after_bound at (Written there n) es t f g m d S is)
      go (Constant there x) is = reads_at limit (Bound at d) there (TheName x) 0 (word.ConstantBound there x ∷ [])
          (loop_rest d (word.EndConstantLoop at x)) refl (omega arith) (after_bound at (Constant there x) es t f g m d S is)

  -- `for`
  abbrev pub CarriedReads : ACarried → Type 0
  CarriedReads Nothing = ⊤
  CarriedReads (With xs es) = Firsts es

  body_of_for : (d : ℕ) (S : Stack) (b : Body) → BodyReads b → FitsBody false b → d + body_depth b ≤ limit
      → Reads limit (Emit word.Turns ∷ open_brace ∷ Steps d ∷ S) (a_sign core_sign.OpenBrace ∷ body_tokens b) (word.Turns ∷ body_words b) Any (reading limit S)
  body_of_for d S b g fits deep = reads_emit limit word.Turns (reads_sign limit (sign.Core core_sign.OpenBrace) (g d S fits deep))

  after_range : (end : Expr) (c : ACarried) (b : Body) → ExprReads limit end → CarriedReads c → BodyReads b → (d : ℕ) (S : Stack) → IsExpr limit (d + 1) end
      → FitsCarried c → d + carried_depth c ≤ limit → FitsBody false b → d + body_depth b ≤ limit
      → Reads limit (Operand 0 (d + 1) ∷ Emit word.EndRange ∷ Carried d ∷ Emit word.Turns ∷ open_brace ∷ Steps d ∷ S)
      (tokens end ++ (carried_tokens c ++ (a_sign core_sign.OpenBrace ∷ body_tokens b)))
      (words end ++ (word.EndRange ∷ (carried_words c ++ (word.Turns ∷ body_words b)))) Any (reading limit S)
  after_range end Nothing b f h g d S is fits deep body_fits body_deep =
      reads_expr limit end (d + 1) f is (a_sign core_sign.OpenBrace) (record { plain = refl; none = refl })
      (reads_emit limit word.EndRange (reads_passed limit (Carried d) (a_sign core_sign.OpenBrace) [] (λ at. refl) (body_of_for d S b g body_fits body_deep)))
  after_range end (With xs es) b f h g d S is fits deep body_fits body_deep =
      reads_expr limit end (d + 1) f is (the_word keyword.With) (record { plain = refl; none = refl })
      (reads_emit limit word.EndRange (reads_any limit (Carried d) (TheWord keyword.With) 0 [] (first_of d []) (λ at. refl) (omega arith)
      (reads_upto limit Ends (a_sign core_sign.OpenBrace) (record { closes = record { plain = refl; none = refl }; other = refl })
      (h xs d (Emit word.Turns ∷ open_brace ∷ Steps d ∷ S) (record { fits = fits.0; deep = deep }) fits.1)
      (body_of_for d S b g body_fits body_deep))))

  pub reads_for : (at : ℕ) (n : Option Count) (i : NameAt) (first end : Expr) (c : ACarried) (b : Body) → ExprReads limit first → ExprReads limit end
      → CarriedReads c → BodyReads b → ExprReads limit (For at n i first end c b)
  reads_for at n i first end c b f g h k m d S is low =
      let one = shallow d (suc (depth first)) (max (suc (depth end)) (max (carried_depth c) (body_depth b))) limit is.deep in
      let two = shallow d (suc (depth end)) (max (carried_depth c) (body_depth b)) limit one.1 in
      let three = shallow d (carried_depth c) (body_depth b) limit two.1 in
      let T : List Spelling = tokens first ++ (the_sign sign.Range ∷ (tokens end ++ (carried_tokens c ++ (a_sign core_sign.OpenBrace ∷ body_tokens b)))) in
      let W : Words = words first ++ (word.Range ∷ (words end ++ (word.EndRange ∷ (carried_words c ++ (word.Turns ∷ body_words b))))) in
      let A : Stack = After m 12 d ∷ S in
      let all : Reads limit (range_rest d ++ (Emit (word.EndFor at) ∷ A)) T (W ++ word.EndFor at ∷ []) (Starting (Stops 12)) (reading limit A) =
      reads_pass limit (Starting (Stops 12)) (word.EndFor at ∷ []) (λ r h. tt) (λ r h. emit_passes limit (word.EndFor at) A r)
      (reads_expr limit first (d + 1) f (record { fits = is.fits.1; deep = (let g = one.0 in omega arith) }) (the_sign sign.Range)
      (record { plain = refl; none = refl })
      (reads_emit limit word.Range (reads_sign limit sign.Range (after_range end c b g h k d (Emit (word.EndFor at) ∷ A)
      (record { fits = is.fits.2; deep = (let g = two.0 in omega arith) }) is.fits.3 three.0 is.fits.4 three.1)))) in
      reads_as limit (reads_at limit (Operand m d) at (TheWord keyword.For) (d + 1) (word.For at ∷ []) (ForBound d ∷ Emit (word.EndFor at) ∷ After m 12 d ∷ [])
      refl (let g = one.0 in omega arith) (go n T W (Emit (word.EndFor at) ∷ A) is.fits.0 all))
      (ap (λ t. word_at at keyword.For ∷ t) (for_tokens_are (count_tokens n) (tokens first) (tokens end) (carried_tokens c) (body_tokens b) (name_token i)
      (the_word keyword.In) (the_sign sign.Range) (a_sign core_sign.OpenBrace)))
      (ap (λ t. word.For at ∷ t) (for_words_are (bound_words n) (words first) (words end) (carried_words c) (body_words b) (word.Counter i.at i.name) word.Range
      word.EndRange word.Turns (word.EndFor at)))
    where
      go : {M : List Placed → Type 0} {k : List Placed → Option Words} (n : Option Count) (T : List Spelling) (W : Words) (Z : Stack) → IsSmallIfWritten n
          → Reads limit (range_rest d ++ Z) T (W ++ word.EndFor at ∷ []) M k
          → Reads limit (ForBound d ∷ Z) (count_tokens n ++ (name_token i ∷ (the_word keyword.In ∷ T)))
          (bound_words n ++ (word.Counter i.at i.name ∷ (W ++ word.EndFor at ∷ []))) M k
      go None T W Z small l = reads_at limit (ForBound d) i.at (TheName i.name) 0 [] (AfterForName i.at i.name d ∷ []) refl (omega arith)
          (reads_any limit (AfterForName i.at i.name d) (TheWord keyword.In) 0 (word.Counter i.at i.name ∷ []) (range_rest d) (λ at. refl) (omega arith) l)
      go (Some (Written there n)) T W Z small l =
          reads_at limit (ForBound d) there (TheNumber n) 0 (of_core (core_word.Bound there n) ∷ []) (OneName naming.Counter ∷ Range d ∷ []) (small_is n _ small)
          (omega arith)
          (reads_at limit (OneName naming.Counter) i.at (TheName i.name) 0 (word.Counter i.at i.name ∷ []) [] refl (omega arith)
          (reads_any limit (Range d) (TheWord keyword.In) 0 [] (range_rest d) (λ at. refl) (omega arith) l))
      go (Some (Constant there x)) T W Z small l =
          reads_at limit (ForBound d) there (TheName x) 0 [] (AfterForName there x d ∷ []) refl (omega arith)
          (reads_at limit (AfterForName there x d) i.at (TheName i.name) 0 (word.ConstantBound there x ∷ word.Counter i.at i.name ∷ []) (Range d ∷ []) refl
          (omega arith)
          (reads_any limit (Range d) (TheWord keyword.In) 0 [] (range_rest d) (λ at. refl) (omega arith) l))
