-- THE WORDS DETERMINE THE TREE, so no two fitting programs have the same tokens at the same places.
use Rattle.std.proofs.Common.{◌≡◌, ℕ, zero, suc, Bool, List, [], ◌∷◌, ◌++◌, map, length, Option, None, Some, refl, sym, ap, ◌∙◌, append_assoc, append-nil}
use Rattle.std.proofs.Common.{arith, inl, inr, true, false}
use Rattle.std.specs.Prelude.{◌⊎◌}
use Rattle.operators.specs.declared.Unary.{Unary}
use Rattle.operators.specs.declared.Unary.TheVariants.{Neg}
use Rattle.std.proofs.lemmas.List.Concat.{flat_map-cons}
use Rattle.source.specs.declared.word.Word.TheVariants as core_word
use Rattle.source.specs.Tree.{Name, NameAt, Target, Bind, Drop}
use Rattle.surface.specs.declared.token.Token.{Token}
use Rattle.surface.specs.declared.word.Word.TheVariants as word
use Rattle.surface.specs.Tree.{Count, Written, Constant, Expr, Number, Named, Bracket, Prefix, Infix, And, Or, Not, Fetch, Store, Call, If, Loop, For, Exprs, One}
use Rattle.surface.specs.Tree.{More, Body, Let, Do, When, Give, Chain, Tests, Last, Else, Turn, Before, After, Carried, Nothing, With, Param, Item, Cells, Const}
use Rattle.surface.specs.Tree.{Defines, Program, names_of}
use Rattle.surface.specs.Fits.{count, Fits, FitsAll, FitsBody, FitsTests, FitsTurn, FitsCarried, FitsItem, FitsProgram, IsLeast}
use Rattle.surface.specs.Words.{Words, of_core, target_word, bound_word, bound_words, end_loop, words, part_words, index_words, first_words, body_words}
use Rattle.surface.specs.Words.{tests_words, turn_words, carried_words, result_words, ranked_word, param_word, item_words, program_words}
use Rattle.surface.specs.Parses.{Parses}
use Rattle.law_surface_text.proofs.Complete.{parsed_complete}
use Rattle.law_surface_text.proofs.Rebuilding.{Named1, OfLoop, OfFor, AnExpr, Parts, ABody, SomeTests, LetStart, LetStep, DoStep, WhenStep, Test, Arm, LoopHead}
use Rattle.law_surface_text.proofs.Rebuilding.{ForHead, ForCounter, Names, LoopTest, LoopBody, ArrayOf, ConstantOf, Head, HeadAt, AnItem, Machine, to_list}
use Rattle.law_surface_text.proofs.Rebuilding.{of_list, list_again, unwind, on_parts, carry, part, rebuild, rebuild_append, rebuild_both}

-- TREES
targets_again : (ts us : List Target) (at : ℕ) (st : Machine) → rebuild (map target_word ts) (LetStart at us ∷ st) ≡ LetStart at (us ++ ts) ∷ st
targets_again [] us at st = ap (λ l. LetStart at l ∷ st) (sym (append-nil us))
targets_again (Bind x ∷ ts) us at st = targets_again ts (us ++ Bind x ∷ []) at st ∙ ap (λ l. LetStart at l ∷ st) (append_assoc us (Bind x ∷ []) ts)
targets_again (Drop ∷ ts) us at st = targets_again ts (us ++ Drop ∷ []) at st ∙ ap (λ l. LetStart at l ∷ st) (append_assoc us (Drop ∷ []) ts)

-- under a sign, where a number may be the least
operand_again : (op : Unary) (e : Expr) → (Fits e → (st : Machine) → rebuild (words e) st ≡ AnExpr e ∷ st) → Fits e ⊎ IsLeast op e → (st : Machine)
    → rebuild (words e) st ≡ AnExpr e ∷ st
operand_again op e f (inl h) st = f h st
operand_again Neg (Number at n) f (inr h) st = refl
operand_again op e f (inr h) st = absurd h

bound_again : (n : Count) (st : Machine) → rebuild (bound_word n ∷ []) (LoopHead ∷ st) ≡ Names (OfLoop n) [] [] ∷ st
bound_again (Written at n) st = refl
bound_again (Constant at x) st = refl

bounds_again : (n : Option Count) (st : Machine) → rebuild (bound_words n) (ForHead None ∷ st) ≡ ForHead n ∷ st
bounds_again None st = refl
bounds_again (Some (Written at n)) st = refl
bounds_again (Some (Constant at x)) st = refl

abbrev fetched : ℕ → Name → Machine → Machine
fetched at a tu = on_parts (λ es st. AnExpr (Fetch at a (of_list es)) ∷ st) tu

abbrev carried_xs : Carried → List NameAt
carried_xs Nothing = []
carried_xs (With xs es) = xs

abbrev carried_es : Carried → List Expr
carried_es Nothing = []
carried_es (With xs es) = to_list es

carry_again : (c : Carried) → FitsCarried c → carry (carried_xs c) (carried_es c) ≡ c
carry_again Nothing h = refl
carry_again (With [] (One e)) h = absurd (let g = h.1 in omega arith)
carry_again (With [] (More e es)) h = absurd (let g = h.1 in omega arith)
carry_again (With (x ∷ xs) es) h = ap (λ l. With (x ∷ xs) l) (list_again es)

mutual
  expr_again : (e : Expr) → Fits e → (st : Machine) → rebuild (words e) st ≡ AnExpr e ∷ st
  expr_again (Number at n) h st = refl
  expr_again (Named at x) h st = refl
  expr_again (Bracket e) h st = rebuild_both (words e) _ st _ (expr_again e h st) _ refl
  expr_again (Prefix at op e) h st = rebuild_both (words e) _ st _ (operand_again op e (λ g tu. expr_again e g tu) h.1 st) _ refl
  expr_again (Not at e) h st = rebuild_both (words e) _ st _ (expr_again e h.0 st) _ refl
  expr_again (Infix at s l r) h st = rebuild_both (words l ++ of_core core_word.Left ∷ words r) _ st _
      (rebuild_both (words l) (of_core core_word.Left ∷ words r) st _ (expr_again l h.0 st) _ (expr_again r h.2 (AnExpr l ∷ st))) _ refl
  expr_again (And at l r) h st = rebuild_both (words l ++ word.AndThen ∷ words r) _ st _
      (rebuild_both (words l) (word.AndThen ∷ words r) st _ (expr_again l h.0 st) _ (expr_again r h.2 (AnExpr l ∷ st))) _ refl
  expr_again (Or at l r) h st = rebuild_both (words l ++ word.OrElse ∷ words r) _ st _
      (rebuild_both (words l) (word.OrElse ∷ words r) st _ (expr_again l h.0 st) _ (expr_again r h.2 (AnExpr l ∷ st))) _ refl
  expr_again (Fetch at a es) h st = rebuild_append (of_core (core_word.Cell at a) ∷ index_words es) (of_core (core_word.Fetch at a) ∷ []) st
      ∙ ap (λ tu. fetched at a tu) (indexes_again es h [] st) ∙ ap (λ l. AnExpr (Fetch at a l) ∷ st) (list_again es)
  expr_again (Store at a es d) h st = rebuild_both ((of_core (core_word.Cell at a) ∷ index_words es) ++ of_core core_word.Index ∷ words d) _ st _
      (rebuild_append (of_core (core_word.Cell at a) ∷ index_words es) (of_core core_word.Index ∷ words d) st
      ∙ ap (rebuild (words d)) (indexes_again es h.0 [] st) ∙ expr_again d h.1 (Parts (to_list es) ∷ st)) _
      (ap (λ l. AnExpr (Store at a l d) ∷ st) (list_again es))
  expr_again (Call at strict f es) h st = rebuild_both (of_core (core_word.Callee at f) ∷ of_core core_word.List ∷ part_words es) _ st _ (parts_again es h [] st) _
      (ap (λ l. AnExpr (Call at strict f l) ∷ st) (list_again es))
  expr_again (If at p l r) h st = rebuild_both ((words p ++ of_core core_word.Then ∷ body_words l) ++ of_core core_word.Else ∷ body_words r) _ st _
      (rebuild_both (words p ++ of_core core_word.Then ∷ body_words l) _ st _
      (rebuild_both (words p) _ st _ (expr_again p h.0 st) _ (body_again l false h.1 (Test p ∷ st))) _ (body_again r true h.2 (Arm p l ∷ st))) _ refl
  expr_again (Loop at bound es t) h st =
      ap (λ ws. rebuild ws st)
      (append_assoc (of_core (core_word.Loop at) ∷ bound_word bound ∷ first_words (names_of t) es) (turn_words t) (end_loop at bound ∷ []))
      ∙ rebuild_both (bound_word bound ∷ []) (first_words (names_of t) es ++ (turn_words t ++ end_loop at bound ∷ [])) (LoopHead ∷ st) _ (bound_again bound st) _
      (rebuild_both (first_words (names_of t) es) (turn_words t ++ end_loop at bound ∷ []) (Names (OfLoop bound) [] [] ∷ st) _
      (firsts_again es h.1 (names_of t) h.2 (OfLoop bound) [] [] st) _ (turn_again t h.3 bound (to_list es) at st))
      ∙ ap (λ l. AnExpr (Loop at bound l t) ∷ st) (list_again es)
  expr_again (For at n i first end c b) h st =
      let one : Words = word.For at ∷ bound_words n in
      rebuild_both (((((one ++ word.Counter i.at i.name ∷ words first) ++ word.Range ∷ words end) ++ word.EndRange ∷ carried_words c) ++ word.Turns ∷ body_words b)) _
      st _
      (rebuild_both ((((one ++ word.Counter i.at i.name ∷ words first) ++ word.Range ∷ words end) ++ word.EndRange ∷ carried_words c)) _ st _
      (rebuild_both ((one ++ word.Counter i.at i.name ∷ words first) ++ word.Range ∷ words end) (word.EndRange ∷ carried_words c) st _
      (rebuild_both (one ++ word.Counter i.at i.name ∷ words first) (word.Range ∷ words end) st _
      (rebuild_both one (word.Counter i.at i.name ∷ words first) st _ (bounds_again n st) _ (expr_again first h.1 (ForCounter n i ∷ st))) _
      (expr_again end h.2 (AnExpr first ∷ ForCounter n i ∷ st))) _
      (carried_again c h.3 (OfFor n i first end) st)) _
      (body_again b false h.4 (Names (OfFor n i first end) (carried_xs c) (carried_es c) ∷ st))) _
      (ap (λ c. AnExpr (For at n i first end c b) ∷ st) (carry_again c h.3))

  parts_again : (es : Exprs) → FitsAll es → (xs : List Expr) (st : Machine) → rebuild (part_words es) (Parts xs ∷ st) ≡ Parts (xs ++ to_list es) ∷ st
  parts_again (One e) h xs st = rebuild_both (words e) _ _ _ (expr_again e h (Parts xs ∷ st)) _ refl
  parts_again (More e es) h xs st = rebuild_both (words e) _ _ _ (expr_again e h.0 (Parts xs ∷ st)) _
      (parts_again es h.1 (xs ++ e ∷ []) st ∙ ap (λ l. Parts l ∷ st) (append_assoc xs (e ∷ []) (to_list es)))

  indexes_again : (es : Exprs) → FitsAll es → (xs : List Expr) (st : Machine) → part (rebuild (index_words es) (Parts xs ∷ st)) ≡ Parts (xs ++ to_list es) ∷ st
  indexes_again (One e) h xs st = ap part (expr_again e h (Parts xs ∷ st))
  indexes_again (More e es) h xs st = ap part (rebuild_append (words e) (word.NextIndex ∷ index_words es) (Parts xs ∷ st)
      ∙ ap (λ tu. rebuild (index_words es) (part tu)) (expr_again e h.0 (Parts xs ∷ st)))
      ∙ indexes_again es h.1 (xs ++ e ∷ []) st ∙ ap (λ l. Parts l ∷ st) (append_assoc xs (e ∷ []) (to_list es))

  firsts_again : (es : Exprs) → FitsAll es → (ys : List NameAt) → count es ≡ length ys → (of : Named1) (xs : List NameAt) (fs : List Expr) (st : Machine)
      → rebuild (first_words ys es) (Names of xs fs ∷ st) ≡ Names of (xs ++ ys) (fs ++ to_list es) ∷ st
  firsts_again (One e) h [] many of xs fs st = absurd (omega arith)
  firsts_again (One e) h (y ∷ []) many of xs fs st =
      rebuild_both (of_core (core_word.Start y.at y.name) ∷ words e) _ (Names of xs fs ∷ st) _ (expr_again e h (Names of (xs ++ y ∷ []) fs ∷ st)) _ refl
  firsts_again (One e) h (y ∷ z ∷ ys) many of xs fs st = absurd (omega arith)
  firsts_again (More e es) h [] many of xs fs st = absurd (omega arith)
  firsts_again (More e es) h (y ∷ ys) many of xs fs st =
      rebuild_both (of_core (core_word.Start y.at y.name) ∷ words e) _ (Names of xs fs ∷ st) _ (expr_again e h.0 (Names of (xs ++ y ∷ []) fs ∷ st)) _
      (firsts_again es h.1 ys (omega arith) of (xs ++ y ∷ []) (fs ++ e ∷ []) st
      ∙ ap (λ l. Names of l ((fs ++ e ∷ []) ++ to_list es) ∷ st) (append_assoc xs (y ∷ []) ys)
      ∙ ap (λ l. Names of (xs ++ y ∷ ys) l ∷ st) (append_assoc fs (e ∷ []) (to_list es)))

  carried_again : (c : Carried) → FitsCarried c → (of : Named1) (st : Machine) → rebuild (carried_words c) (Names of [] [] ∷ st)
      ≡ Names of (carried_xs c) (carried_es c) ∷ st
  carried_again Nothing h of st = refl
  carried_again (With xs es) h of st = firsts_again es h.0 xs h.1 of [] [] st

  body_again : (b : Body) (c : Bool) → FitsBody c b → (st : Machine) → rebuild (body_words b) st ≡ unwind st b
  body_again (Let at ts es rest) c h st = rebuild_both ((of_core (core_word.Let at) ∷ map target_word ts) ++ of_core core_word.List ∷ part_words es) _ st _
      (rebuild_both (of_core (core_word.Let at) ∷ map target_word ts) _ st _ (targets_again ts [] at st) _ (parts_again es h.1 [] (LetStart at ts ∷ st))) _
      (body_again rest false h.2 (LetStep at ts (of_list (to_list es)) ∷ st) ∙ ap (λ l. unwind st (Let at ts l rest)) (list_again es))
  body_again (Do es rest) c h st = rebuild_both (of_core core_word.List ∷ part_words es) _ st _ (parts_again es h.0 [] st) _
      (body_again rest false h.1 (DoStep (of_list (to_list es)) ∷ st) ∙ ap (λ l. unwind st (Do l rest)) (list_again es))
  body_again (When t rest) c h st = rebuild_both (of_core core_word.List ∷ tests_words t) _ st _ (tests_again t h.0 (Parts [] ∷ st)) _
      (body_again rest false h.1 (WhenStep t ∷ st))
  body_again (Give es) c h st =
      rebuild_both (of_core core_word.List ∷ part_words es) _ st _ (parts_again es h [] st) _ (ap (λ l. unwind st (Give l)) (list_again es))
  body_again (Chain e) c h st = rebuild_both (words e) _ st _ (expr_again e h.2 st) _ refl

  tests_again : (t : Tests) → FitsTests t → (st : Machine) → rebuild (tests_words t) st ≡ SomeTests t ∷ st
  tests_again (Last at p l) h st = rebuild_both (words p ++ of_core core_word.Then ∷ body_words l) _ st _
      (rebuild_both (words p) _ st _ (expr_again p h.0 st) _ (body_again l false h.1 (Test p ∷ st))) _ refl
  tests_again (Else at p l t) h st = rebuild_both ((words p ++ of_core core_word.Then ∷ body_words l) ++ of_core core_word.Else ∷ tests_words t) _ st _
      (rebuild_both (words p ++ of_core core_word.Then ∷ body_words l) _ st _
      (rebuild_both (words p) _ st _ (expr_again p h.0 st) _ (body_again l false h.1 (Test p ∷ st))) _ (tests_again t h.2 (Arm p l ∷ st))) _ refl

  turn_again : (t : Turn) → FitsTurn t → (bound : Count) (es : List Expr) (at : ℕ) (st : Machine)
      → rebuild (turn_words t ++ end_loop at bound ∷ []) (Names (OfLoop bound) (names_of t) es ∷ st) ≡ AnExpr (Loop at bound (of_list es) t) ∷ st
  turn_again (Before xs p b) h bound es at st =
      rebuild_both (of_core core_word.TestFirst ∷ words p ++ of_core core_word.While ∷ body_words b) _ (Names (OfLoop bound) xs es ∷ st) _
      (rebuild_both (of_core core_word.TestFirst ∷ words p) _ (Names (OfLoop bound) xs es ∷ st) _ (expr_again p h.0 (Names (OfLoop bound) xs es ∷ st)) _
      (body_again b false h.1 (LoopTest bound xs es p ∷ st))) _ (loop_ends bound)
    where
      loop_ends : (n : Count) → rebuild (end_loop at n ∷ []) (ABody b ∷ LoopTest bound xs es p ∷ st) ≡ AnExpr (Loop at bound (of_list es) (Before xs p b)) ∷ st
      loop_ends (Written there n) = refl
      loop_ends (Constant there x) = refl
  turn_again (After xs b p) h bound es at st =
      rebuild_both (of_core core_word.BodyFirst ∷ body_words b ++ of_core core_word.Until ∷ words p) _ (Names (OfLoop bound) xs es ∷ st) _
      (rebuild_both (of_core core_word.BodyFirst ∷ body_words b) _ (Names (OfLoop bound) xs es ∷ st) _
      (body_again b false h.0 (Names (OfLoop bound) xs es ∷ st)) _
      (expr_again p h.1 (LoopBody bound xs es b ∷ st))) _ (loop_ends bound)
    where
      loop_ends : (n : Count) → rebuild (end_loop at n ∷ []) (AnExpr p ∷ LoopBody bound xs es b ∷ st) ≡ AnExpr (Loop at bound (of_list es) (After xs b p)) ∷ st
      loop_ends (Written there n) = refl
      loop_ends (Constant there x) = refl

-- PROGRAMS
params_again : (ps us : List Param) (f : NameAt) (r : Option Count) (st : Machine) → rebuild (map param_word ps) (Head f us r ∷ st) ≡ Head f (us ++ ps) r ∷ st
params_again [] us f r st = ap (λ l. Head f l r ∷ st) (sym (append-nil us))
params_again (p ∷ ps) us f r st = rebuild_both (param_word p ∷ []) (map param_word ps) (Head f us r ∷ st) _ (one p.rank) _
    (params_again ps (us ++ p ∷ []) f r st ∙ ap (λ l. Head f l r ∷ st) (append_assoc us (p ∷ []) ps))
  where
    one : (n : ℕ) → rebuild (ranked_word p.name n ∷ []) (Head f us r ∷ st) ≡ Head f (us ++ record { name = p.name; rank = n } ∷ []) r ∷ st
    one zero = refl
    one (suc n) = refl

results_again : (r : Option Count) (f : NameAt) (ps : List Param) (st : Machine) → rebuild (result_words r) (Head f ps None ∷ st) ≡ Head f ps r ∷ st
results_again None f ps st = refl
results_again (Some (Written at n)) f ps st = refl
results_again (Some (Constant at x)) f ps st = refl

item_again : (i : Item) → FitsItem i → (st : Machine) → rebuild (item_words i) st ≡ AnItem i ∷ st
item_again (Cells x es) h st = rebuild_both (of_core (core_word.Array x.at x.name) ∷ of_core core_word.List ∷ part_words es) _ st _
    (parts_again es h [] (ArrayOf x ∷ st)) _ (ap (λ l. AnItem (Cells x l) ∷ st) (list_again es))
item_again (Const x e) h st = rebuild_both (word.Constant x.at x.name ∷ words e) _ st _ (expr_again e h (ConstantOf x ∷ st)) _ refl
item_again (Defines f) h st =
    let M : Words = map param_word f.params in
    rebuild_both (((of_core (core_word.Function f.name.at f.name.name) ∷ M) ++ result_words f.results) ++ of_core (core_word.Body f.body_at) ∷ body_words f.body) _ st _
    (rebuild_both ((of_core (core_word.Function f.name.at f.name.name) ∷ M) ++ result_words f.results) _ st _
    (rebuild_both (of_core (core_word.Function f.name.at f.name.name) ∷ M) _ st _ (params_again f.params [] f.name None st) _
    (results_again f.results f.name f.params st)) _
    (body_again f.body false h.2 (HeadAt f.name f.params f.results f.body_at ∷ st))) _ refl

abbrev pushed : Program → Machine → Machine
pushed [] st = st
pushed (i ∷ p) st = pushed p (AnItem i ∷ st)

program_again : (p : Program) → FitsProgram p → (st : Machine) → rebuild (program_words p) st ≡ pushed p st
program_again [] h st = refl
program_again (i ∷ p) h st = ap (λ ws. rebuild ws st) (flat_map-cons item_words i p)
    ∙ rebuild_both (item_words i) (program_words p) st _ (item_again i (h.0) st) _
    (program_again p (h.1) (AnItem i ∷ st))

abbrev items_of : Machine → Program → Program
items_of (AnItem i ∷ st) p = items_of st (i ∷ p)
items_of st p = p

items_again : (p : Program) (st : Machine) (q : Program) → items_of (pushed p st) q ≡ items_of st (p ++ q)
items_again [] st q = refl
items_again (i ∷ p) st q = items_again p (AnItem i ∷ st) q

read_back : (p : Program) → FitsProgram p → items_of (rebuild (program_words p) []) [] ≡ p
read_back p h = ap (λ st. items_of st []) (program_again p h []) ∙ items_again p [] [] ∙ append-nil p

-- Fitting programs with the same words are the same.
pub words_determine : (p q : Program) → FitsProgram p → FitsProgram q → program_words p ≡ program_words q → p ≡ q
words_determine p q f g e = sym (read_back p f) ∙ ap (λ ws. items_of (rebuild ws []) []) e ∙ read_back q g

-- No two fitting programs have a text's tokens.
pub parses_once : (text : List ℕ) (ts : List Token) (p q : Program) → Parses text ts p → Parses text ts q → p ≡ q
parses_once text ts p q f g = words_determine p q f.fits g.fits (let e = parsed_complete text ts p f in let h = parsed_complete text ts q g in cc)
