-- THE WORDS DETERMINE THE TREE, so no two fitting programs have the same tokens at the same places.
use Rattle.std.proofs.Common.{◌≡◌, ℕ, Bool, List, [], ◌∷◌, ◌++◌, map, length, Option, None, Some, refl, sym, ap, ◌∙◌, append_assoc, append-nil, arith, inl, inr}
use Rattle.std.proofs.Common.{true, false}
use Rattle.std.specs.Prelude.{◌⊎◌}
use Rattle.operators.specs.declared.Unary.{Unary}
use Rattle.operators.specs.declared.Unary.TheVariants.{Neg}
use Rattle.std.proofs.lemmas.List.Concat.{flat_map-cons}
use Rattle.source.specs.declared.word.Word.TheVariants as word
use Rattle.source.specs.declared.token.Token.{Token}
use Rattle.source.specs.Tree.{NameAt, NumberAt, Target, Bind, Drop, Expr, Number, Named, Bracket, Prefix, Infix, Fetch, Store, Call, If, Loop, Exprs, One, More}
use Rattle.source.specs.Tree.{Body, Let, Do, Give, Chain, Turn, Before, After, Item, Cells, Defines, Program, names_of}
use Rattle.source.specs.Fits.{count, Fits, FitsAll, FitsBody, FitsTurn, FitsItem, FitsProgram, IsLeast}
use Rattle.source.specs.Words.{Words, target_word, words, part_words, first_words, body_words, turn_words, result_words, item_words, program_words}
use Rattle.source.specs.Parses.{Parses}
use Rattle.law_language.proofs.GrammarComplete.{parsed_complete}
use Rattle.law_language.proofs.GrammarRebuilding.{AnExpr, Parts, LetStart, LetStep, DoStep, Test, Arm, Names, LoopTest, LoopBody, Head, HeadAt, AnItem, Machine}
use Rattle.law_language.proofs.GrammarRebuilding.{to_list, of_list, list_again, unwind, rebuild, rebuild_both}

-- TREES
targets_again : (ts us : List Target) (at : ℕ) (st : Machine) → rebuild (map target_word ts) (LetStart at us ∷ st) ≡ LetStart at (us ++ ts) ∷ st
targets_again [] us at st = ap (λ l. LetStart at l ∷ st) (sym (append-nil us))
targets_again (Bind x ∷ ts) us at st = targets_again ts (us ++ Bind x ∷ []) at st ∙ ap (λ l. LetStart at l ∷ st) (append_assoc us (Bind x ∷ []) ts)
targets_again (Drop ∷ ts) us at st = targets_again ts (us ++ Drop ∷ []) at st ∙ ap (λ l. LetStart at l ∷ st) (append_assoc us (Drop ∷ []) ts)

-- under a sign, where a number may be the least
operand_again : (op : Unary) (e : Expr) → (Fits e → (st : Machine) → rebuild (words e) st ≡ AnExpr e ∷ st) → Fits e ⊎ IsLeast op e → (st : Machine)
    → rebuild (words e) st ≡ AnExpr e ∷ st
operand_again op e f (inl h) st = f h st
operand_again Neg (Number at n) f (inr h) st = refl
operand_again op e f (inr h) st = absurd h

mutual
  expr_again : (e : Expr) → Fits e → (st : Machine) → rebuild (words e) st ≡ AnExpr e ∷ st
  expr_again (Number at n) h st = refl
  expr_again (Named at x) h st = refl
  expr_again (Bracket e) h st = rebuild_both (words e) _ st _ (expr_again e h st) _ refl
  expr_again (Prefix at op e) h st = rebuild_both (words e) _ st _ (operand_again op e (λ g tu. expr_again e g tu) h.1 st) _ refl
  expr_again (Infix at s l r) h st = rebuild_both (words l ++ word.Left ∷ words r) _ st _
      (rebuild_both (words l) (word.Left ∷ words r) st _ (expr_again l h.0 st) _ (expr_again r h.2 (AnExpr l ∷ st))) _ refl
  expr_again (Fetch at a e) h st = rebuild_both (word.Cell at a ∷ words e) _ st _ (expr_again e h st) _ refl
  expr_again (Store at a e d) h st = rebuild_both (word.Cell at a ∷ words e ++ word.Index ∷ words d) _ st _
      (rebuild_both (word.Cell at a ∷ words e) (word.Index ∷ words d) st _ (expr_again e h.0 st) _ (expr_again d h.1 (AnExpr e ∷ st))) _ refl
  expr_again (Call at strict f es) h st = rebuild_both (word.Callee at f ∷ word.List ∷ part_words es) _ st _ (parts_again es h [] st) _
      (ap (λ l. AnExpr (Call at strict f l) ∷ st) (list_again es))
  expr_again (If at p l r) h st = rebuild_both ((words p ++ word.Then ∷ body_words l) ++ word.Else ∷ body_words r) _ st _
      (rebuild_both (words p ++ word.Then ∷ body_words l) _ st _
      (rebuild_both (words p) _ st _ (expr_again p h.0 st) _ (body_again l false h.1 (Test p ∷ st))) _ (body_again r true h.2 (Arm p l ∷ st))) _ refl
  expr_again (Loop at bound es t) h st =
      ap (λ ws. rebuild ws st)
      (append_assoc (word.Loop at ∷ word.Bound bound.at bound.number ∷ first_words (names_of t) es) (turn_words t) (word.EndLoop at bound.number ∷ []))
      ∙ rebuild_both (word.Loop at ∷ word.Bound bound.at bound.number ∷ first_words (names_of t) es) (turn_words t ++ word.EndLoop at bound.number ∷ []) st _
      (firsts_again es h.1 (names_of t) h.2 bound [] [] st) _ (turn_again t h.3 bound (to_list es) at bound.number st)
      ∙ ap (λ l. AnExpr (Loop at bound l t) ∷ st) (list_again es)

  parts_again : (es : Exprs) → FitsAll es → (xs : List Expr) (st : Machine) → rebuild (part_words es) (Parts xs ∷ st) ≡ Parts (xs ++ to_list es) ∷ st
  parts_again (One e) h xs st = rebuild_both (words e) _ _ _ (expr_again e h (Parts xs ∷ st)) _ refl
  parts_again (More e es) h xs st = rebuild_both (words e) _ _ _ (expr_again e h.0 (Parts xs ∷ st)) _
      (parts_again es h.1 (xs ++ e ∷ []) st ∙ ap (λ l. Parts l ∷ st) (append_assoc xs (e ∷ []) (to_list es)))

  firsts_again : (es : Exprs) → FitsAll es → (ys : List NameAt) → count es ≡ length ys → (bound : NumberAt) (xs : List NameAt) (fs : List Expr) (st : Machine)
      → rebuild (first_words ys es) (Names bound xs fs ∷ st) ≡ Names bound (xs ++ ys) (fs ++ to_list es) ∷ st
  firsts_again (One e) h [] many bound xs fs st = absurd (omega arith)
  firsts_again (One e) h (y ∷ []) many bound xs fs st =
      rebuild_both (word.Start y.at y.name ∷ words e) _ (Names bound xs fs ∷ st) _ (expr_again e h (Names bound (xs ++ y ∷ []) fs ∷ st)) _ refl
  firsts_again (One e) h (y ∷ z ∷ ys) many bound xs fs st = absurd (omega arith)
  firsts_again (More e es) h [] many bound xs fs st = absurd (omega arith)
  firsts_again (More e es) h (y ∷ ys) many bound xs fs st =
      rebuild_both (word.Start y.at y.name ∷ words e) _ (Names bound xs fs ∷ st) _ (expr_again e h.0 (Names bound (xs ++ y ∷ []) fs ∷ st)) _
      (firsts_again es h.1 ys (omega arith) bound (xs ++ y ∷ []) (fs ++ e ∷ []) st
      ∙ ap (λ l. Names bound l ((fs ++ e ∷ []) ++ to_list es) ∷ st) (append_assoc xs (y ∷ []) ys)
      ∙ ap (λ l. Names bound (xs ++ y ∷ ys) l ∷ st) (append_assoc fs (e ∷ []) (to_list es)))

  body_again : (b : Body) (c : Bool) → FitsBody c b → (st : Machine) → rebuild (body_words b) st ≡ unwind st b
  body_again (Let at ts es rest) c h st = rebuild_both ((word.Let at ∷ map target_word ts) ++ word.List ∷ part_words es) _ st _
      (rebuild_both (word.Let at ∷ map target_word ts) _ st _ (targets_again ts [] at st) _ (parts_again es h.1 [] (LetStart at ts ∷ st))) _
      (body_again rest false h.2 (LetStep at ts (of_list (to_list es)) ∷ st) ∙ ap (λ l. unwind st (Let at ts l rest)) (list_again es))
  body_again (Do es rest) c h st = rebuild_both (word.List ∷ part_words es) _ st _ (parts_again es h.0 [] st) _
      (body_again rest false h.1 (DoStep (of_list (to_list es)) ∷ st) ∙ ap (λ l. unwind st (Do l rest)) (list_again es))
  body_again (Give es) c h st = rebuild_both (word.List ∷ part_words es) _ st _ (parts_again es h [] st) _ (ap (λ l. unwind st (Give l)) (list_again es))
  body_again (Chain e) c h st = rebuild_both (words e) _ st _ (expr_again e h.2 st) _ refl

  turn_again : (t : Turn) → FitsTurn t → (bound : NumberAt) (es : List Expr) (at n : ℕ) (st : Machine)
      → rebuild (turn_words t ++ word.EndLoop at n ∷ []) (Names bound (names_of t) es ∷ st) ≡ AnExpr (Loop at bound (of_list es) t) ∷ st
  turn_again (Before xs p b) h bound es at n st = rebuild_both (word.TestFirst ∷ words p ++ word.While ∷ body_words b) _ (Names bound xs es ∷ st) _
      (rebuild_both (word.TestFirst ∷ words p) _ (Names bound xs es ∷ st) _ (expr_again p h.0 (Names bound xs es ∷ st)) _
      (body_again b false h.1 (LoopTest bound xs es p ∷ st))) _ refl
  turn_again (After xs b p) h bound es at n st = rebuild_both (word.BodyFirst ∷ body_words b ++ word.Until ∷ words p) _ (Names bound xs es ∷ st) _
      (rebuild_both (word.BodyFirst ∷ body_words b) _ (Names bound xs es ∷ st) _ (body_again b false h.0 (Names bound xs es ∷ st)) _
      (expr_again p h.1 (LoopBody bound xs es b ∷ st))) _ refl

-- PROGRAMS
parameters_again : (xs us : List NameAt) (f : NameAt) (r : Option NumberAt) (st : Machine)
    → rebuild (map (λ (x : NameAt). word.Parameter x.at x.name) xs) (Head f us r ∷ st) ≡ Head f (us ++ xs) r ∷ st
parameters_again [] us f r st = ap (λ l. Head f l r ∷ st) (sym (append-nil us))
parameters_again (x ∷ xs) us f r st = parameters_again xs (us ++ x ∷ []) f r st ∙ ap (λ l. Head f l r ∷ st) (append_assoc us (x ∷ []) xs)

results_again : (r : Option NumberAt) (f : NameAt) (ps : List NameAt) (st : Machine) → rebuild (result_words r) (Head f ps None ∷ st) ≡ Head f ps r ∷ st
results_again None f ps st = refl
results_again (Some n) f ps st = refl

item_again : (i : Item) → FitsItem i → (st : Machine) → rebuild (item_words i) st ≡ AnItem i ∷ st
item_again (Cells x len) h st = refl
item_again (Defines f) h st =
    let M : Words = map (λ (x : NameAt). word.Parameter x.at x.name) f.params in
    rebuild_both (((word.Function f.name.at f.name.name ∷ M) ++ result_words f.results) ++ word.Body f.body_at ∷ body_words f.body) _ st _
    (rebuild_both ((word.Function f.name.at f.name.name ∷ M) ++ result_words f.results) _ st _
    (rebuild_both (word.Function f.name.at f.name.name ∷ M) _ st _ (parameters_again f.params [] f.name None st) _
    (results_again f.results f.name f.params st)) _
    (body_again f.body false h.2 (HeadAt f.name f.params f.results f.body_at ∷ st))) _ refl

abbrev pushed : Program → Machine → Machine
pushed [] st = st
pushed (i ∷ p) st = pushed p (AnItem i ∷ st)

program_again : (p : Program) → FitsProgram p → (st : Machine) → rebuild (program_words p) st ≡ pushed p st
program_again [] h st = refl
program_again (i ∷ p) h st = ap (λ ws. rebuild ws st) (flat_map-cons item_words i p)
    ∙ rebuild_both (item_words i) (program_words p) st _ (item_again i (h.0) st) _
    (program_again p (h.1) (AnItem i ∷ st))

abbrev items_of : Machine → Program → Program
items_of (AnItem i ∷ st) p = items_of st (i ∷ p)
items_of st p = p

items_again : (p : Program) (st : Machine) (q : Program) → items_of (pushed p st) q ≡ items_of st (p ++ q)
items_again [] st q = refl
items_again (i ∷ p) st q = items_again p (AnItem i ∷ st) q

read_back : (p : Program) → FitsProgram p → items_of (rebuild (program_words p) []) [] ≡ p
read_back p h = ap (λ st. items_of st []) (program_again p h []) ∙ items_again p [] [] ∙ append-nil p

-- Fitting programs with the same words are the same.
pub words_determine : (p q : Program) → FitsProgram p → FitsProgram q → program_words p ≡ program_words q → p ≡ q
words_determine p q f g e = sym (read_back p f) ∙ ap (λ ws. items_of (rebuild ws []) []) e ∙ read_back q g

-- No two fitting programs have a text's tokens.
pub parses_once : (text : List ℕ) (ts : List Token) (p q : Program) → Parses text ts p → Parses text ts q → p ≡ q
parses_once text ts p q f g = words_determine p q f.fits g.fits (let e = parsed_complete text ts p f in let h = parsed_complete text ts q g in cc)
