-- A STACK MACHINE that reads a tree back from its words.
use Rattle.std.proofs.Common.{◌≡◌, ℕ, List, [], ◌∷◌, ◌++◌, Option, None, Some, refl, ap, ◌∙◌}
use Rattle.source.specs.declared.word.Word.{Word}
use Rattle.source.specs.declared.word.Word.TheVariants as word
use Rattle.source.specs.Tree.{Name, NameAt, NumberAt, Target, Bind, Drop, Expr, Number, Named, Bracket, Prefix, Infix, Fetch, Store, Call, If, Loop, Exprs, One}
use Rattle.source.specs.Tree.{More, Body, Let, Do, Give, Chain, Before, After, Item, Cells, Defines}
use Rattle.source.specs.Words.{Words}

-- what the machine holds, with what began and has not ended
pub data Held : Type 0 where
  AnExpr : (e : Expr) → Held
  Parts : (es : List Expr) → Held
  ABody : (b : Body) → Held
  LetStart : (at : ℕ) (ts : List Target) → Held
  LetStep : (at : ℕ) (ts : List Target) (es : Exprs) → Held
  DoStep : (es : Exprs) → Held
  Test : (p : Expr) → Held
  Arm : (p : Expr) (l : Body) → Held
  Names : (bound : NumberAt) (xs : List NameAt) (es : List Expr) → Held
  LoopTest : (bound : NumberAt) (xs : List NameAt) (es : List Expr) (p : Expr) → Held
  LoopBody : (bound : NumberAt) (xs : List NameAt) (es : List Expr) (b : Body) → Held
  ArrayOf : (x : NameAt) → Held
  Head : (x : NameAt) (ps : List NameAt) (r : Option NumberAt) → Held
  HeadAt : (x : NameAt) (ps : List NameAt) (r : Option NumberAt) (at : ℕ) → Held
  AnItem : (i : Item) → Held

abbrev pub Machine : Type 0
Machine = List Held

-- LISTS
abbrev pub to_list : Exprs → List Expr
to_list (One e) = e ∷ []
to_list (More e es) = e ∷ to_list es

abbrev pub of_more : Expr → List Expr → Exprs
of_more e [] = One e
of_more e (f ∷ es) = More e (of_more f es)

abbrev pub of_list : List Expr → Exprs
of_list [] = One (Number 0 0)
of_list (e ∷ es) = of_more e es

pub list_again : (es : Exprs) → of_list (to_list es) ≡ es
list_again (One e) = refl
list_again (More e (One f)) = refl
list_again (More e (More f es)) = ap (More e) (list_again (More f es))

-- ONE WORD
-- a body ends: its steps are on top
abbrev pub unwind : Machine → Body → Machine
unwind [] b = ABody b ∷ []
unwind (LetStep at ts es ∷ st) b = unwind st (Let at ts es b)
unwind (DoStep es ∷ st) b = unwind st (Do es b)
unwind (h ∷ st) b = ABody b ∷ h ∷ st

abbrev pub on_expr : (Expr → Machine → Machine) → Machine → Machine
on_expr f (AnExpr e ∷ st) = f e st
on_expr f st = []

abbrev pub on_parts : (List Expr → Machine → Machine) → Machine → Machine
on_parts f (Parts es ∷ st) = f es st
on_parts f st = []

abbrev pub on_body : (Body → Machine → Machine) → Machine → Machine
on_body f (ABody b ∷ st) = f b st
on_body f st = []

abbrev pub on_names : (NumberAt → List NameAt → List Expr → Machine → Machine) → Machine → Machine
on_names f (Names bound xs es ∷ st) = f bound xs es st
on_names f st = []

abbrev pub on_let : (ℕ → List Target → Machine → Machine) → Machine → Machine
on_let f (LetStart at ts ∷ st) = f at ts st
on_let f st = []

abbrev pub on_test : (Expr → Machine → Machine) → Machine → Machine
on_test f (Test p ∷ st) = f p st
on_test f st = []

abbrev pub on_arm : (Expr → Body → Machine → Machine) → Machine → Machine
on_arm f (Arm p l ∷ st) = f p l st
on_arm f st = []

abbrev pub on_array : (NameAt → Machine → Machine) → Machine → Machine
on_array f (ArrayOf x ∷ st) = f x st
on_array f st = []

abbrev pub on_head : (NameAt → List NameAt → Option NumberAt → Machine → Machine) → Machine → Machine
on_head f (Head x ps r ∷ st) = f x ps r st
on_head f st = []

abbrev pub on_head_at : (NameAt → List NameAt → Option NumberAt → ℕ → Machine → Machine) → Machine → Machine
on_head_at f (HeadAt x ps r at ∷ st) = f x ps r at st
on_head_at f st = []

abbrev pub end_loop : ℕ → Machine → Machine
end_loop at (ABody b ∷ LoopTest bound xs es p ∷ st) = AnExpr (Loop at bound (of_list es) (Before xs p b)) ∷ st
end_loop at (AnExpr p ∷ LoopBody bound xs es b ∷ st) = AnExpr (Loop at bound (of_list es) (After xs b p)) ∷ st
end_loop at st = []

abbrev pub rebuilt : Word Name → Machine → Machine
rebuilt (word.Number at n) st = AnExpr (Number at n) ∷ st
rebuilt (word.Name at x) st = AnExpr (Named at x) ∷ st
rebuilt word.Bracket st = on_expr (λ e st. AnExpr (Bracket e) ∷ st) st
rebuilt (word.Prefix at op) st = on_expr (λ e st. AnExpr (Prefix at op e) ∷ st) st
rebuilt (word.Infix at s) st = on_expr (λ r. on_expr (λ l st. AnExpr (Infix at s l r) ∷ st)) st
rebuilt (word.Fetch at a) st = on_expr (λ e st. AnExpr (Fetch at a e) ∷ st) st
rebuilt (word.Store at a) st = on_expr (λ d. on_expr (λ e st. AnExpr (Store at a e d) ∷ st)) st
rebuilt word.List st = Parts [] ∷ st
rebuilt word.Part st = on_expr (λ e. on_parts (λ es st. Parts (es ++ e ∷ []) ∷ st)) st
rebuilt (word.Call at strict f) st = on_parts (λ es st. AnExpr (Call at strict f (of_list es)) ∷ st) st
rebuilt word.Then st = on_expr (λ p st. Test p ∷ st) st
rebuilt word.Else st = on_body (λ l. on_test (λ p st. Arm p l ∷ st)) st
rebuilt (word.EndIf at) st = on_body (λ r. on_arm (λ p l st. AnExpr (If at p l r) ∷ st)) st
rebuilt word.Give st = on_parts (λ es st. unwind st (Give (of_list es))) st
rebuilt word.Chain st = on_expr (λ e st. unwind st (Chain e)) st
rebuilt word.Do st = on_parts (λ es st. DoStep (of_list es) ∷ st) st
rebuilt (word.Let at) st = LetStart at [] ∷ st
rebuilt (word.Bind at x) st = on_let (λ let_at ts st. LetStart let_at (ts ++ Bind (record { at = at; name = x }) ∷ []) ∷ st) st
rebuilt word.Drop st = on_let (λ let_at ts st. LetStart let_at (ts ++ Drop ∷ []) ∷ st) st
rebuilt (word.EndLet at) st = on_parts (λ es. on_let (λ let_at ts st. LetStep at ts (of_list es) ∷ st)) st
rebuilt (word.Bound at n) st = Names (record { at = at; number = n }) [] [] ∷ st
rebuilt (word.Start at x) st = on_names (λ bound xs es st. Names bound (xs ++ record { at = at; name = x } ∷ []) es ∷ st) st
rebuilt word.First st = on_expr (λ e. on_names (λ bound xs es st. Names bound xs (es ++ e ∷ []) ∷ st)) st
rebuilt word.While st = on_expr (λ p. on_names (λ bound xs es st. LoopTest bound xs es p ∷ st)) st
rebuilt word.Until st = on_body (λ b. on_names (λ bound xs es st. LoopBody bound xs es b ∷ st)) st
rebuilt (word.EndLoop at n) st = end_loop at st
rebuilt (word.Array at x) st = ArrayOf (record { at = at; name = x }) ∷ st
rebuilt (word.Length at n) st = on_array (λ x st. AnItem (Cells x (record { at = at; number = n })) ∷ st) st
rebuilt (word.Function at x) st = Head (record { at = at; name = x }) [] None ∷ st
rebuilt (word.Parameter at x) st = on_head (λ f ps r st. Head f (ps ++ record { at = at; name = x } ∷ []) r ∷ st) st
rebuilt (word.Results at n) st = on_head (λ f ps r st. Head f ps (Some (record { at = at; number = n })) ∷ st) st
rebuilt (word.Body at) st = on_head (λ f ps r st. HeadAt f ps r at ∷ st) st
rebuilt word.EndFunction st =
    on_body (λ b. on_head_at (λ f ps r at st. AnItem (Defines (record { name = f; params = ps; results = r; body_at = at; body = b })) ∷ st)) st
rebuilt w st = st

abbrev pub rebuild : Words → Machine → Machine
rebuild [] st = st
rebuild (w ∷ ws) st = rebuild ws (rebuilt w st)

pub rebuild_append : (ws vs : Words) (st : Machine) → rebuild (ws ++ vs) st ≡ rebuild vs (rebuild ws st)
rebuild_append [] vs st = refl
rebuild_append (w ∷ ws) vs st = rebuild_append ws vs (rebuilt w st)

pub rebuild_both : (ws vs : Words) (st tu : Machine) → rebuild ws st ≡ tu → (last : Machine) → rebuild vs tu ≡ last → rebuild (ws ++ vs) st ≡ last
rebuild_both ws vs st tu p last q = rebuild_append ws vs st ∙ ap (rebuild vs) p ∙ q
