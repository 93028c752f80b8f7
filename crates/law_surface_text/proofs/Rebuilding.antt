-- A STACK MACHINE that reads a tree back from its words.
use Rattle.std.proofs.Common.{◌≡◌, ℕ, List, [], ◌∷◌, ◌++◌, Option, None, Some, refl, ap, ◌∙◌}
use Rattle.source.specs.declared.word.Word.{Word as CoreWord}
use Rattle.source.specs.declared.word.Word.TheVariants as core_word
use Rattle.source.specs.Tree.{Name, NameAt, Target, Bind, Drop}
use Rattle.surface.specs.declared.word.Word.{Word}
use Rattle.surface.specs.declared.word.Word.TheVariants as word
use Rattle.surface.specs.Tree.{Count, Written, Constant, Expr, Number, Named, Bracket, Prefix, Infix, And, Or, Not, Fetch, Store, Call, If, Loop, For, Exprs, One}
use Rattle.surface.specs.Tree.{More, Body, Let, Do, When, Give, Chain, Tests, Last, Else, Before, After, Carried, Nothing, With, Param, Item, Cells, Const}
use Rattle.surface.specs.Tree.{Defines}
use Rattle.surface.specs.Words.{Words}

-- what has names with first values: a loop, or a `for`
pub data Named1 : Type 0 where
  OfLoop : (bound : Count) → Named1
  OfFor : (bound : Option Count) (counter : NameAt) (first end : Expr) → Named1

-- what the machine holds, with what began and has not ended
pub data Held : Type 0 where
  AnExpr : (e : Expr) → Held
  Parts : (es : List Expr) → Held
  ABody : (b : Body) → Held
  SomeTests : (t : Tests) → Held
  LetStart : (at : ℕ) (ts : List Target) → Held
  LetStep : (at : ℕ) (ts : List Target) (es : Exprs) → Held
  DoStep : (es : Exprs) → Held
  WhenStep : (t : Tests) → Held
  Test : (p : Expr) → Held
  Arm : (p : Expr) (l : Body) → Held
  LoopHead : Held
  ForHead : (bound : Option Count) → Held
  ForCounter : (bound : Option Count) (counter : NameAt) → Held
  Names : (of : Named1) (xs : List NameAt) (es : List Expr) → Held
  LoopTest : (bound : Count) (xs : List NameAt) (es : List Expr) (p : Expr) → Held
  LoopBody : (bound : Count) (xs : List NameAt) (es : List Expr) (b : Body) → Held
  ArrayOf : (x : NameAt) → Held
  ConstantOf : (x : NameAt) → Held
  Head : (x : NameAt) (ps : List Param) (r : Option Count) → Held
  HeadAt : (x : NameAt) (ps : List Param) (r : Option Count) (at : ℕ) → Held
  AnItem : (i : Item) → Held

abbrev pub Machine : Type 0
Machine = List Held

-- LISTS
abbrev pub to_list : Exprs → List Expr
to_list (One e) = e ∷ []
to_list (More e es) = e ∷ to_list es

abbrev pub of_more : Expr → List Expr → Exprs
of_more e [] = One e
of_more e (f ∷ es) = More e (of_more f es)

abbrev pub of_list : List Expr → Exprs
of_list [] = One (Number 0 0)
of_list (e ∷ es) = of_more e es

pub list_again : (es : Exprs) → of_list (to_list es) ≡ es
list_again (One e) = refl
list_again (More e (One f)) = refl
list_again (More e (More f es)) = ap (More e) (list_again (More f es))

-- ONE WORD
-- a body ends: its steps are on top
abbrev pub unwind : Machine → Body → Machine
unwind [] b = ABody b ∷ []
unwind (LetStep at ts es ∷ st) b = unwind st (Let at ts es b)
unwind (DoStep es ∷ st) b = unwind st (Do es b)
unwind (WhenStep t ∷ st) b = unwind st (When t b)
unwind (h ∷ st) b = ABody b ∷ h ∷ st

abbrev pub on_expr : (Expr → Machine → Machine) → Machine → Machine
on_expr f (AnExpr e ∷ st) = f e st
on_expr f st = []

abbrev pub on_parts : (List Expr → Machine → Machine) → Machine → Machine
on_parts f (Parts es ∷ st) = f es st
on_parts f st = []

abbrev pub on_body : (Body → Machine → Machine) → Machine → Machine
on_body f (ABody b ∷ st) = f b st
on_body f st = []

abbrev pub on_names : (Named1 → List NameAt → List Expr → Machine → Machine) → Machine → Machine
on_names f (Names of xs es ∷ st) = f of xs es st
on_names f st = []

abbrev pub on_loop : (Count → List NameAt → List Expr → Machine → Machine) → Machine → Machine
on_loop f (Names (OfLoop bound) xs es ∷ st) = f bound xs es st
on_loop f st = []

abbrev pub on_let : (ℕ → List Target → Machine → Machine) → Machine → Machine
on_let f (LetStart at ts ∷ st) = f at ts st
on_let f st = []

abbrev pub on_test : (Expr → Machine → Machine) → Machine → Machine
on_test f (Test p ∷ st) = f p st
on_test f st = []

abbrev pub on_arm : (Expr → Body → Machine → Machine) → Machine → Machine
on_arm f (Arm p l ∷ st) = f p l st
on_arm f st = []

abbrev pub on_head : (NameAt → List Param → Option Count → Machine → Machine) → Machine → Machine
on_head f (Head x ps r ∷ st) = f x ps r st
on_head f st = []

abbrev pub on_head_at : (NameAt → List Param → Option Count → ℕ → Machine → Machine) → Machine → Machine
on_head_at f (HeadAt x ps r at ∷ st) = f x ps r at st
on_head_at f st = []

abbrev pub part : Machine → Machine
part st = on_expr (λ e. on_parts (λ es st. Parts (es ++ e ∷ []) ∷ st)) st

abbrev pub bounded : Count → Machine → Machine
bounded n (LoopHead ∷ st) = Names (OfLoop n) [] [] ∷ st
bounded n (ForHead bound ∷ st) = ForHead (Some n) ∷ st
bounded n st = []

abbrev pub counted : NameAt → Machine → Machine
counted i (ForHead bound ∷ st) = ForCounter bound i ∷ st
counted i st = []

abbrev pub ranged : Expr → Expr → Machine → Machine
ranged first end (ForCounter bound i ∷ st) = Names (OfFor bound i first end) [] [] ∷ st
ranged first end st = []

abbrev pub carry : List NameAt → List Expr → Carried
carry [] es = Nothing
carry (x ∷ xs) es = With (x ∷ xs) (of_list es)

abbrev pub end_for : ℕ → Body → Machine → Machine
end_for at b (Names (OfFor bound i first end) xs es ∷ st) = AnExpr (For at bound i first end (carry xs es) b) ∷ st
end_for at b st = []

abbrev pub end_loop : ℕ → Machine → Machine
end_loop at (ABody b ∷ LoopTest bound xs es p ∷ st) = AnExpr (Loop at bound (of_list es) (Before xs p b)) ∷ st
end_loop at (AnExpr p ∷ LoopBody bound xs es b ∷ st) = AnExpr (Loop at bound (of_list es) (After xs b p)) ∷ st
end_loop at st = []

abbrev pub end_when : ℕ → Machine → Machine
end_when at (ABody l ∷ Test p ∷ st) = SomeTests (Last at p l) ∷ st
end_when at (SomeTests t ∷ Arm p l ∷ st) = SomeTests (Else at p l t) ∷ st
end_when at st = []

abbrev pub when : Machine → Machine
when (SomeTests t ∷ Parts es ∷ st) = WhenStep t ∷ st
when st = []

abbrev pub end_array : List Expr → Machine → Machine
end_array es (ArrayOf x ∷ st) = AnItem (Cells x (of_list es)) ∷ st
end_array es st = []

abbrev pub end_constant : Expr → Machine → Machine
end_constant e (ConstantOf x ∷ st) = AnItem (Const x e) ∷ st
end_constant e st = []

abbrev pub one_param : Param → Machine → Machine
one_param p st = on_head (λ f ps r st. Head f (ps ++ p ∷ []) r ∷ st) st

abbrev pub core_rebuilt : CoreWord Name → Machine → Machine
core_rebuilt (core_word.Number at n) st = AnExpr (Number at n) ∷ st
core_rebuilt (core_word.Name at x) st = AnExpr (Named at x) ∷ st
core_rebuilt core_word.Bracket st = on_expr (λ e st. AnExpr (Bracket e) ∷ st) st
core_rebuilt (core_word.Prefix at op) st = on_expr (λ e st. AnExpr (Prefix at op e) ∷ st) st
core_rebuilt (core_word.Infix at s) st = on_expr (λ r. on_expr (λ l st. AnExpr (Infix at s l r) ∷ st)) st
core_rebuilt (core_word.Cell at x) st = Parts [] ∷ st
core_rebuilt core_word.Index st = part st
core_rebuilt (core_word.Fetch at a) st = on_parts (λ es st. AnExpr (Fetch at a (of_list es)) ∷ st) (part st)
core_rebuilt (core_word.Store at a) st = on_expr (λ d. on_parts (λ es st. AnExpr (Store at a (of_list es) d) ∷ st)) st
core_rebuilt core_word.List st = Parts [] ∷ st
core_rebuilt core_word.Part st = part st
core_rebuilt (core_word.Call at strict f) st = on_parts (λ es st. AnExpr (Call at strict f (of_list es)) ∷ st) st
core_rebuilt core_word.Then st = on_expr (λ p st. Test p ∷ st) st
core_rebuilt core_word.Else st = on_body (λ l. on_test (λ p st. Arm p l ∷ st)) st
core_rebuilt (core_word.EndIf at) st = on_body (λ r. on_arm (λ p l st. AnExpr (If at p l r) ∷ st)) st
core_rebuilt core_word.Give st = on_parts (λ es st. unwind st (Give (of_list es))) st
core_rebuilt core_word.Chain st = on_expr (λ e st. unwind st (Chain e)) st
core_rebuilt core_word.Do st = on_parts (λ es st. DoStep (of_list es) ∷ st) st
core_rebuilt (core_word.Let at) st = LetStart at [] ∷ st
core_rebuilt (core_word.Bind at x) st = on_let (λ let_at ts st. LetStart let_at (ts ++ Bind (record { at = at; name = x }) ∷ []) ∷ st) st
core_rebuilt core_word.Drop st = on_let (λ let_at ts st. LetStart let_at (ts ++ Drop ∷ []) ∷ st) st
core_rebuilt (core_word.EndLet at) st = on_parts (λ es. on_let (λ let_at ts st. LetStep at ts (of_list es) ∷ st)) st
core_rebuilt (core_word.Loop at) st = LoopHead ∷ st
core_rebuilt (core_word.Bound at n) st = bounded (Written at n) st
core_rebuilt (core_word.Start at x) st = on_names (λ of xs es st. Names of (xs ++ record { at = at; name = x } ∷ []) es ∷ st) st
core_rebuilt core_word.First st = on_expr (λ e. on_names (λ of xs es st. Names of xs (es ++ e ∷ []) ∷ st)) st
core_rebuilt core_word.While st = on_expr (λ p. on_loop (λ bound xs es st. LoopTest bound xs es p ∷ st)) st
core_rebuilt core_word.Until st = on_body (λ b. on_loop (λ bound xs es st. LoopBody bound xs es b ∷ st)) st
core_rebuilt (core_word.EndLoop at n) st = end_loop at st
core_rebuilt (core_word.Array at x) st = ArrayOf (record { at = at; name = x }) ∷ st
core_rebuilt (core_word.Function at x) st = Head (record { at = at; name = x }) [] None ∷ st
core_rebuilt (core_word.Parameter at x) st = one_param (record { name = record { at = at; name = x }; rank = 0 }) st
core_rebuilt (core_word.Results at n) st = on_head (λ f ps r st. Head f ps (Some (Written at n)) ∷ st) st
core_rebuilt (core_word.Body at) st = on_head (λ f ps r st. HeadAt f ps r at ∷ st) st
core_rebuilt core_word.EndFunction st =
    on_body (λ b. on_head_at (λ f ps r at st. AnItem (Defines (record { name = f; params = ps; results = r; body_at = at; body = b })) ∷ st)) st
core_rebuilt w st = st

abbrev pub rebuilt : Word Name → Machine → Machine
rebuilt (word.Core w) st = core_rebuilt w st
rebuilt word.EndArray st = on_parts end_array st
rebuilt (word.Constant at x) st = ConstantOf (record { at = at; name = x }) ∷ st
rebuilt word.EndConstant st = on_expr end_constant st
rebuilt (word.ArrayParameter at x n) st = one_param (record { name = record { at = at; name = x }; rank = n }) st
rebuilt (word.ConstantResults at x) st = on_head (λ f ps r st. Head f ps (Some (Constant at x)) ∷ st) st
rebuilt word.AndThen st = st
rebuilt (word.EndAnd at) st = on_expr (λ r. on_expr (λ l st. AnExpr (And at l r) ∷ st)) st
rebuilt word.OrElse st = st
rebuilt (word.EndOr at) st = on_expr (λ r. on_expr (λ l st. AnExpr (Or at l r) ∷ st)) st
rebuilt (word.Not at) st = on_expr (λ e st. AnExpr (Not at e) ∷ st) st
rebuilt word.NextIndex st = part st
rebuilt (word.ConstantBound at x) st = bounded (Constant at x) st
rebuilt (word.EndConstantLoop at x) st = end_loop at st
rebuilt (word.For at) st = ForHead None ∷ st
rebuilt (word.Counter at x) st = counted (record { at = at; name = x }) st
rebuilt word.Range st = st
rebuilt word.EndRange st = on_expr (λ end. on_expr (λ first. ranged first end)) st
rebuilt word.Turns st = st
rebuilt (word.EndFor at) st = on_body (end_for at) st
rebuilt (word.EndWhen at) st = end_when at st
rebuilt word.When st = when st

abbrev pub rebuild : Words → Machine → Machine
rebuild [] st = st
rebuild (w ∷ ws) st = rebuild ws (rebuilt w st)

pub rebuild_append : (ws vs : Words) (st : Machine) → rebuild (ws ++ vs) st ≡ rebuild vs (rebuild ws st)
rebuild_append [] vs st = refl
rebuild_append (w ∷ ws) vs st = rebuild_append ws vs (rebuilt w st)

pub rebuild_both : (ws vs : Words) (st tu : Machine) → rebuild ws st ≡ tu → (last : Machine) → rebuild vs tu ≡ last → rebuild (ws ++ vs) st ≡ last
rebuild_both ws vs st tu p last q = rebuild_append ws vs st ∙ ap (rebuild vs) p ∙ q
