-- In a program that fits the grammar and keeps the rules each operand has one value, and each name of a loop a first value.
use Rattle.std.proofs.Common.{◌≡◌, ℕ, ◌+◌, ◌==◌, Bool, true, false, List, [], ◌∷◌, ◌++◌, Some, Ok, sym, ◌∙◌, ap, inl, inr}
use Rattle.std.specs.Prelude.{is_some}
use Rattle.operators.specs.declared.Unary.{Unary}
use Rattle.operators.specs.declared.Unary.TheVariants.{Neg, Not}
use Rattle.source.specs.declared.fault.FaultKind.TheVariants.{Arity, NoMain}
use Rattle.source.specs.Tree.{Name, NameAt, Expr, Number, Named, Bracket, Prefix, Infix, Fetch, Store, Call, If, Loop, Exprs, One, More, Body, Let}
use Rattle.source.specs.Tree.{Do, Give, Chain, Turn, Before, After, Function, Item, Cells, Defines, Program, names_of}
use Rattle.source.specs.Spelled.{others}
use Rattle.source.specs.Fits.{Fits, FitsAll, FitsBody, FitsTurn, FitsProgram, IsLeast}
use Rattle.source.specs.First.{◌>>=◌, must}
use Rattle.source.specs.Outside.{bare, bound_by}
use Rattle.source.specs.Rules.{values, list_values, first_values, body_values, turn_values, function_in, written_or_one, and_first}
use Rattle.source.specs.Rules.{functions_checked, function_checked, new_names, heads, no_items, main_name, checked}
use Rattle.source.specs.Lowered.{results_of}
use Rattle.source.proofs.Steps.{then_ok, ok_same}
use Rattle.source.proofs.Kept.{known_name, in_prefix, in_infix, in_fetch, in_store, in_call, in_if, in_loop, in_more, in_first, in_firsts, in_let}
use Rattle.source.proofs.Kept.{in_do, in_before, in_after}
use Rattle.lowering.specs.Counts.{many, list_many, body_many, Counted, ListCounted, BodyCounted, TurnCounted, ItemsCounted}

-- an expression with so many values
abbrev Has : Program → Expr → ℕ → Type 0
Has p e n = Counted p e × (many p e ≡ n)

least_has : (p : Program) (scope : List Name) (op : Unary) (e : Expr) (n : ℕ) → IsLeast op e → values p scope e ≡ Ok n → Has p e n
least_has p scope Neg (Number at k) n h e = (tt, ok_same 1 n e)
least_has p scope Neg (Named at x) n h e = absurd h
least_has p scope Neg (Bracket i) n h e = absurd h
least_has p scope Neg (Prefix at op i) n h e = absurd h
least_has p scope Neg (Infix at s l r) n h e = absurd h
least_has p scope Neg (Fetch at a i) n h e = absurd h
least_has p scope Neg (Store at a i d) n h e = absurd h
least_has p scope Neg (Call at strict f es) n h e = absurd h
least_has p scope Neg (If at q l r) n h e = absurd h
least_has p scope Neg (Loop at bound firsts turn) n h e = absurd h
least_has p scope Not i n h e = absurd h

results_many : (p : Program) (f : Name) (g : Function) (n : ℕ) → function_in p f ≡ Some g → written_or_one g.results ≡ n → results_of (function_in p f) ≡ n
results_many p f g n e h = ap results_of e ∙ h

mutual
  pub has : (p : Program) (scope : List Name) (e : Expr) (n : ℕ) → Fits e → values p scope e ≡ Ok n → Has p e n
  has p scope (Number at k) n f h = (tt, ok_same 1 n h)
  has p scope (Named at x) n f h = (tt, (known_name p scope at x n h).1)
  has p scope (Bracket e) n f h = has p scope e n f h
  has p scope (Prefix at op e) n f h =
      let s = in_prefix p scope at op e n h in
      let t : Has p e 1 = elim f.1 [ inl g ↦ has p scope e 1 g s.0.values | inr g ↦ least_has p scope op e 1 g s.0.values ] in
      (t, s.1)
  has p scope (Infix at s l r) n f h =
      let k = in_infix p scope at s l r n h in let a = has p scope l 1 f.0 k.0.values in let b = has p scope r 1 f.2 k.1.values in
      ((a.0, a.1, b.0, b.1), k.2)
  has p scope (Fetch at a e) n f h = let k = in_fetch p scope at a e n h in (has p scope e 1 f k.1.values, k.2)
  has p scope (Store at a e d) n f h =
      let k = in_store p scope at a e d n h in let x = has p scope e 1 f.0 k.1.values in let y = has p scope d 1 f.1 k.2.values in
      ((x.0, x.1, y.0, y.1), k.3)
  has p scope (Call at strict f es) n g h =
      let k = in_call p scope at strict f es n h in ((has_all p scope es _ g k.arguments).0, results_many p f k.function n k.found k.results)
  has p scope (If at q l r) n f h =
      let k = in_if p scope at q l r n h in let x = has p scope q 1 f.0 k.0.values in
      let a = has_body p scope false l n f.1 k.1 in let b = has_body p scope true r n f.2 k.2 in
      ((x.0, x.1, a.0, b.0, a.1 ∙ sym b.1), a.1)
  has p scope (Loop at bound firsts turn) n f h =
      let k = in_loop p scope at bound firsts turn n h in
      ((has_firsts p scope [] (names_of turn) firsts f.1 k.begun, f.2, has_turn p (bare (names_of turn) ++ scope) turn n f.3 k.turns), sym k.names)

  pub has_all : (p : Program) (scope : List Name) (es : Exprs) (n : ℕ) → FitsAll es → list_values p scope es ≡ Ok n → ListCounted p es × (list_many p es ≡ n)
  has_all p scope (One e) n f h = has p scope e n f h
  has_all p scope (More e es) n f h =
      let k = in_more p scope e es n h in let a = has p scope e k.0 f.0 k.2 in let b = has_all p scope es k.1 f.1 k.3 in
      ((a.0, b.0), ap (λ (m : ℕ). m + list_many p es) a.1 ∙ ap (λ (m : ℕ). k.0 + m) b.1 ∙ k.4)

  pub has_firsts : (p : Program) (scope before : List Name) (xs : List NameAt) (es : Exprs) → FitsAll es → first_values p scope before xs es ≡ Ok tt
      → ListCounted p es
  has_firsts p scope before xs (One e) f h = (has p scope e 1 f (in_first p scope before xs e h).values).0
  has_firsts p scope before xs (More e es) f h =
      let k = in_firsts p scope before xs e es h in
      ((has p scope e 1 f.0 k.0.values).0, has_firsts p scope (and_first before xs) (others xs) es f.1 k.1)

  pub has_body : (p : Program) (scope : List Name) (behind_else : Bool) (b : Body) (n : ℕ) → FitsBody behind_else b → body_values p scope b ≡ Ok n
      → BodyCounted p b × (body_many p b ≡ n)
  has_body p scope c (Let at targets es rest) n f h =
      let k = in_let p scope at targets es rest n h in let r = has_body p (bound_by targets ++ scope) false rest n f.2 k.2 in
      (((has_all p scope es _ f.1 k.1).0, r.0), r.1)
  has_body p scope c (Do es rest) n f h =
      let k = in_do p scope es rest n h in let r = has_body p scope false rest n f.1 k.2 in (((has_all p scope es k.0 f.0 k.1).0, r.0), r.1)
  has_body p scope c (Give es) n f h = has_all p scope es n f h
  has_body p scope c (Chain e) n f h = has p scope e n f.2 h

  pub has_turn : (p : Program) (scope : List Name) (turn : Turn) (n : ℕ) → FitsTurn turn → turn_values p scope turn ≡ Ok n → TurnCounted p turn
  has_turn p scope (Before xs q body) n f h =
      let k = in_before p scope xs q body n h in let x = has p scope q 1 f.0 k.0.values in (x.0, x.1, (has_body p scope false body n f.1 k.1).0)
  has_turn p scope (After xs body q) n f h =
      let k = in_after p scope xs body q n h in let x = has p scope q 1 f.1 k.1.values in (x.0, x.1, (has_body p scope false body n f.0 k.0).0)

items_counted : (p : Program) (items : List Item) → FitsProgram items → functions_checked p items ≡ Ok tt → ItemsCounted p items
items_counted p [] fits h = tt
items_counted p (Cells x len ∷ items) fits h = items_counted p items fits.1 h
items_counted p (Defines f ∷ items) fits h =
    let s = then_ok (function_checked p f) (λ good. functions_checked p items) tt h in
    let t = then_ok (new_names p [] f.params) (λ new. body_values p (bare f.params) f.body >>= (λ n. must (n == written_or_one f.results) Arity
    f.body_at)) tt s.1 in
    let u = then_ok (body_values p (bare f.params) f.body) (λ n. must (n == written_or_one f.results) Arity f.body_at) tt t.2 in
    ((has_body p (bare f.params) false f.body u.0 fits.0.2 u.1).0, items_counted p items fits.1 s.2)

pub all_counted : (p : Program) (end : ℕ) → FitsProgram p → checked end p ≡ Ok tt → ItemsCounted p p
all_counted p end fits h =
    let s = then_ok (heads no_items p) (λ all. must (is_some (function_in p main_name)) NoMain end >>= (λ main. functions_checked p p)) tt h in
    let t = then_ok (must (is_some (function_in p main_name)) NoMain end) (λ main. functions_checked p p) tt s.2 in
    items_counted p p fits t.2
