-- As many values as the rules count: by induction on the evaluation.
use Rattle.std.specs.Prelude.{◌≡◌, ℕ, ◌+◌, ◌==◌, Bool, true, false, List, [], ◌∷◌, ◌++◌, length, is_some, Option, Some, Ok, if◌then◌else◌}
use Rattle.std.proofs.Common.{sym, ◌∙◌, ap, subst, arith}
use Rattle.std.proofs.lemmas.List.{length-append}
use Rattle.tags.specs.declared.value.Value.{Value}
use Rattle.semantics.specs.Graph.{same_name}
use Rattle.source.specs.declared.fault.FaultKind.TheVariants.{Arity, NoMain}
use Rattle.source.specs.Tree.{Name, NameAt, Expr, Exprs, Body, Turn, Function, Item, Cells, Defines, Program, names_of}
use Rattle.source.specs.Spelled.{others}
use Rattle.source.specs.Fits.{Fits, FitsAll, FitsBody, FitsTurn, FitsProgram, count}
use Rattle.source.specs.Outside.{bare, bound_by}
use Rattle.source.specs.First.{◌>>=◌, must}
use Rattle.source.specs.Rules.{function_in, written_or_one, main_name, values, list_values, first_values, body_values, turn_values, new_names}
use Rattle.source.specs.Rules.{function_checked, functions_checked, heads, no_items, and_first}
use Rattle.source.specs.Evaluates.{World, Env, Stores, Evaluates, EvaluatesAll, Runs, Turns, number, named, bracket, prefix, infix_, fetch, store}
use Rattle.source.specs.Evaluates.{call, if_true, if_false, loop, one, more, lets, does, gives, chain, leaves, goes, ends, again}
use Rattle.source.specs.Counts.{IsGood, CountsHold, MainCounts}
use Rattle.source.proofs.Steps.{then_ok, ok_same, ok_as}
use Rattle.source.proofs.Kept.{test_ok, known_name, in_prefix, in_infix, in_fetch, in_store, IsCalled, in_call, in_if, IsTurned, in_loop, in_more}
use Rattle.source.proofs.Kept.{in_first, in_firsts, in_let, in_do, in_before, in_after}

-- the body of each function that a name stands for fits, and has its results
abbrev pub EachGood : Program → Type 0
EachGood p = (f : Name) (g : Function) → function_in p f ≡ Some g → FitsBody false g.body × (body_values p (bare g.params) g.body ≡ Ok (written_or_one
    g.results))

joined : (vs us : List Value) (n m k : ℕ) → length vs ≡ n → length us ≡ m → n + m ≡ k → length (vs ++ us) ≡ k
joined vs us n m k h l e = omega (arith, length-append vs us, h, l, e)

-- two functions of one name are one
same_results : (o : Option Function) (g h : Function) (n k : ℕ) → o ≡ Some g → o ≡ Some h → n ≡ written_or_one g.results → written_or_one h.results ≡ k → n ≡ k
same_results o g h n k p q e f = let s : g ≡ h = cc in e ∙ ap (λ (x : Function). written_or_one x.results) s ∙ f

mutual
  counted : {w : World} {env : Env} {e : Expr} {vs : List Value} {ss : Stores} → (scope : List Name) (n : ℕ) → EachGood w.program → Fits e → Evaluates w env
      e vs ss
      → values w.program scope e ≡ Ok n → length vs ≡ n
  counted scope n all fits number c = ok_same 1 n c
  counted {w = w} scope n all fits (named {t = t} {x = x} p) c = (known_name w.program scope t x n c).1
  counted scope n all fits (bracket d) c = counted scope n all fits d c
  counted {w = w} scope n all fits (prefix {t = t} {op = op} {e = e} d) c = (in_prefix w.program scope t op e n c).1
  counted {w = w} scope n all fits (infix_ {t = t} {sign = s} {l = l} {r = r} d e) c = (in_infix w.program scope t s l r n c).2
  counted {w = w} scope n all fits (fetch {t = t} {a = a} {e = e} d r) c = (in_fetch w.program scope t a e n c).2
  counted {w = w} scope n all fits (store {t = t} {a = a} {e = e} {d = d} p q) c = (in_store w.program scope t a e d n c).3
  counted {w = w} scope n all fits (call {t = t} {strict = strict} {f = f} {es = es} {g = g} d p r) c =
      let s : IsCalled w.program scope f es n = in_call w.program scope t strict f es n c in
      let h = all f g p in
      same_results (function_in w.program f) g s.function _ n p s.found (run_counted (bare g.params) _ false all h.0 r h.1) s.results
  counted {w = w} scope n all fits (if_true {t = t} {p = q} {l = l} {r = r} d p x) c = run_counted scope n false all fits.1 x (in_if w.program scope t q l r
      n c).1
  counted {w = w} scope n all fits (if_false {t = t} {p = q} {l = l} {r = r} d p x) c = run_counted scope n true all fits.2 x (in_if w.program scope t q l r
      n c).2
  counted {w = w} scope n all fits (loop {t = t} {k = k} {firsts = es} {turn = turn} d r) c =
      let s : IsTurned w.program scope k es turn n = in_loop w.program scope t k es turn n c in
      turns_counted (bare (names_of turn) ++ scope) n all fits.3 r s.turns s.names (firsts_counted scope [] (names_of turn) all fits.1 d s.begun ∙ fits.2) ∙
      sym s.names

  all_counted : {w : World} {env : Env} {e : Exprs} {vs : List Value} {ss : Stores} → (scope : List Name) (n : ℕ) → EachGood w.program → FitsAll e →
      EvaluatesAll w env e vs ss
      → list_values w.program scope e ≡ Ok n → length vs ≡ n
  all_counted scope n all fits (one d) c = counted scope n all fits d c
  all_counted {w = w} scope n all fits (more {e = e} {es = es} d ds) c =
      let s = in_more w.program scope e es n c in joined _ _ s.0 s.1 n (counted scope s.0 all fits.0 d s.2) (all_counted scope s.1 all fits.1 ds s.3) s.4

  firsts_counted : {w : World} {env : Env} {e : Exprs} {vs : List Value} {ss : Stores} → (scope before : List Name) (xs : List NameAt) → EachGood w.program
      → FitsAll e
      → EvaluatesAll w env e vs ss → first_values w.program scope before xs e ≡ Ok tt → length vs ≡ count e
  firsts_counted {w = w} scope before xs all fits (one {e = e} d) c = counted scope 1 all fits d (in_first w.program scope before xs e c).values
  firsts_counted {w = w} scope before xs all fits (more {e = e} {es = es} d ds) c =
      let s = in_firsts w.program scope before xs e es c in
      joined _ _ 1 (count es) _ (counted scope 1 all fits.0 d s.0.values) (firsts_counted scope (and_first before xs) (others xs) all fits.1 ds s.1) (omega
      arith)

  run_counted : {w : World} {env : Env} {e : Body} {vs : List Value} {ss : Stores} → (scope : List Name) (n : ℕ) (behind_else : Bool) → EachGood w.program →
      FitsBody behind_else e
      → Runs w env e vs ss → body_values w.program scope e ≡ Ok n → length vs ≡ n
  run_counted {w = w} scope n b all fits (lets {t = t} {targets = targets} {es = es} {rest = rest} d r) c =
      run_counted (bound_by targets ++ scope) n false all fits.2 r (in_let w.program scope t targets es rest n c).2
  run_counted {w = w} scope n b all fits (does {es = es} {rest = rest} d r) c = run_counted scope n false all fits.1 r (in_do w.program scope es rest n c).2
  run_counted scope n b all fits (gives d) c = all_counted scope n all fits d c
  run_counted scope n b all fits (chain d) c = counted scope n all fits.2 d c

  turns_counted : {w : World} {env : Env} {e : Turn} {vs rs : List Value} {ss : Stores} → (scope : List Name) (n : ℕ) → EachGood w.program → FitsTurn e →
      Turns w env e vs rs ss
      → turn_values w.program scope e ≡ Ok n → n ≡ length (names_of e) → length vs ≡ length (names_of e) → length rs ≡ length (names_of e)
  turns_counted scope n all fits (leaves d p) c e h = h
  turns_counted {w = w} scope n all fits (goes {xs = xs} {p = q} {body = body} d p r t) c e h =
      turns_counted scope n all fits t c e (run_counted scope n false all fits.1 r (in_before w.program scope xs q body n c).1 ∙ e)
  turns_counted {w = w} scope n all fits (ends {xs = xs} {p = q} {body = body} r d p) c e h = run_counted scope n false all fits.0 r (in_after w.program
      scope xs body q n c).0 ∙ e
  turns_counted {w = w} scope n all fits (again {xs = xs} {p = q} {body = body} r d p t) c e h =
      turns_counted scope n all fits t c e (run_counted scope n false all fits.0 r (in_after w.program scope xs body q n c).0 ∙ e)

-- A GOOD PROGRAM has good functions.
abbrev IsGoodIn : Program → Function → Type 0
IsGoodIn p g = FitsBody false g.body × (body_values p (bare g.params) g.body ≡ Ok (written_or_one g.results))

function_good : (p : Program) (g : Function) → FitsBody false g.body → function_checked p g ≡ Ok tt → IsGoodIn p g
function_good p g fits h =
    let s = then_ok (new_names p [] g.params) (λ new. body_values p (bare g.params) g.body >>= (λ n. must (n == written_or_one g.results) Arity g.body_at))
    tt h in
    let t = then_ok (body_values p (bare g.params) g.body) (λ n. must (n == written_or_one g.results) Arity g.body_at) tt s.2 in
    (fits, ok_as (body_values p (bare g.params) g.body) t.0 (written_or_one g.results) t.1 (test_ok t.0 (written_or_one g.results) Arity g.body_at tt t.2))

chosen_good : (p : Program) (b : Bool) (f g : Function) (o : Option Function) → IsGoodIn p f → (o ≡ Some g → IsGoodIn p g) → (if b then Some f else o) ≡
    Some g → IsGoodIn p g
chosen_good p true f g o good rest h = let e : f ≡ g = cc in subst (IsGoodIn p) e good
chosen_good p false f g o good rest h = rest h

functions_good : (p : Program) (items : List Item) → FitsProgram items → functions_checked p items ≡ Ok tt → (f : Name) (g : Function) → function_in items f
    ≡ Some g → IsGoodIn p g
functions_good p [] fits c f g h = cc
functions_good p (Cells x len ∷ items) fits c f g h = functions_good p items fits.1 c f g h
functions_good p (Defines k ∷ items) fits c f g h =
    let s = then_ok (function_checked p k) (λ good. functions_checked p items) tt c in
    chosen_good p (same_name f k.name.name) k g (function_in items f) (function_good p k fits.0.2 s.1) (functions_good p items fits.1 s.2 f g) h

pub each_good : (p : Program) → IsGood p → EachGood p
each_good p good =
    let s = then_ok (heads no_items p) (λ all. must (is_some (function_in p main_name)) NoMain good.end >>= (λ main. functions_checked p p)) tt good.checked in
    let t = then_ok (must (is_some (function_in p main_name)) NoMain good.end) (λ main. functions_checked p p) tt s.2 in
    functions_good p p good.fits t.2

pub counts_hold : CountsHold
counts_hold w env scope e n vs ss good fits c d = counted scope n (each_good w.program good) fits d c

pub main_counts : MainCounts
main_counts w arguments vs ss good r =
    let all = each_good w.program good in let h = all main_name r.main r.named in run_counted (bare r.main.params) (written_or_one r.main.results) false all
    h.0 r.runs h.1
