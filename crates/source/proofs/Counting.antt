-- A part that keeps the rules is lowered to as many sources as it has values.
use Rattle.std.proofs.Common.{◌≡◌, ℕ, zero, suc, ◌+◌, List, [], ◌∷◌, ◌++◌, length, Option, Ok, sym, ap, ◌∙◌, arith, length-append}
use Rattle.std.proofs.lemmas.List.{length-map}
use Rattle.semantics.specs.declared.graph.Source.{Source}
use Rattle.source.specs.Tree.{Name, NameAt, Expr, Number, Named, Bracket, Prefix, Infix, Fetch, Store, Call, If, Loop, Exprs, One, More, Body, Let}
use Rattle.source.specs.Tree.{Do, Give, Chain, Program, names_of}
use Rattle.source.specs.Outside.{bare, bound_by}
use Rattle.source.specs.Rules.{function_in, values, list_values, body_values}
use Rattle.source.specs.Lowered.{Lowered, Site, Spot, Scope, spot_after, ports_from, let_scoped, results_of, merges, lower, lower_list, lower_body}
use Rattle.source.proofs.Steps.{ok_same}
use Rattle.source.proofs.CountedSources.{ports_length, inputs_count, prefixed_one}
use Rattle.source.proofs.Kept.{known_name, in_prefix, in_infix, in_fetch, in_store, IsCalled, in_call, in_if, IsTurned, in_loop, in_more, in_let, in_do}

pub merges_length : (site : Site) (at cond : ℕ) (ss ts : List Source) (n : ℕ) → length ss ≡ n → length ts ≡ n → length (merges site at cond ss ts) ≡ n
merges_length site at cond [] [] n e f = e
merges_length site at cond [] (t ∷ ts) n e f = e
merges_length site at cond (s ∷ ss) [] n e f = absurd (omega (arith, e, f))
merges_length site at cond (s ∷ ss) (t ∷ ts) zero e f = absurd (omega (arith, e))
merges_length site at cond (s ∷ ss) (t ∷ ts) (suc n) e f = ap suc (merges_length site at cond ss ts n (omega (arith, e)) (omega (arith, f)))

called_count : (n q k : ℕ) (o : Option _) → results_of o ≡ k → length (ports_from n q (results_of o)) ≡ k
called_count n q k o e = ports_length n q (results_of o) ∙ e

both_count : (xs ys : List Source) (n m k : ℕ) → length xs ≡ n → length ys ≡ m → n + m ≡ k → length (xs ++ ys) ≡ k
both_count xs ys n m k e f g = omega (arith, length-append xs ys, e, f, g)

mutual
  pub count_of : (p : Program) (site : Site) (spot : Spot) (scope : Scope) (e : Expr) (names : List Name) (n : ℕ) → values p names e ≡ Ok n
      → length (lower p site spot scope e).sources ≡ n
  count_of p site spot scope (Number at k) names n h = ok_same 1 n h
  count_of p site spot scope (Named at x) names n h = (known_name p names at x n h).1
  count_of p site spot scope (Bracket e) names n h = count_of p site spot scope e names n h
  count_of p site spot scope (Prefix at op e) names n h = prefixed_one site spot at op e (lower p site spot scope e) ∙ (in_prefix p names at op e n h).1
  count_of p site spot scope (Infix at s l r) names n h = (in_infix p names at s l r n h).2
  count_of p site spot scope (Fetch at a e) names n h = (in_fetch p names at a e n h).2
  count_of p site spot scope (Store at a e d) names n h = (in_store p names at a e d n h).3
  count_of p site spot scope (Call at strict f es) names n h =
      let k : IsCalled p names f es n = in_call p names at strict f es n h in
      called_count (spot.next + length (lower_list p site spot scope es).nodes) 0 n (function_in p f) (ap results_of k.found ∙ k.results)
  count_of p site spot scope (If at q l r) names n h =
      let k = in_if p names at q l r n h in
      inputs_count _ _ ∙ merges_length site at _ _ _ n (body_count p _ _ _ l names n k.1) (body_count p _ _ _ r names n k.2)
  count_of p site spot scope (Loop at bound firsts turn) names n h =
      let k : IsTurned p names bound firsts turn n = in_loop p names at bound firsts turn n h in
      ports_length _ 0 (length (bare (names_of turn))) ∙ length-map (names_of turn) (λ (x : NameAt). x.name) ∙ sym k.names

  pub list_count : (p : Program) (site : Site) (spot : Spot) (scope : Scope) (es : Exprs) (names : List Name) (n : ℕ) → list_values p names es ≡ Ok n
      → length (lower_list p site spot scope es).sources ≡ n
  list_count p site spot scope (One e) names n h = count_of p site spot scope e names n h
  list_count p site spot scope (More e es) names n h =
      let k = in_more p names e es n h in
      both_count (lower p site spot scope e).sources (lower_list p site (spot_after spot (lower p site spot scope e)) scope es).sources k.0 k.1 n
      (count_of p site spot scope e names k.0 k.2) (list_count p site (spot_after spot (lower p site spot scope e)) scope es names k.1 k.3) k.4

  pub body_count : (p : Program) (site : Site) (spot : Spot) (scope : Scope) (body : Body) (names : List Name) (n : ℕ) → body_values p names body ≡ Ok n
      → length (lower_body p site spot scope body).sources ≡ n
  body_count p site spot scope (Let at targets es rest) names n h =
      let l : Lowered = lower_list p site spot scope es in
      body_count p site (spot_after spot l) (let_scoped targets l.sources scope) rest (bound_by targets ++ names) n (in_let p names at targets es rest n h).2
  body_count p site spot scope (Do es rest) names n h = body_count p site (spot_after spot (lower_list p site spot scope es)) scope rest names n
      (in_do p names es rest n h).2
  body_count p site spot scope (Give es) names n h = list_count p site spot scope es names n h
  body_count p site spot scope (Chain e) names n h = count_of p site spot scope e names n h
