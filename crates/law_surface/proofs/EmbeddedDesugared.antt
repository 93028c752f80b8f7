-- A program of the core is short for itself.
use Rattle.std.specs.Prelude.{◌≡◌, ℕ, Bool, true, false, List, [], ◌∷◌, ◌++◌, map, option_map, length, Option, None, Some, Ok, ⊤, refl}
use Rattle.std.proofs.Common.{◌∙◌, ap, arith}
use Rattle.semantics.proofs.Lines.{same_name_itself}
use Rattle.source.specs.Tree as core
use Rattle.source.specs.Tree.{Name, NameAt, NumberAt}
use Rattle.source.specs.Spelled.{others}
use Rattle.source.specs.Outside.{bare, bound_by}
use Rattle.source.specs.Rules as core_rules
use Rattle.source.specs.Rules.{and_first, written_or_one}
use Rattle.source.proofs.Steps.{then_ok}
use Rattle.source.proofs.Kept.{in_prefix, in_infix, in_fetch, in_store, IsCalled, in_call, in_if, IsTurned, in_loop, in_more}
use Rattle.source.proofs.Kept.{in_first, in_firsts, in_let, in_do, in_before, in_after}
use Rattle.surface.specs.Known.{Known, nothing, lookup, some_or, product, OfValues, callee}
use Rattle.surface.specs.Rules.{ranks}
use Rattle.surface.specs.Making.{made}
use Rattle.surface.specs.Desugar.{Setting, array_for, desugar, desugar_all, desugar_body, desugar_turn}
use Rattle.surface.specs.Instances.{arrays_for, in_function}
use Rattle.surface.specs.Desugared.{core_results, core_items, first_setting, with_instances, desugared}
use Rattle.surface.specs.Embedded.{written, value_param, embedded_expr, embedded_exprs, embedded_body, embedded_turn, embedded}
use Rattle.law_surface.proofs.EmbeddedRules.{Matches, all_are_values}
use Rattle.law_surface.proofs.EmbeddedHeads.{Good, none, more, grown, all_grown, heads_are, matches, arrays_kept}
use Rattle.law_surface.proofs.EmbeddedChecked.{values_back, BodyGood, body_good, GoodParts}
use Rattle.law_surface.proofs.EmbeddedWanted.{plain_grown, none_wanted}

itself : (s : Setting) → s.stand_for ≡ [] → (a : Name) → array_for s a ≡ a
itself s o a = ap (λ (entries : List (Name × Name)). some_or a (lookup entries a)) o

mutual
  same : (p : core.Program) (s : Setting) → Matches p s.known → s.stand_for ≡ [] → (truth : Bool) (scope : List Name) (e : core.Expr) (n : ℕ)
      → core_rules.values p scope e ≡ Ok n → desugar s truth (embedded_expr e) ≡ made e
  same p s m o truth scope (core.Number at v) n h = refl
  same p s m o truth scope (core.Named at x) n h = rw m.constants refl
  same p s m o truth scope (core.Bracket e) n h = rw (same p s m o truth scope e n h) refl
  same p s m o truth scope (core.Prefix at op e) n h =
      let k = in_prefix p scope at op e n h in rw (same p s m o false scope e 1 k.0.values) refl
  same p s m o truth scope (core.Infix at sign l r) n h =
      let k = in_infix p scope at sign l r n h in rw (same p s m o false scope l 1 k.0.values) (rw (same p s m o false scope r 1 k.1.values) refl)
  same p s m o truth scope (core.Fetch at a e) n h =
      let k = in_fetch p scope at a e n h in rw (same p s m o false scope e 1 k.1.values) (rw (itself s o a) refl)
  same p s m o truth scope (core.Store at a e d) n h =
      let k = in_store p scope at a e d n h in
      rw (same p s m o false scope e 1 k.1.values) (rw (same p s m o false scope d 1 k.2.values) (rw (itself s o a) refl))
  same p s m o truth scope (core.Call at strict f es) n h =
      let k : IsCalled p scope f es n = in_call p scope at strict f es n h in
      let c : callee s.known strict f ≡ OfValues (length (ranks (map value_param k.function.params))) (written_or_one k.function.results) =
      rw (m.functions f k.function k.found) (rw (all_are_values k.function.params) refl) in
      rw c (rw (list_same p s m o scope es (length k.function.params) k.arguments) refl)
  same p s m o truth scope (core.If at q l r) n h =
      let k = in_if p scope at q l r n h in
      rw (same p s m o false scope q 1 k.0.values) (rw (body_same p s m o scope l n k.1) (rw (body_same p s m o scope r n k.2) refl))
  same p s m o truth scope (core.Loop at bound firsts turn) n h =
      let k : IsTurned p scope bound firsts turn n = in_loop p scope at bound firsts turn n h in
      rw (firsts_same p s m o scope [] (core.names_of turn) firsts k.begun) (rw (turn_same p s m o (bare (core.names_of turn) ++ scope) turn n k.turns) refl)

  list_same : (p : core.Program) (s : Setting) → Matches p s.known → s.stand_for ≡ [] → (scope : List Name) (es : core.Exprs) (n : ℕ)
      → core_rules.list_values p scope es ≡ Ok n → desugar_all s (embedded_exprs es) ≡ made es
  list_same p s m o scope (core.One e) n h = rw (same p s m o false scope e n h) refl
  list_same p s m o scope (core.More e es) n h =
      let k = in_more p scope e es n h in rw (same p s m o false scope e k.0 k.2) (rw (list_same p s m o scope es k.1 k.3) refl)

  firsts_same : (p : core.Program) (s : Setting) → Matches p s.known → s.stand_for ≡ [] → (scope before : List Name) (xs : List NameAt) (es : core.Exprs)
      → core_rules.first_values p scope before xs es ≡ Ok tt → desugar_all s (embedded_exprs es) ≡ made es
  firsts_same p s m o scope before xs (core.One e) h = rw (same p s m o false scope e 1 (in_first p scope before xs e h).values) refl
  firsts_same p s m o scope before xs (core.More e es) h =
      let k = in_firsts p scope before xs e es h in
      rw (same p s m o false scope e 1 k.0.values) (rw (firsts_same p s m o scope (and_first before xs) (others xs) es k.1) refl)

  body_same : (p : core.Program) (s : Setting) → Matches p s.known → s.stand_for ≡ [] → (scope : List Name) (body : core.Body) (n : ℕ)
      → core_rules.body_values p scope body ≡ Ok n → desugar_body s (embedded_body body) ≡ made body
  body_same p s m o scope (core.Let at targets es rest) n h =
      let k = in_let p scope at targets es rest n h in
      rw (list_same p s m o scope es (length targets) k.1) (rw (body_same p s m o (bound_by targets ++ scope) rest n k.2) refl)
  body_same p s m o scope (core.Do es rest) n h =
      let k = in_do p scope es rest n h in rw (list_same p s m o scope es k.0 k.1) (rw (body_same p s m o scope rest n k.2) refl)
  body_same p s m o scope (core.Give es) n h = rw (list_same p s m o scope es n h) refl
  body_same p s m o scope (core.Chain e) n h = rw (same p s m o false scope e n h) refl

  turn_same : (p : core.Program) (s : Setting) → Matches p s.known → s.stand_for ≡ [] → (scope : List Name) (turn : core.Turn) (n : ℕ)
      → core_rules.turn_values p scope turn ≡ Ok n → desugar_turn s (embedded_turn turn) ≡ made turn
  turn_same p s m o scope (core.Before xs q body) n h =
      let k = in_before p scope xs q body n h in rw (same p s m o true scope q 1 k.0.values) (rw (body_same p s m o scope body n k.1) refl)
  turn_same p s m o scope (core.After xs body q) n h =
      let k = in_after p scope xs body q n h in rw (body_same p s m o scope body n k.0) (rw (same p s m o true scope q 1 k.1.values) refl)

no_arrays_for : (ps : List NameAt) → arrays_for (map value_param ps) [] ≡ []
no_arrays_for [] = refl
no_arrays_for (p ∷ ps) = refl

results_same : (k : Known) (n : Option NumberAt) → core_results k (option_map written n) ≡ n
results_same k None = refl
results_same k (Some n) = refl

one_length : (n : ℕ) → product (n ∷ []) ≡ n
one_length n = omega arith

items_same : (p : core.Program) (s : Setting) → Matches p s.known → (k : Known) (items : core.Program) → Good k items → s.known ≡ all_grown k items → (t : ⊤)
    → core_rules.functions_checked p items ≡ Ok t → core_items s (embedded items) ≡ items
items_same p s m k [] none e t h = refl
items_same p s m k (core.Cells x len ∷ items) (more new first rest) e t h =
    let there : lookup s.known.arrays x.name ≡ Some (len.number ∷ []) =
    ap (λ (k : Known). lookup k.arrays x.name) e ∙ arrays_kept (grown k (core.Cells x len)) items rest x.name (rw (same_name_itself x.name) refl)
    ∙ rw (same_name_itself x.name) refl in
    rw there (rw (one_length len.number) (rw (items_same p s m (grown k (core.Cells x len)) items rest e t h) refl))
items_same p s m k (core.Defines f ∷ items) (more new first rest) e t h =
    let c = then_ok (core_rules.function_checked p f) (λ good. core_rules.functions_checked p items) t h in
    let b : BodyGood p f = body_good p f c.0 c.1 in
    rw (all_are_values f.params) (rw (values_back f.params) (rw (results_same s.known f.results) (rw (no_arrays_for f.params)
    (rw (body_same p (in_function s []) m refl (bare f.params) f.body b.count b.values)
    (rw (items_same p s m (grown k (core.Defines f)) items rest e t c.2) refl)))))

pub desugared_same : (p : core.Program) → GoodParts p → desugared (embedded p) ≡ Ok p
desugared_same p good =
    let k : Known = all_grown nothing p in
    let s : Setting = first_setting k (embedded p) in
    let plain = plain_grown nothing p tt in
    let m : Matches p k = matches p good.heads in
    rw (heads_are nothing p good.heads) (rw (none_wanted s plain p)
    (ap (λ (q : core.Program). Ok q) (items_same p (with_instances s (embedded p) []) m nothing p good.heads refl tt good.functions)))
