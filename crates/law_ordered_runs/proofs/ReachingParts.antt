-- Numbers, names, operators, lists and bodies, where a run reaches their parts.
use Rattle.std.proofs.Common.{◌≡◌, ℕ, ◌+◌, ◌≤◌, ◌⊎◌, arith, false, List, [], ◌∷◌, ◌++◌, length, refl, sym, ◌∙◌, subst, ⊎_elim}
use Rattle.std.proofs.lemmas.Option.{same_Some}
use Rattle.tags.specs.declared.value.Value.{Value}
use Rattle.tags.specs.declared.value.Value.TheVariants.{Int}
use Rattle.operators.specs.declared.Unary.{Unary}
use Rattle.operators.specs.declared.Unary.TheVariants.{Neg, Not}
use Rattle.operators.specs.Values.{apply1, on_int}
use Rattle.semantics.specs.declared.graph.Source.{Source}
use Rattle.semantics.specs.declared.graph.Kind.TheVariants as node
use Rattle.semantics.specs.Meaning.{Context}
use Rattle.source.specs.Tree.{Name, Target, Expr, Exprs, Body, Number, Named, Bracket, Prefix, Infix, Fetch, Store, Call, If, Loop}
use Rattle.source.specs.Fits.{Fits, IsLeast}
use Rattle.source.specs.Outside.{without, bound_by, uses, list_uses, body_uses}
use Rattle.source.specs.Evaluates.{Env, Stores, let_in, Evaluates, EvaluatesAll, Runs, number, named, bracket, prefix, one, more, lets, does}
use Rattle.source.specs.Evaluates.{gives, chain, signed}
use Rattle.source.specs.Lowered.{Made, Lowered, Site, Spot, Scope, source_in, made, only, joined, followed, ended, prefixed, let_scoped, lower}
use Rattle.source.specs.Lowered.{lower_list, lower_body, spot_after}
use Rattle.source.proofs.Kept.{in_prefix, in_more, in_let, in_do}
use Rattle.source.proofs.Counting.{list_count}
use Rattle.law_language.proofs.MeansHaving.{have_both}
use Rattle.law_language.proofs.MeansNamesAgree.{agrees_split, agrees_let}
use Rattle.law_language.proofs.MeansLeaves.{append_nothing}
use Rattle.law_ordered_runs.specs.InOrder.{touches, list_touches, body_touches}
use Rattle.law_ordered_runs.proofs.Doing.{does_then}
use Rattle.law_ordered_runs.proofs.Extending.{on_then}
use Rattle.law_ordered_runs.proofs.Memory.{fills, list_fills, ready_first, ready_then, changed_both}
use Rattle.law_ordered_runs.proofs.Staying.{have_on, agrees_on, active_on}
use Rattle.law_ordered_runs.proofs.Reaching.{Land, RunOf, flow, world_of, cells_of, HasX, HaveX, ActiveX, Reaches, ExprReaches, ListReaches}
use Rattle.law_ordered_runs.proofs.Reaching.{reaches_to, after_both, BodyReaches, there_already, first_in, rest_in, ending, line_says}

-- ONE PART AFTER ANOTHER, with the values of both, or of the second
module _ (z : Land) (x : RunOf z) (c : Context) (lo mid hi : ℕ) (below : lo ≤ mid) (above : mid ≤ hi) where
  pub both_reached : (ls ks : List Source) (vs us : List Value) (ss qs : Stores) (r : Reaches z x c lo mid ls vs ss)
      → Reaches z r.to c mid hi ks us qs → Reaches z x c lo hi (ls ++ ks) (vs ++ us) (ss ++ qs)
  both_reached ls ks vs us ss qs r q = record {
    to = q.to;
    on = on_then z.graph z.inputs z.well z.count x r.to q.to r.on q.on;
    does = does_then z.graph z.inputs z.well z.count x r.to q.to c lo mid hi below above q.on r.does q.does;
    have = have_both (flow z) z.inputs q.to.run q.to.state q.to.is_run c ls ks vs us
        (have_on z.graph z.inputs z.well z.count r.to q.to q.on c ls vs r.have) q.have;
    changed = changed_both (cells_of z x) (cells_of z r.to) (cells_of z q.to) ss qs q.on.cells r.changed q.changed;
  }

  pub second_reached : (ls ks : List Source) (vs us : List Value) (ss qs : Stores) (r : Reaches z x c lo mid ls vs ss)
      → Reaches z r.to c mid hi ks us qs → Reaches z x c lo hi ks us (ss ++ qs)
  second_reached ls ks vs us ss qs r q = record {
    to = q.to;
    on = on_then z.graph z.inputs z.well z.count x r.to q.to r.on q.on;
    does = does_then z.graph z.inputs z.well z.count x r.to q.to c lo mid hi below above q.on r.does q.does;
    have = q.have;
    changed = changed_both (cells_of z x) (cells_of z r.to) (cells_of z q.to) ss qs q.on.cells r.changed q.changed;
  }

-- of the nodes of two parts
module _ (z : Land) (x : RunOf z) (c : Context) (lo : ℕ) (ms ns : List Made) where
  pub both_parts : (ls ks : List Source) (vs us : List Value) (ss qs : Stores) (r : Reaches z x c lo (lo + length ms) ls vs ss)
      → Reaches z r.to c (lo + length ms) (lo + length ms + length ns) ks us qs
      → Reaches z x c lo (lo + length (ms ++ ns)) (ls ++ ks) (vs ++ us) (ss ++ qs)
  both_parts ls ks vs us ss qs r q =
      reaches_to z x c lo (lo + length ms + length ns) (lo + length (ms ++ ns)) (ls ++ ks) (vs ++ us) (ss ++ qs) (after_both lo ms ns)
      (both_reached z x c lo (lo + length ms) (lo + length ms + length ns) (omega arith) (omega arith) ls ks vs us ss qs r q)

  pub second_part : (ls ks : List Source) (vs us : List Value) (ss qs : Stores) (r : Reaches z x c lo (lo + length ms) ls vs ss)
      → Reaches z r.to c (lo + length ms) (lo + length ms + length ns) ks us qs
      → Reaches z x c lo (lo + length (ms ++ ns)) ks us (ss ++ qs)
  second_part ls ks vs us ss qs r q =
      reaches_to z x c lo (lo + length ms + length ns) (lo + length (ms ++ ns)) ks us (ss ++ qs) (after_both lo ms ns)
      (second_reached z x c lo (lo + length ms) (lo + length ms + length ns) (omega arith) (omega arith) ls ks vs us ss qs r q)

-- sources with one value are one
pub record OneSource (z : Land) (x : RunOf z) (c : Context) (ss : List Source) : Type 0 where
  pub source : Source
  pub is : ss ≡ source ∷ []

pub one_source : (z : Land) (x : RunOf z) (c : Context) (ss : List Source) (v : Value) → HaveX z x c ss (v ∷ []) → OneSource z x c ss
one_source z x c [] v h = absurd h
one_source z x c (s ∷ []) v h = record { source = s; is = refl }
one_source z x c (s ∷ t ∷ ss) v h = absurd h.1

module _ (z : Land) (c : Context) where
  -- LEAVES
  nothing_more : (spot : Spot) → spot.next ≡ spot.next + length (only []).nodes
  nothing_more spot = omega arith

  triggered : (x : RunOf z) (site : Site) (spot : Spot) (v : Value) → HasX z x c site.trigger v
      → Reaches z x c spot.next (spot.next + length (only []).nodes) (site.trigger ∷ []) (v ∷ []) []
  triggered x site spot v h =
      reaches_to z x c spot.next spot.next (spot.next + length (only []).nodes) (site.trigger ∷ []) (v ∷ []) [] (nothing_more spot)
      (there_already z x c spot.next (site.trigger ∷ []) (v ∷ []) (h, tt))

  pub reaches_number : {env : Env} {t k : ℕ} {vs : List Value} {ss : Stores} (d : Evaluates (world_of z) env (Number t k) vs ss) → ExprReaches z c d
  reaches_number {t = t} {k = k} number x site spot scope names n fits rule h known ready =
      line_says z x c site spot (only []) t (node.Lit (signed k)) (site.trigger ∷ []) (h.trigger ∷ []) (Int (signed k)) []
      (ending z x c site spot (only []) t (node.Lit (signed k)) (site.trigger ∷ []) 1 h) tt
      (triggered x site spot h.trigger h.triggered) refl

  pub reaches_named : {env : Env} {t : ℕ} {y : Name} {vs : List Value} {ss : Stores} (d : Evaluates (world_of z) env (Named t y) vs ss) → ExprReaches z c d
  reaches_named {y = y} (named {v = v} b) x site spot scope names n fits rule h known ready =
      let same : known.0.0 ≡ v = same_Some known.0.0 v (sym known.0.1 ∙ b) in
      reaches_to z x c spot.next spot.next (spot.next + length (only []).nodes) (source_in scope y ∷ []) (v ∷ []) [] (nothing_more spot)
      (there_already z x c spot.next (source_in scope y ∷ []) (v ∷ [])
      (subst (λ v. HaveX z x c (source_in scope y ∷ []) (v ∷ [])) same (known.0.2, tt)))

  pub reaches_bracket : {env : Env} {e : Expr} {vs : List Value} {ss : Stores} (d : Evaluates (world_of z) env e vs ss) → ExprReaches z c d
      → ExprReaches z c (bracket d)
  reaches_bracket d means x site spot scope names n fits rule h known ready = means x site spot scope names n fits rule h known ready

  -- PREFIXES
  negated : (at u k : ℕ) {env : Env} {v : Value} {ss : Stores} (d : Evaluates (world_of z) env (Number u k) (v ∷ []) ss)
      → ExprReaches z c (prefix {t = at} {op = Neg} d)
  negated at u k number x site spot scope names n fits rule h known ready =
      line_says z x c site spot (only []) at (node.Lit (on_int Neg (signed k))) (site.trigger ∷ []) (h.trigger ∷ []) (apply1 Neg (Int (signed k))) []
      (ending z x c site spot (only []) at (node.Lit (on_int Neg (signed k))) (site.trigger ∷ []) 1 h) tt
      (triggered x site spot h.trigger h.triggered) refl

  prefixed_reaches : {env : Env} {v : Value} {ss : Stores} (at : ℕ) (op : Unary) (e : Expr) (d : Evaluates (world_of z) env e (v ∷ []) ss)
      → ((site : Site) (spot : Spot) (l : Lowered) → prefixed site spot at op e l ≡ ended site spot l at (node.Apply1 op) l.sources 1)
      → ((Fits e ⊎ IsLeast op e) → Fits e) → ExprReaches z c d → ExprReaches z c (prefix {t = at} {op = op} d)
  prefixed_reaches {v = v} {ss = ss} at op e d is fit means x site spot scope names n fits rule h known ready =
      let l : Lowered = lower z.program site spot scope e in
      let m : Lowered = ended site spot l at (node.Apply1 op) l.sources 1 in
      let rules = in_prefix z.program names at op e n rule in
      let same : prefixed site spot at op e l ≡ m = is site spot l in
      let here : ActiveX z x c site spot m = subst (λ m. ActiveX z x c site spot m) same h in
      let before : ActiveX z x c site spot l = first_in z x c site spot l m (made site at (node.Apply1 op) l.sources ∷ []) [] refl
      (sym (append_nothing l.blocks)) here in
      let r = means x site spot scope names 1 (fit fits.1) rules.0.values before known ready in
      subst (λ (m : Lowered). Reaches z x c spot.next (spot.next + length m.nodes) m.sources (apply1 op v ∷ []) ss) (sym same)
      (line_says z x c site spot l at (node.Apply1 op) l.sources (v ∷ []) (apply1 op v) ss
      (ending z x c site spot l at (node.Apply1 op) l.sources 1 here) tt r refl)

  pub reaches_prefix : {env : Env} {v : Value} {ss : Stores} (at : ℕ) (op : Unary) (e : Expr) (d : Evaluates (world_of z) env e (v ∷ []) ss)
      → ExprReaches z c d → ExprReaches z c (prefix {t = at} {op = op} d)
  reaches_prefix at Neg (Number u k) d means = negated at u k d
  reaches_prefix at Neg (Named u y) d means = prefixed_reaches at Neg (Named u y) d (λ site spot l. refl) (λ k. ⊎_elim (λ f. f) (λ x. absurd x) k) means
  reaches_prefix at Neg (Bracket e) d means = prefixed_reaches at Neg (Bracket e) d (λ site spot l. refl) (λ k. ⊎_elim (λ f. f) (λ x. absurd x) k) means
  reaches_prefix at Neg (Prefix u op e) d means =
      prefixed_reaches at Neg (Prefix u op e) d (λ site spot l. refl) (λ k. ⊎_elim (λ f. f) (λ x. absurd x) k) means
  reaches_prefix at Neg (Infix u i e f) d means =
      prefixed_reaches at Neg (Infix u i e f) d (λ site spot l. refl) (λ k. ⊎_elim (λ f. f) (λ x. absurd x) k) means
  reaches_prefix at Neg (Fetch u a e) d means = prefixed_reaches at Neg (Fetch u a e) d (λ site spot l. refl) (λ k. ⊎_elim (λ f. f) (λ x. absurd x) k) means
  reaches_prefix at Neg (Store u a e f) d means =
      prefixed_reaches at Neg (Store u a e f) d (λ site spot l. refl) (λ k. ⊎_elim (λ f. f) (λ x. absurd x) k) means
  reaches_prefix at Neg (Call u b f es) d means =
      prefixed_reaches at Neg (Call u b f es) d (λ site spot l. refl) (λ k. ⊎_elim (λ f. f) (λ x. absurd x) k) means
  reaches_prefix at Neg (If u q a b) d means = prefixed_reaches at Neg (If u q a b) d (λ site spot l. refl) (λ k. ⊎_elim (λ f. f) (λ x. absurd x) k) means
  reaches_prefix at Neg (Loop u b f t) d means =
      prefixed_reaches at Neg (Loop u b f t) d (λ site spot l. refl) (λ k. ⊎_elim (λ f. f) (λ x. absurd x) k) means
  reaches_prefix at Not e d means = prefixed_reaches at Not e d (λ site spot l. refl) (λ k. ⊎_elim (λ f. f) (λ x. absurd x) k) means

  -- LISTS
  pub reaches_one : {env : Env} {e : Expr} {vs : List Value} {ss : Stores} (d : Evaluates (world_of z) env e vs ss) → ExprReaches z c d → ListReaches z c (one d)
  reaches_one d means x site spot scope names n fits rule h known ready = means x site spot scope names n fits rule h known ready

  pub reaches_more : {env : Env} {vs us : List Value} {ss qs : Stores} (e : Expr) (es : Exprs) (d : Evaluates (world_of z) env e vs ss)
      (g : EvaluatesAll (world_of z) env es us qs) → ExprReaches z c d → ListReaches z c g → ListReaches z c (more d g)
  reaches_more {env = env} {vs = vs} {us = us} {ss = ss} {qs = qs} e es d g first others x site spot scope names n fits rule h known ready =
      let l : Lowered = lower z.program site spot scope e in
      let k : Lowered = lower_list z.program site (spot_after spot l) scope es in
      let rules = in_more z.program names e es n rule in
      let agree = agrees_split (flow z) z.inputs x.run x.state x.is_run c scope env (uses e) (list_uses es) known in
      let before : ActiveX z x c site spot l = first_in z x c site spot l (joined l k) k.nodes k.blocks refl refl h in
      let behind : ActiveX z x c site (spot_after spot l) k = rest_in z x c site spot l k (joined l k) refl refl h in
      let r = first x site spot scope names rules.0 fits.0 rules.2 before agree.0
      (ready_first z.memory (cells_of z x) ss qs (touches d) (list_touches g) ready) in
      let q = others r.to site (spot_after spot l) scope names rules.1 fits.1 rules.3
      (active_on z.graph z.inputs z.well z.count x r.to r.on z.program z.origin c site (spot_after spot l) k behind)
      (agrees_on z.graph z.inputs z.well z.count x r.to r.on c scope env (list_uses es) agree.1)
      (ready_then z.memory (cells_of z x) (cells_of z r.to) ss qs (touches d) (list_touches g) ready r.on.cells r.changed (fills d)) in
      both_parts z x c spot.next l.nodes k.nodes l.sources k.sources vs us ss qs r q

  -- BODIES
  pub reaches_give : {env : Env} {es : Exprs} {vs : List Value} {ss : Stores} (d : EvaluatesAll (world_of z) env es vs ss) → ListReaches z c d
      → BodyReaches z c (gives d)
  reaches_give d means x site spot scope names n behind_else fits rule h known ready = means x site spot scope names n fits rule h known ready

  pub reaches_chain : {env : Env} {e : Expr} {vs : List Value} {ss : Stores} (d : Evaluates (world_of z) env e vs ss) → ExprReaches z c d
      → BodyReaches z c (chain d)
  reaches_chain d means x site spot scope names n behind_else fits rule h known ready = means x site spot scope names n fits.2 rule h known ready

  pub reaches_do : {env : Env} {vs rs : List Value} {ss us : Stores} (es : Exprs) (rest : Body) (d : EvaluatesAll (world_of z) env es vs ss)
      (g : Runs (world_of z) env rest rs us) → ListReaches z c d → BodyReaches z c g → BodyReaches z c (does d g)
  reaches_do {env = env} {vs = vs} {rs = rs} {ss = ss} {us = us} es rest d g first means x site spot scope names n behind_else fits rule h known ready =
      let l : Lowered = lower_list z.program site spot scope es in
      let k : Lowered = lower_body z.program site (spot_after spot l) scope rest in
      let rules = in_do z.program names es rest n rule in
      let agree = agrees_split (flow z) z.inputs x.run x.state x.is_run c scope env (list_uses es) (body_uses rest) known in
      let before : ActiveX z x c site spot l = first_in z x c site spot l (followed l k) k.nodes k.blocks refl refl h in
      let behind : ActiveX z x c site (spot_after spot l) k = rest_in z x c site spot l k (followed l k) refl refl h in
      let r = first x site spot scope names rules.0 fits.0 rules.1 before agree.0
      (ready_first z.memory (cells_of z x) ss us (list_touches d) (body_touches g) ready) in
      let q = means r.to site (spot_after spot l) scope names n false fits.1 rules.2
      (active_on z.graph z.inputs z.well z.count x r.to r.on z.program z.origin c site (spot_after spot l) k behind)
      (agrees_on z.graph z.inputs z.well z.count x r.to r.on c scope env (body_uses rest) agree.1)
      (ready_then z.memory (cells_of z x) (cells_of z r.to) ss us (list_touches d) (body_touches g) ready r.on.cells r.changed (list_fills d)) in
      second_part z x c spot.next l.nodes k.nodes l.sources k.sources vs rs ss us r q

  pub reaches_let : {env : Env} {vs rs : List Value} {ss us : Stores} (at : ℕ) (targets : List Target) (es : Exprs) (rest : Body)
      (d : EvaluatesAll (world_of z) env es vs ss) (g : Runs (world_of z) (let_in targets vs env) rest rs us) → ListReaches z c d → BodyReaches z c g
      → BodyReaches z c (lets {t = at} {targets = targets} d g)
  reaches_let {env = env} {vs = vs} {rs = rs} {ss = ss} {us = us} at targets es rest d g first means x site spot scope names n behind_else fits rule h known
      ready =
      let l : Lowered = lower_list z.program site spot scope es in
      let inner : Scope = let_scoped targets l.sources scope in
      let k : Lowered = lower_body z.program site (spot_after spot l) inner rest in
      let rules = in_let z.program names at targets es rest n rule in
      let agree = agrees_split (flow z) z.inputs x.run x.state x.is_run c scope env (list_uses es) (without (bound_by targets) (body_uses rest)) known in
      let before : ActiveX z x c site spot l = first_in z x c site spot l (followed l k) k.nodes k.blocks refl refl h in
      let behind : ActiveX z x c site (spot_after spot l) k = rest_in z x c site spot l k (followed l k) refl refl h in
      let r = first x site spot scope names (length targets) fits.1 rules.1 before agree.0
      (ready_first z.memory (cells_of z x) ss us (list_touches d) (body_touches g) ready) in
      let many : length targets ≡ length l.sources = sym (list_count z.program site spot scope es names (length targets) rules.1) in
      let there = agrees_on z.graph z.inputs z.well z.count x r.to r.on c scope env (without (bound_by targets) (body_uses rest)) agree.1 in
      let bound = agrees_let (flow z) z.inputs r.to.run r.to.state r.to.is_run c targets l.sources vs scope env r.have many (body_uses rest) there in
      let q = means r.to site (spot_after spot l) inner (bound_by targets ++ names) n false fits.2 rules.2
      (active_on z.graph z.inputs z.well z.count x r.to r.on z.program z.origin c site (spot_after spot l) k behind) bound
      (ready_then z.memory (cells_of z x) (cells_of z r.to) ss us (list_touches d) (body_touches g) ready r.on.cells r.changed (list_fills d)) in
      second_part z x c spot.next l.nodes k.nodes l.sources k.sources vs rs ss us r q
