-- One iteration of a loop, where a run reaches its test and its body.
use Rattle.std.proofs.Common.{◌≡◌, ℕ, ◌+◌, ◌<◌, true, false, List, [], ◌∷◌, ◌++◌, length, map, Ok, refl, sym, ap, ◌∙◌, subst, arith}
use Rattle.std.proofs.lemmas.List.{length-map}
use Rattle.tags.specs.declared.value.Value.{Value}
use Rattle.operators.specs.Values.{truth}
use Rattle.semantics.specs.declared.graph.Source.{Source}
use Rattle.semantics.specs.declared.graph.Kind.TheVariants as node
use Rattle.semantics.specs.Meaning.{Context}
use Rattle.source.specs.Tree.{Name, NameAt, Expr, Body, Before, After}
use Rattle.source.specs.Outside.{without, bare, outside_body, uses, body_uses}
use Rattle.source.specs.Rules.{body_values}
use Rattle.source.specs.Evaluates.{Env, Stores, entered, Evaluates, Runs}
use Rattle.source.specs.Lowered.{made, Lowered, Site, Spot, Scope, spot_after, next_spot, first_of, joined, scoped, source_in, or_predicate, entered_names, arm_site}
use Rattle.source.specs.Lowered.{arm_scope, turn_site, chosen, lower, lower_body}
use Rattle.source.proofs.CountedSources.{inputs_count}
use Rattle.source.proofs.Kept.{in_before, in_after}
use Rattle.source.proofs.Counting.{body_count}
use Rattle.law_language.proofs.MeansHaving.{have_both}
use Rattle.law_language.proofs.MeansNamesAgree.{agrees_entered}
use Rattle.law_language.proofs.MeansParts.{block_is}
use Rattle.law_language.proofs.MeansLeaves.{append_nothing}
use Rattle.law_language.proofs.MeansTurnNames.{agrees_named, without_split}
use Rattle.law_ordered_runs.specs.InOrder.{touches, body_touches}
use Rattle.law_ordered_runs.proofs.Doing.{does_then, does_to}
use Rattle.law_ordered_runs.proofs.Extending.{on_then}
use Rattle.law_ordered_runs.proofs.Memory.{fills, body_fills, ready_first, ready_then, changed_both}
use Rattle.law_ordered_runs.proofs.Staying.{has_on, have_on, agrees_on, active_on}
use Rattle.law_ordered_runs.proofs.Reaching.{Land, RunOf, flow, world_of, cells_of, HasX, HaveX, KnownX, ActiveX, OnX, Reaches, ExprReaches, BodyReaches}
use Rattle.law_ordered_runs.proofs.Reaching.{reaches_to, after_both, first_in, rest_in}
use Rattle.law_ordered_runs.proofs.ReachingParts.{both_parts, one_source}
use Rattle.law_ordered_runs.proofs.ReachingArms.{an_arm, arm_reached, enters_reached, after, steers, opens, left_stands, right_stands, left_reached, right_reached}
use Rattle.law_ordered_runs.proofs.ReachingArms.{ready_after, Shut, enters_shut, arm_shut, its_block, left_lines}
use Rattle.law_ordered_runs.proofs.ReachingLoops.{IterationReaches}

-- THE TEST AFTER THE BODY
pub iterates_after : {b : Value} {ts ss : Stores} (z : Land) (c : Context) (env : Env) (vs us : List Value) (xs : List NameAt) (body : Body) (q : Expr)
    (g : Runs (world_of z) (entered xs vs env) body us ts) (d : Evaluates (world_of z) (entered xs us env) q (b ∷ []) ss)
    → BodyReaches z c g → ExprReaches z c d → IterationReaches z c (After xs body q) env vs b us (ts ++ ss) (body_touches g ++ touches d)
iterates_after {b = v} {ts = ts} {ss = ss} z c env vs us xs body q g d means test x f spot at scope names some fits rule h have known ready =
    let site : Site = turn_site f in
    let b : Lowered = lower_body z.program site spot scope body in
    let inner : Scope = scoped (bare xs) b.sources scope in
    let k : Lowered = lower z.program site (spot_after spot b) inner q in
    let m : Lowered = record { nodes = b.nodes ++ k.nodes; sources = k.sources ++ b.sources; blocks = b.blocks ++ k.blocks } in
    let rules = in_after z.program names xs body q (length xs) rule in
    let parts = without_split (flow z) z.inputs x.run x.state x.is_run c scope env (bare xs) (body_uses body) (uses q) known in
    let knows = agrees_named (flow z) z.inputs x.run x.state x.is_run c scope env xs vs have (body_uses body) parts.0 in
    let before : ActiveX z x c site spot b = first_in z x c site spot b m k.nodes k.blocks refl refl h in
    let behind : ActiveX z x c site (spot_after spot b) k = rest_in z x c site spot b k m refl refl h in
    let r = means x site spot scope names (length xs) false fits.0 rules.0 before knows
    (ready_first z.memory (cells_of z x) ts ss (body_touches g) (touches d) ready) in
    let many : length xs ≡ length b.sources = sym (body_count z.program site spot scope body names (length xs) rules.0) in
    let outside = past_on x r.to r.on scope env (bare xs) (uses q) parts.1 in
    let later = agrees_entered (flow z) z.inputs r.to.run r.to.state r.to.is_run c xs b.sources us scope env r.have many (uses q) outside in
    let o = test r.to site (spot_after spot b) inner names 1 fits.1 rules.1.values
    (active_on z.graph z.inputs z.well z.count x r.to r.on z.program z.origin c site (spot_after spot b) k behind) later
    (ready_then z.memory (cells_of z x) (cells_of z r.to) ts ss (body_touches g) (touches d) ready r.on.cells r.changed (body_fills g)) in
    record {
      to = o.to;
      on = on_then z.graph z.inputs z.well z.count x r.to o.to r.on o.on;
      does = does_to z.graph z.inputs z.well z.count x o.to c spot.next (spot.next + length b.nodes + length k.nodes) (spot.next + length m.nodes)
          (after_both spot.next b.nodes k.nodes)
          (does_then z.graph z.inputs z.well z.count x r.to o.to c spot.next (spot.next + length b.nodes) (spot.next + length b.nodes + length k.nodes) (omega arith)
          (omega arith) o.on r.does o.does);
      have = have_both (flow z) z.inputs o.to.run o.to.state o.to.is_run c k.sources b.sources (v ∷ []) us o.have
          (have_on z.graph z.inputs z.well z.count r.to o.to o.on c b.sources us r.have);
      changed = changed_both (cells_of z x) (cells_of z r.to) (cells_of z o.to) ts ss o.on.cells r.changed o.changed;
    }
  where
    past_on : (x y : RunOf z) → OnX z x y → (scope : Scope) (env : Env) (ns ys : List Name) → KnownX z x c scope env (without ns ys)
        → KnownX z y c scope env (without ns ys)
    past_on x y on scope env ns ys k = agrees_on z.graph z.inputs z.well z.count x y on c scope env (without ns ys) k

-- THE TEST BEFORE THE BODY
module _ (z : Land) (c : Context) (at : ℕ) (xs : List NameAt) (body : Body) (site : Site) (k : Spot) (scope : Scope) (ps : List Source) where
  abbrev go_arm : Lowered
  go_arm = an_arm z c site k.next true (next_spot k) at scope (first_of ps) body

  abbrev stay_spot : Spot
  stay_spot = spot_after (next_spot k) go_arm

  abbrev stay_arm : Lowered
  stay_arm = entered_names (arm_site site k.next false stay_spot) stay_spot at scope (first_of ps) (bare xs)

  abbrev stays_at : List Source
  stays_at = or_predicate (first_of ps) (map (source_in scope) (bare xs))

  all_stay : 0 < length xs → map (source_in scope) (bare xs) ≡ stays_at
  all_stay some = go xs some
    where
      go : (xs : List NameAt) → 0 < length xs → map (source_in scope) (bare xs) ≡ or_predicate (first_of ps) (map (source_in scope) (bare xs))
      go [] some = absurd (omega (arith, some))
      go (x ∷ xs) some = refl

  stays_many : stay_spot.next + length stays_at ≡ stay_spot.next + length stay_arm.nodes
  stays_many =
      let n = length-map stays_at (λ (s : Source). made (arm_site site k.next false stay_spot) at node.Enter (s ∷ [])) in omega (arith, n)

  ways_alike : (names : List Name) → 0 < length xs → body_values z.program names body ≡ Ok (length xs) → length go_arm.sources ≡ length stay_arm.sources
  ways_alike names some rule =
      let here = arm_site site k.next true (next_spot k) in
      let e = entered_names here (next_spot k) at scope (first_of ps) (outside_body body) in
      body_count z.program here (spot_after (next_spot k) e) (arm_scope e (outside_body body)) body names (length xs) rule
      ∙ sym (inputs_count stay_spot.next (length stays_at) ∙ ap length (sym (all_stay some)) ∙ length-map (bare xs) (source_in scope)
      ∙ length-map xs (λ (x : NameAt). x.name))

module _ (z : Land) (c : Context) (xs : List NameAt) (q : Expr) (body : Body) where
  pub iterates_stays : {b : Value} {ss : Stores} (env : Env) (vs : List Value) (d : Evaluates (world_of z) (entered xs vs env) q (b ∷ []) ss)
      → truth b ≡ false → ExprReaches z c d → IterationReaches z c (Before xs q body) env vs b vs ss (touches d)
  iterates_stays {b = v} {ss = ss} env vs d t test x f spot at scope names some fits rule h have known ready =
      let site : Site = turn_site f in
      let p : Lowered = lower z.program site spot scope q in
      let k : Spot = spot_after spot p in
      let a : Lowered = go_arm z c at xs body site k scope p.sources in
      let b : Lowered = stay_arm z c at xs body site k scope p.sources in
      let m : Lowered = chosen site k at p.sources a b in
      let rules = in_before z.program names xs q body (length xs) rule in
      let parts = without_split (flow z) z.inputs x.run x.state x.is_run c scope env (bare xs) (uses q) (body_uses body) known in
      let tests = agrees_named (flow z) z.inputs x.run x.state x.is_run c scope env xs vs have (uses q) parts.0 in
      let knows = agrees_named (flow z) z.inputs x.run x.state x.is_run c scope env xs vs have (body_uses body) parts.1 in
      let before : ActiveX z x c site spot p = first_in z x c site spot p (joined p m) m.nodes m.blocks refl refl h in
      let behind : ActiveX z x c site k m = rest_in z x c site spot p m (joined p m) refl refl h in
      let o = test x site spot scope names 1 fits.0 rules.0.values before tests ready in
      let s = one_source z o.to c p.sources v o.have in
      let has : HasX z o.to c s.source v = (subst (λ ss. HaveX z o.to c ss (v ∷ [])) s.is o.have).0 in
      let here = active_on z.graph z.inputs z.well z.count x o.to o.on z.program z.origin c site k m behind in
      let y = after z o.to c site k at p.sources a b s.source v s.is has here in
      let go = steers z o.to c site k at p.sources a b s.source v s.is has here in
      let stay = stay_spot z c at xs body site k scope p.sources in
      let there = right_stands z o.to c site k at p.sources a b s.source v s.is has here in
      let eb = block_is z.program z.graph z.origin z.inputs y.run y.state y.is_run c site stay b there in
      let its = subst (λ ss. HaveX z y c ss vs) (all_stay z c at xs body site k scope p.sources some)
      (have_on z.graph z.inputs z.well z.count o.to y go.on c (map (source_in scope) (bare xs)) vs
      (have_on z.graph z.inputs z.well z.count x o.to o.on c (map (source_in scope) (bare xs)) vs have)) in
      let mine = reaches_to z y c stay.next (stay.next + length (stays_at z c at xs body site k scope p.sources)) (stay.next + length b.nodes) b.sources vs []
      (stays_many z c at xs body site k scope p.sources)
      (enters_reached z c there.block eb (arm_site site k.next false stay) k.next false at v refl t y (go.happened, go.is_deed) stay.next
      (stays_at z c at xs body site k scope p.sources) vs there.lines its) in
      let on = on_then z.graph z.inputs z.well z.count o.to y mine.to go.on mine.on in
      let shut = arm_shut z c site k.next true (next_spot k) at scope (first_of p.sources) body (entered xs vs env) v (λ f. (let e = sym t ∙ f in cc)) (omega arith)
      mine.to here.block (its_block z o.to c site k at p.sources a b s.source v s.is has here)
      (left_lines z o.to c site k at p.sources a b s.source v s.is has here) (mine.on.kept _ go.happened) go.is_deed
      (subst (λ s. HasX z mine.to c s v) (sym (ap first_of s.is)) (has_on z.graph z.inputs z.well z.count o.to mine.to on c s.source v has))
      (agrees_on z.graph z.inputs z.well z.count o.to mine.to on c scope (entered xs vs env) (body_uses body)
      (agrees_on z.graph z.inputs z.well z.count x o.to o.on c scope (entered xs vs env) (body_uses body) knows)) in
      let rest = right_reached z o.to c site k at p.sources a b s.source v s.is has here t vs []
      (ways_alike z c at xs body site k scope p.sources names some rules.1) mine shut in
      subst (λ ss. Reaches z x c spot.next (spot.next + length (p.nodes ++ m.nodes)) (p.sources ++ m.sources) (v ∷ vs) ss) (append_nothing ss)
      (both_parts z x c spot.next p.nodes m.nodes p.sources m.sources (v ∷ []) vs ss [] o rest)

  pub iterates_moves : {us : List Value} {b : Value} {ss ts : Stores} (env : Env) (vs : List Value)
      (d : Evaluates (world_of z) (entered xs vs env) q (b ∷ []) ss) → truth b ≡ true → (g : Runs (world_of z) (entered xs vs env) body us ts)
      → ExprReaches z c d → BodyReaches z c g → IterationReaches z c (Before xs q body) env vs b us (ss ++ ts) (touches d ++ body_touches g)
  iterates_moves {us = us} {b = v} {ss = ss} {ts = ts} env vs d t g test means x f spot at scope names some fits rule h have known ready =
      let site : Site = turn_site f in
      let p : Lowered = lower z.program site spot scope q in
      let k : Spot = spot_after spot p in
      let a : Lowered = go_arm z c at xs body site k scope p.sources in
      let b : Lowered = stay_arm z c at xs body site k scope p.sources in
      let m : Lowered = chosen site k at p.sources a b in
      let rules = in_before z.program names xs q body (length xs) rule in
      let parts = without_split (flow z) z.inputs x.run x.state x.is_run c scope env (bare xs) (uses q) (body_uses body) known in
      let tests = agrees_named (flow z) z.inputs x.run x.state x.is_run c scope env xs vs have (uses q) parts.0 in
      let knows = agrees_named (flow z) z.inputs x.run x.state x.is_run c scope env xs vs have (body_uses body) parts.1 in
      let before : ActiveX z x c site spot p = first_in z x c site spot p (joined p m) m.nodes m.blocks refl refl h in
      let behind : ActiveX z x c site k m = rest_in z x c site spot p m (joined p m) refl refl h in
      let o = test x site spot scope names 1 fits.0 rules.0.values before tests
      (ready_first z.memory (cells_of z x) ss ts (touches d) (body_touches g) ready) in
      let s = one_source z o.to c p.sources v o.have in
      let has : HasX z o.to c s.source v = (subst (λ ss. HaveX z o.to c ss (v ∷ [])) s.is o.have).0 in
      let here = active_on z.graph z.inputs z.well z.count x o.to o.on z.program z.origin c site k m behind in
      let y = after z o.to c site k at p.sources a b s.source v s.is has here in
      let go = steers z o.to c site k at p.sources a b s.source v s.is has here in
      let there = left_stands z o.to c site k at p.sources a b s.source v s.is has here in
      let mine = arm_reached z c site k.next true (next_spot k) at scope (first_of p.sources) body v names (length xs) false fits.1 rules.1 g means t y there
      (opens z o.to c site k at p.sources a b s.source v s.is has here true t site (next_spot k) a there) go.happened go.is_deed
      (subst (λ s. HasX z y c s v) (sym (ap first_of s.is)) (has_on z.graph z.inputs z.well z.count o.to y go.on c s.source v has))
      (agrees_on z.graph z.inputs z.well z.count o.to y go.on c scope (entered xs vs env) (body_uses body)
      (agrees_on z.graph z.inputs z.well z.count x o.to o.on c scope (entered xs vs env) (body_uses body) knows))
      (ready_after z o.to c site k at p.sources a b s.source v s.is has here ts (body_touches g)
      (ready_then z.memory (cells_of z x) (cells_of z o.to) ss ts (touches d) (body_touches g) ready o.on.cells o.changed (fills d))) in
      let stay = stay_spot z c at xs body site k scope p.sources in
      let other = right_stands z o.to c site k at p.sources a b s.source v s.is has here in
      let ob = block_is z.program z.graph z.origin z.inputs y.run y.state y.is_run c site stay b other in
      let on = on_then z.graph z.inputs z.well z.count o.to y mine.to go.on mine.on in
      let its = subst (λ ss. HaveX z mine.to c ss vs) (all_stay z c at xs body site k scope p.sources some)
      (have_on z.graph z.inputs z.well z.count o.to mine.to on c (map (source_in scope) (bare xs)) vs
      (have_on z.graph z.inputs z.well z.count x o.to o.on c (map (source_in scope) (bare xs)) vs have)) in
      let enters = enters_shut z c other.block ob (arm_site site k.next false stay) k.next false at v refl mine.to (mine.on.kept _ go.happened, go.is_deed) stay.next
      (stays_at z c at xs body site k scope p.sources) vs other.lines its in
      let shut : Shut z mine.to c stay.next (stay.next + length b.nodes) =
      record {
        to = enters.to;
        on = enters.on;
        does = does_to z.graph z.inputs z.well z.count mine.to enters.to c stay.next (stay.next + length (stays_at z c at xs body site k scope p.sources))
            (stay.next + length b.nodes) (stays_many z c at xs body site k scope p.sources) enters.does;
        cells = enters.cells;
      } in
      let rest = left_reached z o.to c site k at p.sources a b s.source v s.is has here t us ts
      (ways_alike z c at xs body site k scope p.sources names some rules.1) mine shut in
      both_parts z x c spot.next p.nodes m.nodes p.sources m.sources (v ∷ []) us ss ts o rest
