-- Lowering keeps the meaning of a turn, where it keeps that of its test and its body.
use Rattle.std.proofs.Common.{◌≡◌, ℕ, ◌+◌, ◌<◌, ◌⊎◌, Bool, true, false, List, [], ◌∷◌, ◌++◌, length, map, Ok, inl, inr, refl, sym, ap, ◌∙◌, subst, subst₂}
use Rattle.std.proofs.Common.{arith, length-append, ⊎_elim}
use Rattle.std.proofs.lemmas.List.{length-map}
use Rattle.tags.specs.declared.value.Value.{Value}
use Rattle.operators.specs.Values.{truth}
use Rattle.semantics.specs.declared.graph.Source.{Source}
use Rattle.semantics.specs.Meaning.{Context}
use Rattle.source.specs.Tree.{Name, NameAt, Expr, Body, Before, After}
use Rattle.source.specs.Fits.{FitsBody}
use Rattle.source.specs.Outside.{bare, outside_body, uses, body_uses}
use Rattle.source.specs.Rules.{body_values}
use Rattle.source.specs.Evaluates.{Env, Stores, entered, Evaluates, Runs}
use Rattle.source.specs.Lowered.{Lowered, Site, Spot, Scope, spot_after, next_spot, first_of, joined, scoped, source_in, or_predicate, entered_names, arm_site}
use Rattle.source.specs.Lowered.{arm_scope, turn_site, chosen, lower, lower_body}
use Rattle.source.proofs.CountedSources.{inputs_count}
use Rattle.source.proofs.Kept.{in_before, in_after}
use Rattle.law_language.specs.Means.{OneTurn, stays, moves, tests}
use Rattle.law_language.proofs.MeansHaving.{have_both}
use Rattle.law_language.proofs.MeansNamesAgree.{agrees_entered}
use Rattle.source.proofs.Counting.{count_of, body_count}
use Rattle.law_language.proofs.MeansParts.{block_is}
use Rattle.law_language.proofs.MeansLeaves.{append_nothing}
use Rattle.law_language.proofs.MeansOperators.{HasOneValue, one_each}
use Rattle.law_language.proofs.MeansCells.{two}
use Rattle.law_language.proofs.MeansScene.{Scene, flow, world_of, HasIn, HaveIn, KnownIn, ActiveIn, DeliversIn, ExprIn, BodyIn, TurnIn}
use Rattle.law_language.proofs.MeansStanding.{first_in, rest_in, makes_none, makes_both, makes_to}
use Rattle.law_language.proofs.MeansLies.{lie_arm, lie_enters, body_lies}
use Rattle.law_language.proofs.MeansConditionals.{enters_have, enters_quiet, open_there, left_stands, right_stands, chosen_left, chosen_right}
use Rattle.law_language.proofs.MeansIf.{armed, arm_delivers, delivers_as}
use Rattle.law_language.proofs.MeansTurnNames.{agrees_named, without_split}

-- THE TEST AFTER THE BODY is on the values that the turn gives.
pub means_after : (z : Scene) (c : Context) (xs : List NameAt) (body : Body) (q : Expr) → BodyIn z c body → ExprIn z c q → TurnIn z c (After xs body q)
means_after z c xs body q means test f spot at scope env names vs some fits rule h have known =
    let site : Site = turn_site f in
    let b : Lowered = lower_body z.program site spot scope body in
    let inner : Scope = scoped (bare xs) b.sources scope in
    let k : Lowered = lower z.program site (spot_after spot b) inner q in
    let m : Lowered = record { nodes = b.nodes ++ k.nodes; sources = k.sources ++ b.sources; blocks = b.blocks ++ k.blocks } in
    let rules = in_after z.program names xs body q (length xs) rule in
    let parts = without_split (flow z) z.inputs z.run z.state z.is_run c scope env (bare xs) (body_uses body) (uses q) known in
    let knows = agrees_named (flow z) z.inputs z.run z.state z.is_run c scope env xs vs have (body_uses body) parts.0 in
    let before : ActiveIn z c site spot b = first_in z c site spot b m k.nodes k.blocks refl refl h in
    let behind : ActiveIn z c site (spot_after spot b) k = rest_in z c site spot b k m refl refl h in
    let out = means site spot scope (entered xs vs env) names (length xs) false fits.0 rules.0 before knows in
    let many : length xs ≡ length b.sources = sym (body_count z.program site spot scope body names (length xs) rules.0) in
    let after = agrees_entered (flow z) z.inputs z.run z.state z.is_run c xs b.sources out.vs scope env out.have many (uses q) parts.1 in
    let tested = test site (spot_after spot b) inner (entered xs out.vs env) names 1 fits.1 rules.1.values behind after in
    let t = two z.program z.graph z.origin z.inputs z.run z.state z.is_run z.settled z.is_graph c in
    let x : HasOneValue z.program z.graph z.origin z.inputs z.run z.state z.is_run z.settled t c k.sources tested.vs =
    one_each z.program z.graph z.origin z.inputs z.run z.state z.is_run z.settled t c k.sources tested.vs tested.have
    (count_of z.program site (spot_after spot b) inner q names 1 rules.1.values) in
    let long : spot.next + length b.nodes + length k.nodes ≡ spot.next + length m.nodes = let i = length-append b.nodes k.nodes in omega (arith, i) in
    record {
      vs = tested.vs ++ out.vs;
      ss = out.ss ++ tested.ss;
      evaluated = (
        x.value,
        out.vs,
        ap (λ l. l ++ out.vs) x.values,
        tests out.evaluated (subst
            (λ vs. Evaluates (world_of z) (entered xs out.vs env) q vs tested.ss) x.values tested.evaluated),
      );
      have = have_both (flow z) z.inputs z.run z.state z.is_run c k.sources b.sources tested.vs out.vs tested.have out.have;
      stored = makes_to z c (out.ss ++ tested.ss) spot.next (spot.next + length b.nodes + length k.nodes) (spot.next + length m.nodes) long
          (makes_both z c spot.next (length b.nodes) (length k.nodes) out.ss tested.ss out.stored tested.stored);
    }

-- THE TEST BEFORE THE BODY: the body, or the values unchanged
module _ (z : Scene) (c : Context) (at : ℕ) (xs : List NameAt) (body : Body) (means : BodyIn z c body) (site : Site) (k : Spot) (scope : Scope)
    (ps : List Source) where
  abbrev pub go_arm : Lowered
  go_arm = armed z c site k.next true (next_spot k) at scope (first_of ps) body

  abbrev stay_spot : Spot
  stay_spot = spot_after (next_spot k) go_arm

  abbrev pub stay_arm : Lowered
  stay_arm = entered_names (arm_site site k.next false stay_spot) stay_spot at scope (first_of ps) (bare xs)

  abbrev stays_at : List Source
  stays_at = or_predicate (first_of ps) (map (source_in scope) (bare xs))

  abbrev pub Steps : Env → List Value → Value → List Value → Stores → Type 0
  Steps env vs v us ss = ((truth v ≡ true) × Runs (world_of z) (entered xs vs env) body us ss) ⊎ ((truth v ≡ false) × (us ≡ vs) × (ss ≡ []))

  all_stay : 0 < length xs → map (source_in scope) (bare xs) ≡ stays_at
  all_stay some = go xs some
    where
      go : (xs : List NameAt) → 0 < length xs → map (source_in scope) (bare xs) ≡ or_predicate (first_of ps) (map (source_in scope) (bare xs))
      go [] some = absurd (omega (arith, some))
      go (x ∷ xs) some = refl

  module _ (x : Source) (v : Value) (only : ps ≡ x ∷ []) (has : HasIn z c x v) (h : ActiveIn z c site k (chosen site k at ps go_arm stay_arm))
      (env : Env) (names : List Name) (vs : List Value) (some : 0 < length xs) (fits : FitsBody false body)
      (rule : body_values z.program names body ≡ Ok (length xs))
      (have : HaveIn z c (map (source_in scope) (bare xs)) vs) (known : KnownIn z c scope (entered xs vs env) (body_uses body)) where
    abbrev Delivers : Type 0
    Delivers = DeliversIn z c (Steps env vs v) (chosen site k at ps go_arm stay_arm).sources k.next
        (k.next + length (chosen site k at ps go_arm stay_arm).nodes)

    same : length go_arm.sources ≡ length stay_arm.sources
    same =
        let here = arm_site site k.next true (next_spot k) in
        let e = entered_names here (next_spot k) at scope (first_of ps) (outside_body body) in
        body_count z.program here (spot_after (next_spot k) e) (arm_scope e (outside_body body)) body names (length xs) rule
        ∙ sym (inputs_count stay_spot.next (length stays_at) ∙ ap length (sym (all_stay some)) ∙ length-map (bare xs) (source_in scope)
        ∙ length-map xs (λ (x : NameAt). x.name))

    goes : truth v ≡ true → Delivers
    goes t =
        let there = left_stands z c site k at ps go_arm stay_arm x v only has h in
        let taken = open_there z c site k at ps go_arm stay_arm x v only has h true t site (next_spot k) go_arm there in
        let out = arm_delivers z c site k.next true (next_spot k) at scope (first_of ps) body (entered xs vs env) names
        (length xs) false fits rule means there taken known in
        chosen_left z c site k at ps go_arm stay_arm x v only has h t same (Steps env vs v)
        (delivers_as z c (Runs (world_of z) (entered xs vs env) body) (Steps env vs v) go_arm.sources (k.next + 1) (k.next + 1 + length go_arm.nodes)
        (λ us ss e. inl (t, e)) out)
        (λ lines. lie_enters z.program z.graph h.block (arm_site site k.next false stay_spot) stay_spot at stays_at)

    stops : truth v ≡ false → Delivers
    stops t =
        let here = arm_site site k.next false stay_spot in
        let there = right_stands z c site k at ps go_arm stay_arm x v only has h in
        let taken = open_there z c site k at ps go_arm stay_arm x v only has h false t site stay_spot stay_arm there in
        let eb = block_is z.program z.graph z.origin z.inputs z.run z.state z.is_run c site stay_spot stay_arm there in
        let its = subst (λ ss. HaveIn z c ss vs) (all_stay some) have in
        let out : DeliversIn z c (Steps env vs v) stay_arm.sources (k.next + 1 + length go_arm.nodes)
        (k.next + 1 + length go_arm.nodes + length stay_arm.nodes) =
        record {
          vs = vs;
          ss = [];
          evaluated = inr (t, refl, refl);
          have = enters_have z c there.block eb there.due here taken at stay_spot.next stays_at vs its there.lines;
          stored = makes_none z c stay_spot.next (stay_spot.next + length stay_arm.nodes) (enters_quiet z c there.block eb here stay_spot at stays_at
              there.lines);
        } in
        chosen_right z c site k at ps go_arm stay_arm x v only has h t same (Steps env vs v) out
        (λ lines.
        lie_arm z.program z.graph h.block site k.next true (next_spot k) at scope (first_of ps) (outside_body body)
        (λ here inner names. lower_body z.program here inner names body)
        (λ inner names w. body_lies z.program z.graph h.block (arm_site site k.next true (next_spot k)) inner names body w) lines)

    pub steps : Delivers
    steps = by_truth (truth v) refl
      where
        by_truth : (t : Bool) → truth v ≡ t → Delivers
        by_truth true e = goes e
        by_truth false e = stops e

pub means_before : (z : Scene) (c : Context) (xs : List NameAt) (q : Expr) (body : Body) → ExprIn z c q → BodyIn z c body → TurnIn z c (Before xs q body)
means_before z c xs q body test means f spot at scope env names vs some fits rule h have known =
    let site : Site = turn_site f in
    let p : Lowered = lower z.program site spot scope q in
    let k : Spot = spot_after spot p in
    let a : Lowered = go_arm z c at xs body means site k scope p.sources in
    let b : Lowered = stay_arm z c at xs body means site k scope p.sources in
    let m : Lowered = chosen site k at p.sources a b in
    let rules = in_before z.program names xs q body (length xs) rule in
    let parts = without_split (flow z) z.inputs z.run z.state z.is_run c scope env (bare xs) (uses q) (body_uses body) known in
    let tests = agrees_named (flow z) z.inputs z.run z.state z.is_run c scope env xs vs have (uses q) parts.0 in
    let knows = agrees_named (flow z) z.inputs z.run z.state z.is_run c scope env xs vs have (body_uses body) parts.1 in
    let before : ActiveIn z c site spot p = first_in z c site spot p (joined p m) m.nodes m.blocks refl refl h in
    let behind : ActiveIn z c site k m = rest_in z c site spot p m (joined p m) refl refl h in
    let out = test site spot scope (entered xs vs env) names 1 fits.0 rules.0.values before tests in
    let t = two z.program z.graph z.origin z.inputs z.run z.state z.is_run z.settled z.is_graph c in
    let x : HasOneValue z.program z.graph z.origin z.inputs z.run z.state z.is_run z.settled t c p.sources out.vs =
    one_each z.program z.graph z.origin z.inputs z.run z.state z.is_run z.settled t c p.sources out.vs out.have
    (count_of z.program site spot scope q names 1 rules.0.values) in
    let took = steps z c at xs body means site k scope p.sources x.source x.value x.sources x.has behind env names vs some fits.1 rules.1 have knows in
    let long : spot.next + length p.nodes + length m.nodes ≡ spot.next + length (joined p m).nodes = let i = length-append p.nodes m.nodes in
    omega (arith, i) in
    let tested : Evaluates (world_of z) (entered xs vs env) q (x.value ∷ []) out.ss = subst
    (λ us. Evaluates (world_of z) (entered xs vs env) q us out.ss) x.values out.evaluated in
    let one : OneTurn (world_of z) env (Before xs q body) vs x.value took.vs (out.ss ++ took.ss) =
    ⊎_elim (λ (e : (truth x.value ≡ true) × Runs (world_of z) (entered xs vs env) body took.vs took.ss). moves tested e.0 e.1)
    (λ (e : (truth x.value ≡ false) × (took.vs ≡ vs) × (took.ss ≡ [])).
    subst₂ (λ us ss. OneTurn (world_of z) env (Before xs q body) vs x.value us ss) (sym e.1) (sym (ap (λ ss. out.ss ++ ss) e.2 ∙ append_nothing out.ss))
    (stays tested e.0)) took.evaluated in
    record {
      vs = out.vs ++ took.vs;
      ss = out.ss ++ took.ss;
      evaluated = (x.value, took.vs, ap (λ l. l ++ took.vs) x.values, one);
      have = have_both (flow z) z.inputs z.run z.state z.is_run c p.sources m.sources out.vs took.vs out.have took.have;
      stored = makes_to z c (out.ss ++ took.ss) spot.next (spot.next + length p.nodes + length m.nodes) (spot.next + length (joined p m).nodes) long
          (makes_both z c spot.next (length p.nodes) (length m.nodes) out.ss took.ss out.stored took.stored);
    }
