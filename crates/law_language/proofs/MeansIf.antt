-- Lowering keeps the meaning of a conditional, where it keeps that of its predicate and its arms.
use Rattle.std.proofs.Common.{◌≡◌, ℕ, ◌+◌, ◌⊎◌, Bool, true, false, List, [], ◌∷◌, ◌++◌, length, map, Ok, inl, inr, refl, sym, ◌∙◌, subst, arith, length-append}
use Rattle.std.proofs.Common.{⊎_elim}
use Rattle.tags.specs.declared.value.Value.{Value}
use Rattle.operators.specs.Values.{truth}
use Rattle.semantics.specs.declared.graph.Region.TheVariants.{Arm}
use Rattle.semantics.specs.declared.graph.Source.{Source}
use Rattle.semantics.specs.Meaning.{Context}
use Rattle.source.specs.Tree.{Name, Expr, Body, If}
use Rattle.source.specs.Fits.{FitsBody}
use Rattle.source.specs.Outside.{outside_body, uses, body_uses}
use Rattle.source.specs.Rules.{body_values}
use Rattle.source.specs.Evaluates.{Env, Stores, Evaluates, Runs, if_true, if_false}
use Rattle.source.specs.Lowered.{Lowered, Site, Spot, Scope, spot_after, next_spot, first_of, followed, or_predicate, source_in, entered_names, arm_site}
use Rattle.source.specs.Lowered.{arm_scope, arm, chosen, lower, lower_body}
use Rattle.source.proofs.Kept.{in_if}
use Rattle.source.proofs.OutsideNames.{uses_once}
use Rattle.law_language.proofs.MeansNamesAgree.{agrees_split, agrees_once, agrees_arm}
use Rattle.source.proofs.Counting.{count_of, body_count}
use Rattle.law_language.proofs.MeansParts.{block_is}
use Rattle.law_language.proofs.MeansOperators.{HasOneValue, one_each}
use Rattle.law_language.proofs.MeansCells.{two}
use Rattle.law_language.proofs.MeansScene.{Scene, flow, world_of, RegionIn, HasIn, KnownIn, ActiveIn, DeliversIn, ExprIn, BodyIn}
use Rattle.law_language.proofs.MeansStanding.{first_in, rest_in, stands_in_arm, makes_none, makes_both, makes_to}
use Rattle.law_language.proofs.MeansLies.{HoldsMade, made_split, lie_arm, body_lies}
use Rattle.law_language.proofs.MeansConditionals.{arm_entered, arm_trigger, enters_quiet, open_there, left_stands, right_stands, chosen_left, chosen_right}

-- AN ARM whose region is taken delivers what its body is evaluated to.
module _ (z : Scene) (c : Context) (site : Site) (cond : ℕ) (side : Bool) (spot : Spot) (at : ℕ) (scope : Scope) (predicate : Source) (body : Body) where
  abbrev pub armed : Lowered
  armed = arm site cond side spot at scope predicate (outside_body body) (λ here inner names. lower_body z.program here inner names body)

  abbrev here : Site
  here = arm_site site cond side spot

  abbrev l : Lowered
  l = entered_names here spot at scope predicate (outside_body body)

  abbrev inside : Lowered
  inside = lower_body z.program here (spot_after spot l) (arm_scope l (outside_body body)) body

  pub arm_delivers : (env : Env) (names : List Name) (n : ℕ) (behind_else : Bool) → FitsBody behind_else body → body_values z.program names body ≡ Ok n
      → BodyIn z c body
      → (h : ActiveIn z c site spot armed) → RegionIn z c h.block (Arm cond side) → KnownIn z c scope env (body_uses body)
      → DeliversIn z c (Runs (world_of z) env body) armed.sources spot.next (spot.next + length armed.nodes)
  arm_delivers env names n behind_else fits rule means h taken known =
      let eb = block_is z.program z.graph z.origin z.inputs z.run z.state z.is_run c site spot armed h in
      let before : ActiveIn z c site spot l = first_in z c site spot l armed inside.nodes inside.blocks refl refl h in
      let lines = first_lines h in
      let some = arm_trigger z c h.block eb h.due here taken at spot scope predicate (outside_body body) lines in
      let all : ActiveIn z c here spot armed = stands_in_arm z c site spot armed cond side h taken some.0 some.1 in
      let stands : ActiveIn z c here (spot_after spot l) inside = rest_in z c here spot l inside armed refl refl all in
      let outer = agrees_once (flow z) z.inputs z.run z.state z.is_run c scope env (body_uses body) known in
      let entered = arm_entered z c h.block eb h.due here taken at spot scope env predicate (outside_body body) outer lines in
      let knows = agrees_arm (flow z) z.inputs z.run z.state z.is_run c env (outside_body body) l.sources [] entered (body_uses body)
      (uses_once (body_uses body)) in
      let out = means here (spot_after spot l) (arm_scope l (outside_body body)) env names n behind_else fits rule stands knows in
      let none = makes_none z c spot.next (spot.next + length l.nodes) (enters_quiet z c h.block eb here spot at
      (or_predicate predicate (map (source_in scope) (outside_body body))) lines) in
      let long : spot.next + length l.nodes + length inside.nodes ≡ spot.next + length armed.nodes = let x = length-append l.nodes inside.nodes in
      omega (arith, x) in
      record {
        vs = out.vs;
        ss = out.ss;
        evaluated = out.evaluated;
        have = out.have;
        stored = makes_to z c out.ss spot.next (spot.next + length l.nodes + length inside.nodes) (spot.next + length armed.nodes) long
            (makes_both z c spot.next (length l.nodes) (length inside.nodes) [] out.ss none out.stored);
      }
    where
      first_lines : (h : ActiveIn z c site spot armed) → HoldsMade z.program z.graph h.block spot.next l.nodes
      first_lines h = (made_split z.program z.graph h.block spot.next l.nodes inside.nodes h.lines).0

-- what is also evaluated in another way delivers that, too
pub delivers_as : (z : Scene) (c : Context) (gives others : List Value → Stores → Type 0) (xs : List Source) (lo hi : ℕ)
    → ((vs : List Value) (ss : Stores) → gives vs ss → others vs ss)
    → DeliversIn z c gives xs lo hi → DeliversIn z c others xs lo hi
delivers_as z c gives others xs lo hi f out =
    record { vs = out.vs; ss = out.ss; evaluated = f out.vs out.ss out.evaluated; have = out.have; stored = out.stored }

-- THE CONDITIONAL after its predicate, whose value is v
module _ (z : Scene) (c : Context) (at : ℕ) (l r : Body) (left : BodyIn z c l) (right : BodyIn z c r) (site : Site) (k : Spot) (scope : Scope)
    (ps : List Source) where
  abbrev pub yes_arm : Lowered
  yes_arm = armed z c site k.next true (next_spot k) at scope (first_of ps) l

  abbrev pub no_arm : Lowered
  no_arm = armed z c site k.next false (spot_after (next_spot k) yes_arm) at scope (first_of ps) r

  abbrev pub Takes : Env → Value → List Value → Stores → Type 0
  Takes env v vs ss = ((truth v ≡ true) × Runs (world_of z) env l vs ss) ⊎ ((truth v ≡ false) × Runs (world_of z) env r vs ss)

  yes_count : (names : List Name) (n : ℕ) → body_values z.program names l ≡ Ok n → length yes_arm.sources ≡ n
  yes_count names n rule =
      let h = arm_site site k.next true (next_spot k) in
      let e = entered_names h (next_spot k) at scope (first_of ps) (outside_body l) in
      body_count z.program h (spot_after (next_spot k) e) (arm_scope e (outside_body l)) l names n rule

  no_count : (names : List Name) (n : ℕ) → body_values z.program names r ≡ Ok n → length no_arm.sources ≡ n
  no_count names n rule =
      let spot = spot_after (next_spot k) yes_arm in
      let h = arm_site site k.next false spot in
      let e = entered_names h spot at scope (first_of ps) (outside_body r) in
      body_count z.program h (spot_after spot e) (arm_scope e (outside_body r)) r names n rule

  module _ (x : Source) (v : Value) (only : ps ≡ x ∷ []) (has : HasIn z c x v) (h : ActiveIn z c site k (chosen site k at ps yes_arm no_arm))
      (env : Env) (names : List Name) (n : ℕ) (fits_l : FitsBody false l) (fits_r : FitsBody true r) (rule_l : body_values z.program names l ≡ Ok n)
      (rule_r : body_values z.program names r ≡ Ok n)
      (known_l : KnownIn z c scope env (body_uses l)) (known_r : KnownIn z c scope env (body_uses r)) where
    abbrev Delivers : Type 0
    Delivers = DeliversIn z c (Takes env v) (chosen site k at ps yes_arm no_arm).sources k.next (k.next + length (chosen site k at ps yes_arm no_arm).nodes)

    same : length yes_arm.sources ≡ length no_arm.sources
    same = yes_count names n rule_l ∙ sym (no_count names n rule_r)

    yes : truth v ≡ true → Delivers
    yes t =
        let there = left_stands z c site k at ps yes_arm no_arm x v only has h in
        let taken = open_there z c site k at ps yes_arm no_arm x v only has h true t site (next_spot k) yes_arm there in
        let out = arm_delivers z c site k.next true (next_spot k) at scope (first_of ps) l env names n false fits_l rule_l left there taken known_l in
        chosen_left z c site k at ps yes_arm no_arm x v only has h t same (Takes env v)
        (delivers_as z c (Runs (world_of z) env l) (Takes env v) yes_arm.sources (k.next + 1) (k.next + 1 + length yes_arm.nodes) (λ vs ss e. inl (t, e)) out)
        (λ lines.
        lie_arm z.program z.graph h.block site k.next false (spot_after (next_spot k) yes_arm) at scope (first_of ps) (outside_body r)
        (λ here inner names. lower_body z.program here inner names r)
        (λ inner names w. body_lies z.program z.graph h.block (arm_site site k.next false (spot_after (next_spot k) yes_arm)) inner names r w) lines)

    no_ : truth v ≡ false → Delivers
    no_ t =
        let there = right_stands z c site k at ps yes_arm no_arm x v only has h in
        let taken = open_there z c site k at ps yes_arm no_arm x v only has h false t site (spot_after (next_spot k) yes_arm) no_arm there in
        let out = arm_delivers z c site k.next false (spot_after (next_spot k) yes_arm) at scope
        (first_of ps) r env names n true fits_r rule_r right there taken known_r in
        chosen_right z c site k at ps yes_arm no_arm x v only has h t same (Takes env v)
        (delivers_as z c (Runs (world_of z) env r) (Takes env v) no_arm.sources (k.next + 1 + length yes_arm.nodes)
        (k.next + 1 + length yes_arm.nodes + length no_arm.nodes) (λ vs ss e. inr (t, e)) out)
        (λ lines.
        lie_arm z.program z.graph h.block site k.next true (next_spot k) at scope (first_of ps) (outside_body l)
        (λ here inner names. lower_body z.program here inner names l)
        (λ inner names w. body_lies z.program z.graph h.block (arm_site site k.next true (next_spot k)) inner names l w) lines)

    pub takes_arm : Delivers
    takes_arm = by_truth (truth v) refl
      where
        by_truth : (t : Bool) → truth v ≡ t → Delivers
        by_truth true e = yes e
        by_truth false e = no_ e

module _ (z : Scene) (c : Context) (at : ℕ) (q : Expr) (l r : Body) (test : ExprIn z c q) (left : BodyIn z c l) (right : BodyIn z c r) where
  pub means_if : ExprIn z c (If at q l r)
  means_if site spot scope env names n fits rule h known =
      let p : Lowered = lower z.program site spot scope q in
      let k : Spot = spot_after spot p in
      let a : Lowered = yes_arm z c at l r left right site k scope p.sources in
      let b : Lowered = no_arm z c at l r left right site k scope p.sources in
      let m : Lowered = chosen site k at p.sources a b in
      let rules = in_if z.program names at q l r n rule in
      let outer = agrees_split (flow z) z.inputs z.run z.state z.is_run c scope env (uses q ++ body_uses l) (body_uses r) known in
      let inner = agrees_split (flow z) z.inputs z.run z.state z.is_run c scope env (uses q) (body_uses l) outer.0 in
      let before : ActiveIn z c site spot p = first_in z c site spot p (followed p m) m.nodes m.blocks refl refl h in
      let behind : ActiveIn z c site k m = rest_in z c site spot p m (followed p m) refl refl h in
      let out = test site spot scope env names 1 fits.0 rules.0.values before inner.0 in
      let t = two z.program z.graph z.origin z.inputs z.run z.state z.is_run z.settled z.is_graph c in
      let x : HasOneValue z.program z.graph z.origin z.inputs z.run z.state z.is_run z.settled t c p.sources out.vs =
      one_each z.program z.graph z.origin z.inputs z.run z.state z.is_run z.settled t c p.sources out.vs out.have
      (count_of z.program site spot scope q names 1 rules.0.values) in
      let took = takes_arm z c at l r left right site k scope p.sources x.source x.value x.sources x.has behind env names n fits.1 fits.2 rules.1 rules.2
      inner.1 outer.1 in
      let long : spot.next + length p.nodes + length m.nodes ≡ spot.next + length (followed p m).nodes = let i = length-append p.nodes m.nodes in
      omega (arith, i) in
      let tested : Evaluates (world_of z) env q (x.value ∷ []) out.ss = subst (λ vs. Evaluates (world_of z) env q vs out.ss) x.values out.evaluated in
      record {
        vs = took.vs;
        ss = out.ss ++ took.ss;
        evaluated = ⊎_elim (λ (e : (truth x.value ≡ true) × Runs (world_of z) env l took.vs took.ss). if_true tested e.0 e.1)
            (λ (e : (truth x.value ≡ false) × Runs (world_of z) env r took.vs took.ss). if_false tested e.0 e.1) took.evaluated;
        have = took.have;
        stored = makes_to z c (out.ss ++ took.ss) spot.next (spot.next + length p.nodes + length m.nodes) (spot.next + length (followed p m).nodes) long
            (makes_both z c spot.next (length p.nodes) (length m.nodes) out.ss took.ss out.stored took.stored);
      }
