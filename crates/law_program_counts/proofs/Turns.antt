-- The invocations of one turn of a loop are those of its test and, where it goes on or has the test behind it, of its body.
use Rattle.std.proofs.Common.{◌≡◌, ℕ, ◌+◌, true, false, List, [], ◌∷◌, ◌++◌, length, map, Ok, refl, sym, subst, arith, length-append}
use Rattle.tags.specs.declared.value.Value.{Value}
use Rattle.operators.specs.Values.{truth}
use Rattle.semantics.specs.declared.graph.Source.{Source}
use Rattle.semantics.specs.Meaning.{Context}
use Rattle.source.specs.Tree.{Name, NameAt, Expr, Body, Before, After}
use Rattle.source.specs.Fits.{FitsBody, FitsTurn}
use Rattle.source.specs.Outside.{bare, uses, body_uses, turn_uses}
use Rattle.source.specs.Rules.{body_values, turn_values}
use Rattle.source.specs.Evaluates.{World, Env, Stores, entered, Evaluates, Runs}
use Rattle.source.specs.Once.{OneAnswer}
use Rattle.source.specs.Lowered.{Lowered, Site, Spot, Scope, spot_after, next_spot, first_of, joined, scoped, source_in, or_predicate, entered_names, arm_site}
use Rattle.source.specs.Lowered.{turn_site, chosen, lower, lower_body, lower_turn}
use Rattle.source.proofs.Kept.{in_before, in_after}
use Rattle.source.proofs.Counting.{body_count}
use Rattle.law_completion.specs.TotalProgram.{none, both, counted, body_counted}
use Rattle.law_language.specs.Means.{OneTurn, stays, moves, tests}
use Rattle.law_language.proofs.MeansNamesAgree.{agrees_entered}
use Rattle.law_language.proofs.MeansParts.{block_is}
use Rattle.law_language.proofs.MeansScene.{Scene, flow, world_of, HasIn, HaveIn, KnownIn, ActiveIn, AllIn}
use Rattle.law_language.proofs.MeansStanding.{first_in, rest_in}
use Rattle.law_language.proofs.MeansLies.{lie_enters}
use Rattle.law_language.proofs.MeansConditionals.{open_there, left_stands, right_stands}
use Rattle.law_language.proofs.MeansTurnNames.{agrees_named, without_split}
use Rattle.law_program_counts.proofs.Lists.{lists_none, lists_behind, lists_to, empty_of}
use Rattle.law_program_counts.proofs.SameAnswers.{same_values, same_results}
use Rattle.law_program_counts.proofs.Parts.{ListsOf, ExprCounts, BodyCounts}
use Rattle.law_program_counts.proofs.Operators.{both_lists}
use Rattle.law_program_counts.proofs.Conditionals.{an_arm, arm_lists, arm_lies, enters_empty, left_lists, right_lists, tested}

-- ONE TURN has one flag, and one list of next values.
same_head : (v w : Value) (vs ws : List Value) → v ∷ vs ≡ w ∷ ws → v ≡ w
same_head v w vs ws e = cc

pub flag_before : OneAnswer → (w : World) (env : Env) (xs : List NameAt) (q : Expr) (body : Body) (vs us : List Value) (b v : Value) (ss ts : Stores)
    → OneTurn w env (Before xs q body) vs b us ss → Evaluates w (entered xs vs env) q (v ∷ []) ts → b ≡ v
flag_before one w env xs q body vs us b v ss ts (stays p f) d = same_head b v [] [] (same_values one w _ q _ _ _ _ p d)
flag_before one w env xs q body vs us b v ss ts (moves p t r) d = same_head b v [] [] (same_values one w _ q _ _ _ _ p d)

false_true : (b v : Value) → b ≡ v → truth b ≡ false → truth v ≡ true → ⊥
false_true b v e f t = cc

pub next_before : OneAnswer → (w : World) (env : Env) (xs : List NameAt) (q : Expr) (body : Body) (vs us ns : List Value) (b v : Value) (ss ts qs : Stores)
    → OneTurn w env (Before xs q body) vs b us ss → Evaluates w (entered xs vs env) q (v ∷ []) ts → truth v ≡ true → Runs w (entered xs vs env) body ns qs
    → us ≡ ns
next_before one w env xs q body vs us ns b v ss ts qs (stays p f) d t r =
    absurd (false_true b v (same_head b v [] [] (same_values one w _ q _ _ _ _ p d)) f t)
next_before one w env xs q body vs us ns b v ss ts qs (moves p t' r') d t r = same_results one w _ body _ _ _ _ r' r

pub next_after : OneAnswer → (w : World) (env : Env) (xs : List NameAt) (body : Body) (q : Expr) (vs us ns : List Value) (b : Value) (ss qs : Stores)
    → OneTurn w env (After xs body q) vs b us ss → Runs w (entered xs vs env) body ns qs → us ≡ ns
next_after one w env xs body q vs us ns b ss qs (tests r' p) r = same_results one w _ body _ _ _ _ r' r

pub flag_after : OneAnswer → (w : World) (env : Env) (xs : List NameAt) (body : Body) (q : Expr) (vs us ns : List Value) (b v : Value) (ss qs ts : Stores)
    → OneTurn w env (After xs body q) vs b us ss → Runs w (entered xs vs env) body ns qs → Evaluates w (entered xs ns env) q (v ∷ []) ts → b ≡ v
flag_after one w env xs body q vs us ns b v ss qs ts (tests {ss = ps} r' p) r d =
    let same = same_results one w _ body _ _ _ _ r' r in
    same_head b v [] [] (same_values one w _ q _ _ _ _ (subst (λ us. Evaluates w (entered xs us env) q (b ∷ []) ps) same p) d)

-- THE TEST AFTER THE BODY
pub counts_after : {b : Value} {ts ss : Stores} (env : Env) (vs us : List Value) (z : Scene) (c : Context) (one_answer : OneAnswer) (all : AllIn z c) (xs : List NameAt) (body : Body)
    (q : Expr) (g : Runs (world_of z) (entered xs vs env) body us ts) (d : Evaluates (world_of z) (entered xs us env) q (b ∷ []) ss)
    → BodyCounts z c g → ExprCounts z c d
    → (f : Name) (spot : Spot) (at : ℕ) (scope : Scope) (names : List Name)
    → FitsTurn (After xs body q) → turn_values z.program names (After xs body q) ≡ Ok (length xs)
    → ActiveIn z c (turn_site f) spot (lower_turn z.program f spot at scope (After xs body q))
    → HaveIn z c (map (source_in scope) (bare xs)) vs → KnownIn z c scope env (turn_uses (After xs body q))
    → ListsOf z c spot (lower_turn z.program f spot at scope (After xs body q)) (both (body_counted g) (counted d))
counts_after {ts = ts} env vs us z c one_answer all xs body q g d means test f spot at scope names fits rule h have known =
    let site : Site = turn_site f in
    let b : Lowered = lower_body z.program site spot scope body in
    let inner : Scope = scoped (bare xs) b.sources scope in
    let k : Lowered = lower z.program site (spot_after spot b) inner q in
    let m : Lowered = record { nodes = b.nodes ++ k.nodes; sources = k.sources ++ b.sources; blocks = b.blocks ++ k.blocks } in
    let rules = in_after z.program names xs body q (length xs) rule in
    let parts = without_split (flow z) z.inputs z.run z.state z.is_run c scope env (bare xs) (body_uses body) (uses q) known in
    let knows = agrees_named (flow z) z.inputs z.run z.state z.is_run c scope env xs vs have (body_uses body) parts.0 in
    let before : ActiveIn z c site spot b = first_in z c site spot b m k.nodes k.blocks refl refl h in
    let behind : ActiveIn z c site (spot_after spot b) k = rest_in z c site spot b k m refl refl h in
    let out = all.body body site spot scope (entered xs vs env) names (length xs) false fits.0 rules.0 before knows in
    let results : HaveIn z c b.sources us =
    subst (λ us. HaveIn z c b.sources us) (same_results one_answer (world_of z) (entered xs vs env) body out.vs us out.ss ts out.evaluated g) out.have in
    let many : length xs ≡ length b.sources = sym (body_count z.program site spot scope body names (length xs) rules.0) in
    let after = agrees_entered (flow z) z.inputs z.run z.state z.is_run c xs b.sources us scope env results many (uses q) parts.1 in
    both_lists z c spot b k (body_counted g) (counted d) (means site spot scope names (length xs) false fits.0 rules.0 before knows)
    (test site (spot_after spot b) inner names 1 fits.1 rules.1.values behind after)

-- THE TEST BEFORE THE BODY: the body, or the values unchanged
module _ (z : Scene) (c : Context) (at : ℕ) (xs : List NameAt) (body : Body) (site : Site) (k : Spot) (scope : Scope) (ps : List Source) where
  abbrev go_arm : Lowered
  go_arm = an_arm z c site k.next true (next_spot k) at scope (first_of ps) body

  abbrev stay_spot : Spot
  stay_spot = spot_after (next_spot k) go_arm

  abbrev stay_arm : Lowered
  stay_arm = entered_names (arm_site site k.next false stay_spot) stay_spot at scope (first_of ps) (bare xs)

  abbrev stays_at : List Source
  stays_at = or_predicate (first_of ps) (map (source_in scope) (bare xs))

  abbrev both_ways : Lowered
  both_ways = chosen site k at ps go_arm stay_arm

  module _ (x : Source) (v : Value) (only : ps ≡ x ∷ []) (has : HasIn z c x v) (h : ActiveIn z c site k both_ways) where
    go_lists : {env : Env} {us : List Value} {ss : Stores} (names : List Name) (n : ℕ) → truth v ≡ true → FitsBody false body
        → body_values z.program names body ≡ Ok n
        → KnownIn z c scope env (body_uses body) → (g : Runs (world_of z) env body us ss) → BodyCounts z c g → ListsOf z c k both_ways (body_counted g)
    go_lists names n t fits rule known g counts =
        let there = left_stands z c site k at ps go_arm stay_arm x v only has h in
        let taken = open_there z c site k at ps go_arm stay_arm x v only has h true t site (next_spot k) go_arm there in
        left_lists z c site k at ps go_arm stay_arm x v only has h t (body_counted g)
        (arm_lists z c site k.next true (next_spot k) at scope (first_of ps) body names n false fits rule g counts there taken known)
        (λ lines. lie_enters z.program z.graph h.block (arm_site site k.next false stay_spot) stay_spot at stays_at)

    stay_lists : truth v ≡ false → ListsOf z c k both_ways none
    stay_lists t =
        let there = right_stands z c site k at ps go_arm stay_arm x v only has h in
        let eb = block_is z.program z.graph z.origin z.inputs z.run z.state z.is_run c site stay_spot stay_arm there in
        right_lists z c site k at ps go_arm stay_arm x v only has h t none
        (lists_none z c stay_spot.next (stay_spot.next + length stay_arm.nodes)
        (enters_empty z c there.block eb (arm_site site k.next false stay_spot) stay_spot at stays_at there.lines))
        (λ lines. arm_lies z h.block site k.next true (next_spot k) at scope (first_of ps) body lines)

module _ (z : Scene) (c : Context) (one_answer : OneAnswer) (all : AllIn z c) (xs : List NameAt) (q : Expr) (body : Body) where
  pub counts_stays : {b : Value} {ss : Stores} (env : Env) (vs : List Value) (d : Evaluates (world_of z) (entered xs vs env) q (b ∷ []) ss)
      → truth b ≡ false → ExprCounts z c d
      → (f : Name) (spot : Spot) (at : ℕ) (scope : Scope) (names : List Name)
      → FitsTurn (Before xs q body) → turn_values z.program names (Before xs q body) ≡ Ok (length xs)
      → ActiveIn z c (turn_site f) spot (lower_turn z.program f spot at scope (Before xs q body))
      → HaveIn z c (map (source_in scope) (bare xs)) vs → KnownIn z c scope env (turn_uses (Before xs q body))
      → ListsOf z c spot (lower_turn z.program f spot at scope (Before xs q body)) (counted d)
  counts_stays {b = v} {ss = ss} env vs d t test f spot at scope names fits rule h have known =
      let site : Site = turn_site f in
      let p : Lowered = lower z.program site spot scope q in
      let k : Spot = spot_after spot p in
      let m : Lowered = both_ways z c at xs body site k scope p.sources in
      let rules = in_before z.program names xs q body (length xs) rule in
      let parts = without_split (flow z) z.inputs z.run z.state z.is_run c scope env (bare xs) (uses q) (body_uses body) known in
      let tests = agrees_named (flow z) z.inputs z.run z.state z.is_run c scope env xs vs have (uses q) parts.0 in
      let before : ActiveIn z c site spot p = first_in z c site spot p (joined p m) m.nodes m.blocks refl refl h in
      let behind : ActiveIn z c site k m = rest_in z c site spot p m (joined p m) refl refl h in
      let out = all.expr q site spot scope (entered xs vs env) names 1 fits.0 rules.0.values before tests in
      let x = tested z c p.sources v (subst (λ us. HaveIn z c p.sources us)
      (same_values one_answer (world_of z) (entered xs vs env) q out.vs (v ∷ []) out.ss ss out.evaluated d) out.have) in
      let stay = stay_lists z c at xs body site k scope p.sources x.source v x.sources x.has behind t in
      let mid : ℕ = spot.next + length p.nodes in
      let long : mid + length m.nodes ≡ spot.next + length (joined p m).nodes = let i = length-append p.nodes m.nodes in omega (arith, i) in
      lists_to z c spot.next (mid + length m.nodes) (spot.next + length (joined p m).nodes) (counted d) long
      (lists_behind z c spot.next mid (mid + length m.nodes) (counted d) (omega arith) (test site spot scope names 1 fits.0 rules.0.values before tests)
      (empty_of z c mid (mid + length m.nodes) stay))

  pub counts_moves : {us : List Value} {b : Value} {ss ts : Stores} (env : Env) (vs : List Value) (d : Evaluates (world_of z) (entered xs vs env) q (b ∷ []) ss)
      → truth b ≡ true → (g : Runs (world_of z) (entered xs vs env) body us ts) → ExprCounts z c d → BodyCounts z c g
      → (f : Name) (spot : Spot) (at : ℕ) (scope : Scope) (names : List Name)
      → FitsTurn (Before xs q body) → turn_values z.program names (Before xs q body) ≡ Ok (length xs)
      → ActiveIn z c (turn_site f) spot (lower_turn z.program f spot at scope (Before xs q body))
      → HaveIn z c (map (source_in scope) (bare xs)) vs → KnownIn z c scope env (turn_uses (Before xs q body))
      → ListsOf z c spot (lower_turn z.program f spot at scope (Before xs q body)) (both (counted d) (body_counted g))
  counts_moves {b = v} {ss = ss} env vs d t g test means f spot at scope names fits rule h have known =
      let site : Site = turn_site f in
      let p : Lowered = lower z.program site spot scope q in
      let k : Spot = spot_after spot p in
      let m : Lowered = both_ways z c at xs body site k scope p.sources in
      let rules = in_before z.program names xs q body (length xs) rule in
      let parts = without_split (flow z) z.inputs z.run z.state z.is_run c scope env (bare xs) (uses q) (body_uses body) known in
      let tests = agrees_named (flow z) z.inputs z.run z.state z.is_run c scope env xs vs have (uses q) parts.0 in
      let knows = agrees_named (flow z) z.inputs z.run z.state z.is_run c scope env xs vs have (body_uses body) parts.1 in
      let before : ActiveIn z c site spot p = first_in z c site spot p (joined p m) m.nodes m.blocks refl refl h in
      let behind : ActiveIn z c site k m = rest_in z c site spot p m (joined p m) refl refl h in
      let out = all.expr q site spot scope (entered xs vs env) names 1 fits.0 rules.0.values before tests in
      let x = tested z c p.sources v (subst (λ us. HaveIn z c p.sources us)
      (same_values one_answer (world_of z) (entered xs vs env) q out.vs (v ∷ []) out.ss ss out.evaluated d) out.have) in
      both_lists z c spot p m (counted d) (body_counted g) (test site spot scope names 1 fits.0 rules.0.values before tests)
      (go_lists z c at xs body site k scope p.sources x.source v x.sources x.has behind names (length xs) t fits.1 rules.1 knows g means)
