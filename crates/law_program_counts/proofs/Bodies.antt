-- The invocations of lists and bodies are those of their parts.
use Rattle.std.proofs.Common.{◌≡◌, ℕ, false, List, ◌++◌, length, refl, sym, subst}
use Rattle.tags.specs.declared.value.Value.{Value}
use Rattle.semantics.specs.Meaning.{Context}
use Rattle.source.specs.Tree.{Target, Expr, Exprs, Body}
use Rattle.source.specs.Outside.{without, bound_by, uses, list_uses, body_uses}
use Rattle.source.specs.Evaluates.{Env, Stores, let_in, Evaluates, EvaluatesAll, Runs, one, more, lets, does, gives, chain}
use Rattle.source.specs.Once.{OneAnswer}
use Rattle.source.specs.Lowered.{Lowered, Scope, spot_after, joined, followed, let_scoped, lower, lower_list, lower_body}
use Rattle.source.proofs.Kept.{in_more, in_let, in_do}
use Rattle.source.proofs.Counting.{list_count}
use Rattle.law_completion.specs.TotalProgram.{counted, list_counted, body_counted}
use Rattle.law_language.proofs.MeansNamesAgree.{agrees_split, agrees_let}
use Rattle.law_language.proofs.MeansScene.{Scene, flow, world_of, HaveIn, ActiveIn, AllIn}
use Rattle.law_language.proofs.MeansStanding.{first_in, rest_in}
use Rattle.law_program_counts.proofs.SameAnswers.{same_list}
use Rattle.law_program_counts.proofs.Operators.{both_lists}
use Rattle.law_program_counts.proofs.Parts.{ExprCounts, ListCounts, BodyCounts}

module _ (z : Scene) (c : Context) where
  -- LISTS
  pub counts_one : {env : Env} {e : Expr} {vs : List Value} {ss : Stores} (d : Evaluates (world_of z) env e vs ss) → ExprCounts z c d → ListCounts z c (one d)
  counts_one d means site spot scope names n fits rule h known = means site spot scope names n fits rule h known

  pub counts_more : {env : Env} {vs us : List Value} {ss qs : Stores} (e : Expr) (es : Exprs) (d : Evaluates (world_of z) env e vs ss)
      (g : EvaluatesAll (world_of z) env es us qs) → ExprCounts z c d → ListCounts z c g → ListCounts z c (more d g)
  counts_more {env = env} e es d g first others site spot scope names n fits rule h known =
      let l : Lowered = lower z.program site spot scope e in
      let k : Lowered = lower_list z.program site (spot_after spot l) scope es in
      let rules = in_more z.program names e es n rule in
      let agree = agrees_split (flow z) z.inputs z.run z.state z.is_run c scope env (uses e) (list_uses es) known in
      let before : ActiveIn z c site spot l = first_in z c site spot l (joined l k) k.nodes k.blocks refl refl h in
      let behind : ActiveIn z c site (spot_after spot l) k = rest_in z c site spot l k (joined l k) refl refl h in
      both_lists z c spot l k (counted d) (list_counted g) (first site spot scope names rules.0 fits.0 rules.2 before agree.0)
      (others site (spot_after spot l) scope names rules.1 fits.1 rules.3 behind agree.1)

  -- BODIES
  pub counts_give : {env : Env} {es : Exprs} {vs : List Value} {ss : Stores} (d : EvaluatesAll (world_of z) env es vs ss) → ListCounts z c d
      → BodyCounts z c (gives d)
  counts_give d means site spot scope names n behind_else fits rule h known = means site spot scope names n fits rule h known

  pub counts_chain : {env : Env} {e : Expr} {vs : List Value} {ss : Stores} (d : Evaluates (world_of z) env e vs ss) → ExprCounts z c d
      → BodyCounts z c (chain d)
  counts_chain d means site spot scope names n behind_else fits rule h known = means site spot scope names n fits.2 rule h known

  pub counts_do : {env : Env} {vs rs : List Value} {ss us : Stores} (es : Exprs) (rest : Body) (d : EvaluatesAll (world_of z) env es vs ss)
      (g : Runs (world_of z) env rest rs us) → ListCounts z c d → BodyCounts z c g → BodyCounts z c (does d g)
  counts_do {env = env} es rest d g first means site spot scope names n behind_else fits rule h known =
      let l : Lowered = lower_list z.program site spot scope es in
      let k : Lowered = lower_body z.program site (spot_after spot l) scope rest in
      let rules = in_do z.program names es rest n rule in
      let agree = agrees_split (flow z) z.inputs z.run z.state z.is_run c scope env (list_uses es) (body_uses rest) known in
      let before : ActiveIn z c site spot l = first_in z c site spot l (followed l k) k.nodes k.blocks refl refl h in
      let behind : ActiveIn z c site (spot_after spot l) k = rest_in z c site spot l k (followed l k) refl refl h in
      both_lists z c spot l k (list_counted d) (body_counted g) (first site spot scope names rules.0 fits.0 rules.1 before agree.0)
      (means site (spot_after spot l) scope names n false fits.1 rules.2 behind agree.1)

  pub counts_let : {env : Env} {vs rs : List Value} {ss us : Stores} (one_answer : OneAnswer) (all : AllIn z c) (at : ℕ) (targets : List Target) (es : Exprs) (rest : Body)
      (d : EvaluatesAll (world_of z) env es vs ss) (g : Runs (world_of z) (let_in targets vs env) rest rs us) → ListCounts z c d → BodyCounts z c g
      → BodyCounts z c (lets {t = at} {targets = targets} d g)
  counts_let {env = env} {vs = vs} {ss = ss} one_answer all at targets es rest d g first means site spot scope names n behind_else fits rule h known =
      let l : Lowered = lower_list z.program site spot scope es in
      let inner : Scope = let_scoped targets l.sources scope in
      let k : Lowered = lower_body z.program site (spot_after spot l) inner rest in
      let rules = in_let z.program names at targets es rest n rule in
      let agree = agrees_split (flow z) z.inputs z.run z.state z.is_run c scope env (list_uses es) (without (bound_by targets) (body_uses rest)) known in
      let before : ActiveIn z c site spot l = first_in z c site spot l (followed l k) k.nodes k.blocks refl refl h in
      let behind : ActiveIn z c site (spot_after spot l) k = rest_in z c site spot l k (followed l k) refl refl h in
      let out = all.list es site spot scope env names (length targets) fits.1 rules.1 before agree.0 in
      let same = same_list one_answer (world_of z) env es out.vs vs out.ss ss out.evaluated d in
      let have : HaveIn z c l.sources vs = subst (λ vs. HaveIn z c l.sources vs) same out.have in
      let many : length targets ≡ length l.sources = sym (list_count z.program site spot scope es names (length targets) rules.1) in
      let bound = agrees_let (flow z) z.inputs z.run z.state z.is_run c targets l.sources vs scope env have many (body_uses rest) agree.1 in
      both_lists z c spot l k (list_counted d) (body_counted g) (first site spot scope names (length targets) fits.1 rules.1 before agree.0)
      (means site (spot_after spot l) inner (bound_by targets ++ names) n false fits.2 rules.2 behind bound)
