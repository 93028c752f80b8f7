-- Lowering keeps the meaning of lists and bodies, where it keeps that of their parts.
use Rattle.std.proofs.Common.{◌≡◌, ℕ, ◌+◌, ℤ, false, List, ◌++◌, length, IsPermutation, refl, sym, subst, arith, length-append}
use Rattle.tags.specs.declared.value.Origin.{Origin}
use Rattle.semantics.specs.Graph.{Graph, flow_of}
use Rattle.semantics.specs.Meaning.{Context, State, Activity, Run, start}
use Rattle.source.specs.Tree.{Target, Expr, Exprs, One, More, Body, Let, Do, Give, Chain, Program}
use Rattle.source.specs.Outside.{without, bound_by, uses, list_uses, body_uses}
use Rattle.source.specs.Evaluates.{Stores, let_in, one, more, lets, does, gives, chain}
use Rattle.source.specs.Lowered.{Lowered, Site, Spot, Scope, spot_after, joined, followed, let_scoped, lower, lower_list, lower_body}
use Rattle.source.proofs.Kept.{in_more, in_let, in_do}
use Rattle.law_language.specs.MeansBelow.{stores_below}
use Rattle.law_language.specs.Means.{IsActive, MeansExpr, MeansList, MeansBody}
use Rattle.law_language.proofs.MeansHaving.{have_both}
use Rattle.law_language.proofs.MeansNamesAgree.{agrees_split, agrees_let}
use Rattle.source.proofs.Counting.{list_count}
use Rattle.law_language.proofs.MeansRanges.{stores_both}
use Rattle.law_language.proofs.MeansParts.{first_part, rest_part}

module _ (p : Program) (g : Graph) (origin : ℕ → Origin) (inputs : List ℤ) (run : List Activity) (s : State) (r : Run (flow_of g) (start inputs) run s)
    (c : Context) where
  abbrev ActiveIn : Site → Spot → Lowered → Type 0
  ActiveIn site spot l = IsActive p g origin inputs run s r c site spot l

  abbrev Makes : Stores → ℕ → ℕ → Type 0
  Makes ss lo hi = IsPermutation ss (stores_below (flow_of g) run c lo hi)

  -- the stores of two parts, one after the other
  pub both_stored : (spot : Spot) (l k : Lowered) (ss us : Stores) → Makes ss spot.next (spot.next + length l.nodes)
      → Makes us (spot.next + length l.nodes) (spot.next + length l.nodes + length k.nodes)
      → Makes (ss ++ us) spot.next (spot.next + length (l.nodes ++ k.nodes))
  both_stored spot l k ss us h i =
      let long : spot.next + length l.nodes + length k.nodes ≡ spot.next + length (l.nodes ++ k.nodes) = let n = length-append l.nodes k.nodes in
      omega (arith, n) in
      subst (λ n. Makes (ss ++ us) spot.next n) long
      (stores_both (flow_of g) run c spot.next (spot.next + length l.nodes) (spot.next + length l.nodes + length k.nodes) ss us (omega arith) (omega arith) h i)

  -- LISTS
  pub means_one : (e : Expr) → MeansExpr p g origin inputs run s r c e → MeansList p g origin inputs run s r c (One e)
  means_one e means site spot scope env names n fits rule h known =
      let out = means site spot scope env names n fits rule h known in
      record { vs = out.vs; ss = out.ss; evaluated = one out.evaluated; have = out.have; stored = out.stored }

  pub means_more : (e : Expr) (es : Exprs) → MeansExpr p g origin inputs run s r c e → MeansList p g origin inputs run s r c es
      → MeansList p g origin inputs run s r c (More e es)
  means_more e es first others site spot scope env names n fits rule h known =
      let l : Lowered = lower p site spot scope e in
      let k : Lowered = lower_list p site (spot_after spot l) scope es in
      let rules = in_more p names e es n rule in
      let agree = agrees_split (flow_of g) inputs run s r c scope env (uses e) (list_uses es) known in
      let before : ActiveIn site spot l = first_part p g origin inputs run s r c site spot l (joined l k) k.nodes k.blocks refl refl h in
      let behind : ActiveIn site (spot_after spot l) k = rest_part p g origin inputs run s r c site spot l k (joined l k) refl refl h in
      let out = first site spot scope env names rules.0 fits.0 rules.2 before agree.0 in
      let later = others site (spot_after spot l) scope env names rules.1 fits.1 rules.3 behind agree.1 in
      record {
        vs = out.vs ++ later.vs;
        ss = out.ss ++ later.ss;
        evaluated = more out.evaluated later.evaluated;
        have = have_both (flow_of g) inputs run s r c l.sources k.sources out.vs later.vs out.have later.have;
        stored = both_stored spot l k out.ss later.ss out.stored later.stored;
      }

  -- BODIES
  pub means_give : (es : Exprs) → MeansList p g origin inputs run s r c es → MeansBody p g origin inputs run s r c (Give es)
  means_give es means site spot scope env names n behind_else fits rule h known =
      let out = means site spot scope env names n fits rule h known in
      record { vs = out.vs; ss = out.ss; evaluated = gives out.evaluated; have = out.have; stored = out.stored }

  pub means_chain : (e : Expr) → MeansExpr p g origin inputs run s r c e → MeansBody p g origin inputs run s r c (Chain e)
  means_chain e means site spot scope env names n behind_else fits rule h known =
      let out = means site spot scope env names n fits.2 rule h known in
      record { vs = out.vs; ss = out.ss; evaluated = chain out.evaluated; have = out.have; stored = out.stored }

  pub means_do : (es : Exprs) (rest : Body) → MeansList p g origin inputs run s r c es → MeansBody p g origin inputs run s r c rest
      → MeansBody p g origin inputs run s r c (Do es rest)
  means_do es rest first means site spot scope env names n behind_else fits rule h known =
      let l : Lowered = lower_list p site spot scope es in
      let k : Lowered = lower_body p site (spot_after spot l) scope rest in
      let rules = in_do p names es rest n rule in
      let agree = agrees_split (flow_of g) inputs run s r c scope env (list_uses es) (body_uses rest) known in
      let before : ActiveIn site spot l = first_part p g origin inputs run s r c site spot l (followed l k) k.nodes k.blocks refl refl h in
      let behind : ActiveIn site (spot_after spot l) k = rest_part p g origin inputs run s r c site spot l k (followed l k) refl refl h in
      let out = first site spot scope env names rules.0 fits.0 rules.1 before agree.0 in
      let later = means site (spot_after spot l) scope env names n false fits.1 rules.2 behind agree.1 in
      record {
        vs = later.vs;
        ss = out.ss ++ later.ss;
        evaluated = does out.evaluated later.evaluated;
        have = later.have;
        stored = both_stored spot l k out.ss later.ss out.stored later.stored;
      }

  pub means_let : (at : ℕ) (targets : List Target) (es : Exprs) (rest : Body) → MeansList p g origin inputs run s r c es
      → MeansBody p g origin inputs run s r c rest
      → MeansBody p g origin inputs run s r c (Let at targets es rest)
  means_let at targets es rest first means site spot scope env names n behind_else fits rule h known =
      let l : Lowered = lower_list p site spot scope es in
      let inner : Scope = let_scoped targets l.sources scope in
      let k : Lowered = lower_body p site (spot_after spot l) inner rest in
      let rules = in_let p names at targets es rest n rule in
      let agree = agrees_split (flow_of g) inputs run s r c scope env (list_uses es) (without (bound_by targets) (body_uses rest)) known in
      let before : ActiveIn site spot l = first_part p g origin inputs run s r c site spot l (followed l k) k.nodes k.blocks refl refl h in
      let behind : ActiveIn site (spot_after spot l) k = rest_part p g origin inputs run s r c site spot l k (followed l k) refl refl h in
      let out = first site spot scope env names (length targets) fits.1 rules.1 before agree.0 in
      let many : length targets ≡ length l.sources = sym (list_count p site spot scope es names (length targets) rules.1) in
      let bound = agrees_let (flow_of g) inputs run s r c targets l.sources out.vs scope env out.have many (body_uses rest) agree.1 in
      let later = means site (spot_after spot l) inner (let_in targets out.vs env) (bound_by targets ++ names) n false fits.2 rules.2 behind bound in
      record {
        vs = later.vs;
        ss = out.ss ++ later.ss;
        evaluated = lets out.evaluated later.evaluated;
        have = later.have;
        stored = both_stored spot l k out.ss later.ss out.stored later.stored;
      }
