-- Lowering keeps the meaning of operators, where it keeps that of their operands.
use Rattle.std.proofs.Common.{◌≡◌, ℕ, ◌+◌, ◌⊎◌, ℤ, List, [], ◌∷◌, ◌++◌, length, Some, refl, sym, ap, ap₂, ◌∙◌, subst, arith, ⊎_elim}
use Rattle.tags.specs.declared.value.Value.{Value}
use Rattle.tags.specs.declared.value.Value.TheVariants.{Int}
use Rattle.tags.specs.declared.value.Origin.{Origin}
use Rattle.tags.specs.declared.value.Origin.TheVariants.{At}
use Rattle.operators.specs.declared.Unary.{Unary}
use Rattle.operators.specs.declared.Unary.TheVariants.{Neg, Not}
use Rattle.operators.specs.declared.Binary.TheVariants.{Lt, Le}
use Rattle.operators.specs.Values.{apply1, apply2, on_int}
use Rattle.semantics.specs.declared.graph.Source.{Source}
use Rattle.semantics.specs.declared.graph.Kind.TheVariants as node
use Rattle.semantics.specs.Graph.{Graph, flow_of}
use Rattle.semantics.specs.Meaning.{Context, State, Activity, Run, start, block_number, origin_at, origin_in}
use Rattle.law_confluence.specs.Equations.{Has, LineEquation}
use Rattle.law_confluence.specs.EquationsSettled.{Settled}
use Rattle.source.specs.declared.word.InfixSign.{InfixSign}
use Rattle.source.specs.declared.word.InfixSign.TheVariants.{Direct, Greater, AtLeast}
use Rattle.source.specs.Tree.{Expr, Number, Named, Bracket, Prefix, Infix, Fetch, Store, Call, If, Loop, Program}
use Rattle.source.specs.Fits.{Fits, IsLeast}
use Rattle.source.specs.Outside.{uses}
use Rattle.source.specs.Evaluates.{Evaluates, number, prefix, infix_, signed, operated}
use Rattle.source.specs.Lowered.{Lowered, Site, Spot, made, only, joined, ended, operator_of, operands, prefixed, lower, port, spot_after}
use Rattle.source.proofs.Kept.{in_prefix, in_infix}
use Rattle.law_language.specs.MeansAgrees.{Have}
use Rattle.law_language.specs.Means.{over, IsActive, Delivers, MeansExpr}
use Rattle.law_language.proofs.MeansNamesAgree.{agrees_split}
use Rattle.source.proofs.Counting.{count_of}
use Rattle.law_language.proofs.MeansParts.{first_part, rest_part}
use Rattle.law_language.proofs.MeansBodies.{both_stored}
use Rattle.law_language.proofs.MeansLeaves.{append_nothing, last_gives, last_quiet, last_traced, no_stores}

module _ (p : Program) (g : Graph) (origin : ℕ → Origin) (inputs : List ℤ) (run : List Activity) (s : State)
    (r : Run (flow_of g) (start inputs) run s) (st : Settled (flow_of g) inputs run s r) (two : g.version ≡ 2) (c : Context) where
  abbrev HasIt : Source → Value → Type 0
  HasIt x v = Has (flow_of g) inputs run s r c x v

  abbrev HaveIt : List Source → List Value → Type 0
  HaveIt xs vs = Have (flow_of g) inputs run s r c xs vs

  abbrev ActiveIn : Site → Spot → Lowered → Type 0
  ActiveIn site spot l = IsActive p g origin inputs run s r c site spot l

  -- the one source and the one value of an operand
  pub record HasOneValue (xs : List Source) (vs : List Value) : Type 0 where
    pub source : Source
    pub value : Value
    pub sources : xs ≡ source ∷ []
    pub values : vs ≡ value ∷ []
    pub has : HasIt source value

  pub one_each : (xs : List Source) (vs : List Value) → HaveIt xs vs → length xs ≡ 1 → HasOneValue xs vs
  one_each [] vs h e = absurd (omega (arith, e))
  one_each (x ∷ []) [] h e = absurd h
  one_each (x ∷ []) (v ∷ []) h e = record { source = x; value = v; sources = refl; values = refl; has = h.0 }
  one_each (x ∷ []) (v ∷ w ∷ vs) h e = absurd h.1
  one_each (x ∷ y ∷ xs) vs h e = absurd (omega (arith, e))

  pub same_value : (x : Source) (v w : Value) → HasIt x v → HasIt x w → v ≡ w
  same_value x v w h k = st.one_value c x.node x.port v w h k

  -- the origin of a fault, as the block of c gives it
  pub traced_at : (i n : ℕ) → block_number (flow_of g) c ≡ Some i → origin_at (flow_of g) c n ≡ At i n
  traced_at i n e = ap₂ (λ v o. origin_in v o n) two e

  -- PREFIXES
  negated_number : (at u k : ℕ) → MeansExpr p g origin inputs run s r c (Prefix at Neg (Number u k))
  negated_number at u k site spot scope env names n fits rule h known =
      let v = last_gives p g origin inputs run s r st c site spot (only []) at (node.Lit (on_int Neg (signed k))) (site.trigger ∷ []) h (omega arith) in
      record {
        vs = apply1 Neg (Int (signed k)) ∷ [];
        ss = [];
        evaluated = prefix number;
        have = (subst (λ v. HasIt (port (spot.next + length (only []).nodes) 0) v) v.2 v.1, tt);
        stored = last_quiet p g origin inputs run s r st c site spot (only []) at (node.Lit (on_int Neg (signed k))) (site.trigger ∷ []) h [] tt
            (no_stores p g origin inputs run s r st c spot.next);
      }

  prefixed_means : (at : ℕ) (op : Unary) (e : Expr) → ((site : Site) (spot : Spot) (l : Lowered)
      → prefixed site spot at op e l ≡ ended site spot l at (node.Apply1 op) l.sources 1)
      → ((Fits e ⊎ IsLeast op e) → Fits e) → MeansExpr p g origin inputs run s r c e → MeansExpr p g origin inputs run s r c (Prefix at op e)
  prefixed_means at op e is fit means site spot scope env names n fits rule h known =
      let l : Lowered = lower p site spot scope e in
      let m : Lowered = ended site spot l at (node.Apply1 op) l.sources 1 in
      let rules = in_prefix p names at op e n rule in
      let same : prefixed site spot at op e l ≡ m = is site spot l in
      let here : ActiveIn site spot m = subst (λ m. ActiveIn site spot m) same h in
      let before : ActiveIn site spot l = first_part p g origin inputs run s r c site spot l m (made site at (node.Apply1 op) l.sources ∷ []) [] refl
      (sym (append_nothing l.blocks)) here in
      let out = means site spot scope env names 1 (fit fits.1) rules.0.values before known in
      let x : HasOneValue l.sources out.vs = one_each l.sources out.vs out.have (count_of p site spot scope e names 1 rules.0.values) in
      let v = last_gives p g origin inputs run s r st c site spot l at (node.Apply1 op) l.sources here (omega arith) in
      let n' : ℕ = spot.next + length l.nodes in
      let eq = subst (λ ss. LineEquation (flow_of g) inputs run s r c n' 0 v.0 (node.Apply1 op) ss) x.sources v.2 in
      let value : v.0 ≡ apply1 op x.value = eq.2 ∙ ap (apply1 op) (same_value x.source eq.0 x.value eq.1 x.has) in
      subst (λ m. Delivers p g origin inputs run s r c (Evaluates (over p g origin inputs run s r) env (Prefix at op e)) m.sources spot.next
      (spot.next + length m.nodes)) (sym same)
      (record {
        vs = apply1 op x.value ∷ [];
        ss = out.ss;
        evaluated = prefix (subst (λ vs. Evaluates (over p g origin inputs run s r) env e vs out.ss) x.values out.evaluated);
        have = (subst (λ v. HasIt (port n' 0) v) value v.1, tt);
        stored = last_quiet p g origin inputs run s r st c site spot l at (node.Apply1 op) l.sources here out.ss tt out.stored;
      })

  pub means_prefix : (at : ℕ) (op : Unary) (e : Expr) → MeansExpr p g origin inputs run s r c e → MeansExpr p g origin inputs run s r c (Prefix at op e)
  means_prefix at Neg (Number u k) means = negated_number at u k
  means_prefix at Neg (Named u x) means = prefixed_means at Neg (Named u x) (λ site spot l. refl) (λ k. ⊎_elim (λ f. f) (λ x. absurd x) k) means
  means_prefix at Neg (Bracket e) means = prefixed_means at Neg (Bracket e) (λ site spot l. refl) (λ k. ⊎_elim (λ f. f) (λ x. absurd x) k) means
  means_prefix at Neg (Prefix u op e) means = prefixed_means at Neg (Prefix u op e) (λ site spot l. refl) (λ k. ⊎_elim (λ f. f) (λ x. absurd x) k) means
  means_prefix at Neg (Infix u i e d) means = prefixed_means at Neg (Infix u i e d) (λ site spot l. refl) (λ k. ⊎_elim (λ f. f) (λ x. absurd x) k) means
  means_prefix at Neg (Fetch u a e) means = prefixed_means at Neg (Fetch u a e) (λ site spot l. refl) (λ k. ⊎_elim (λ f. f) (λ x. absurd x) k) means
  means_prefix at Neg (Store u a e d) means = prefixed_means at Neg (Store u a e d) (λ site spot l. refl) (λ k. ⊎_elim (λ f. f) (λ x. absurd x) k) means
  means_prefix at Neg (Call u b f es) means = prefixed_means at Neg (Call u b f es) (λ site spot l. refl) (λ k. ⊎_elim (λ f. f) (λ x. absurd x) k) means
  means_prefix at Neg (If u q a b) means = prefixed_means at Neg (If u q a b) (λ site spot l. refl) (λ k. ⊎_elim (λ f. f) (λ x. absurd x) k) means
  means_prefix at Neg (Loop u b f t) means = prefixed_means at Neg (Loop u b f t) (λ site spot l. refl) (λ k. ⊎_elim (λ f. f) (λ x. absurd x) k) means
  means_prefix at Not e means = prefixed_means at Not e (λ site spot l. refl) (λ k. ⊎_elim (λ f. f) (λ x. absurd x) k) means

  -- OPERATORS OF TWO OPERANDS
  -- the value of the line, in whichever order the sources are
  operated_is : (n : ℕ) (sign : InfixSign) (x y : Source) (a b w : Value) (o : Origin) → HasIt x a → HasIt y b → origin_at (flow_of g) c n ≡ o
      → LineEquation (flow_of g) inputs run s r c n 0 w (node.Apply2 (operator_of sign)) (operands sign (x ∷ y ∷ [])) → w ≡ operated sign a b o
  operated_is n (Direct op) x y a b w o ha hb eo e =
      let at = same_value x e.0 a e.2 ha in let bt = same_value y e.1 b e.3 hb in
      e.4 ∙ ap₂ (λ a b. apply2 op a b (origin_at (flow_of g) c n)) at bt ∙ ap (λ o. apply2 op a b o) eo
  operated_is n Greater x y a b w o ha hb eo e =
      let bt = same_value y e.0 b e.2 hb in let at = same_value x e.1 a e.3 ha in
      e.4 ∙ ap₂ (λ b a. apply2 Lt b a (origin_at (flow_of g) c n)) bt at ∙ ap (λ o. apply2 Lt b a o) eo
  operated_is n AtLeast x y a b w o ha hb eo e =
      let bt = same_value y e.0 b e.2 hb in let at = same_value x e.1 a e.3 ha in
      e.4 ∙ ap₂ (λ b a. apply2 Le b a (origin_at (flow_of g) c n)) bt at ∙ ap (λ o. apply2 Le b a o) eo

  pub means_infix : (at : ℕ) (sign : InfixSign) (e d : Expr) → MeansExpr p g origin inputs run s r c e → MeansExpr p g origin inputs run s r c d
      → MeansExpr p g origin inputs run s r c (Infix at sign e d)
  means_infix at sign e d left right site spot scope env names n fits rule h known =
      let l : Lowered = lower p site spot scope e in
      let k : Lowered = lower p site (spot_after spot l) scope d in
      let ss : List Source = operands sign (l.sources ++ k.sources) in
      let m : Lowered = ended site spot (joined l k) at (node.Apply2 (operator_of sign)) ss 1 in
      let rules = in_infix p names at sign e d n rule in
      let agree = agrees_split (flow_of g) inputs run s r c scope env (uses e) (uses d) known in
      let both : ActiveIn site spot (joined l k) =
      first_part p g origin inputs run s r c site spot (joined l k) m (made site at (node.Apply2 (operator_of sign)) ss ∷ []) [] refl
      (sym (append_nothing (joined l k).blocks)) h in
      let before : ActiveIn site spot l = first_part p g origin inputs run s r c site spot l (joined l k) k.nodes k.blocks refl refl both in
      let behind : ActiveIn site (spot_after spot l) k = rest_part p g origin inputs run s r c site spot l k (joined l k) refl refl both in
      let out = left site spot scope env names 1 fits.0 rules.0.values before agree.0 in
      let later = right site (spot_after spot l) scope env names 1 fits.2 rules.1.values behind agree.1 in
      let x : HasOneValue l.sources out.vs = one_each l.sources out.vs out.have (count_of p site spot scope e names 1 rules.0.values) in
      let y : HasOneValue k.sources later.vs = one_each k.sources later.vs later.have (count_of p site (spot_after spot l) scope d names 1 rules.1.values) in
      let v = last_gives p g origin inputs run s r st c site spot (joined l k) at (node.Apply2 (operator_of sign)) ss h (omega arith) in
      let n' : ℕ = spot.next + length (joined l k).nodes in
      let list : l.sources ++ k.sources ≡ x.source ∷ y.source ∷ [] = ap₂ (λ (a b : List Source). a ++ b) x.sources y.sources in
      let eq = subst (λ ss. LineEquation (flow_of g) inputs run s r c n' 0 v.0 (node.Apply2 (operator_of sign)) (operands sign ss)) list v.2 in
      let traced = last_traced p g origin inputs run s r st c site spot (joined l k) at (node.Apply2 (operator_of sign)) ss h in
      let o : origin_at (flow_of g) c n' ≡ origin at = traced_at traced.0 n' traced.1 ∙ sym (traced.2 tt) in
      let value : v.0 ≡ operated sign x.value y.value (origin at) = operated_is n' sign x.source y.source x.value y.value v.0 (origin at) x.has y.has o eq in
      record {
        vs = operated sign x.value y.value (origin at) ∷ [];
        ss = out.ss ++ later.ss;
        evaluated = infix_ (subst (λ vs. Evaluates (over p g origin inputs run s r) env e vs out.ss) x.values out.evaluated)
            (subst (λ vs. Evaluates (over p g origin inputs run s r) env d vs later.ss) y.values later.evaluated);
        have = (subst (λ v. HasIt (port n' 0) v) value v.1, tt);
        stored = last_quiet p g origin inputs run s r st c site spot (joined l k) at (node.Apply2 (operator_of sign)) ss h (out.ss ++ later.ss) tt
            (both_stored p g origin inputs run s r c spot l k out.ss later.ss out.stored later.stored);
      }
