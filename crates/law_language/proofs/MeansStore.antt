-- Lowering keeps the meaning of a store, where it keeps that of its parts.
use Rattle.std.proofs.Common.{◌≡◌, ℕ, ◌+◌, ℤ, List, [], ◌∷◌, ◌++◌, length, Some, IsPermutation, refl, sym, ap, ap₂, ◌∙◌, subst, arith, length-append}
use Rattle.std.specs.Prelude.{slice_get}
use Rattle.std.proofs.lemmas.List.Sorted.{IsPermutation-refl}
use Rattle.tags.specs.declared.value.Value.{Value}
use Rattle.tags.specs.declared.value.Origin.{Origin}
use Rattle.operators.specs.Values.{Indexed, Place, Outside, index_in}
use Rattle.semantics.specs.declared.graph.Source.{Source}
use Rattle.semantics.specs.declared.graph.Kind.TheVariants as node
use Rattle.semantics.specs.Graph as graph
use Rattle.semantics.specs.Graph.{Node, Graph, Flow, flow_of, array_names, first_cell, array_len}
use Rattle.semantics.specs.Meaning.{Context, State, Activity, Run, start, node_of, origin_at}
use Rattle.lemmas.proofs.Permutations.{Within}
use Rattle.law_confluence.specs.EquationsHave.{Stored, stores_of}
use Rattle.law_confluence.specs.Equations.{Has, LineEquation, Storing}
use Rattle.law_confluence.specs.EquationsSettled.{Settled}
use Rattle.source.specs.Tree.{Name, Expr, Store, Program}
use Rattle.source.specs.Outside.{uses}
use Rattle.source.specs.Evaluates as eval
use Rattle.source.specs.Evaluates.{Stores, Evaluates, counted_from, place_from, answer, filled}
use Rattle.source.specs.Lowered.{Lowered, Site, Spot, made, joined, ended, graph_of, lower, port, spot_after}
use Rattle.source.proofs.Kept.{in_store}
use Rattle.law_language.specs.MeansHolds.{resolved}
use Rattle.law_language.specs.MeansBelow.{stores_below}
use Rattle.law_language.specs.Means.{over, IsActive, MeansExpr}
use Rattle.law_language.proofs.MeansNamesAgree.{agrees_split}
use Rattle.source.proofs.Counting.{count_of}
use Rattle.law_language.proofs.MeansRanges.{stores_both}
use Rattle.law_language.proofs.MeansStoreLines.{IsStore}
use Rattle.law_language.proofs.MeansStoredOnce.{one_store, no_store}
use Rattle.law_language.proofs.MeansParts.{first_part, rest_part}
use Rattle.law_language.proofs.MeansBodies.{both_stored}
use Rattle.law_language.proofs.MeansLeaves.{append_nothing, last_gives, last_node, last_traced}
use Rattle.law_language.proofs.MeansOperators.{HasOneValue, one_each, same_value, traced_at}
use Rattle.law_language.proofs.MeansCells.{cell_named, two}

index_so : (len : ℕ) (i j : Value) (o : Origin) (fault : Value) → i ≡ j → index_in len j o ≡ Outside fault → index_in len i o ≡ Outside fault
index_so len i j o fault same e = ap (λ i. index_in len i o) same ∙ e

module _ (p : Program) (g : Graph) (origin : ℕ → Origin) (inputs : List ℤ) (run : List Activity) (s : State)
    (r : Run (flow_of g) (start inputs) run s) (st : Settled (flow_of g) inputs run s r) (is : graph_of p ≡ g) (c : Context) where
  abbrev HasIt : Source → Value → Type 0
  HasIt x v = Has (flow_of g) inputs run s r c x v

  abbrev ActiveIn : Site → Spot → Lowered → Type 0
  ActiveIn site spot l = IsActive p g origin inputs run s r c site spot l

  -- each store of the run took an index that its first source has, and that names a cell
  abbrev pub IndexesAreGood : Type 0
  IndexesAreGood = (n a : ℕ) (line : Node ℕ) (x : Source) → node_of (flow_of g) c n ≡ Some line → line.kind ≡ node.Store a → slice_get line.sources 0 ≡ Some x
      → (w : Stored) → Within w (stores_of (flow_of g) run) → w.context ≡ c → w.node ≡ n
      → (i : Value) × HasIt x i × ((fault : Value) → index_in (array_len (flow_of g) a) i (origin_at (flow_of g) c n) ≡ Outside fault → ⊥)

  module _ (good : IndexesAreGood) where
    -- what a store gives, and its own stores
    stored_so : (n a : ℕ) (line : Node ℕ) (x : Source) → node_of (flow_of g) c n ≡ Some line → line.kind ≡ node.Store a → slice_get line.sources 0 ≡ Some x
        → (i y v : Value) → HasIt x i → (ix : Indexed) → index_in (array_len (flow_of g) a) i (origin_at (flow_of g) c n) ≡ ix
        → Storing (flow_of g) inputs run s r c n (first_cell (flow_of g) a) y ix v
        → Path Value v (answer (counted_from (first_cell (flow_of g) a) ix) y)
        × IsPermutation (filled (counted_from (first_cell (flow_of g) a) ix) y) (stores_below (flow_of g) run c n (n + 1))
    stored_so n a line x el ek ex i y v hx (Outside w) e h =
        let none = no_store (flow_of g) inputs run s r st c n line el (subst (λ k. IsStore k) (sym ek) tt)
        (λ u hu ec en.
        let took = good n a line x el ek ex u hu ec en in
        let same = st.one_value c x.node x.port took.0 i took.1 hx in
        took.2 w (index_so (array_len (flow_of g) a) took.0 i (origin_at (flow_of g) c n) w same e)) in
        (h, subst (λ l. IsPermutation [] l) (sym none) (IsPermutation-refl []))
    stored_so n a line x el ek ex i y v hx (Place q) e h =
        let one = one_store (flow_of g) inputs run s r st c n line el (subst (λ k. IsStore k) (sym ek) tt) (first_cell (flow_of g) a + q) y h.2 in
        (h.0, subst (λ l. IsPermutation ((first_cell (flow_of g) a + q, y) ∷ []) l) (sym one) (IsPermutation-refl ((first_cell (flow_of g) a + q, y) ∷ [])))

    pub means_store : (at : ℕ) (a : Name) (e d : Expr) → MeansExpr p g origin inputs run s r c e → MeansExpr p g origin inputs run s r c d
        → MeansExpr p g origin inputs run s r c (Store at a e d)
    means_store at a e d left right site spot scope env names n fits rule h known =
        let l : Lowered = lower p site spot scope e in
        let k : Lowered = lower p site (spot_after spot l) scope d in
        let both : Lowered = joined l k in
        let m : Lowered = ended site spot both at (node.Store a) both.sources 1 in
        let rules = in_store p names at a e d n rule in
        let agree = agrees_split (flow_of g) inputs run s r c scope env (uses e) (uses d) known in
        let all : ActiveIn site spot both = first_part p g origin inputs run s r c site spot both m (made site at (node.Store a) both.sources ∷ []) [] refl
        (sym (append_nothing both.blocks)) h in
        let before : ActiveIn site spot l = first_part p g origin inputs run s r c site spot l both k.nodes k.blocks refl refl all in
        let behind : ActiveIn site (spot_after spot l) k = rest_part p g origin inputs run s r c site spot l k both refl refl all in
        let out = left site spot scope env names 1 fits.0 rules.1.values before agree.0 in
        let later = right site (spot_after spot l) scope env names 1 fits.1 rules.2.values behind agree.1 in
        let t = two p g origin inputs run s r st is c in
        let x : HasOneValue p g origin inputs run s r st t c l.sources out.vs = one_each p g origin inputs run s r st t c l.sources out.vs out.have
        (count_of p site spot scope e names 1 rules.1.values) in
        let y : HasOneValue p g origin inputs run s r st t c k.sources later.vs = one_each p g origin inputs run s r st t c k.sources later.vs later.have
        (count_of p site (spot_after spot l) scope d names 1 rules.2.values) in
        let v = last_gives p g origin inputs run s r st c site spot both at (node.Store a) both.sources h (omega arith) in
        let n' : ℕ = spot.next + length both.nodes in
        let array : ℕ = graph.place_of a (array_names g) in
        let base : ℕ = first_cell (flow_of g) array in
        let list : both.sources ≡ x.source ∷ y.source ∷ [] = ap₂ (λ (a b : List Source). a ++ b) x.sources y.sources in
        let eq = subst (λ ss. LineEquation (flow_of g) inputs run s r c n' 0 v.0 (node.Store array) ss) list v.2 in
        let traced = last_traced p g origin inputs run s r st c site spot both at (node.Store a) both.sources h in
        let o : origin_at (flow_of g) c n' ≡ origin at = traced_at p g origin inputs run s r st t c traced.0 n' traced.1 ∙ sym (traced.2 tt) in
        let index : eq.0 ≡ x.value = same_value p g origin inputs run s r st t c x.source eq.0 x.value eq.2 x.has in
        let value : eq.1 ≡ y.value = same_value p g origin inputs run s r st t c y.source eq.1 y.value eq.3 y.has in
        let ix : Indexed = index_in (array_len (flow_of g) array) x.value (origin at) in
        let place : index_in (array_len (flow_of g) array) eq.0 (origin_at (flow_of g) c n') ≡ ix =
        ap₂ (λ i o. index_in (array_len (flow_of g) array) i o) index o in
        let storing = subst (λ w. Storing (flow_of g) inputs run s r c n' base w ix v.0) value
        (subst (λ ix. Storing (flow_of g) inputs run s r c n' base eq.1 ix v.0) place eq.4) in
        let own = stored_so n' array (resolved g (made site at (node.Store a) both.sources)) x.source
        (last_node p g origin inputs run s r st c site spot both at (node.Store a) both.sources h) refl
        (ap (λ ss. slice_get ss 0) list) x.value y.value v.0 x.has ix (ap (λ o. index_in (array_len (flow_of g) array) x.value o) o) storing in
        let named : place_from 0 p a x.value (origin at) ≡ counted_from base ix = cell_named p g is a x.value (origin at) rules.0 in
        let ours = both_stored p g origin inputs run s r c spot l k out.ss later.ss out.stored later.stored in
        let whole = stores_both (flow_of g) run c spot.next n' (n' + 1) (out.ss ++ later.ss) (filled (counted_from base ix) y.value) (omega arith)
        (omega arith) ours own.1 in
        let long : n' + 1 ≡ spot.next + length m.nodes = let z = length-append both.nodes (made site at (node.Store a) both.sources ∷ []) in omega (arith, z) in
        record {
          vs = answer (place_from 0 p a x.value (origin at)) y.value ∷ [];
          ss = out.ss ++ later.ss ++ filled (place_from 0 p a x.value (origin at)) y.value;
          evaluated = eval.store (subst (λ vs. Evaluates (over p g origin inputs run s r) env e vs out.ss) x.values out.evaluated)
              (subst (λ vs. Evaluates (over p g origin inputs run s r) env d vs later.ss) y.values later.evaluated);
          have = (subst (λ v. HasIt (port n' 0) v) (own.0 ∙ ap (λ ix. answer ix y.value) (sym named)) v.1, tt);
          stored = subst (λ ix. IsPermutation (out.ss ++ later.ss ++ filled ix y.value) (stores_below (flow_of g) run c spot.next
              (spot.next + length m.nodes))) (sym named)
              (subst (λ n. IsPermutation (out.ss ++ later.ss ++ filled (counted_from base ix) y.value) (stores_below (flow_of g) run c spot.next n)) long
              whole);
        }
