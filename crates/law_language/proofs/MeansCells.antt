-- Lowering keeps the meaning of a fetch: the cell that an index names in an array is that of the graph.
use Rattle.std.proofs.Common.{◌≡◌, ℕ, suc, ◌+◌, ℤ, Bool, true, false, List, [], ◌∷◌, length, map, is_some, Some, if◌then◌else◌, refl, sym, ap, ap₂, ◌∙◌, subst}
use Rattle.std.proofs.Common.{arith}
use Rattle.std.specs.Prelude.{sum, take, slice_index_or}
use Rattle.std.proofs.lemmas.List.Sums.{sum_by-cons}
use Rattle.tags.specs.declared.value.Value.{Value}
use Rattle.tags.specs.declared.value.Origin.{Origin}
use Rattle.operators.specs.Values.{Indexed, Place, Outside, index_in}
use Rattle.semantics.specs.declared.graph.Source.{Source}
use Rattle.semantics.specs.declared.graph.Kind.TheVariants as node
use Rattle.semantics.specs.Graph as graph
use Rattle.semantics.specs.Graph.{Graph, flow_of, array_names, same_name, first_cell, array_len}
use Rattle.semantics.specs.Meaning.{Context, State, Activity, Run, start, origin_at}
use Rattle.law_confluence.specs.Equations.{Has, LineEquation, Fetched}
use Rattle.law_confluence.specs.EquationsSettled.{Settled}
use Rattle.source.specs.Tree.{Name, Expr, Fetch, Item, Cells, Defines, Program}
use Rattle.source.specs.Rules.{array_in}
use Rattle.source.specs.Evaluates.{Evaluates, fetch, counted_from, place_from, place_in, Reads}
use Rattle.source.specs.Lowered.{Lowered, Site, Spot, made, ended, arrays_of, graph_of, lower}
use Rattle.source.proofs.Kept.{in_fetch}
use Rattle.law_language.specs.Means.{over, IsActive, MeansExpr}
use Rattle.source.proofs.Counting.{count_of}
use Rattle.law_language.proofs.MeansParts.{first_part}
use Rattle.law_language.proofs.MeansLeaves.{append_nothing, last_gives, last_quiet, last_traced}
use Rattle.law_language.proofs.MeansOperators.{HasOneValue, one_each, same_value, traced_at}

abbrev names_in : List Item → List Name
names_in items = map (λ (a : Name × ℕ). a.0) (arrays_of items)

abbrev lens_in : List Item → List ℕ
lens_in items = map (λ (a : Name × ℕ). a.1) (arrays_of items)

-- where the array is, and which cells it has
record Found (items : List Item) (a : Name) (i : Value) (o : Origin) : Type 0 where
  pub at : ℕ
  pub placed : (n : ℕ) → graph.place_from n a (names_in items) ≡ n + at
  pub cells : (base : ℕ) → place_from base items a i o ≡ counted_from (base + sum (take at (lens_in items)))
      (index_in (slice_index_or (lens_in items) at 0) i o)

found : (items : List Item) (a : Name) (i : Value) (o : Origin) → is_some (array_in items a) ≡ true → Found items a i o
found [] a i o h = cc
found (Defines g ∷ items) a i o h = let k = found items a i o h in record { at = k.at; placed = k.placed; cells = k.cells }
found (Cells x len ∷ items) a i o h = go (same_name a x.name) refl h (λ h. found items a i o h)
  where
    go : (t : Bool) → same_name a x.name ≡ t → is_some (if t then Some len.number else array_in items a) ≡ true
        → (is_some (array_in items a) ≡ true → Found items a i o) → Found (Cells x len ∷ items) a i o
    go true e h later = record {
      at = 0;
      placed = λ n. ap (λ (t : Bool). if t then n else graph.place_from (n + 1) a (names_in items)) e ∙ omega arith;
      cells = λ base.
          let none : base ≡ base + sum (take 0 (lens_in (Cells x len ∷ items))) = let z : sum (take 0 (lens_in (Cells x len ∷ items))) ≡ 0 = refl in
          omega (arith, z) in
          ap (λ (t : Bool). if t then counted_from base (index_in len.number i o) else place_from (base + len.number) items a i o) e
          ∙ ap (λ b. counted_from b (index_in len.number i o)) none;
    }
    go false e h later =
        let k = later h in record {
          at = suc k.at;
          placed = λ n. ap (λ (t : Bool). if t then n else graph.place_from (n + 1) a (names_in items)) e ∙ k.placed (n + 1) ∙ omega arith;
          cells = λ base.
              let more = sum_by-cons (λ (x : ℕ). x) len.number (take k.at (lens_in items)) in
              let same : sum (take (suc k.at) (lens_in (Cells x len ∷ items))) ≡ sum (len.number ∷ take k.at (lens_in items)) = refl in
              let all : base + len.number + sum (take k.at (lens_in items)) ≡ base + sum (take (suc k.at) (lens_in (Cells x len ∷ items))) =
              omega (arith, more, same) in
              ap (λ (t : Bool). if t then counted_from base (index_in len.number i o) else place_from (base + len.number) items a i o) e
              ∙ k.cells (base + len.number)
              ∙ ap (λ b. counted_from b (index_in (slice_index_or (lens_in items) k.at 0) i o)) all;
        }

-- an array's cells in the graph
pub cell_named : (p : Program) (g : Graph) → graph_of p ≡ g → (a : Name) (i : Value) (o : Origin) → is_some (array_in p a) ≡ true
    → place_from 0 p a i o ≡ counted_from (first_cell (flow_of g) (graph.place_of a (array_names g)))
    (index_in (array_len (flow_of g) (graph.place_of a (array_names g))) i o)
cell_named p g is a i o h =
    let k = found p a i o h in
    let at : graph.place_of a (array_names (graph_of p)) ≡ k.at = k.placed 0 ∙ omega arith in
    let none : 0 + sum (take k.at (lens_in p)) ≡ sum (take k.at (lens_in p)) = omega arith in
    subst (λ (g : Graph). place_from 0 p a i o ≡ counted_from (first_cell (flow_of g) (graph.place_of a (array_names g)))
    (index_in (array_len (flow_of g) (graph.place_of a (array_names g))) i o)) is
    (k.cells 0 ∙ ap (λ b. counted_from b (index_in (slice_index_or (lens_in p) k.at 0) i o)) none
    ∙ ap (λ n. counted_from (sum (take n (lens_in p))) (index_in (slice_index_or (lens_in p) n 0) i o)) (sym at))

module _ (p : Program) (g : Graph) (origin : ℕ → Origin) (inputs : List ℤ) (run : List Activity) (s : State)
    (r : Run (flow_of g) (start inputs) run s) (st : Settled (flow_of g) inputs run s r) (is : graph_of p ≡ g) (c : Context) where
  abbrev HasIt : Source → Value → Type 0
  HasIt x v = Has (flow_of g) inputs run s r c x v

  abbrev ActiveIn : Site → Spot → Lowered → Type 0
  ActiveIn site spot l = IsActive p g origin inputs run s r c site spot l

  pub two : g.version ≡ 2
  two = sym (ap (λ (g : Graph). g.version) is)

  reads_it : (base : ℕ) (ix : Indexed) (v : Value) → Fetched (flow_of g) inputs run s r base ix v
      → Reads (over p g origin inputs run s r) (counted_from base ix) v
  reads_it base (Outside w) v h = h
  reads_it base (Place n) v h = h

  pub means_fetch : (at : ℕ) (a : Name) (e : Expr) → MeansExpr p g origin inputs run s r c e → MeansExpr p g origin inputs run s r c (Fetch at a e)
  means_fetch at a e means site spot scope env names n fits rule h known =
      let l : Lowered = lower p site spot scope e in
      let m : Lowered = ended site spot l at (node.Fetch a) l.sources 1 in
      let rules = in_fetch p names at a e n rule in
      let before : ActiveIn site spot l = first_part p g origin inputs run s r c site spot l m (made site at (node.Fetch a) l.sources ∷ []) [] refl
      (sym (append_nothing l.blocks)) h in
      let out = means site spot scope env names 1 fits rules.1.values before known in
      let x : HasOneValue p g origin inputs run s r st two c l.sources out.vs = one_each p g origin inputs run s r st two c l.sources out.vs out.have
      (count_of p site spot scope e names 1 rules.1.values) in
      let v = last_gives p g origin inputs run s r st c site spot l at (node.Fetch a) l.sources h (omega arith) in
      let n' : ℕ = spot.next + length l.nodes in
      let array : ℕ = graph.place_of a (array_names g) in
      let eq = subst (λ ss. LineEquation (flow_of g) inputs run s r c n' 0 v.0 (node.Fetch array) ss) x.sources v.2 in
      let traced = last_traced p g origin inputs run s r st c site spot l at (node.Fetch a) l.sources h in
      let o : origin_at (flow_of g) c n' ≡ origin at = traced_at p g origin inputs run s r st two c traced.0 n' traced.1 ∙ sym (traced.2 tt) in
      let index : eq.0 ≡ x.value = same_value p g origin inputs run s r st two c x.source eq.0 x.value eq.1 x.has in
      let place : index_in (array_len (flow_of g) array) eq.0 (origin_at (flow_of g) c n') ≡ index_in (array_len (flow_of g) array) x.value (origin at) =
      ap₂ (λ i o. index_in (array_len (flow_of g) array) i o) index o in
      let got = reads_it (first_cell (flow_of g) array) (index_in (array_len (flow_of g) array) x.value (origin at)) v.0
      (subst (λ ix. Fetched (flow_of g) inputs run s r (first_cell (flow_of g) array) ix v.0) place eq.2) in
      let reads : Reads (over p g origin inputs run s r) (place_in (over p g origin inputs run s r) at a x.value) v.0 =
      subst (λ ix. Reads (over p g origin inputs run s r) ix v.0) (sym (cell_named p g is a x.value (origin at) rules.0)) got in
      record {
        vs = v.0 ∷ [];
        ss = out.ss;
        evaluated = fetch (subst (λ vs. Evaluates (over p g origin inputs run s r) env e vs out.ss) x.values out.evaluated) reads;
        have = (v.1, tt);
        stored = last_quiet p g origin inputs run s r st c site spot l at (node.Fetch a) l.sources h out.ss tt out.stored;
      }
