-- Regions, conditionals, names, ports: what each test decides.
use Rattle.std.proofs.Common.{◌≡◌, ◌≢◌, ℕ, zero, suc, ◌+◌, ◌<◌, ◌≤◌, Bool, true, false, List, [], ◌∷◌, length, Option, Some, None, Contains, nat_eq}
use Rattle.std.proofs.Common.{nat_lt, if◌then◌else◌, refl, sym, ap, ap₂, ◌∙◌, subst, arith, eqb-true, eq-eqb, ltb-true, ltb-false, lt-ltb, le-ltb}
use Rattle.std.specs.Prelude.{slice_get}
use Rattle.lemmas.proofs.Alls.{at_all, all_from}
use Rattle.lemmas.proofs.Bools.{if_parts}
use Rattle.semantics.specs.declared.graph.Region.{Region}
use Rattle.semantics.specs.declared.graph.Region.TheVariants.{Root, Arm}
use Rattle.semantics.specs.declared.graph.Source.{Source}
use Rattle.semantics.specs.declared.graph.Kind.{Kind}
use Rattle.semantics.specs.declared.graph.Kind.TheVariants.{Lit, Apply1, Apply2, Cond, Enter, Merge, Fetch, Store, Call, StrictCall, Loop}
use Rattle.semantics.specs.Graph.{Node, Block, Graph, node_at, array_names, block_names}
use Rattle.semantics.specs.WellFormed.{AllDiffer, IsCondNode, IsCond, IsRegion, region_of, HasPortOf, HasPortIn, arm_outside, AllLieIn, LiesWell, NamesWell}
use Rattle.graph_check.specs.FirstFault.{is_cond_kind, is_cond_node, is_earlier_cond, same_side, same_region, is_good_region, is_arm, fits_region}
use Rattle.graph_check.specs.FirstFault.{is_named, shape_of, takes, gives, has_arity, is_bounded, is_port_of, kind_has_port, has_port}
use Rattle.graph_check.specs.FirstFault.{wanted_region}
use Rattle.graph_check.proofs.Shapes.{is_name_contains, contains_is_name, shape_has, has_shape, there_shape, has_name}

-- ---- tests in a row

pub both_yes : (s t : Bool) → s ≡ true → t ≡ true → (if s then t else false) ≡ true
both_yes s t e f = ap₂ (λ (s t : Bool). if s then t else false) e f

-- ---- conditionals

cond_is : (k : Kind (List ℕ)) → is_cond_kind k ≡ true → k ≡ Cond
cond_is Cond e = refl
cond_is (Lit v) e = cc
cond_is (Apply1 op) e = cc
cond_is (Apply2 op) e = cc
cond_is Enter e = cc
cond_is (Merge k) e = cc
cond_is (Fetch a) e = cc
cond_is (Store a) e = cc
cond_is (Call f) e = cc
cond_is (StrictCall f) e = cc
cond_is (Loop f k) e = cc

node_is_cond : (o : Option (Node (List ℕ))) → is_cond_node o ≡ true → IsCondNode o
node_is_cond None e = cc
node_is_cond (Some node) e = cond_is node.kind e

cond_is_node : (o : Option (Node (List ℕ))) → IsCondNode o → is_cond_node o ≡ true
cond_is_node None h = absurd h
cond_is_node (Some node) h = ap is_cond_kind h

pub earlier_cond : (b : Block (List ℕ)) (n k : ℕ) → is_earlier_cond b n k ≡ true → (k < n) × IsCond b k
earlier_cond b n k e =
    let p = if_parts _ _ e in
    (ltb-true k n p.0, node_is_cond (node_at b k) p.1)

pub is_earlier : (b : Block (List ℕ)) (n k : ℕ) → k < n → IsCond b k → is_earlier_cond b n k ≡ true
is_earlier b n k h c = both_yes _ _ (lt-ltb k n h) (cond_is_node (node_at b k) c)

-- ---- regions

side_is : (s t : Bool) → same_side s t ≡ true → s ≡ t
side_is true true e = refl
side_is true false e = cc
side_is false true e = cc
side_is false false e = refl

side_self : (s : Bool) → same_side s s ≡ true
side_self true = refl
side_self false = refl

pub region_is : (r s : Region) → same_region r s ≡ true → r ≡ s
region_is Root Root e = refl
region_is Root (Arm k t) e = cc
region_is (Arm j s) Root e = cc
region_is (Arm j s) (Arm k t) e =
    let p = if_parts _ _ e in
    ap₂ (λ (k : ℕ) (t : Bool). Arm k t) (eqb-true j k p.0) (side_is s t p.1)

region_self : (r : Region) → same_region r r ≡ true
region_self Root = refl
region_self (Arm k s) = both_yes _ _ (eq-eqb k k refl) (side_self s)

pub is_region : (r s : Region) → r ≡ s → same_region r s ≡ true
is_region r s e = ap (λ s. same_region r s) (sym e) ∙ region_self r

pub good_region : (b : Block (List ℕ)) (n : ℕ) (r : Region) → is_good_region b n r ≡ true → IsRegion b n r
good_region b n Root e = tt
good_region b n (Arm k side) e = earlier_cond b n k e

pub region_good : (b : Block (List ℕ)) (n : ℕ) (r : Region) → IsRegion b n r → is_good_region b n r ≡ true
region_good b n Root h = refl
region_good b n (Arm k side) h = is_earlier b n k h.0 h.1

-- ---- names and numbers of sources

takes_some : (o : Option (ℕ × ℕ)) (n : ℕ) → takes o n ≡ true → (m : ℕ) × (o ≡ Some (n, m))
takes_some None n e = cc
takes_some (Some shape) n e = (shape.1, ap (λ i. Some (i, shape.1)) (eqb-true shape.0 n e))

takes_gives : (o : Option (ℕ × ℕ)) (n m : ℕ) → takes o n ≡ true → gives o m ≡ true → o ≡ Some (n, m)
takes_gives None n m e f = cc
takes_gives (Some shape) n m e f = ap₂ (λ (i o : ℕ). Some (i, o)) (eqb-true shape.0 n e) (eqb-true shape.1 m f)

some_takes : (o : Option (ℕ × ℕ)) (n m : ℕ) → o ≡ Some (n, m) → takes o n ≡ true
some_takes o n m e = ap (λ o. takes o n) e ∙ eq-eqb n n refl

some_gives : (o : Option (ℕ × ℕ)) (n m : ℕ) → o ≡ Some (n, m) → gives o m ≡ true
some_gives o n m e = ap (λ o. gives o m) e ∙ eq-eqb m m refl

bound_is : (k : ℕ) → (if nat_lt k 2 then false else nat_lt k 65) ≡ true → (2 ≤ k) × (k ≤ 64)
bound_is k e = go (nat_lt k 2) refl e
  where
    go : (t : Bool) → nat_lt k 2 ≡ t → (if t then false else nat_lt k 65) ≡ true → (2 ≤ k) × (k ≤ 64)
    go true p f = cc
    go false p f =
        let low = ltb-false k 2 p in
        let high = ltb-true k 65 f in
        (omega arith, omega arith)

is_bound : (k : ℕ) → 2 ≤ k → k ≤ 64 → (if nat_lt k 2 then false else nat_lt k 65) ≡ true
is_bound k low high =
    let below : k < 65 = omega arith in
    ap₂ (λ (s t : Bool). if s then false else t) (le-ltb k 2 low) (lt-ltb k 65 below)

module _ (g : Graph) where
  pub names_well : (kind : Kind (List ℕ)) (n : ℕ) → is_named g kind ≡ true → has_arity g kind n ≡ true → is_bounded kind ≡ true → NamesWell g kind n
  names_well (Lit v) n e f h = eqb-true n 1 f
  names_well (Apply1 op) n e f h = eqb-true n 1 f
  names_well (Apply2 op) n e f h = eqb-true n 2 f
  names_well Cond n e f h = eqb-true n 1 f
  names_well Enter n e f h = eqb-true n 1 f
  names_well (Merge k) n e f h = eqb-true n 2 f
  names_well (Fetch a) n e f h = (is_name_contains a (array_names g) e, eqb-true n 1 f)
  names_well (Store a) n e f h = (is_name_contains a (array_names g) e, eqb-true n 2 f)
  names_well (Call name) n e f h =
      let k = takes_some _ n f in
      (k.0, shape_has g name n k.0 k.1)
  names_well (StrictCall name) n e f h =
      let k = takes_some _ n f in
      (k.0, shape_has g name n k.0 k.1)
  names_well (Loop name k) n e f h =
      let p = if_parts _ _ f in
      let q = bound_is k h in
      (shape_has g name n (n + 1) (takes_gives _ n (n + 1) p.0 p.1), q.0, q.1)

  pub well_named : (kind : Kind (List ℕ)) (n : ℕ) → NamesWell g kind n → is_named g kind ≡ true
  well_named (Lit v) n h = refl
  well_named (Apply1 op) n h = refl
  well_named (Apply2 op) n h = refl
  well_named Cond n h = refl
  well_named Enter n h = refl
  well_named (Merge k) n h = refl
  well_named (Fetch a) n h = contains_is_name a (array_names g) h.0
  well_named (Store a) n h = contains_is_name a (array_names g) h.0
  well_named (Call name) n h = has_name g name n h.0 h.1
  well_named (StrictCall name) n h = has_name g name n h.0 h.1
  well_named (Loop name k) n h = has_name g name n (n + 1) h.0

  pub well_arity : AllDiffer (block_names g) → (kind : Kind (List ℕ)) (n : ℕ) → NamesWell g kind n → has_arity g kind n ≡ true
  well_arity differ (Lit v) n h = eq-eqb n 1 h
  well_arity differ (Apply1 op) n h = eq-eqb n 1 h
  well_arity differ (Apply2 op) n h = eq-eqb n 2 h
  well_arity differ Cond n h = eq-eqb n 1 h
  well_arity differ Enter n h = eq-eqb n 1 h
  well_arity differ (Merge k) n h = eq-eqb n 2 h
  well_arity differ (Fetch a) n h = eq-eqb n 1 h.1
  well_arity differ (Store a) n h = eq-eqb n 2 h.1
  well_arity differ (Call name) n h = some_takes _ n h.0 (has_shape g name n h.0 differ h.1)
  well_arity differ (StrictCall name) n h = some_takes _ n h.0 (has_shape g name n h.0 differ h.1)
  well_arity differ (Loop name k) n h =
      let s = has_shape g name n (n + 1) differ h.0 in
      both_yes _ _ (some_takes _ n (n + 1) s) (some_gives _ n (n + 1) s)

  pub well_bounded : (kind : Kind (List ℕ)) (n : ℕ) → NamesWell g kind n → is_bounded kind ≡ true
  well_bounded (Lit v) n h = refl
  well_bounded (Apply1 op) n h = refl
  well_bounded (Apply2 op) n h = refl
  well_bounded Cond n h = refl
  well_bounded Enter n h = refl
  well_bounded (Merge k) n h = refl
  well_bounded (Fetch a) n h = refl
  well_bounded (Store a) n h = refl
  well_bounded (Call name) n h = refl
  well_bounded (StrictCall name) n h = refl
  well_bounded (Loop name k) n h = is_bound k h.1 h.2

  -- ---- ports

  port_some : (o : Option (ℕ × ℕ)) (p : ℕ) → is_port_of o p ≡ true → (n : ℕ) × (m : ℕ) × (o ≡ Some (n, m)) × (p < m)
  port_some None p e = cc
  port_some (Some shape) p e = (shape.0, shape.1, refl, ltb-true p shape.1 e)

  call_port : (f : List ℕ) (p : ℕ) → is_port_of (shape_of g f) p ≡ true → (b : Block (List ℕ)) × Contains g.blocks (f, b) × (p < b.outputs)
  call_port f p e =
      let k = port_some _ p e in
      let s = shape_has g f k.0 k.1 k.2 in
      (s.0, s.1, omega (arith, k.3, s.3))

  port_call : AllDiffer (block_names g) → (f : List ℕ) (p : ℕ) → (b : Block (List ℕ)) × Contains g.blocks (f, b) × (p < b.outputs)
      → is_port_of (shape_of g f) p ≡ true
  port_call differ f p h = ap (λ o. is_port_of o p) (there_shape g f h.0 differ h.1) ∙ lt-ltb p h.0.outputs h.2

  has_port_of : (kind : Kind (List ℕ)) (p : ℕ) (ss : List Source) → kind_has_port g kind (length ss) p ≡ true → HasPortOf g kind p ss
  has_port_of (Lit v) p ss e = eqb-true p 0 e
  has_port_of (Apply1 op) p ss e = eqb-true p 0 e
  has_port_of (Apply2 op) p ss e = eqb-true p 0 e
  has_port_of Cond p ss e = cc
  has_port_of Enter p ss e = eqb-true p 0 e
  has_port_of (Merge k) p ss e = eqb-true p 0 e
  has_port_of (Fetch a) p ss e = eqb-true p 0 e
  has_port_of (Store a) p ss e = eqb-true p 0 e
  has_port_of (Call f) p ss e = call_port f p e
  has_port_of (StrictCall f) p ss e = call_port f p e
  has_port_of (Loop f k) p ss e = ltb-true p (length ss) e

  port_of_has : AllDiffer (block_names g) → (kind : Kind (List ℕ)) (p : ℕ) (ss : List Source) → HasPortOf g kind p ss
      → kind_has_port g kind (length ss) p ≡ true
  port_of_has differ (Lit v) p ss h = eq-eqb p 0 h
  port_of_has differ (Apply1 op) p ss h = eq-eqb p 0 h
  port_of_has differ (Apply2 op) p ss h = eq-eqb p 0 h
  port_of_has differ Cond p ss h = absurd h
  port_of_has differ Enter p ss h = eq-eqb p 0 h
  port_of_has differ (Merge k) p ss h = eq-eqb p 0 h
  port_of_has differ (Fetch a) p ss h = eq-eqb p 0 h
  port_of_has differ (Store a) p ss h = eq-eqb p 0 h
  port_of_has differ (Call f) p ss h = port_call differ f p h
  port_of_has differ (StrictCall f) p ss h = port_call differ f p h
  port_of_has differ (Loop f k) p ss h = lt-ltb p (length ss) h

  pub has_port_in : (o : Option (Node (List ℕ))) (p : ℕ) → has_port g o p ≡ true → HasPortIn g o p
  has_port_in None p e = eqb-true p 0 e
  has_port_in (Some node) p e = has_port_of node.kind p node.sources e

  pub port_in_has : AllDiffer (block_names g) → (o : Option (Node (List ℕ))) (p : ℕ) → HasPortIn g o p → has_port g o p ≡ true
  port_in_has differ None p h = eq-eqb p 0 h
  port_in_has differ (Some node) p h = port_of_has differ node.kind p node.sources h

-- ---- where sources lie

module _ (b : Block (List ℕ)) (n : ℕ) where
  abbrev pub LieWanted : Region → Kind (List ℕ) → List Source → Type 0
  LieWanted r kind ss = (i : ℕ) (s : Source) → slice_get ss i ≡ Some s → region_of b s.node ≡ wanted_region b r kind i

  merge_lies : (r : Region) (k : ℕ) (ss : List Source) → is_earlier_cond b n k ≡ true → same_region (region_of b k) r ≡ true → length ss ≡ 2
      → LieWanted r (Merge k) ss → LiesWell b n r (Merge k) ss
  merge_lies r k [] e f l h = absurd (omega arith)
  merge_lies r k (s ∷ []) e f l h = absurd (omega arith)
  merge_lies r k (s ∷ t ∷ []) e f l h =
      let c = earlier_cond b n k e in
      (c.0, c.1, region_is (region_of b k) r f, h 0 s refl, h 1 t refl)
  merge_lies r k (s ∷ t ∷ u ∷ ss) e f l h = absurd (omega arith)

  lies_merge : (r : Region) (k : ℕ) (ss : List Source) → LiesWell b n r (Merge k) ss → (fits_region b n r (Merge k) ≡ true) × LieWanted r (Merge k) ss
  lies_merge r k [] h = absurd h
  lies_merge r k (s ∷ []) h = absurd h
  lies_merge r k (s ∷ t ∷ []) h = (both_yes _ _ (is_earlier b n k h.0 h.1) (is_region (region_of b k) r h.2), sides)
    where
      sides : (i : ℕ) (x : Source) → slice_get (s ∷ t ∷ []) i ≡ Some x → region_of b x.node ≡ Arm k (nat_eq i 0)
      sides zero x e =
          let same : s ≡ x = cc in
          subst (λ (x : Source). region_of b x.node ≡ Arm k true) same h.3
      sides (suc zero) x e =
          let same : t ≡ x = cc in
          subst (λ (x : Source). region_of b x.node ≡ Arm k false) same h.4
      sides (suc (suc i)) x e = cc
  lies_merge r k (s ∷ t ∷ u ∷ ss) h = absurd h

  root_or_arm : (r : Region) → fits_region b n r Enter ≡ true → r ≢ Root
  root_or_arm Root e = cc
  root_or_arm (Arm k s) e = λ f. cc

  all_lie : (r : Region) (ss : List Source) → ((i : ℕ) (s : Source) → slice_get ss i ≡ Some s → region_of b s.node ≡ r) → AllLieIn b r ss
  all_lie r ss h = all_from (λ (s : Source). region_of b s.node ≡ r) ss h

  lie_all : (r : Region) (ss : List Source) → AllLieIn b r ss → (i : ℕ) (s : Source) → slice_get ss i ≡ Some s → region_of b s.node ≡ r
  lie_all r ss h = at_all (λ (s : Source). region_of b s.node ≡ r) ss h

  pub lies_well : (g : Graph) (r : Region) (kind : Kind (List ℕ)) (ss : List Source) → fits_region b n r kind ≡ true → NamesWell g kind (length ss)
      → LieWanted r kind ss → LiesWell b n r kind ss
  lies_well g r (Lit v) ss e l h = all_lie r ss h
  lies_well g r (Apply1 op) ss e l h = all_lie r ss h
  lies_well g r (Apply2 op) ss e l h = all_lie r ss h
  lies_well g r Cond ss e l h = all_lie r ss h
  lies_well g r Enter ss e l h = (root_or_arm r e, all_lie (arm_outside b r) ss h)
  lies_well g r (Merge k) ss e l h =
      let p = if_parts _ _ e in
      merge_lies r k ss p.0 p.1 l h
  lies_well g r (Fetch a) ss e l h = all_lie r ss h
  lies_well g r (Store a) ss e l h = all_lie r ss h
  lies_well g r (Call f) ss e l h = all_lie r ss h
  lies_well g r (StrictCall f) ss e l h = all_lie r ss h
  lies_well g r (Loop f k) ss e l h = all_lie r ss h

  arm_fits : (r : Region) → r ≢ Root → is_arm r ≡ true
  arm_fits Root h = absurd (h refl)
  arm_fits (Arm k s) h = refl

  pub well_fits : (r : Region) (kind : Kind (List ℕ)) (ss : List Source) → LiesWell b n r kind ss → fits_region b n r kind ≡ true
  well_fits r (Lit v) ss h = refl
  well_fits r (Apply1 op) ss h = refl
  well_fits r (Apply2 op) ss h = refl
  well_fits r Cond ss h = refl
  well_fits r Enter ss h = arm_fits r h.0
  well_fits r (Merge k) ss h = (lies_merge r k ss h).0
  well_fits r (Fetch a) ss h = refl
  well_fits r (Store a) ss h = refl
  well_fits r (Call f) ss h = refl
  well_fits r (StrictCall f) ss h = refl
  well_fits r (Loop f k) ss h = refl

  pub well_lies : (r : Region) (kind : Kind (List ℕ)) (ss : List Source) → LiesWell b n r kind ss → LieWanted r kind ss
  well_lies r (Lit v) ss h = lie_all r ss h
  well_lies r (Apply1 op) ss h = lie_all r ss h
  well_lies r (Apply2 op) ss h = lie_all r ss h
  well_lies r Cond ss h = lie_all r ss h
  well_lies r Enter ss h = lie_all (arm_outside b r) ss h.1
  well_lies r (Merge k) ss h = (lies_merge r k ss h).1
  well_lies r (Fetch a) ss h = lie_all r ss h
  well_lies r (Store a) ss h = lie_all r ss h
  well_lies r (Call f) ss h = lie_all r ss h
  well_lies r (StrictCall f) ss h = lie_all r ss h
  well_lies r (Loop f k) ss h = lie_all r ss h
