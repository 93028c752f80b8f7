-- A well-formed graph gives a well-formed flow.
use Rattle.std.proofs.Common.{◌≡◌, ℕ, zero, suc, ◌+◌, ◌-◌, ◌<◌, ◌⊎◌, ℤ, Bool, true, false, List, [], ◌∷◌, map, length, Some, None, Contains, nat_lt}
use Rattle.std.proofs.Common.{if◌then◌else◌, inl, inr, refl, sym, ap, ◌∙◌, subst, subst₂, arith}
use Rattle.std.specs.Prelude.{slice_get}
use Rattle.std.proofs.lemmas.List.Elements.{All-contains}
use Rattle.lemmas.proofs.Alls.{all_at}
use Rattle.lemmas.proofs.Contains.{contains_get}
use Rattle.lemmas.proofs.SliceGet.{map_get, map_get_back}
use Rattle.semantics.specs.declared.graph.Region.{Region}
use Rattle.semantics.specs.declared.graph.Region.TheVariants.{Root, Arm}
use Rattle.semantics.specs.declared.graph.Source.{Source}
use Rattle.semantics.specs.declared.graph.Kind.{Kind}
use Rattle.semantics.specs.declared.graph.Kind.TheVariants.{Lit, Apply1, Apply2, Cond, Enter, Merge, Fetch, Store, Call, StrictCall, Loop}
use Rattle.semantics.specs.Graph.{Node, Block, Graph, node_at, same_name, place_from, place_of, resolved_kind, resolved_block, array_names, block_names}
use Rattle.semantics.specs.Graph.{flow_of}
use Rattle.semantics.specs.WellFormed.{AllDiffer, IsRegion, IsCondNode, IsCond, region_in, region_of, HasShape, AllLieIn, LiesWell, NamesWell, IsNodeWell}
use Rattle.semantics.specs.WellFormed.{IsBlockWell, WellFormed}
use Rattle.semantics.specs.Meaning.{callee}
use Rattle.semantics.specs.Faithful.{inputs_in, inputs_of}
use Rattle.semantics.proofs.Lines.{same_name_is, same_name_itself}
use Rattle.law_confluence.proofs.ActivityRows.{Gate, Join, Steering, class_of, class_node, region_node}
use Rattle.law_confluence.proofs.HistoryLaws.{IsFlowWell, IsLineWell}
use Rattle.law_confluence.proofs.History.{Fits}

-- NAMES

placed : (name : List ℕ) (n : ℕ) (names : List (List ℕ)) (k : ℕ) → slice_get names k ≡ Some name
    → (j : ℕ) × (place_from n name names ≡ n + j) × (slice_get names j ≡ Some name)
placed name n [] k e = cc
placed name n (x ∷ xs) zero e = go (same_name name x) refl
  where
    go : (t : Bool) → same_name name x ≡ t → (j : ℕ) × ((if t then n else place_from (n + 1) name xs) ≡ n + j) × (slice_get (x ∷ xs) j ≡ Some name)
    go true p = (0, omega arith, e)
    go false p =
        let same : name ≡ x = cc in
        let other = ap (λ y. same_name name y) same in
        let self = same_name_itself name in
        absurd (cc)
placed name n (x ∷ xs) (suc k) e = go (same_name name x) refl (placed name (n + 1) xs k e)
  where
    go : (t : Bool) → same_name name x ≡ t → (j : ℕ) × (place_from (n + 1) name xs ≡ n + 1 + j) × (slice_get xs j ≡ Some name)
        → (j : ℕ) × ((if t then n else place_from (n + 1) name xs) ≡ n + j) × (slice_get (x ∷ xs) j ≡ Some name)
    go true p ih = (0, omega arith, ap (λ y. Some y) (sym (same_name_is name x p)))
    go false p ih = (suc ih.0, omega (arith, ih.1), ih.2)

pub place_get : (name : List ℕ) (names : List (List ℕ)) (k : ℕ) → slice_get names k ≡ Some name → slice_get names (place_of name names) ≡ Some name
place_get name names k e =
    let p = placed name 0 names k e in
    let same : p.0 ≡ place_of name names = omega (arith, p.1) in
    subst (λ j. slice_get names j ≡ Some name) same p.2

-- BLOCKS AND NODES

module _ (g : Graph) where
  abbrev pub block_in : Block (List ℕ) → Block ℕ
  block_in b = resolved_block (array_names g) (block_names g) b

  abbrev pub node_in : Node (List ℕ) → Node ℕ
  node_in n = record { region = n.region; kind = resolved_kind (array_names g) (block_names g) n.kind; sources = n.sources }

  named_block : AllDiffer (block_names g) → (name : List ℕ) (b : Block (List ℕ)) → Contains g.blocks (name, b)
      → slice_get (flow_of g).blocks (place_of name (block_names g)) ≡ Some (block_in b)
  named_block differ name b h =
      let k = contains_get g.blocks (name, b) h in
      let at = map_get (λ (b : List ℕ × Block (List ℕ)). b.0) g.blocks k.0 (name, b) k.1 in
      let same = differ k.0 (place_of name (block_names g)) name at (place_get name (block_names g) k.0 at) in
      subst (λ i. slice_get (flow_of g).blocks i ≡ Some (block_in b)) same (map_get (λ (b : List ℕ × Block (List ℕ)). block_in b.1) g.blocks k.0 (name, b) k.1)

  pub node_back : (b : Block (List ℕ)) (n : ℕ) (node : Node ℕ) → node_at (block_in b) n ≡ Some node
      → (line : Node (List ℕ)) × (node_at b n ≡ Some line) × (node_in line ≡ node)
  node_back b n node e = go (nat_lt n b.inputs) e
    where
      go : (t : Bool) → (if t then None else slice_get (map node_in b.nodes) (n - b.inputs)) ≡ Some node
          → (line : Node (List ℕ)) × ((if t then None else slice_get b.nodes (n - b.inputs)) ≡ Some line) × (node_in line ≡ node)
      go true f = cc
      go false f = map_get_back node_in b.nodes (n - b.inputs) node f

  region_line : (nodes : List (Node (List ℕ))) (i : ℕ) → region_node (slice_get (map node_in nodes) i) ≡ region_in (slice_get nodes i)
  region_line [] i = refl
  region_line (n ∷ ns) zero = refl
  region_line (n ∷ ns) (suc i) = region_line ns i

  region_same : (b : Block (List ℕ)) (k : ℕ) → region_node (node_at (block_in b) k) ≡ region_of b k
  region_same b k = go (nat_lt k b.inputs)
    where
      go : (t : Bool) → region_node (if t then None else slice_get (map node_in b.nodes) (k - b.inputs))
          ≡ region_in (if t then None else slice_get b.nodes (k - b.inputs))
      go true = refl
      go false = region_line b.nodes (k - b.inputs)

  cond_line : (nodes : List (Node (List ℕ))) (i : ℕ) → IsCondNode (slice_get nodes i) → class_node (slice_get (map node_in nodes) i) ≡ Steering
  cond_line [] i h = absurd h
  cond_line (n ∷ ns) zero h = ap (λ k. class_of (resolved_kind (array_names g) (block_names g) k)) h
  cond_line (n ∷ ns) (suc i) h = cond_line ns i h

  cond_same : (b : Block (List ℕ)) (k : ℕ) → IsCond b k → class_node (node_at (block_in b) k) ≡ Steering
  cond_same b k h = go (nat_lt k b.inputs) h
    where
      go : (t : Bool) → IsCondNode (if t then None else slice_get b.nodes (k - b.inputs))
          → class_node (if t then None else slice_get (map node_in b.nodes) (k - b.inputs)) ≡ Steering
      go true f = absurd f
      go false f = cond_line b.nodes (k - b.inputs) f

  abbrev kind_in : Kind (List ℕ) → Kind ℕ
  kind_in k = resolved_kind (array_names g) (block_names g) k

  lies_plain : (b : Block (List ℕ)) (n : ℕ) (r : Region) (kind : Kind (List ℕ)) (ss : List Source) → LiesWell b n r kind ss
      → (class_of (kind_in kind) ≡ Gate → ⊥) → (class_of (kind_in kind) ≡ Join → ⊥) → AllLieIn b r ss
  lies_plain b n r Enter ss h gate join = absurd (gate refl)
  lies_plain b n r (Merge k) ss h gate join = absurd (join refl)
  lies_plain b n r (Lit v) ss h gate join = h
  lies_plain b n r (Apply1 op) ss h gate join = h
  lies_plain b n r (Apply2 op) ss h gate join = h
  lies_plain b n r Cond ss h gate join = h
  lies_plain b n r (Fetch a) ss h gate join = h
  lies_plain b n r (Store a) ss h gate join = h
  lies_plain b n r (Call f) ss h gate join = h
  lies_plain b n r (StrictCall f) ss h gate join = h
  lies_plain b n r (Loop f k) ss h gate join = h

  abbrev Joins : Block (List ℕ) → Region → List Source → Type 0
  Joins b r ss = (k : ℕ) × (class_node (node_at (block_in b) k) ≡ Steering) × (region_node (node_at (block_in b) k) ≡ r)
      × ((i : ℕ) (s : Source) → slice_get ss i ≡ Some s
      → ((i ≡ 0) × (region_node (node_at (block_in b) s.node) ≡ Arm k true)) ⊎ ((i ≡ 1) × (region_node (node_at (block_in b) s.node) ≡ Arm k false)))

  merge_joins : (b : Block (List ℕ)) (n : ℕ) (r : Region) (k : ℕ) (ss : List Source) → LiesWell b n r (Merge k) ss → Joins b r ss
  merge_joins b n r k [] h = absurd h
  merge_joins b n r k (s ∷ []) h = absurd h
  merge_joins b n r k (s ∷ t ∷ []) h = (k, cond_same b k h.1, region_same b k ∙ h.2, sides)
    where
      sides : (i : ℕ) (x : Source) → slice_get (s ∷ t ∷ []) i ≡ Some x
          → ((i ≡ 0) × (region_node (node_at (block_in b) x.node) ≡ Arm k true)) ⊎ ((i ≡ 1) × (region_node (node_at (block_in b) x.node) ≡ Arm k false))
      sides zero x e = let same : s ≡ x = cc in inl (refl, region_same b x.node ∙ sym (ap (λ (s : Source). region_of b s.node) same) ∙ h.3)
      sides (suc zero) x e = let same : t ≡ x = cc in inr (refl, region_same b x.node ∙ sym (ap (λ (s : Source). region_of b s.node) same) ∙ h.4)
      sides (suc (suc i)) x e = cc
  merge_joins b n r k (s ∷ t ∷ u ∷ ss) h = absurd h

  lies_joins : (b : Block (List ℕ)) (n : ℕ) (r : Region) (kind : Kind (List ℕ)) (ss : List Source) → LiesWell b n r kind ss → class_of (kind_in kind) ≡ Join
      → Joins b r ss
  lies_joins b n r (Merge k) ss h e = merge_joins b n r k ss h
  lies_joins b n r kind ss h e = absurd (cc)

  shape_found : WellFormed g → (name : List ℕ) (n m f : ℕ) → HasShape g name n m → Some (place_of name (block_names g)) ≡ Some f
      → (b' : Block ℕ) × (slice_get (flow_of g).blocks f ≡ Some b') × (b'.inputs ≡ n) × (0 < b'.inputs)
  shape_found well name n m f h e =
      let same : place_of name (block_names g) ≡ f = cc in (
        block_in h.0,
        subst (λ i. slice_get (flow_of g).blocks i ≡ Some (block_in h.0)) same (named_block well.blocks_differ name h.0 h.1),
        h.2,
        (All-contains (λ (named : List ℕ × Block (List ℕ)). IsBlockWell g named.1) g.blocks (name, h.0) well.blocks h.1).some_input,
      )

  names_invokes : WellFormed g → (kind : Kind (List ℕ)) (n f : ℕ) → NamesWell g kind n → callee (kind_in kind) ≡ Some f
      → (b' : Block ℕ) × (slice_get (flow_of g).blocks f ≡ Some b') × (b'.inputs ≡ n) × (0 < b'.inputs)
  names_invokes well (Call name) n f h e = shape_found well name n h.0 f h.1 e
  names_invokes well (StrictCall name) n f h e = shape_found well name n h.0 f h.1 e
  names_invokes well (Loop name k) n f h e = shape_found well name n (n + 1) f h.0 e
  names_invokes well kind n f h e = absurd (cc)

  round_cond : (b : Block (List ℕ)) (n : ℕ) (r : Region) (k : ℕ) (side : Bool) → IsRegion b n r → r ≡ Arm k side
      → class_node (node_at (block_in b) k) ≡ Steering
  round_cond b n Root k side h e = cc
  round_cond b n (Arm j s) k side h e = let same : j ≡ k = cc in cond_same b k (subst (λ k. IsCond b k) same h.1)

  names_stores : (kind : Kind (List ℕ)) (n a : ℕ) → NamesWell g kind n → kind_in kind ≡ Store a → n ≡ 2
  names_stores (Store name) n a h e = h.1
  names_stores kind n a h e = absurd (cc)

  node_well : WellFormed g → (b : Block (List ℕ)) (n : ℕ) (line : Node (List ℕ)) → IsNodeWell g b n line → IsLineWell (flow_of g) (block_in b) (node_in line)
  node_well well b n line h = record {
    round = λ k side e. round_cond b n line.region k side h.region e;
    plain =
        λ gate join i s e. region_same b s.node
        ∙ all_at (λ (s : Source). region_of b s.node ≡ line.region) line.sources i s (lies_plain b n line.region line.kind line.sources h.lies gate join) e;
    stores = λ a e. names_stores line.kind (length line.sources) a h.names e;
    joins = λ e. lies_joins b n line.region line.kind line.sources h.lies e;
    invokes = λ f e. names_invokes well line.kind (length line.sources) f h.names e;
  }

  pub flow_well : WellFormed g → IsFlowWell (flow_of g)
  flow_well h = record {
    lines = λ i b e n node f.
        let named = map_get_back (λ (b : List ℕ × Block (List ℕ)). block_in b.1) g.blocks i b e in
        let well = all_at (λ (named : List ℕ × Block (List ℕ)). IsBlockWell g named.1) g.blocks i named.0 h.blocks named.1 in
        let line = node_back named.0.1 n node (subst (λ b. node_at b n ≡ Some node) (sym named.2) f) in
        subst₂ (λ b node. IsLineWell (flow_of g) b node) named.2 line.2 (node_well h named.0.1 n line.0 (well.nodes n line.0 line.1));
  }

  pub fits : WellFormed g → (inputs : List ℤ) → length inputs ≡ inputs_of (flow_of g) → Fits (flow_of g) inputs
  fits h inputs e =
      let k = contains_get (block_names g) g.main h.main in
      let at = place_get g.main (block_names g) k.0 k.1 in
      let named = map_get_back (λ (b : List ℕ × Block (List ℕ)). b.0) g.blocks (place_of g.main (block_names g)) g.main at in
      let block = map_get (λ (b : List ℕ × Block (List ℕ)). block_in b.1) g.blocks (place_of g.main (block_names g)) named.0 named.1 in
      let long : inputs_of (flow_of g) ≡ (block_in named.0.1).inputs = ap inputs_in block in
      (block_in named.0.1, block, omega (arith, e, long))
