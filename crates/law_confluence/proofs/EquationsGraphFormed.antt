-- A well-formed graph gives a flow of the shape that is needed.
use Rattle.std.proofs.Common.{◌≡◌, ℕ, zero, suc, ◌+◌, ◌-◌, ◌<◌, ◌≤◌, ℤ, Bool, true, false, List, [], ◌∷◌, map, length, Option, Some, None, Contains, nat_lt}
use Rattle.std.proofs.Common.{if◌then◌else◌, refl, sym, ap, ◌∙◌, subst, arith, ltb-false, le-ltb}
use Rattle.std.specs.Prelude.{slice_get}
use Rattle.lemmas.proofs.Alls.{all_at}
use Rattle.lemmas.proofs.Contains.{contains_get}
use Rattle.lemmas.proofs.SliceGet.{get_some, map_get_back, map_get}
use Rattle.semantics.specs.declared.graph.Region.{Region}
use Rattle.semantics.specs.declared.graph.Region.TheVariants.{Root, Arm}
use Rattle.semantics.specs.declared.graph.Source.{Source}
use Rattle.semantics.specs.declared.graph.Kind.{Kind}
use Rattle.semantics.specs.declared.graph.Kind.TheVariants.{Lit, Apply1, Apply2, Cond, Enter, Merge, Fetch, Store, Call, StrictCall, Loop}
use Rattle.semantics.specs.Graph.{Node, Block, Graph, Flow, node_at, node_count, place_of, resolved_kind, array_names, block_names, flow_of}
use Rattle.semantics.specs.WellFormed.{IsRegion, IsCondNode, IsCond, region_in, region_of, HasShape, HasPortOf, HasPortIn, IsEarlier, AllLieIn, LiesWell}
use Rattle.semantics.specs.WellFormed.{NamesWell, IsNodeWell, IsBlockWell, WellFormed}
use Rattle.semantics.specs.Meaning.{Main, arm_of, block_of}
use Rattle.semantics.specs.Faithful.{inputs_of, inputs_in}
use Rattle.law_confluence.proofs.OutcomeResolved.{place_get, block_in, node_in, node_back, fits}
use Rattle.law_confluence.specs.EquationsHave.{outputs_in, ports_of, ports_line, ports_in}
use Rattle.law_confluence.proofs.EquationsGraphForms.{line_below, ports_line_at, InRegion, IsCondAt, HasForm, IsLine, IsBlock, IsShaped}

-- a node line of that number, where there are so many nodes
some_line : {N : Type 0} (b : Block N) (n : ℕ) → b.inputs ≤ n → n < node_count b → (line : Node N) × (node_at b n ≡ Some line)
some_line b n low high =
    let got = get_some b.nodes (n - b.inputs) (omega (arith, low, high)) in
    (got.0, ap (λ (t : Bool). if t then None else slice_get b.nodes (n - b.inputs)) (le-ltb n b.inputs low) ∙ got.1)

module _ (g : Graph) (well : WellFormed g) where
  abbrev fl : Flow
  fl = flow_of g

  named : (name : List ℕ) (b : Block (List ℕ)) → Contains g.blocks (name, b) → slice_get fl.blocks (place_of name (block_names g)) ≡ Some (block_in g b)
  named name b h =
      let k = contains_get g.blocks (name, b) h in
      let at = map_get (λ (b : List ℕ × Block (List ℕ)). b.0) g.blocks k.0 (name, b) k.1 in
      let same = well.blocks_differ k.0 (place_of name (block_names g)) name at (place_get name (block_names g) k.0 at) in
      subst (λ i. slice_get fl.blocks i ≡ Some (block_in g b)) same (map_get (λ (b : List ℕ × Block (List ℕ)). block_in g b.1) g.blocks k.0 (name, b) k.1)

  shaped_block : (name : List ℕ) (inputs outputs : ℕ) → HasShape g name inputs outputs
      → (b : Block ℕ) × (slice_get fl.blocks (place_of name (block_names g)) ≡ Some b) × (b.inputs ≡ inputs) × (b.outputs ≡ outputs)
  shaped_block name inputs outputs h = (block_in g h.0, named name h.0 h.1, h.2, h.3)

  -- NODES
  node_to : (b : Block (List ℕ)) (n : ℕ) (line : Node (List ℕ)) → node_at b n ≡ Some line → node_at (block_in g b) n ≡ Some (node_in g line)
  node_to b n line e = go (nat_lt n b.inputs) e
    where
      go : (t : Bool) → (if t then None else slice_get b.nodes (n - b.inputs)) ≡ Some line
          → (if t then None else slice_get (map (node_in g) b.nodes) (n - b.inputs)) ≡ Some (node_in g line)
      go true f = cc
      go false f = map_get (node_in g) b.nodes (n - b.inputs) line f

  arm_line : (nodes : List (Node (List ℕ))) (i : ℕ) → arm_of (slice_get (map (node_in g) nodes) i) ≡ region_in (slice_get nodes i)
  arm_line [] i = refl
  arm_line (n ∷ ns) zero = refl
  arm_line (n ∷ ns) (suc i) = arm_line ns i

  arm_same : (b : Block (List ℕ)) (k : ℕ) → arm_of (node_at (block_in g b) k) ≡ region_of b k
  arm_same b k = go (nat_lt k b.inputs)
    where
      go : (t : Bool) → arm_of (if t then None else slice_get (map (node_in g) b.nodes) (k - b.inputs))
          ≡ region_in (if t then None else slice_get b.nodes (k - b.inputs))
      go true = refl
      go false = arm_line b.nodes (k - b.inputs)

  cond_at : (b : Block (List ℕ)) (k : ℕ) → IsCond b k → IsCondAt (block_in g b) k
  cond_at b k h = go (node_at b k) refl h
    where
      go : (o : Option (Node (List ℕ))) → node_at b k ≡ o → IsCondNode o → IsCondAt (block_in g b) k
      go None e h = absurd h
      go (Some line) e h = (node_in g line, node_to b k line e, ap (λ k. resolved_kind (array_names g) (block_names g) k) h)

  -- PORTS
  ports_kind : (kind : Kind (List ℕ)) (p : ℕ) (ss : List Source) → HasPortOf g kind p ss
      → p < ports_of fl (resolved_kind (array_names g) (block_names g) kind) ss
  ports_kind (Lit v) p ss h = omega (arith, h)
  ports_kind (Apply1 op) p ss h = omega (arith, h)
  ports_kind (Apply2 op) p ss h = omega (arith, h)
  ports_kind Cond p ss h = absurd h
  ports_kind Enter p ss h = omega (arith, h)
  ports_kind (Merge k) p ss h = omega (arith, h)
  ports_kind (Fetch a) p ss h = omega (arith, h)
  ports_kind (Store a) p ss h = omega (arith, h)
  ports_kind (Call f) p ss h = let same = ap outputs_in (named f h.0 h.1) in let low = h.2 in omega (arith, same, low)
  ports_kind (StrictCall f) p ss h = let same = ap outputs_in (named f h.0 h.1) in let low = h.2 in omega (arith, same, low)
  ports_kind (Loop f k) p ss h = h

  port_to : (b : Block (List ℕ)) (n p : ℕ) → n < node_count b → HasPortIn g (node_at b n) p → p < ports_in fl (Some (block_in g b)) n
  port_to b n p high h = go (nat_lt n b.inputs) refl
    where
      inner : (line : Node (List ℕ)) → node_at b n ≡ Some line → p < ports_in fl (Some (block_in g b)) n
      inner line e =
          let same = ports_line_at fl (block_in g b) n (node_in g line) (node_to b n line e) in
          let low = ports_kind line.kind p line.sources (subst (λ o. HasPortIn g o p) e h) in
          omega (arith, same, low)

      go : (t : Bool) → nat_lt n b.inputs ≡ t → p < ports_in fl (Some (block_in g b)) n
      go true e =
          let none : node_at b n ≡ None = ap (λ (t : Bool). if t then None else slice_get b.nodes (n - b.inputs)) e in
          let zero_is : p ≡ 0 = subst (λ o. HasPortIn g o p) none h in
          let one : ports_in fl (Some (block_in g b)) n ≡ 1 = ap (λ (t : Bool). if t then 1 else ports_line fl (node_at (block_in g b) n)) e in
          omega (arith, zero_is, one)
      go false e = let l = some_line b n (ltb-false n b.inputs e) high in inner l.0 l.1

  -- FORMS
  lie_in : (b : Block (List ℕ)) (r : Region) (ss : List Source) → AllLieIn b r ss → InRegion (block_in g b) r ss
  lie_in b r ss h i s e = arm_same b s.node ∙ all_at (λ (s : Source). region_of b s.node ≡ r) ss i s h e

  enter_outside : (b : Block (List ℕ)) (n : ℕ) (r : Region) (ss : List Source) → IsRegion b n r → LiesWell b n r Enter ss
      → (k : ℕ) × (side : Bool) × (r ≡ Arm k side) × InRegion (block_in g b) (arm_of (node_at (block_in g b) k)) ss
  enter_outside b n Root ss reg h = absurd (h.0 refl)
  enter_outside b n (Arm k side) ss reg h = (k, side, refl, subst (λ r. InRegion (block_in g b) r ss) (sym (arm_same b k)) (lie_in b (region_of b k) ss h.1))

  merge_to : (b : Block (List ℕ)) (n : ℕ) (r : Region) (k : ℕ) (ss : List Source) → LiesWell b n r (Merge k) ss
      → HasForm fl (block_in g b) r (Merge k) ss × (k < n)
  merge_to b n r k [] h = absurd h
  merge_to b n r k (s ∷ []) h = absurd h
  merge_to b n r k (s ∷ t ∷ []) h = ((cond_at b k h.1, arm_same b k ∙ h.2, arm_same b s.node ∙ h.3, arm_same b t.node ∙ h.4), h.0)
  merge_to b n r k (s ∷ t ∷ u ∷ ss) h = absurd h

  form_to : (b : Block (List ℕ)) (n : ℕ) (r : Region) (kind : Kind (List ℕ)) (ss : List Source) → IsRegion b n r → NamesWell g kind (length ss)
      → LiesWell b n r kind ss
      → HasForm fl (block_in g b) r (resolved_kind (array_names g) (block_names g) kind) ss
  form_to b n r (Lit v) ss reg names lies = (names, lie_in b r ss lies)
  form_to b n r (Apply1 op) ss reg names lies = (names, lie_in b r ss lies)
  form_to b n r (Apply2 op) ss reg names lies = (names, lie_in b r ss lies)
  form_to b n r Cond ss reg names lies = (names, lie_in b r ss lies)
  form_to b n r Enter ss reg names lies = (names, enter_outside b n r ss reg lies)
  form_to b n r (Merge k) ss reg names lies = (merge_to b n r k ss lies).0
  form_to b n r (Fetch a) ss reg names lies = (names.1, lie_in b r ss lies)
  form_to b n r (Store a) ss reg names lies = (names.1, lie_in b r ss lies)
  form_to b n r (Call f) ss reg names lies = let s = shaped_block f (length ss) names.0 names.1 in ((s.0, s.1, s.2), lie_in b r ss lies)
  form_to b n r (StrictCall f) ss reg names lies = let s = shaped_block f (length ss) names.0 names.1 in ((s.0, s.1, s.2), lie_in b r ss lies)
  form_to b n r (Loop f k) ss reg names lies = let s = shaped_block f (length ss) (length ss + 1) names.0 in ((s.0, s.1, s.2, s.3), lie_in b r ss lies)

  joins_to : (b : Block (List ℕ)) (n : ℕ) (r : Region) (kind : Kind (List ℕ)) (ss : List Source) (k : ℕ) → LiesWell b n r kind ss
      → resolved_kind (array_names g) (block_names g) kind ≡ Merge k → k < n
  joins_to b n r (Merge j) ss k h e = let same : j ≡ k = cc in subst (λ k. k < n) same (merge_to b n r j ss h).1
  joins_to b n r kind ss k h e = absurd (cc)

  round_to : (b : Block (List ℕ)) (n : ℕ) (r : Region) (k : ℕ) (side : Bool) → IsRegion b n r → r ≡ Arm k side → (k < n) × IsCondAt (block_in g b) k
  round_to b n Root k side h e = cc
  round_to b n (Arm j s) k side h e = let same : j ≡ k = cc in subst (λ k. (k < n) × IsCondAt (block_in g b) k) same (h.0, cond_at b j h.1)

  line_to : (b : Block (List ℕ)) (n : ℕ) (line : Node (List ℕ)) → n < node_count b → IsNodeWell g b n line → IsLine fl (block_in g b) n (node_in g line)
  line_to b n line high h = record {
    earlier = λ i s e. let early = all_at (IsEarlier g b n) line.sources i s h.earlier e in
        (early.0, port_to b s.node s.port (omega (arith, early.0, high)) early.1);
    round = λ k side e. round_to b n line.region k side h.region e;
    joins = λ k e. joins_to b n line.region line.kind line.sources k h.lies e;
    form = form_to b n line.region line.kind line.sources h.region h.names h.lies;
  }

  block_to : (b : Block (List ℕ)) → IsBlockWell g b → IsBlock fl (block_in g b)
  block_to b h = record {
    some_input = h.some_input;
    lines = λ n line e.
        let back = node_back g b n line e in
        subst (λ line. IsLine fl (block_in g b) n line) back.2 (line_to b n back.0 (line_below b n back.0 back.1) (h.nodes n back.0 back.1));
    count = h.result_count;
    results = λ j s e.
        let early = all_at (IsEarlier g b (node_count b)) b.results j s h.results e in
        (port_to b s.node s.port early.0 early.1, arm_same b s.node ∙ all_at (λ (s : Source). region_of b s.node ≡ Root) b.results j s h.in_root e);
  }

  pub shaped : IsShaped fl
  shaped i b e =
      let from = map_get_back (λ (b : List ℕ × Block (List ℕ)). block_in g b.1) g.blocks i b e in
      subst (λ b. IsBlock fl b) from.2 (block_to from.0.1
      (all_at (λ (named : List ℕ × Block (List ℕ)). IsBlockWell g named.1) g.blocks i from.0 well.blocks from.1))

  pub main_block : (inputs : List ℤ) → length inputs ≡ inputs_of fl → (b : Block ℕ) × (block_of fl Main ≡ Some b) × (length inputs ≡ b.inputs)
  main_block inputs e = let f = fits g well inputs e in (f.0, f.1, e ∙ ap inputs_in f.1)
