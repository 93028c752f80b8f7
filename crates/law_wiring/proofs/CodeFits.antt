-- The blocks of a well-formed graph fit.
use Rattle.std.proofs.Common.{◌≡◌, ℕ, zero, suc, ◌+◌, ◌-◌, ◌<◌, ◌≤◌, ◌⊎◌, inl, inr, Bool, true, false, ◌||◌, List, [], ◌∷◌, map, length, refl, sym, ap, ◌∙◌}
use Rattle.std.proofs.Common.{subst, arith, Option, Some, None, nat_lt, if◌then◌else◌, All, Contains}
use Rattle.std.specs.Prelude.{slice_get, slice_set, slice_index_or, replicate}
use Rattle.std.proofs.lemmas.Bool.{cases_lt}
use Rattle.std.proofs.lemmas.List.{get_or-set_same, get_or-set_other, length-set}
use Rattle.std.proofs.lemmas.List.Elements.{All-weaker, All-contains}
use Rattle.lemmas.proofs.Alls.{all_at}
use Rattle.lemmas.proofs.Contains.{contains_get}
use Rattle.lemmas.proofs.SliceGet.{map_get, map_get_back}
use Rattle.lemmas.proofs.Lists.{length_of_falses}
use Rattle.semantics.specs.declared.graph.Region.{Region}
use Rattle.semantics.specs.declared.graph.Region.TheVariants.{Root, Arm}
use Rattle.semantics.specs.declared.graph.Source.{Source}
use Rattle.semantics.specs.declared.graph.Kind.{Kind}
use Rattle.semantics.specs.declared.graph.Kind.TheVariants.{Lit, Apply1, Apply2, Cond, Enter, Merge, Fetch, Store, Call, StrictCall, Loop}
use Rattle.semantics.specs.Graph.{Graph, Flow, Block, Node, node_at, node_count, place_of, resolved_kind, array_names, block_names, flow_of}
use Rattle.semantics.specs.WellFormed.{WellFormed, IsBlockWell, IsNodeWell, NamesWell, HasShape, LiesWell, IsRegion, IsCond, IsCondNode, IsEarlier, HasPortOf}
use Rattle.semantics.specs.WellFormed.{HasPortIn, region_in, region_of, arm_outside, AllLieIn}
use Rattle.semantics.specs.Meaning.{arm_of}
use Rattle.law_confluence.proofs.OutcomeResolved.{place_get, block_in, node_in, node_back}
use Rattle.schemas.specs.Triggers as Triggers
use Rattle.schemas.specs.Triggers.{takes_trigger}
use Rattle.law_net.specs.ContextsBlocks.{is_kind, cond_kind, call_kind, loop_kind, lies_in, outside, outputs_in}
use Rattle.law_wiring.specs.Written.{is_triggered}
use Rattle.law_wiring.specs.WrittenFit.{IsCallee, Takes, kind_ports, IsPrior, LiesIn, Merges, Lies, IsLineFit, IsFit, BlocksFit}

-- TRIGGERS are set once and for all
region_length : (ts : List Bool) (r : Region) → length (Triggers.with_region ts r) ≡ length ts
region_length ts Root = refl
region_length ts (Arm k t) = length-set ts k true

node_length : (ts : List Bool) (x : Node ℕ) → length (Triggers.with_node ts x) ≡ length ts
node_length ts x = go (takes_trigger x.kind)
  where
    go : (t : Bool) → length (if t then Triggers.with_region ts x.region else ts) ≡ length ts
    go true = region_length ts x.region
    go false = refl

region_keeps : (ts : List Bool) (r : Region) (k : ℕ) → k < length ts → slice_index_or ts k false ≡ true
    → slice_index_or (Triggers.with_region ts r) k false ≡ true
region_keeps ts Root k l h = h
region_keeps ts (Arm j t) k l h = go (cases_lt k j) (cases_lt j k)
  where
    go : (k < j) ⊎ (j ≤ k) → (j < k) ⊎ (k ≤ j) → slice_index_or (slice_set ts j true) k false ≡ true
    go (inl a) c = get_or-set_other ts j k true false (λ q. omega (arith, q, a)) ∙ h
    go (inr a) (inl c) = get_or-set_other ts j k true false (λ q. omega (arith, q, c)) ∙ h
    go (inr a) (inr c) =
        let same : j ≡ k = omega (arith, a, c) in
        ap (λ i. slice_index_or (slice_set ts j true) i false) (sym same) ∙ get_or-set_same ts j true false (omega (arith, l, same))

node_keeps : (ts : List Bool) (x : Node ℕ) (k : ℕ) → k < length ts → slice_index_or ts k false ≡ true → slice_index_or (Triggers.with_node ts x) k false ≡ true
node_keeps ts x k l h = go (takes_trigger x.kind)
  where
    go : (t : Bool) → slice_index_or (if t then Triggers.with_region ts x.region else ts) k false ≡ true
    go true = region_keeps ts x.region k l h
    go false = h

nodes_keep : (ts : List Bool) (xs : List (Node ℕ)) (k : ℕ) → k < length ts → slice_index_or ts k false ≡ true
    → slice_index_or (Triggers.with_nodes ts xs) k false ≡ true
nodes_keep ts [] k l h = h
nodes_keep ts (x ∷ xs) k l h = let same = node_length ts x in nodes_keep (Triggers.with_node ts x) xs k (omega (arith, l, same)) (node_keeps ts x k l h)

trigger_set : (ts : List Bool) (xs : List (Node ℕ)) (j k : ℕ) (t : Bool) (x : Node ℕ) → k < length ts → slice_get xs j ≡ Some x → takes_trigger x.kind ≡ true
    → x.region ≡ Arm k t → slice_index_or (Triggers.with_nodes ts xs) k false ≡ true
trigger_set ts [] j k t x l e takes r = absurd (cc)
trigger_set ts (y ∷ xs) zero k t x l e takes r =
    let same : y ≡ x = cc in
    let long = node_length ts y in
    let here : Triggers.with_node ts y ≡ slice_set ts k true
    = ap (λ (z : Node ℕ). Triggers.with_node ts z) same ∙ ap (λ u. if u then Triggers.with_region ts x.region else ts) takes ∙ ap (Triggers.with_region ts) r in
    nodes_keep (Triggers.with_node ts y) xs k (omega (arith, l, long)) (ap (λ us. slice_index_or us k false) here ∙ get_or-set_same ts k true false l)
trigger_set ts (y ∷ xs) (suc j) k t x l e takes r =
    let long = node_length ts y in trigger_set (Triggers.with_node ts y) xs j k t x (omega (arith, l, long)) e takes r

module _ (g : Graph) (well : WellFormed g) where
  abbrev kind_in : Kind (List ℕ) → Kind ℕ
  kind_in k = resolved_kind (array_names g) (block_names g) k

  -- LOOKING UP in the block with its names resolved
  is_cond : Option (Node (List ℕ)) → Option (Node ℕ) → Type 0
  is_cond o p = IsCondNode o → elim p as (λ x. Bool) [ None ↦ false | Some line ↦ cond_kind line.kind ] ≡ true

  cond_line : (ns : List (Node (List ℕ))) (i : ℕ) → IsCondNode (slice_get ns i)
      → elim (slice_get (map (node_in g) ns) i) as (λ x. Bool) [ None ↦ false | Some line ↦ cond_kind line.kind ] ≡ true
  cond_line [] i h = absurd h
  cond_line (n ∷ ns) zero h = ap (λ k. cond_kind (kind_in k)) h
  cond_line (n ∷ ns) (suc i) h = cond_line ns i h

  cond_same : (b : Block (List ℕ)) (k : ℕ) → IsCond b k → is_kind cond_kind (block_in g b) k ≡ true
  cond_same b k h = go (nat_lt k b.inputs) h
    where
      go : (t : Bool) → IsCondNode (if t then None else slice_get b.nodes (k - b.inputs))
          → elim (if t then None else slice_get (map (node_in g) b.nodes) (k - b.inputs)) as (λ x. Bool) [ None ↦ false | Some line ↦ cond_kind line.kind ]
          ≡ true
      go true f = absurd f
      go false f = cond_line b.nodes (k - b.inputs) f

  region_line : (ns : List (Node (List ℕ))) (i : ℕ) → arm_of (slice_get (map (node_in g) ns) i) ≡ region_in (slice_get ns i)
  region_line [] i = refl
  region_line (n ∷ ns) zero = refl
  region_line (n ∷ ns) (suc i) = region_line ns i

  region_same : (b : Block (List ℕ)) (k : ℕ) → lies_in (block_in g b) k ≡ region_of b k
  region_same b k = go (nat_lt k b.inputs)
    where
      go : (t : Bool) → arm_of (if t then None else slice_get (map (node_in g) b.nodes) (k - b.inputs))
          ≡ region_in (if t then None else slice_get b.nodes (k - b.inputs))
      go true = refl
      go false = region_line b.nodes (k - b.inputs)

  -- WHAT IS CALLED
  named_block : (name : List ℕ) (c : Block (List ℕ)) → Contains g.blocks (name, c)
      → slice_get (flow_of g).blocks (place_of name (block_names g)) ≡ Some (block_in g c)
  named_block name c h =
      let k = contains_get g.blocks (name, c) h in
      let at = map_get (λ (x : List ℕ × Block (List ℕ)). x.0) g.blocks k.0 (name, c) k.1 in
      let same = well.blocks_differ k.0 (place_of name (block_names g)) name at (place_get name (block_names g) k.0 at) in
      subst (λ i. slice_get (flow_of g).blocks i ≡ Some (block_in g c)) same
      (map_get (λ (x : List ℕ × Block (List ℕ)). block_in g x.1) g.blocks k.0 (name, c) k.1)

  named_outputs : (name : List ℕ) (c : Block (List ℕ)) → Contains g.blocks (name, c)
      → outputs_in (slice_get (flow_of g).blocks (place_of name (block_names g))) ≡ c.outputs
  named_outputs name c h = ap outputs_in (named_block name c h)

  callee : (name : List ℕ) (inputs outputs : ℕ) (h : HasShape g name inputs outputs)
      → (c : IsCallee (flow_of g) (place_of name (block_names g)) inputs) × (c.block.outputs ≡ outputs)
  callee name inputs outputs h =
      let good : IsBlockWell g h.0 = All-contains (λ (x : List ℕ × Block (List ℕ)). IsBlockWell g x.1) g.blocks (name, h.0) well.blocks h.1 in
      let takes = h.2 in
      let some = good.some_input in (
        record {
          block = block_in g h.0;
          there = named_block name h.0 h.1;
          takes = h.2;
          some_input = omega (arith, takes, some);
          some_output = good.some_output;
        },
        h.3,
      )

  -- SOURCES
  port_kind : (k : Kind (List ℕ)) (p : ℕ) (ss : List Source) → HasPortOf g k p ss → p < kind_ports (flow_of g) (length ss) (kind_in k)
  port_kind Cond p ss h = absurd h
  port_kind (Lit z) p ss h = omega (arith, h)
  port_kind (Apply1 op) p ss h = omega (arith, h)
  port_kind (Apply2 op) p ss h = omega (arith, h)
  port_kind Enter p ss h = omega (arith, h)
  port_kind (Merge c) p ss h = omega (arith, h)
  port_kind (Fetch a) p ss h = omega (arith, h)
  port_kind (Store a) p ss h = omega (arith, h)
  port_kind (Call f) p ss h = let n = named_outputs f h.0 h.1 in let l = h.2 in omega (arith, n, l)
  port_kind (StrictCall f) p ss h = let n = named_outputs f h.0 h.1 in let l = h.2 in omega (arith, n, l)
  port_kind (Loop f c) p ss h = h

  value_kind : (k : Kind (List ℕ)) (p : ℕ) (ss : List Source) → HasPortOf g k p ss
      → (cond_kind (kind_in k) ≡ false) × ((call_kind (kind_in k) || loop_kind (kind_in k)) ≡ false → p ≡ 0)
  value_kind Cond p ss h = absurd h
  value_kind (Lit z) p ss h = (refl, λ n. h)
  value_kind (Apply1 op) p ss h = (refl, λ n. h)
  value_kind (Apply2 op) p ss h = (refl, λ n. h)
  value_kind Enter p ss h = (refl, λ n. h)
  value_kind (Merge c) p ss h = (refl, λ n. h)
  value_kind (Fetch a) p ss h = (refl, λ n. h)
  value_kind (Store a) p ss h = (refl, λ n. h)
  value_kind (Call f) p ss h = (refl, λ n. absurd (cc))
  value_kind (StrictCall f) p ss h = (refl, λ n. absurd (cc))
  value_kind (Loop f c) p ss h = (refl, λ n. absurd (cc))

  abbrev IsPort : Option (Node ℕ) → ℕ → Type 0
  IsPort o p = (p < elim o as (λ x. ℕ) [ None ↦ 1 | Some line ↦ kind_ports (flow_of g) (length line.sources) line.kind ])
      × (elim o as (λ x. Bool) [ None ↦ false | Some line ↦ cond_kind line.kind ] ≡ false)
      × ((elim o as (λ x. Bool) [ None ↦ false | Some line ↦ call_kind line.kind ] || elim o as (λ x. Bool) [ None ↦ false | Some line ↦ loop_kind line.kind ])
      ≡ false → p ≡ 0)

  port_line : (ns : List (Node (List ℕ))) (i p : ℕ) → HasPortIn g (slice_get ns i) p → IsPort (slice_get (map (node_in g) ns) i) p
  port_line [] i p h = (omega (arith, h), refl, λ n. h)
  port_line (n ∷ ns) zero p h = let v = value_kind n.kind p n.sources h in (port_kind n.kind p n.sources h, v.0, v.1)
  port_line (n ∷ ns) (suc i) p h = port_line ns i p h

  port_at : (b : Block (List ℕ)) (k p : ℕ) → HasPortIn g (node_at b k) p → IsPort (node_at (block_in g b) k) p
  port_at b k p h = go (nat_lt k b.inputs) h
    where
      go : (t : Bool) → HasPortIn g (if t then None else slice_get b.nodes (k - b.inputs)) p
          → IsPort (if t then None else slice_get (map (node_in g) b.nodes) (k - b.inputs)) p
      go true q = (omega (arith, q), refl, λ n. q)
      go false q = port_line b.nodes (k - b.inputs) p q

  module _ (b : Block (List ℕ)) where
    abbrev fl : Flow
    fl = flow_of g

    arrives : (n m : ℕ) (s : Source) → n ≡ m → IsEarlier g b n s → IsPrior fl (block_in g b) m s
    arrives n m s e h =
        let x = port_at b s.node s.port h.1 in
        let low = h.0 in
        record { earlier = omega (arith, low, e); port = x.0; no_cond = x.1; first = x.2 }

    all_arrive : (n m : ℕ) (ss : List Source) → n ≡ m → All (IsEarlier g b n) ss → All (IsPrior fl (block_in g b) m) ss
    all_arrive n m ss e h = All-weaker (IsEarlier g b n) (IsPrior fl (block_in g b) m) (λ s k. arrives n m s e k) ss h

    all_lie : (r : Region) (ss : List Source) → AllLieIn b r ss → All (LiesIn (block_in g b) r) ss
    all_lie r ss h = All-weaker (λ (s : Source). region_of b s.node ≡ r) (LiesIn (block_in g b) r) (λ s k. region_same b s.node ∙ k) ss h

    outside_same : (r : Region) → arm_outside b r ≡ outside (block_in g b) r
    outside_same Root = refl
    outside_same (Arm k t) = sym (region_same b k)

    merges : (n k : ℕ) (r : Region) (ss : List Source) → LiesWell b n r (Merge k) ss → Merges (block_in g b) n r k ss
    merges n k r [] h = absurd h
    merges n k r (s ∷ []) h = absurd h
    merges n k r (s ∷ t ∷ []) h = (h.0, cond_same b k h.1, region_same b k ∙ h.2, region_same b s.node ∙ h.3, region_same b t.node ∙ h.4)
    merges n k r (s ∷ t ∷ u ∷ ss) h = absurd h

    lies : (n : ℕ) (r : Region) (k : Kind (List ℕ)) (ss : List Source) → LiesWell b n r k ss → Lies (block_in g b) n r (kind_in k) ss
    lies n r Enter ss h = (h.0, subst (λ q. All (LiesIn (block_in g b) q) ss) (outside_same r) (all_lie (arm_outside b r) ss h.1))
    lies n r (Merge k) ss h = merges n k r ss h
    lies n r (Lit v) ss h = all_lie r ss h
    lies n r (Apply1 op) ss h = all_lie r ss h
    lies n r (Apply2 op) ss h = all_lie r ss h
    lies n r Cond ss h = all_lie r ss h
    lies n r (Fetch a) ss h = all_lie r ss h
    lies n r (Store a) ss h = all_lie r ss h
    lies n r (Call f) ss h = all_lie r ss h
    lies n r (StrictCall f) ss h = all_lie r ss h
    lies n r (Loop f k) ss h = all_lie r ss h

    takes : (k : Kind (List ℕ)) (n : ℕ) → NamesWell g k n → Takes fl (kind_in k) n
    takes (Lit v) n h = h
    takes (Apply1 op) n h = h
    takes (Apply2 op) n h = h
    takes Cond n h = h
    takes Enter n h = h
    takes (Merge k) n h = h
    takes (Fetch a) n h = h.1
    takes (Store a) n h = h.1
    takes (Call f) n h = (callee f n h.0 h.1).0
    takes (StrictCall f) n h = (callee f n h.0 h.1).0
    takes (Loop f k) n h = callee f n (n + 1) h.0

    round : (n : ℕ) (r : Region) (k : ℕ) (t : Bool) → IsRegion b n r → r ≡ Arm k t → (k < n) × (is_kind cond_kind (block_in g b) k ≡ true)
    round n Root k t h e = absurd (cc)
    round n (Arm j s) k t h e = let same : j ≡ k = cc in subst (λ i. (i < n) × (is_kind cond_kind (block_in g b) i ≡ true)) same (h.0, cond_same b j h.1)

    same_length : (ns : List (Node (List ℕ))) → length ns ≡ length (map (node_in g) ns)
    same_length [] = refl
    same_length (x ∷ ns) = ap suc (same_length ns)

    -- where a node is
    node_slot : (n : ℕ) (x : Node ℕ) → node_at (block_in g b) n ≡ Some x
        → (slice_get (block_in g b).nodes (n - b.inputs) ≡ Some x) × (n - b.inputs < length (block_in g b).nodes)
    node_slot n x e = go (nat_lt n b.inputs) e
      where
        get_within : {X : Type 0} (xs : List X) (k : ℕ) (y : X) → slice_get xs k ≡ Some y → k < length xs
        get_within [] k y e = absurd (cc)
        get_within (x ∷ xs) zero y e = omega arith
        get_within (x ∷ xs) (suc k) y e = let h = get_within xs k y e in omega (arith, h)

        go : (t : Bool) → (if t then None else slice_get (block_in g b).nodes (n - b.inputs)) ≡ Some x
            → (slice_get (block_in g b).nodes (n - b.inputs) ≡ Some x) × (n - b.inputs < length (block_in g b).nodes)
        go true e = absurd (cc)
        go false e = (e, get_within (block_in g b).nodes (n - b.inputs) x e)

    triggered : (n : ℕ) (x : Node ℕ) (k : ℕ) (t : Bool) → node_at (block_in g b) n ≡ Some x → k < n → x.region ≡ Arm k t → takes_trigger x.kind ≡ true
        → is_triggered (block_in g b) k ≡ true
    triggered n x k t e l r takes =
        let s = node_slot n x e in
        let low = s.1 in
        let long = length_of_falses (b.inputs + length (block_in g b).nodes) in
        trigger_set (replicate (b.inputs + length (block_in g b).nodes) false) (block_in g b).nodes (n - b.inputs) k t x
        (omega (arith, low, long, l)) s.0 takes r

    line_fit : (n : ℕ) (line : Node (List ℕ)) → node_at (block_in g b) n ≡ Some (node_in g line) → IsNodeWell g b n line
        → IsLineFit fl (block_in g b) n (node_in g line)
    line_fit n line e h = record {
      round = λ k t q. round n line.region k t h.region q;
      triggered = λ k t q takes. triggered n (node_in g line) k t e (round n line.region k t h.region q).0 q takes;
      takes = takes line.kind (length line.sources) h.names;
      earlier = all_arrive n n line.sources refl h.earlier;
      lies = lies n line.region line.kind line.sources h.lies;
    }

    block_fit : IsBlockWell g b → IsFit fl (block_in g b)
    block_fit h = record {
      some_input = h.some_input;
      some_output = h.some_output;
      nodes = λ n node e. let line = node_back g b n node e in
          subst (IsLineFit fl (block_in g b) n) line.2 (line_fit n line.0 (e ∙ ap (λ y. Some y) (sym line.2)) (h.nodes n line.0 line.1));
      result_count = h.result_count;
      results = all_arrive (node_count b) (node_count (block_in g b)) b.results (ap (λ k. b.inputs + k) (same_length b.nodes)) h.results;
      in_root = all_lie Root b.results h.in_root;
    }

pub blocks_fit : BlocksFit
blocks_fit g well i b e =
    let named = map_get_back (λ (x : List ℕ × Block (List ℕ)). block_in g x.1) g.blocks i b e in
    let good : IsBlockWell g named.0.1 = all_at (λ (x : List ℕ × Block (List ℕ)). IsBlockWell g x.1) g.blocks i named.0 well.blocks named.1 in
    subst (IsFit (flow_of g)) named.2 (block_fit g well named.0.1 good)
