-- The resolved flow of a well-formed graph that has a text is within its ranges.
use Rattle.std.proofs.Common.{◌≡◌, ℕ, ◌+◌, ◌<◌, ◌≤◌, List, length, sym, ◌∙◌, subst, arith, Some}
use Rattle.std.specs.Prelude.{All, Contains, slice_get, sum, ⊤}
use Rattle.std.proofs.lemmas.List.{length-map}
use Rattle.std.proofs.lemmas.Option.{slice_get_within}
use Rattle.lemmas.proofs.Alls.{all_at, all_from_map}
use Rattle.lemmas.proofs.Contains.{contains_get}
use Rattle.lemmas.proofs.SliceGet.{map_get, map_get_back}
use Rattle.law_confluence.proofs.OutcomeResolved.{place_get, block_in, node_in}
use Rattle.semantics.specs.declared.graph.Kind.{Kind}
use Rattle.semantics.specs.declared.graph.Kind.TheVariants.{Lit, Apply1, Apply2, Cond, Enter, Merge, Fetch, Store, Call, StrictCall, Loop}
use Rattle.semantics.specs.Graph.{Graph, Block, Node, Flow, node_count, flow_of, resolved_kind, array_names, block_names, place_of}
use Rattle.semantics.specs.WellFormed.{WellFormed, IsBlockWell, IsNodeWell, NamesWell, HasShape}
use Rattle.semantics.specs.Text.{HasText, HasBlockText, IsName}
use Rattle.semantics.proofs.Lines.{named_line_at}

-- WITHIN ITS RANGES. A node names an array, or a block with as many inputs as it has sources.
abbrev pub Takes : Flow → ℕ → ℕ → Type 0
Takes fl f n = (b : Block ℕ) × (slice_get fl.blocks f ≡ Some b) × (b.inputs ≡ n)

abbrev pub Turns : Flow → ℕ → ℕ → Type 0
Turns fl f n = (b : Block ℕ) × (slice_get fl.blocks f ≡ Some b) × (b.inputs ≡ n) × (b.outputs ≡ n + 1)

abbrev pub KindFits : Flow → Kind ℕ → ℕ → Type 0
KindFits fl (Fetch a) n = a < length fl.arrays
KindFits fl (Store a) n = a < length fl.arrays
KindFits fl (Call f) n = Takes fl f n
KindFits fl (StrictCall f) n = Takes fl f n
KindFits fl (Loop f k) n = Turns fl f n × (2 ≤ k) × (k ≤ 64)
KindFits fl kind n = ⊤

pub record BlockFits (fl : Flow) (b : Block ℕ) : Type 0 where
  pub inputs : (1 ≤ b.inputs) × (b.inputs ≤ 16)
  pub outputs : (1 ≤ b.outputs) × (b.outputs ≤ 16)
  pub size : node_count b ≤ 1024
  pub results : length b.results ≡ b.outputs
  pub nodes : (k : ℕ) (n : Node ℕ) → slice_get b.nodes k ≡ Some n → KindFits fl n.kind (length n.sources)

pub record FlowFits (fl : Flow) : Type 0 where
  pub few : length fl.blocks ≤ 256
  pub main : fl.main < length fl.blocks
  pub few_arrays : length fl.arrays ≤ 64
  pub arrays : All (λ n. (1 ≤ n) × (n ≤ 65536)) fl.arrays
  pub cells : sum fl.arrays ≤ 65536
  pub blocks : (f : ℕ) (b : Block ℕ) → slice_get fl.blocks f ≡ Some b → BlockFits fl b

abbrev NamedArray : Type 0
NamedArray = List ℕ × ℕ

abbrev NamedBlock : Type 0
NamedBlock = List ℕ × Block (List ℕ)

module _ (g : Graph) (text : HasText g) (well : WellFormed g) where
  -- NAMES
  blocks_long : length (block_names g) ≡ length (flow_of g).blocks
  blocks_long = length-map g.blocks (λ (b : NamedBlock). b.0) ∙ sym (length-map g.blocks (λ (b : NamedBlock). block_in g b.1))

  arrays_long : length (array_names g) ≡ length (flow_of g).arrays
  arrays_long = length-map g.arrays (λ (a : NamedArray). a.0) ∙ sym (length-map g.arrays (λ (a : NamedArray). a.1))

  array_there : (a : List ℕ) → Contains (array_names g) a → place_of a (array_names g) < length (flow_of g).arrays
  array_there a h =
      let k = contains_get (array_names g) a h in
      let l = slice_get_within (array_names g) (place_of a (array_names g)) a (place_get a (array_names g) k.0 k.1) in
      let long = arrays_long in
      omega (arith, l, long)

  main_there : (flow_of g).main < length (flow_of g).blocks
  main_there =
      let k = contains_get (block_names g) g.main well.main in
      let l = slice_get_within (block_names g) (place_of g.main (block_names g)) g.main (place_get g.main (block_names g) k.0 k.1) in
      let long = blocks_long in
      omega (arith, l, long)

  block_there : (name : List ℕ) (b : Block (List ℕ)) → Contains g.blocks (name, b)
      → slice_get (flow_of g).blocks (place_of name (block_names g)) ≡ Some (block_in g b)
  block_there name b h =
      let k = contains_get g.blocks (name, b) h in
      let at = map_get (λ (x : NamedBlock). x.0) g.blocks k.0 (name, b) k.1 in
      let same = well.blocks_differ k.0 (place_of name (block_names g)) name at (place_get name (block_names g) k.0 at) in
      subst (λ i. slice_get (flow_of g).blocks i ≡ Some (block_in g b)) same (map_get (λ (x : NamedBlock). block_in g x.1) g.blocks k.0 (name, b) k.1)

  takes_there : (name : List ℕ) (n m : ℕ) → HasShape g name n m → Takes (flow_of g) (place_of name (block_names g)) n
  takes_there name n m h = (block_in g h.0, block_there name h.0 h.1, h.2)

  turns_there : (name : List ℕ) (n : ℕ) → HasShape g name n (n + 1) → Turns (flow_of g) (place_of name (block_names g)) n
  turns_there name n h = (block_in g h.0, block_there name h.0 h.1, h.2, h.3)

  kind_fits : (k : Kind (List ℕ)) (n : ℕ) → NamesWell g k n → KindFits (flow_of g) (resolved_kind (array_names g) (block_names g) k) n
  kind_fits (Lit z) n h = tt
  kind_fits (Apply1 op) n h = tt
  kind_fits (Apply2 op) n h = tt
  kind_fits Cond n h = tt
  kind_fits Enter n h = tt
  kind_fits (Merge k) n h = tt
  kind_fits (Fetch a) n h = array_there a h.0
  kind_fits (Store a) n h = array_there a h.0
  kind_fits (Call f) n h = takes_there f n h.0 h.1
  kind_fits (StrictCall f) n h = takes_there f n h.0 h.1
  kind_fits (Loop f k) n h = (turns_there f n h.0, h.1, h.2)

  -- BLOCKS
  block_fits : (i : ℕ) (named : NamedBlock) → slice_get g.blocks i ≡ Some named → BlockFits (flow_of g) (block_in g named.1)
  block_fits i named e =
      let good : IsBlockWell g named.1 = all_at (λ (x : NamedBlock). IsBlockWell g x.1) g.blocks i named well.blocks e in
      let fits : HasBlockText g.version named = all_at (HasBlockText g.version) g.blocks i named text.blocks e in
      let count = length-map named.1.nodes (node_in g) in
      let some_input = good.some_input in
      let some_output = good.some_output in
      let size = fits.size in
      record {
        inputs = (omega (arith, some_input), fits.inputs);
        outputs = (omega (arith, some_output), fits.outputs);
        size = omega (arith, size, count);
        results = good.result_count;
        nodes = λ k n f.
            let m = map_get_back (node_in g) named.1.nodes k n f in
            let known : IsNodeWell g named.1 (named.1.inputs + k) m.0 = good.nodes (named.1.inputs + k) m.0 (named_line_at named.1 k ∙ m.1) in
            subst (λ (x : Node ℕ). KindFits (flow_of g) x.kind (length x.sources)) m.2 (kind_fits m.0.kind (length m.0.sources) known.names);
      }

  pub flow_fits : FlowFits (flow_of g)
  flow_fits =
      let few_arrays = text.few_arrays in
      let few_blocks = text.few_blocks in
      let arrays_count = length-map g.arrays (λ (a : NamedArray). a.1) in
      let blocks_count = length-map g.blocks (λ (b : NamedBlock). block_in g b.1) in
      record {
        few = omega (arith, few_blocks, blocks_count);
        main = main_there;
        few_arrays = omega (arith, few_arrays, arrays_count);
        arrays = all_from_map (λ n. (1 ≤ n) × (n ≤ 65536)) (λ (a : NamedArray). a.1) g.arrays (λ i a e.
            let t = all_at (λ (a : NamedArray). IsName a.0 × (1 ≤ a.1) × (a.1 ≤ 65536)) g.arrays i a text.arrays e in
            (t.1, t.2));
        cells = text.cells;
        blocks = λ f b e.
            let m = map_get_back (λ (x : NamedBlock). block_in g x.1) g.blocks f b e in
            subst (BlockFits (flow_of g)) m.2 (block_fits f m.0 m.1);
      }
