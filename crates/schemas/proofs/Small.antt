-- A well-formed graph that has a text is within the limits.
use Rattle.std.proofs.Common.{◌≡◌, ℕ, ◌+◌, ◌-◌, ◌<◌, ◌≤◌, Bool, true, false, List, [], ◌∷◌, length, refl, ◌∙◌, arith, Option, Some, None, if◌then◌else◌}
use Rattle.std.specs.Prelude.{All, slice_get}
use Rattle.std.proofs.lemmas.List.{length-map}
use Rattle.lemmas.proofs.Alls.{all_at, all_from_map}
use Rattle.semantics.specs.declared.graph.Kind.{Kind}
use Rattle.semantics.specs.declared.graph.Kind.TheVariants.{Lit, Apply1, Apply2, Cond, Enter, Merge, Fetch, Store, Call, StrictCall, Loop}
use Rattle.semantics.specs.Graph.{Graph, Block, Node, flow_of, resolved_kind, resolved_block, array_names, block_names, same_name, place_from, place_of}
use Rattle.semantics.specs.WellFormed.{WellFormed, IsBlockWell, IsNodeWell, NamesWell}
use Rattle.semantics.specs.Text.{HasText, HasBlockText, HasNodeLine, HasLine}
use Rattle.semantics.proofs.Lines.{named_line_at}
use Rattle.schemas.specs.Blocks.{IsSmallKind, IsSmallNode, IsSmallBlock, FewOutputs, outputs_in, outputs_of}
use Rattle.schemas.specs.Expanded.{IsSmallFlow}

pub outputs_are_few : (bs : List (Block ℕ)) (f : ℕ) → FewOutputs bs → outputs_of bs f ≤ 16
outputs_are_few bs f h = h.each f

-- NAMES. The place of a name is at most their number.
place_step : (t : Bool) (n m k : ℕ) → n ≤ k → m ≤ k → (if t then n else m) ≤ k
place_step true n m k a b = a
place_step false n m k a b = b

place_below : (n : ℕ) (name : List ℕ) (xs : List (List ℕ)) → place_from n name xs ≤ n + length xs
place_below n name [] = omega arith
place_below n name (x ∷ xs) =
    let more = place_below (n + 1) name xs in
    place_step (same_name name x) n (place_from (n + 1) name xs) (n + length (x ∷ xs)) (omega arith) (omega (arith, more))

pub array_place_is_small : (g : Graph) (name : List ℕ) → HasText g → place_of name (array_names g) < 4294967296
array_place_is_small g name text =
    let e = length-map g.arrays (λ (a : List ℕ × ℕ). a.0) in
    let low = place_below 0 name (array_names g) in
    omega (arith, e, low, text.few_arrays)

pub block_place_is_small : (g : Graph) (name : List ℕ) → HasText g → place_of name (block_names g) < 4294967296
block_place_is_small g name text =
    let e = length-map g.blocks (λ (b : List ℕ × Block (List ℕ)). b.0) in
    let low = place_below 0 name (block_names g) in
    omega (arith, e, low, text.few_blocks)

-- NODES
few_sources : (v : ℕ) (k : Kind (List ℕ)) (n : ℕ) → HasLine v k n → n ≤ 16
few_sources v (Lit z) n h = let e = h.1 in omega (arith, e)
few_sources v (Apply1 op) n h = omega (arith, h)
few_sources v (Apply2 op) n h = omega (arith, h)
few_sources v Cond n h = omega (arith, h)
few_sources v Enter n h = omega (arith, h)
few_sources v (Merge k) n h = let e = h.1 in omega (arith, e)
few_sources v (Fetch a) n h = let e = h.1 in omega (arith, e)
few_sources v (Store a) n h = let e = h.1 in omega (arith, e)
few_sources v (Call f) n h = h.1
few_sources v (StrictCall f) n h = h.2
few_sources v (Loop f k) n h = h.2

small_kind : (g : Graph) (k : Kind (List ℕ)) (n : ℕ) → length (array_names g) ≤ 64 → length (block_names g) ≤ 256 → NamesWell g k n
    → IsSmallKind (resolved_kind (array_names g) (block_names g) k)
small_kind g (Lit z) n a b h = tt
small_kind g (Apply1 op) n a b h = tt
small_kind g (Apply2 op) n a b h = tt
small_kind g Cond n a b h = tt
small_kind g Enter n a b h = tt
small_kind g (Merge k) n a b h = tt
small_kind g (Fetch x) n a b h = let e = place_below 0 x (array_names g) in omega (arith, e)
small_kind g (Store x) n a b h = let e = place_below 0 x (array_names g) in omega (arith, e)
small_kind g (Call f) n a b h = let e = place_below 0 f (block_names g) in omega (arith, e)
small_kind g (StrictCall f) n a b h = let e = place_below 0 f (block_names g) in omega (arith, e)
small_kind g (Loop f k) n a b h = let e = h.2 in omega (arith, e)

abbrev Named : Type 0
Named = List ℕ × Block (List ℕ)

abbrev resolved : Graph → Node (List ℕ) → Node ℕ
resolved g n = record { region = n.region; kind = resolved_kind (array_names g) (block_names g) n.kind; sources = n.sources }

module _ (g : Graph) (well : WellFormed g) (text : HasText g) where
  few_arrays : length (array_names g) ≤ 64
  few_arrays = let e = length-map g.arrays (λ (a : List ℕ × ℕ). a.0) in omega (arith, e, text.few_arrays)

  few_blocks : length (block_names g) ≤ 256
  few_blocks = let e = length-map g.blocks (λ (b : Named). b.0) in omega (arith, e, text.few_blocks)

  small_block : (k : ℕ) (named : Named) → slice_get g.blocks k ≡ Some named → IsSmallBlock (resolved_block (array_names g) (block_names g) named.1)
  small_block k named e =
      let good : IsBlockWell g named.1 = all_at (λ (x : Named). IsBlockWell g x.1) g.blocks k named well.blocks e in
      let fits : HasBlockText g.version named = all_at (HasBlockText g.version) g.blocks k named text.blocks e in
      let count = length-map named.1.nodes (resolved g) in
      record {
        inputs = fits.inputs;
        outputs = fits.outputs;
        size = let s = fits.size in omega (arith, s, count);
        nodes = all_from_map IsSmallNode (resolved g) named.1.nodes (λ i n here.
            let line : HasNodeLine g.version n = all_at (HasNodeLine g.version) named.1.nodes i n fits.nodes here in
            let known : IsNodeWell g named.1 (named.1.inputs + i) n = good.nodes (named.1.inputs + i) n (named_line_at named.1 i ∙ here) in
            record {
              sources = few_sources g.version n.kind (length n.sources) line.1;
              kind = small_kind g n.kind (length n.sources) few_arrays
                  few_blocks known.names;
            });
        results = fits.results.0;
      }

few_from : (bs : List (Block ℕ)) → All IsSmallBlock bs → (f : ℕ) → outputs_of bs f ≤ 16
few_from bs h f = go (slice_get bs f) refl
  where
    go : (o : Option (Block ℕ)) → slice_get bs f ≡ o → outputs_in o ≤ 16
    go None e = omega arith
    go (Some b) e = (all_at IsSmallBlock bs f b h e).outputs

pub small_flow : (g : Graph) → WellFormed g → HasText g → IsSmallFlow (flow_of g)
small_flow g well text =
    let small : All IsSmallBlock (flow_of g).blocks = all_from_map IsSmallBlock (λ (b : Named). resolved_block (array_names g) (block_names g) b.1)
    g.blocks (small_block g well text) in
    let count = length-map g.blocks (λ (b : Named). resolved_block (array_names g) (block_names g) b.1) in
    record {
      few = let e = text.few_blocks in omega (arith, count, e);
      small = small;
      outputs = record { each = few_from (flow_of g).blocks small };
    }
