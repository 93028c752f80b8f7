-- A LOWERED PROGRAM'S GRAPH HAS A TEXT: its blocks are in good form, and they and the names in it are small.
use Rattle.std.proofs.Common.{◌≡◌, ℕ, ◌+◌, ◌<◌, ◌≤◌, ◌&&◌, nat_le, nat_lt, Bool, List, [], ◌∷◌, length, map, Option, Some, None, Ok, All, inl, inr, refl, ◌∙◌}
use Rattle.std.proofs.Common.{subst, arith, ltb-true, length-append, Contains}
use Rattle.std.specs.Prelude.{slice_get}
use Rattle.std.proofs.lemmas.List.{length-map}
use Rattle.std.proofs.lemmas.List.Elements.{All-head, All-tail, All-contains}
use Rattle.std.proofs.lemmas.Bool.{leb-true}
use Rattle.std.proofs.lemmas.Option.{slice_get_within}
use Rattle.lemmas.proofs.Alls.{all_at, all_from}
use Rattle.lemmas.proofs.Bools.{first_of_and, second_of_and}
use Rattle.lemmas.proofs.Contains.{contains_mapped}
use Rattle.lemmas.proofs.Permutations.{Each, each_append, each_append_back}
use Rattle.semantics.specs.declared.graph.Region.{Region}
use Rattle.semantics.specs.declared.graph.Region.TheVariants.{Root, Arm}
use Rattle.semantics.specs.declared.graph.Source.{Source}
use Rattle.semantics.specs.declared.graph.Kind.{Kind}
use Rattle.semantics.specs.declared.graph.Kind.TheVariants.{Lit, Apply1, Apply2, Cond, Enter, Merge, Fetch, Store, Call, StrictCall, Loop}
use Rattle.semantics.specs.Graph.{Node, Block, Graph, node_at, node_count, array_names}
use Rattle.semantics.specs.Text.{IsNameRest, IsName, IsNumber, IsWrittenSource, IsWrittenRegion, HasLine, HasNodeLine, HasBlockText, HasText}
use Rattle.semantics.specs.WellFormed.{IsRegion, HasPortIn, HasPortOf, IsEarlier, LiesWell, NamesWell, IsNodeWell}
use Rattle.semantics.proofs.Lines.{named_line_at}
use Rattle.source.specs.declared.fault.FaultKind.TheVariants.{TooBig}
use Rattle.source.specs.Tree.{Name, Item, Cells, Defines, Program}
use Rattle.source.specs.Tokens.{IsSpelledName}
use Rattle.source.specs.First.{must}
use Rattle.source.specs.Rules.{item_names, no_items}
use Rattle.source.specs.Counts.{IsGood}
use Rattle.source.specs.Lowered.{MadeBlock, node_of, graph_block, function_blocks, blocks_of, made_blocks, arrays_of, graph_of, sizes}
use Rattle.source.proofs.Steps.{then_ok, must_ok, ok_same}
use Rattle.law_language.specs.LoweredHasText.{HasSpelledNames, LoweringHasText}
use Rattle.law_language.specs.LoweredWell.{LiteralFits, IsBlockGood}
use Rattle.law_language.proofs.LoweredSources.{all_of_each}
use Rattle.law_language.proofs.LoweredSpelled.{block_is_name}
use Rattle.law_language.proofs.LoweredDiffer.{low_of_function}
use Rattle.law_language.proofs.LoweredArrays.{IsArray, arrays_few}
use Rattle.law_language.proofs.LoweredFunctions.{taken_apart, all_good}

all_weaker : {X : Type 0} (P Q : X → Type 0) (xs : List X) → ((x : X) → P x → Q x) → All P xs → All Q xs
all_weaker P Q xs f h = λ i d low. f _ (h i d low)

-- SIZES
abbrev pub IsSmallBlock : MadeBlock → Type 0
IsSmallBlock b = b.inputs + length b.nodes ≤ 1024

-- each block is small, and they are few
pub record AreSized (before : ℕ) (bs : List MadeBlock) : Type 0 where
  pub each : Each IsSmallBlock bs
  pub few : before + length bs ≤ 256

pub sized : (before : ℕ) (bs : List MadeBlock) → before ≤ 256 → sizes before bs ≡ Ok tt → AreSized before bs
sized before [] low h = record { each = tt; few = omega (arith, low) }
sized before (b ∷ bs) low h =
    let fits : Bool = nat_le (b.inputs + length b.nodes) 1024 && nat_lt before 256 in
    let s = then_ok (must fits TooBig b.at) (λ fits. sizes (before + 1) bs) tt h in
    let both = must_ok fits TooBig b.at s.0 s.1 in
    let less = ltb-true before 256 (second_of_and (nat_le (b.inputs + length b.nodes) 1024) (nat_lt before 256) both) in
    let rest = sized (before + 1) bs (omega (arith, less)) s.2 in
    let more = rest.few in
    record {
      each = (leb-true (b.inputs + length b.nodes) 1024 (first_of_and (nat_le (b.inputs + length b.nodes) 1024) (nat_lt before 256) both), rest.each);
      few = omega (arith, more);
    }

-- BLOCKS with their names
pub record IsNamedBlock (x : Name × Block Name) : Type 0 where
  pub name : IsName x.0
  pub size : x.1.inputs + length x.1.nodes ≤ 1024

named_block : (f : Name) (b : MadeBlock) → IsSpelledName f → b.loop ≤ 256 → IsSmallBlock b → IsNamedBlock (graph_block f b)
named_block f b s low small =
    let long : length (map node_of b.nodes) ≡ length b.nodes = length-map b.nodes node_of in
    record { name = block_is_name f b.loop low s; size = omega (arith, long, small) }

named_blocks : (f : Name) (bs : List MadeBlock) → IsSpelledName f → Each (λ (b : MadeBlock). b.loop ≤ 256) bs → Each IsSmallBlock bs
    → Each IsNamedBlock (map (graph_block f) bs)
named_blocks f [] s low small = tt
named_blocks f (b ∷ bs) s low small = (named_block f b s low.0 small.0, named_blocks f bs s low.1 small.1)

all_named : (p : Program) (items : List Item) → All IsSpelledName (item_names items) → Each IsSmallBlock (made_blocks p items)
    → length (made_blocks p items) ≤ 256
    → Each IsNamedBlock (blocks_of p items)
all_named p [] spelled small few = tt
all_named p (Cells x len ∷ items) spelled small few = all_named p items (All-tail IsSpelledName x.name (item_names items) spelled) small few
all_named p (Defines h ∷ items) spelled small few =
    let own : List MadeBlock = function_blocks p h in
    let rest : List MadeBlock = made_blocks p items in
    let split = each_append_back IsSmallBlock own rest small in
    let long = length-append own rest in
    each_append IsNamedBlock (map (graph_block h.name.name) own) (blocks_of p items)
    (named_blocks h.name.name own (All-head IsSpelledName h.name.name (item_names items) spelled) (low_of_function p h (omega (arith, long, few))) split.0)
    (all_named p items (All-tail IsSpelledName h.name.name (item_names items) spelled) split.1 (omega (arith, long, few)))

blocks_count : (p : Program) (items : List Item) → length (blocks_of p items) ≡ length (made_blocks p items)
blocks_count p [] = refl
blocks_count p (Cells x len ∷ items) = blocks_count p items
blocks_count p (Defines h ∷ items) =
    let a = length-append (map (graph_block h.name.name) (function_blocks p h)) (blocks_of p items) in
    let b = length-append (function_blocks p h) (made_blocks p items) in
    let c = length-map (function_blocks p h) (graph_block h.name.name) in
    omega (arith, a, b, c, blocks_count p items)

-- LINES of a graph whose blocks are in good form and small, and whose arrays have names
module _ (g : Graph) (good : All (λ (x : Name × Block Name). IsBlockGood g x.1) g.blocks) (named : All IsNamedBlock g.blocks)
    (arrays : (a : Name) → Contains (array_names g) a → IsName a) where
  its_name : (f : Name) (b : Block Name) → Contains g.blocks (f, b) → IsName f
  its_name f b c = (All-contains IsNamedBlock g.blocks (f, b) named c).name

  its_form : (f : Name) (b : Block Name) → Contains g.blocks (f, b) → IsBlockGood g b
  its_form f b c = All-contains (λ (x : Name × Block Name). IsBlockGood g x.1) g.blocks (f, b) good c

  merge_names : (b : Block Name) (n : ℕ) (r : Region) (k : ℕ) (ss : List Source) → n < 1024 → LiesWell b n r (Merge k) ss → IsNumber k
  merge_names b n r k [] few lies = absurd lies
  merge_names b n r k (s ∷ []) few lies = absurd lies
  merge_names b n r k (s ∷ t ∷ []) few lies = let low = lies.0 in omega (arith, few, low)
  merge_names b n r k (s ∷ t ∷ u ∷ ss) few lies = absurd lies

  has_line : (b : Block Name) (n : ℕ) (r : Region) (kind : Kind Name) (ss : List Source) → n < 1024 → NamesWell g kind (length ss) → LiesWell b n r kind ss
      → LiteralFits kind → HasLine 2 kind (length ss)
  has_line b n r (Lit z) ss few names lies fits = (fits, names)
  has_line b n r (Apply1 op) ss few names lies fits = names
  has_line b n r (Apply2 op) ss few names lies fits = names
  has_line b n r Cond ss few names lies fits = names
  has_line b n r Enter ss few names lies fits = names
  has_line b n r (Merge k) ss few names lies fits = (merge_names b n r k ss few lies, names)
  has_line b n r (Fetch a) ss few names lies fits = (arrays a names.0, names.1)
  has_line b n r (Store a) ss few names lies fits = (arrays a names.0, names.1)
  has_line b n r (Call f) ss few names lies fits =
      let shape = names.1 in
      let wide = (its_form f shape.0 shape.1).inputs in (its_name f shape.0 shape.1, omega (arith, wide, shape.2))
  has_line b n r (StrictCall f) ss few names lies fits =
      let shape = names.1 in
      let wide = (its_form f shape.0 shape.1).inputs in (refl, its_name f shape.0 shape.1, omega (arith, wide, shape.2))
  has_line b n r (Loop f k) ss few names lies fits =
      let shape = names.0 in
      let wide = (its_form f shape.0 shape.1).inputs in
      let small = names.2 in
      (its_name f shape.0 shape.1, omega (arith, small), omega (arith, wide, shape.2))

  -- a port is one of at most 16
  port_low : (kind : Kind Name) (q : ℕ) (ss : List Source) → NamesWell g kind (length ss) → HasPortOf g kind q ss → IsNumber q
  port_low (Lit z) q ss names has = omega (arith, has)
  port_low (Apply1 op) q ss names has = omega (arith, has)
  port_low (Apply2 op) q ss names has = omega (arith, has)
  port_low Cond q ss names has = absurd has
  port_low Enter q ss names has = omega (arith, has)
  port_low (Merge k) q ss names has = omega (arith, has)
  port_low (Fetch a) q ss names has = omega (arith, has)
  port_low (Store a) q ss names has = omega (arith, has)
  port_low (Call f) q ss names has = let wide = (its_form f has.0 has.1).outputs in let low = has.2 in omega (arith, low, wide)
  port_low (StrictCall f) q ss names has = let wide = (its_form f has.0 has.1).outputs in let low = has.2 in omega (arith, low, wide)
  port_low (Loop f k) q ss names has =
      let shape = names.0 in
      let wide = (its_form f shape.0 shape.1).inputs in omega (arith, has, wide, shape.2)

  module _ (b : Block Name) (form : IsBlockGood g b) (size : b.inputs + length b.nodes ≤ 1024) where
    source_written : (n : ℕ) (s : Source) → n ≤ 1024 → IsEarlier g b n s → IsWrittenSource s
    source_written n s few e = let low = e.0 in (omega (arith, low, few), go (node_at b s.node) refl e.1)
      where
        go : (o : Option (Node Name)) → node_at b s.node ≡ o → HasPortIn g o s.port → IsNumber s.port
        go None at has = omega (arith, has)
        go (Some line) at has = port_low line.kind s.port line.sources (form.well.nodes s.node line at).names has

    region_written : (n : ℕ) (r : Region) → n ≤ 1024 → IsRegion b n r → IsWrittenRegion r
    region_written n Root few w = tt
    region_written n (Arm k side) few w = let low = w.0 in omega (arith, low, few)

    node_written : (i : ℕ) (line : Node Name) → slice_get b.nodes i ≡ Some line → HasNodeLine 2 line
    node_written i line e =
        let n : ℕ = b.inputs + i in
        let low = slice_get_within b.nodes i line e in
        let few : n < 1024 = omega (arith, low, size) in
        let w : IsNodeWell g b n line = form.well.nodes n line (named_line_at b i ∙ e) in
        let fits = all_at (λ (line : Node Name). LiteralFits line.kind) b.nodes i line
        (all_of_each (λ (line : Node Name). LiteralFits line.kind) b.nodes form.literals) e in (
          region_written n line.region (omega (arith, few)) w.region,
          has_line b n line.region line.kind line.sources few w.names w.lies fits,
          all_weaker (IsEarlier g b n) IsWrittenSource line.sources (λ s h. source_written n s (omega (arith, few)) h) w.earlier,
        )

    block_text : (name : Name) → IsName name → HasBlockText 2 (name, b)
    block_text name is =
        let wide = form.outputs in
        let count = form.well.result_count in
        record {
          name = is;
          inputs = form.inputs;
          outputs = form.outputs;
          nodes = all_from (HasNodeLine 2) b.nodes node_written;
          size = size;
          results = (
            omega (arith, wide, count),
            all_weaker (IsEarlier g b (node_count b)) IsWrittenSource b.results
                (λ s h. source_written (node_count b) s size h) form.well.results,
          );
        }

  blocks_text : All (HasBlockText 2) g.blocks
  blocks_text = all_from (HasBlockText 2) g.blocks (λ i x e.
      let n = all_at IsNamedBlock g.blocks i x named e in block_text x.1 (all_at (λ (x : Name × Block Name). IsBlockGood g x.1) g.blocks i x good e) n.size
      x.0 n.name)

array_named : (items : List Item) (a : Name) → Each IsArray (arrays_of items) → Contains (map (λ (x : List ℕ × ℕ). x.0) (arrays_of items)) a → IsName a
array_named items a each c =
    let m = contains_mapped (λ (x : List ℕ × ℕ). x.0) (arrays_of items) a c in
    subst IsName m.2 (All-contains IsArray (arrays_of items) m.0 (all_of_each IsArray (arrays_of items) each) m.1).0

graph_text : (p : Program) → IsGood p → HasSpelledNames p → sizes 0 (made_blocks p p) ≡ Ok tt → HasText (graph_of p)
graph_text p good spelled fits =
    let g : Graph = graph_of p in
    let parts = taken_apart p good in
    let size = sized 0 (made_blocks p p) (omega arith) fits in
    let few = size.few in
    let arrays = arrays_few no_items parts.after p spelled (omega arith) (omega arith) parts.heads in
    let count = arrays.few in
    let cells = arrays.cells in
    let form = all_of_each (λ (x : Name × Block Name). IsBlockGood g x.1) g.blocks (all_good p g refl parts.functions) in
    let names = all_of_each IsNamedBlock g.blocks (all_named p p spelled size.each (omega (arith, few))) in
    record {
      version = inr refl;
      arrays = all_of_each IsArray (arrays_of p) arrays.each;
      few_arrays = omega (arith, count);
      cells = omega (arith, cells);
      blocks = blocks_text g form names (λ a c. array_named p a arrays.each c);
      few_blocks = omega (arith, few, blocks_count p p);
      main = (inr (omega arith, omega arith), main_rest, omega arith);
    }
  where
    main_rest : All IsNameRest (97 ∷ 105 ∷ 110 ∷ [])
    main_rest = all_of_each IsNameRest (97 ∷ 105 ∷ 110 ∷ []) (
      inl (inr (omega arith, omega arith)),
      (inl (inr (omega arith, omega arith)), (inl (inr (omega arith, omega arith)), tt)),
    )

pub lowering_has_text : LoweringHasText
lowering_has_text p g good spelled h =
    let s = then_ok (sizes 0 (made_blocks p p)) (λ fits. Ok (graph_of p)) g h in
    subst HasText (ok_same (graph_of p) g s.2) (graph_text p good spelled s.1)
