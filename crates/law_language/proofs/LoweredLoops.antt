-- LOOPS: the block of a turn, and the node of a loop.
use Rattle.std.proofs.Common.{◌≡◌, ℕ, zero, suc, ◌+◌, ◌<◌, ◌≤◌, List, ◌∷◌, ◌++◌, length, map, refl, sym, subst, arith, length-append}
use Rattle.std.specs.Prelude.{Contains}
use Rattle.std.proofs.lemmas.List.{length-map}
use Rattle.lemmas.proofs.Permutations.{each_append, each_append_back}
use Rattle.semantics.specs.declared.graph.Region.TheVariants.{Root}
use Rattle.semantics.specs.declared.graph.Source.{Source}
use Rattle.semantics.specs.declared.graph.Kind.TheVariants as node
use Rattle.semantics.specs.Graph.{Block, Graph}
use Rattle.semantics.specs.WellFormed.{HasShape}
use Rattle.source.specs.Tree.{Name}
use Rattle.source.specs.Lowered.{MadeBlock, node_of, Lowered, Site, Spot, Scope, source_in, inputs_from, graph_block, block_name, loop_name, turn_block, ended}
use Rattle.source.specs.Lowered.{looped}
use Rattle.source.proofs.CountedSources.{inputs_count}
use Rattle.source.proofs.Holding.{holds_whole}
use Rattle.law_language.specs.LoweredWell.{IsGoodSource, AreGood, AreKnown, IsBlockGood, IsSite, IsIncluded, IsWell}
use Rattle.law_language.proofs.LoweredSources.{known_later, region_later}
use Rattle.law_language.proofs.LoweredNames.{each_source}
use Rattle.law_language.proofs.LoweredEnding.{plain_node, inner_held, ended_well}
use Rattle.law_language.proofs.LoweredBlocks.{inputs_good, block_good}

-- the name of a block of a loop
pub is_loop_name : (f : Name) (k h : ℕ) → k ≡ h + 1 → block_name f k ≡ loop_name f k
is_loop_name f zero h e = absurd (omega (arith, e))
is_loop_name f (suc k) h e = refl

-- what is asked of a loop: its names and the outside names, and its bound
pub record IsCarried (bound : ℕ) (xs outs : List Name) : Type 0 where
  pub some : 0 < length xs
  pub few : length xs + length outs ≤ 15
  pub two : 2 ≤ bound
  pub small : bound ≤ 64

module _ (g : Graph) (b : Block Name) (site : Site) (spot : Spot) (scope : Scope) (at bound : ℕ) (xs outs : List Name) (f t : Lowered) where
  abbrev number : ℕ
  number = spot.loops + length f.blocks + 1

  abbrev turn : MadeBlock
  turn = turn_block at number xs outs t

  abbrev pub turn_is : Block Name
  turn_is = (graph_block site.function turn).1

  abbrev sources : List Source
  sources = f.sources ++ map (source_in scope) outs

  abbrev own : Lowered
  own = ended site spot f at (node.Loop (loop_name site.function number) bound) sources (length xs)

  abbrev whole : Lowered
  whole = looped site spot scope at bound xs outs f t

  -- what holds all of it holds its parts
  pub record AreIncluded : Type 0 where
    pub firsts : IsIncluded g b site.function spot.next f
    pub own : IsIncluded g b site.function spot.next own
    pub turn : Contains g.blocks (graph_block site.function turn)
    pub inner : IsIncluded g turn_is site.function (length xs + length outs) t

  pub parts_held : IsIncluded g b site.function spot.next whole → AreIncluded
  parts_held h =
      let blocks = each_append_back (λ mb. Contains g.blocks (graph_block site.function mb)) f.blocks (turn ∷ t.blocks) h.blocks in
      let mine : IsIncluded g b site.function spot.next own = record { lines = h.lines; blocks = blocks.0 } in
      record {
        firsts = inner_held g b site spot f at (node.Loop (loop_name site.function number) bound) sources (length xs) mine;
        own = mine;
        turn = blocks.1.0;
        inner = record { lines = holds_whole turn_is (map node_of t.nodes) refl; blocks = blocks.1.1 };
      }

  -- THE TURN'S BLOCK
  results_count : length t.sources ≡ 1 + length xs → length turn.results ≡ 1 + length xs + length outs
  results_count count =
      let both = length-append t.sources (inputs_from (length xs) (length outs)) in
      let carried = inputs_count (length xs) (length outs) in omega (arith, both, carried, count)

  turn_good : IsCarried bound xs outs → length t.sources ≡ 1 + length xs → IsWell g turn_is site.function Root (length xs + length outs) t
      → IsBlockGood g turn_is
  turn_good c count w =
      let some = c.some in
      let few = c.few in
      let narrow = results_count count in
      let n : ℕ = length xs + length outs in
      block_good g site.function turn (omega (arith, some)) (omega (arith, narrow)) (omega (arith, few)) (omega (arith, narrow, few)) w.nodes
      (each_append (λ s. IsGoodSource g turn_is Root (n + length t.nodes) s) t.sources (inputs_from (length xs) (length outs)) w.sources
      (inputs_good g turn_is (length xs) (length outs) (n + length t.nodes) (omega arith) (omega arith)))

  sources_count : length f.sources ≡ length xs → length sources ≡ length xs + length outs
  sources_count count =
      let both = length-append f.sources (map (source_in scope) outs) in
      let outer = length-map outs (source_in scope) in omega (arith, both, outer, count)

  shape : length f.sources ≡ length xs → length t.sources ≡ 1 + length xs → AreIncluded
      → HasShape g (loop_name site.function number) (length sources) (length sources + 1)
  shape firsts count held =
      let name = is_loop_name site.function number (spot.loops + length f.blocks) refl in
      let all = sources_count firsts in
      let narrow = results_count count in
      (turn_is, subst (λ x. Contains g.blocks (x, turn_is)) name held.turn, sym all, omega (arith, narrow, all))

  -- THE LOOP
  pub looped_well : IsSite g b site spot.next → IsCarried bound xs outs → AreKnown g b site.region spot.next scope outs
      → length f.sources ≡ length xs → length t.sources ≡ 1 + length xs → AreIncluded
      → IsWell g b site.function site.region spot.next f → IsWell g turn_is site.function Root (length xs + length outs) t
      → IsWell g b site.function site.region spot.next whole
  looped_well here c known firsts count held w v =
      let n : ℕ = spot.next + length f.nodes in
      let good : AreGood g b site.region n sources =
      each_append (λ s. IsGoodSource g b site.region n s) f.sources (map (source_in scope) outs) w.sources
      (each_source (λ s. IsGoodSource g b site.region n s) scope outs (known_later g b site.region spot.next n scope outs (omega arith) known)) in
      let line = plain_node g b n site.region (node.Loop (loop_name site.function number) bound) sources
      (region_later b spot.next n site.region (omega arith) here.region) (shape firsts count held, c.two, c.small) (λ h. h) good tt in
      let all = sources_count firsts in
      let mine = ended_well g b site spot f at (node.Loop (loop_name site.function number) bound) sources (length xs) site.region held.own w line
      (λ k h. omega (arith, h, all)) in
      record {
        nodes = mine.nodes;
        sources = mine.sources;
        blocks = each_append _ f.blocks (turn ∷ t.blocks) w.blocks (turn_good c count v, v.blocks);
      }
