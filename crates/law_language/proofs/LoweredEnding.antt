-- A part that ends with a node of its own.
use Rattle.std.proofs.Common.{◌≡◌, ℕ, zero, suc, ◌+◌, ◌<◌, List, [], ◌∷◌, ◌++◌, length, Some, refl, arith, length-append}
use Rattle.semantics.specs.declared.graph.Region.{Region}
use Rattle.semantics.specs.declared.graph.Source.{Source}
use Rattle.semantics.specs.declared.graph.Kind.{Kind}
use Rattle.semantics.specs.Graph.{Node, Block, Graph, node_at}
use Rattle.semantics.specs.WellFormed.{IsRegion, HasPortOf, NamesWell, AllLieIn, LiesWell}
use Rattle.source.specs.Tree.{Name}
use Rattle.source.specs.Lowered.{Lowered, Site, Spot, ports_from, only, made, ended}
use Rattle.law_language.specs.LoweredWell.{LiteralFits, AreGood, IsLineWell, IsIncluded, IsWell}
use Rattle.law_language.proofs.LoweredSources.{made_split, goods_later, all_earlier, all_lie, line_source, well_append}

module _ (g : Graph) (b : Block Name) where
  -- nothing but sources
  pub only_well : (f : Name) (r : Region) (n : ℕ) (ss : List Source) → AreGood g b r n ss → IsWell g b f r n (only ss)
  only_well f r n ss w = record { nodes = tt; sources = goods_later g b r n (n + 0) ss (omega arith) w; blocks = tt }

  -- a node whose sources lie where it does
  pub plain_node : (n : ℕ) (r : Region) (kind : Kind Name) (ss : List Source) → IsRegion b n r → NamesWell g kind (length ss)
      → (AllLieIn b r ss → LiesWell b n r kind ss) → AreGood g b r n ss → LiteralFits kind → IsLineWell g b n (record { region = r; kind = kind; sources = ss })
  plain_node n r kind ss region names lie w fits = record {
    well = record { region = region; names = names; earlier = all_earlier g b r n ss w; lies = lie (all_lie g b r n ss w) };
    literal = fits;
  }

  -- the ports of a line
  pub ports_good : (r : Region) (n m q count : ℕ) (line : Node Name) → node_at b n ≡ Some line → line.region ≡ r
      → ((k : ℕ) → k < q + count → HasPortOf g line.kind k line.sources) → n < m → AreGood g b r m (ports_from n q count)
  ports_good r n m q zero line at lies has low = tt
  ports_good r n m q (suc count) line at lies has low =
      (line_source g b r n m q line at lies (has q (omega arith)) low, ports_good r n m (q + 1) count line at lies (λ k h. has k (omega (arith, h))) low)

  module _ (site : Site) (spot : Spot) (l : Lowered) (at : ℕ) (kind : Kind Name) (ss : List Source) (values : ℕ) where
    abbrev own : Lowered
    own = ended site spot l at kind ss values

    abbrev last : ℕ
    last = spot.next + length l.nodes

    abbrev own_line : Node Name
    own_line = record { region = site.region; kind = kind; sources = ss }

    pub inner_held : IsIncluded g b site.function spot.next own → IsIncluded g b site.function spot.next l
    inner_held h = record { lines = (made_split b spot.next l.nodes (made site at kind ss ∷ []) h.lines).0; blocks = h.blocks }

    pub line_held : IsIncluded g b site.function spot.next own → node_at b last ≡ Some own_line
    line_held h = (made_split b spot.next l.nodes (made site at kind ss ∷ []) h.lines).1.0

    pub ended_well : (q : Region) → IsIncluded g b site.function spot.next own → IsWell g b site.function q spot.next l → IsLineWell g b last own_line
        → ((k : ℕ) → k < values → HasPortOf g kind k ss) → IsWell g b site.function site.region spot.next own
    ended_well q held h line has =
        let long : length (l.nodes ++ made site at kind ss ∷ []) ≡ length l.nodes + 1 = length-append l.nodes (made site at kind ss ∷ []) in
        record {
          nodes = well_append g b spot.next l.nodes (made site at kind ss ∷ []) h.nodes (line, tt);
          sources = ports_good site.region last (spot.next + length (l.nodes ++ made site at kind ss ∷ [])) 0 values own_line (line_held held) refl
              (λ k h. has k (omega (arith, h))) (omega (arith, long));
          blocks = h.blocks;
        }
