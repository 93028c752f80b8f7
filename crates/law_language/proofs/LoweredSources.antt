-- Good sources and lines in good form: further on, one after another, and as the rules of graphs say it.
use Rattle.std.proofs.Common.{◌≡◌, ℕ, ◌+◌, ◌<◌, ◌≤◌, List, [], ◌∷◌, ◌++◌, length, map, Some, All, sym, ap, ◌∙◌, subst, arith, length-append}
use Rattle.std.proofs.lemmas.List.Elements.{All-nil, All-cons}
use Rattle.std.proofs.lemmas.List.{length-map}
use Rattle.lemmas.proofs.Lists.{map_append}
use Rattle.lemmas.proofs.Permutations.{Each, each_append, each_append_back, each_weaker}
use Rattle.semantics.specs.declared.graph.Region.{Region}
use Rattle.semantics.specs.declared.graph.Region.TheVariants.{Root, Arm}
use Rattle.semantics.specs.declared.graph.Source.{Source}
use Rattle.semantics.specs.Graph.{Node, Block, Graph, node_at}
use Rattle.semantics.specs.WellFormed.{region_of, region_in, IsRegion, IsEarlier, HasPortIn, HasPortOf, AllLieIn}
use Rattle.source.specs.Tree.{Name}
use Rattle.source.specs.Holds.{Holds}
use Rattle.source.proofs.Holding.{holds_split}
use Rattle.source.specs.Lowered.{Made, Lowered, Site, Scope, source_in, node_of, port, joined, followed}
use Rattle.law_language.specs.LoweredWell.{HoldsMade, IsGoodSource, AreGood, AreKnown, AreWell, IsSite, IsIncluded, IsWell}

pub all_of_each : {X : Type 0} (P : X → Type 0) (xs : List X) → Each P xs → All P xs
all_of_each P [] h = All-nil P
all_of_each P (x ∷ xs) h = All-cons P x xs h.0 (all_of_each P xs h.1)

-- LINES
pub made_split : (b : Block Name) (n : ℕ) (xs ys : List Made) → HoldsMade b n (xs ++ ys) → HoldsMade b n xs × HoldsMade b (n + length xs) ys
made_split b n xs ys h =
    let s = holds_split b n (map node_of xs) (map node_of ys) (subst (Holds b n) (map_append node_of xs ys) h) in
    let long = length-map xs node_of in (s.0, subst (λ k. Holds b (n + k) (map node_of ys)) long s.1)

-- REGIONS further on
pub region_later : (b : Block Name) (n m : ℕ) (r : Region) → n ≤ m → IsRegion b n r → IsRegion b m r
region_later b n m Root h w = tt
region_later b n m (Arm k side) h w = let low = w.0 in (omega (arith, h, low), w.1)

module _ (g : Graph) (b : Block Name) where
  -- SOURCES further on
  pub good_later : (r : Region) (n m : ℕ) (s : Source) → n ≤ m → IsGoodSource g b r n s → IsGoodSource g b r m s
  good_later r n m s h w = let low = w.earlier.0 in record { earlier = (omega (arith, h, low), w.earlier.1); lies = w.lies }

  pub goods_later : (r : Region) (n m : ℕ) (ss : List Source) → n ≤ m → AreGood g b r n ss → AreGood g b r m ss
  goods_later r n m ss h w = each_weaker (λ s. IsGoodSource g b r n s) (λ s. IsGoodSource g b r m s) (λ s w. good_later r n m s h w) ss w

  pub known_later : (r : Region) (n m : ℕ) (scope : Scope) (xs : List Name) → n ≤ m → AreKnown g b r n scope xs → AreKnown g b r m scope xs
  known_later r n m scope xs h w =
      each_weaker (λ x. IsGoodSource g b r n (source_in scope x)) (λ x. IsGoodSource g b r m (source_in scope x))
      (λ x w. good_later r n m (source_in scope x) h w) xs w

  pub site_later : (site : Site) (n m : ℕ) → n ≤ m → IsSite g b site n → IsSite g b site m
  site_later site n m h w = record { region = region_later b n m site.region h w.region; trigger = good_later site.region n m site.trigger h w.trigger }

  -- as the rules of graphs say it
  pub all_earlier : (r : Region) (n : ℕ) (ss : List Source) → AreGood g b r n ss → All (IsEarlier g b n) ss
  all_earlier r n ss w = all_of_each (IsEarlier g b n) ss (each_weaker (λ s. IsGoodSource g b r n s) (IsEarlier g b n) (λ s w. w.earlier) ss w)

  pub all_lie : (r : Region) (n : ℕ) (ss : List Source) → AreGood g b r n ss → AllLieIn b r ss
  all_lie r n ss w =
      all_of_each (λ (s : Source). region_of b s.node ≡ r) ss
      (each_weaker (λ s. IsGoodSource g b r n s) (λ (s : Source). region_of b s.node ≡ r) (λ s w. w.lies) ss w)

  -- the port of a line
  pub line_source : (r : Region) (n m q : ℕ) (line : Node Name) → node_at b n ≡ Some line → line.region ≡ r → HasPortOf g line.kind q line.sources → n < m
      → IsGoodSource g b r m (port n q)
  line_source r n m q line at lies has low = record {
    earlier = (low, subst (λ o. HasPortIn g o q) (sym at) has);
    lies = ap region_in at ∙ lies;
  }

  -- LISTS OF LINES
  pub well_append : (n : ℕ) (xs ys : List Made) → AreWell g b n xs → AreWell g b (n + length xs) ys → AreWell g b n (xs ++ ys)
  well_append n [] ys h k = subst (λ m. AreWell g b m ys) (omega arith) k
  well_append n (x ∷ xs) ys h k = (h.0, well_append (n + 1) xs ys h.1 (subst (λ m. AreWell g b m ys) (omega arith) k))

  -- PARTS ONE AFTER ANOTHER
  module _ (f : Name) (r : Region) (n : ℕ) (l m : Lowered) where
    long : length (l.nodes ++ m.nodes) ≡ length l.nodes + length m.nodes
    long = length-append l.nodes m.nodes

    pub joined_well : IsWell g b f r n l → IsWell g b f r (n + length l.nodes) m → IsWell g b f r n (joined l m)
    joined_well h k =
        record {
          nodes = well_append n l.nodes m.nodes h.nodes k.nodes;
          sources = each_append (λ s. IsGoodSource g b r (n + length (l.nodes ++ m.nodes)) s) l.sources m.sources
              (goods_later r (n + length l.nodes) (n + length (l.nodes ++ m.nodes)) l.sources (omega (arith, long)) h.sources)
              (goods_later r (n + length l.nodes + length m.nodes) (n + length (l.nodes ++ m.nodes)) m.sources (omega (arith, long)) k.sources);
          blocks = each_append _ l.blocks m.blocks h.blocks k.blocks;
        }

    -- with another region for the first
    pub followed_well : (q : Region) → IsWell g b f q n l → IsWell g b f r (n + length l.nodes) m → IsWell g b f r n (followed l m)
    followed_well q h k =
        record {
          nodes = well_append n l.nodes m.nodes h.nodes k.nodes;
          sources = goods_later r (n + length l.nodes + length m.nodes) (n + length (l.nodes ++ m.nodes)) m.sources (omega (arith, long)) k.sources;
          blocks = each_append _ l.blocks m.blocks h.blocks k.blocks;
        }

    -- what holds both holds each
    pub first_held : IsIncluded g b f n (joined l m) → IsIncluded g b f n l
    first_held h = record { lines = (made_split b n l.nodes m.nodes h.lines).0; blocks = (each_append_back _ l.blocks m.blocks h.blocks).0 }

    pub rest_held : IsIncluded g b f n (joined l m) → IsIncluded g b f (n + length l.nodes) m
    rest_held h = record { lines = (made_split b n l.nodes m.nodes h.lines).1; blocks = (each_append_back _ l.blocks m.blocks h.blocks).1 }
