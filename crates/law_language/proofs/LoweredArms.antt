-- CONDITIONALS: the enters of an arm, an arm, the merges, and all of it.
use Rattle.std.proofs.Common.{◌≡◌, ℕ, suc, ◌+◌, ◌<◌, ◌≤◌, Bool, true, false, List, [], ◌∷◌, ◌++◌, length, map, All, Some, refl, sym, ap, subst, arith}
use Rattle.std.proofs.Common.{length-append}
use Rattle.std.proofs.lemmas.List.{length-map}
use Rattle.lemmas.proofs.Permutations.{Each, each_append, each_append_back}
use Rattle.semantics.specs.declared.graph.Region.{Region}
use Rattle.semantics.specs.declared.graph.Region.TheVariants.{Arm}
use Rattle.semantics.specs.declared.graph.Source.{Source}
use Rattle.semantics.specs.declared.graph.Kind.TheVariants as node
use Rattle.semantics.specs.Graph.{Node, Block, Graph, node_at}
use Rattle.semantics.specs.WellFormed.{region_of, region_in, IsRegion, IsCond, IsCondNode, HasPortOf, IsEarlier, AllLieIn}
use Rattle.source.specs.Tree.{Name}
use Rattle.source.specs.Lowered.{Made, Lowered, Site, Spot, Scope, source_in, port, inputs_from, made, spot_after, enters, or_predicate, entered_names}
use Rattle.source.specs.Lowered.{arm_site, arm_scope, arm, merges, chosen}
use Rattle.source.proofs.CountedSources.{inputs_count}
use Rattle.law_language.specs.LoweredWell.{HoldsMade, IsGoodSource, AreGood, AreKnown, IsLineWell, AreWell, IsSite, IsIncluded, IsWell}
use Rattle.law_language.proofs.LoweredSources.{all_of_each, made_split, region_later, goods_later, all_earlier, all_lie, line_source, well_append}
use Rattle.law_language.proofs.LoweredSources.{followed_well, first_held, rest_held}
use Rattle.law_language.proofs.LoweredEnding.{plain_node}
use Rattle.source.proofs.NamesUsed.{AreIn}
use Rattle.law_language.proofs.LoweredNames.{known_in, each_source}

-- lines with one port each, in one region
pub record HasOnePort (g : Graph) (r : Region) (m : Made) : Type 0 where
  pub region : m.node.region ≡ r
  pub port : HasPortOf g m.node.kind 0 m.node.sources

module _ (g : Graph) (b : Block Name) where
  pub one_ports : (r : Region) (n : ℕ) (ms : List Made) → HoldsMade b n ms → Each (λ m. HasOnePort g r m) ms
      → AreGood g b r (n + length ms) (inputs_from n (length ms))
  one_ports r n [] h w = tt
  one_ports r n (m ∷ ms) h w = (
    line_source g b r n (n + suc (length ms)) 0 m.node h.0 w.0.region w.0.port (omega arith),
    goods_later g b r (n + 1 + length ms) (n + suc (length ms)) (inputs_from (n + 1) (length ms)) (omega arith) (one_ports r (n + 1) ms h.1 w.1),
  )

  -- a conditional, whose region is r
  pub record IsCondIn (r : Region) (cond n : ℕ) : Type 0 where
    pub earlier : cond < n
    pub is : IsCond b cond
    pub region : region_of b cond ≡ r

  pub cond_later : (r : Region) (cond n m : ℕ) → n ≤ m → IsCondIn r cond n → IsCondIn r cond m
  cond_later r cond n m h c = let low = c.earlier in record { earlier = omega (arith, h, low); is = c.is; region = c.region }

  -- ENTERS
  module _ (here : Site) (cond : ℕ) (side : Bool) (r : Region) (at : ℕ) (is : here.region ≡ Arm cond side) where
    abbrev enter : Source → Made
    enter s = made here at node.Enter (s ∷ [])

    enter_node : (n : ℕ) (s : Source) → IsCondIn r cond n → IsGoodSource g b r n s → IsLineWell g b n (enter s).node
    enter_node n s c w =
        subst (λ q. IsLineWell g b n (record { region = q; kind = node.Enter; sources = s ∷ [] })) (sym is) (record {
          well = record {
            region = (c.earlier, c.is);
            names = refl;
            earlier = all_earlier g b r n (s ∷ []) (w, tt);
            lies = (λ e. cc, subst (λ q. AllLieIn b q (s ∷ [])) (sym c.region) (all_lie g b r n (s ∷ []) (w, tt)));
          };
          literal = tt;
        })

    enter_nodes : (n : ℕ) (ss : List Source) → IsCondIn r cond n → AreGood g b r n ss → AreWell g b n (map enter ss)
    enter_nodes n [] c w = tt
    enter_nodes n (s ∷ ss) c w =
        (enter_node n s c w.0, enter_nodes (n + 1) ss (cond_later r cond n (n + 1) (omega arith) c) (goods_later g b r n (n + 1) ss (omega arith) w.1))

    enter_ports : (ss : List Source) → Each (λ m. HasOnePort g (Arm cond side) m) (map enter ss)
    enter_ports [] = tt
    enter_ports (s ∷ ss) = (record { region = is; port = refl }, enter_ports ss)

    pub enters_well : (spot : Spot) (ss : List Source) → IsCondIn r cond spot.next → AreGood g b r spot.next ss
        → IsIncluded g b here.function spot.next (enters here spot at ss) → IsWell g b here.function (Arm cond side) spot.next (enters here spot at ss)
    enters_well spot ss c w h =
        let long : length (map enter ss) ≡ length ss = length-map ss enter in
        record {
          nodes = enter_nodes spot.next ss c w;
          sources = subst (λ k. AreGood g b (Arm cond side) (spot.next + length (map enter ss)) (inputs_from spot.next k)) long
              (one_ports (Arm cond side) spot.next (map enter ss) h.lines (enter_ports ss));
          blocks = tt;
        }

  -- ARMS
  some_source : (q : Source) (ss : List Source) → (s : Source) × (us : List Source) × (or_predicate q ss ≡ s ∷ us) × (length ss ≤ length (or_predicate q ss))
  some_source q [] = (q, [], refl, omega arith)
  some_source q (s ∷ ss) = (s, ss, refl, omega arith)

  good_or_predicate : (r : Region) (n : ℕ) (q : Source) (ss : List Source) → IsGoodSource g b r n q → AreGood g b r n ss → AreGood g b r n (or_predicate q ss)
  good_or_predicate r n q [] w h = (w, tt)
  good_or_predicate r n q (s ∷ ss) w h = h

  first_input : (r : Region) (m n : ℕ) (ss us : List Source) (s : Source) → ss ≡ s ∷ us → AreGood g b r m (inputs_from n (length ss))
      → IsGoodSource g b r m (port n 0)
  first_input r m n ss us s e w = (subst (λ ss. AreGood g b r m (inputs_from n (length ss))) e w).0

  module _ (site : Site) (cond : ℕ) (side : Bool) (spot : Spot) (at : ℕ) (scope : Scope) (predicate : Source) (xs : List Name)
      (c : IsCondIn site.region cond spot.next) (predicate_good : IsGoodSource g b site.region spot.next predicate)
      (known : AreKnown g b site.region spot.next scope xs) where
    abbrev here : Site
    here = arm_site site cond side spot

    abbrev gates : Lowered
    gates = entered_names here spot at scope predicate xs

    abbrev sources : List Source
    sources = or_predicate predicate (map (source_in scope) xs)

    pub gates_well : IsIncluded g b site.function spot.next gates → IsWell g b site.function (Arm cond side) spot.next gates
    gates_well h =
        enters_well here cond side site.region at refl spot sources c
        (good_or_predicate site.region spot.next predicate (map (source_in scope) xs) predicate_good
        (each_source (λ s. IsGoodSource g b site.region spot.next s) scope xs known)) h

    inner_site : IsIncluded g b site.function spot.next gates → IsSite g b here (spot_after spot gates).next
    inner_site h =
        let some = some_source predicate (map (source_in scope) xs) in
        record {
          region = region_later b spot.next (spot_after spot gates).next (Arm cond side) (omega arith) (c.earlier, c.is);
          trigger = first_input (Arm cond side) (spot_after spot gates).next spot.next sources some.1 some.0 some.2 (gates_well h).sources;
        }

    inner_known : (ys : List Name) → AreIn xs ys → IsIncluded g b site.function spot.next gates
        → AreKnown g b (Arm cond side) (spot_after spot gates).next (arm_scope gates xs) ys
    inner_known ys i h =
        let many = (some_source predicate (map (source_in scope) xs)).3 in
        let long = length-map xs (source_in scope) in
        let count = inputs_count spot.next (length sources) in
        known_in (λ s. IsGoodSource g b (Arm cond side) (spot_after spot gates).next s) xs gates.sources [] (gates_well h).sources
        (omega (arith, many, long, count)) ys i

    pub arm_well : (ys : List Name) (body : Site → Spot → Scope → Lowered) → AreIn xs ys
        → (IsSite g b here (spot_after spot gates).next → AreKnown g b (Arm cond side) (spot_after spot gates).next (arm_scope gates xs) ys
        → IsIncluded g b site.function (spot_after spot gates).next (body here (spot_after spot gates) (arm_scope gates xs))
        → IsWell g b site.function (Arm cond side) (spot_after spot gates).next (body here (spot_after spot gates) (arm_scope gates xs)))
        → IsIncluded g b site.function spot.next (arm site cond side spot at scope predicate xs body)
        → IsWell g b site.function (Arm cond side) spot.next (arm site cond side spot at scope predicate xs body)
    arm_well ys body i inner h =
        let l : Lowered = body here (spot_after spot gates) (arm_scope gates xs) in
        let first = first_held g b site.function (Arm cond side) spot.next gates l (record { lines = h.lines; blocks = h.blocks }) in
        let rest = rest_held g b site.function (Arm cond side) spot.next gates l (record { lines = h.lines; blocks = h.blocks }) in
        followed_well g b site.function (Arm cond side) spot.next gates l (Arm cond side) (gates_well first)
        (inner (inner_site first) (inner_known ys i first) rest)

  -- MERGES
  module _ (site : Site) (at cond : ℕ) where
    abbrev merge : Source → Source → Made
    merge s t = made site at (node.Merge cond) (s ∷ t ∷ [])

    merge_node : (n : ℕ) (s t : Source) → IsRegion b n site.region → IsCondIn site.region cond n → IsGoodSource g b (Arm cond true) n s
        → IsGoodSource g b (Arm cond false) n t → IsLineWell g b n (merge s t).node
    merge_node n s t region c w v = record {
      well = record {
        region = region;
        names = refl;
        earlier = both s t w.earlier v.earlier;
        lies = (c.earlier, c.is, c.region, w.lies, v.lies);
      };
      literal = tt;
    }
      where
        both : (s t : Source) → IsEarlier g b n s → IsEarlier g b n t → All (IsEarlier g b n) (s ∷ t ∷ [])
        both s t x y = all_of_each (IsEarlier g b n) (s ∷ t ∷ []) (x, (y, tt))

    merge_nodes : (n : ℕ) (ss ts : List Source) → IsRegion b n site.region → IsCondIn site.region cond n → AreGood g b (Arm cond true) n ss
        → AreGood g b (Arm cond false) n ts → AreWell g b n (merges site at cond ss ts)
    merge_nodes n [] [] region c w v = tt
    merge_nodes n [] (t ∷ ts) region c w v = tt
    merge_nodes n (s ∷ ss) [] region c w v = tt
    merge_nodes n (s ∷ ss) (t ∷ ts) region c w v = (
      merge_node n s t region c w.0 v.0,
      merge_nodes (n + 1) ss ts (region_later b n (n + 1) site.region (omega arith) region) (cond_later site.region cond n (n + 1) (omega arith) c)
          (goods_later g b (Arm cond true) n (n + 1) ss (omega arith) w.1) (goods_later g b (Arm cond false) n (n + 1) ts (omega arith) v.1),
    )

    merge_ports : (ss ts : List Source) → Each (λ m. HasOnePort g site.region m) (merges site at cond ss ts)
    merge_ports [] [] = tt
    merge_ports [] (t ∷ ts) = tt
    merge_ports (s ∷ ss) [] = tt
    merge_ports (s ∷ ss) (t ∷ ts) = (record { region = refl; port = refl }, merge_ports ss ts)

  -- ALL OF A CONDITIONAL
  module _ (site : Site) (spot : Spot) (at : ℕ) (predicate : List Source) (l r : Lowered) where
    abbrev whole : Lowered
    whole = chosen site spot at predicate l r

    abbrev joins : List Made
    joins = merges site at spot.next l.sources r.sources

    abbrev cond_line : Node Name
    cond_line = record { region = site.region; kind = node.Cond; sources = predicate }

    pub record AreIncluded : Type 0 where
      pub cond : node_at b spot.next ≡ Some cond_line
      pub left : IsIncluded g b site.function (spot.next + 1) l
      pub right : IsIncluded g b site.function (spot.next + 1 + length l.nodes) r
      pub merges : HoldsMade b (spot.next + 1 + length l.nodes + length r.nodes) joins

    pub parts_held : IsIncluded g b site.function spot.next whole → AreIncluded
    parts_held h =
        let both = length-append l.nodes r.nodes in
        let lines = made_split b (spot.next + 1) (l.nodes ++ r.nodes) joins h.lines.1 in
        let arms = made_split b (spot.next + 1) l.nodes r.nodes lines.0 in
        let behind : spot.next + 1 + length (l.nodes ++ r.nodes) ≡ spot.next + 1 + length l.nodes + length r.nodes = omega (arith, both) in
        let blocks = each_append_back _ l.blocks r.blocks h.blocks in
        record {
          cond = h.lines.0;
          left = record { lines = arms.0; blocks = blocks.0 };
          right = record { lines = arms.1; blocks = blocks.1 };
          merges = subst (λ n. HoldsMade b n joins) behind lines.1;
        }

    pub cond_is : AreIncluded → IsCondIn site.region spot.next (spot.next + 1)
    cond_is h = record { earlier = omega arith; is = subst IsCondNode (sym h.cond) refl; region = ap region_in h.cond }

    pub chosen_well : IsRegion b spot.next site.region → AreGood g b site.region spot.next predicate → length predicate ≡ 1 → AreIncluded
        → IsWell g b site.function (Arm spot.next true) (spot.next + 1) l
        → IsWell g b site.function (Arm spot.next false) (spot.next + 1 + length l.nodes) r
        → IsWell g b site.function site.region spot.next whole
    chosen_well region w one held x y =
        let n : ℕ = spot.next in
        let k : ℕ = n + 1 + length l.nodes in
        let m : ℕ = k + length r.nodes in
        let both : length (l.nodes ++ r.nodes) ≡ length l.nodes + length r.nodes = length-append l.nodes r.nodes in
        let long : length (l.nodes ++ r.nodes ++ joins) ≡ length (l.nodes ++ r.nodes) + length joins = length-append (l.nodes ++ r.nodes) joins in
        let behind : m ≡ n + 1 + length (l.nodes ++ r.nodes) = omega (arith, both) in
        record {
          nodes = (
            plain_node g b n site.region node.Cond predicate region one (λ h. h) w tt,
            well_append g b (n + 1) (l.nodes ++ r.nodes) joins (well_append g b (n + 1) l.nodes r.nodes x.nodes y.nodes)
                (subst (λ i. AreWell g b i joins) behind
                (merge_nodes site at n m l.sources r.sources (region_later b n m site.region (omega arith) region)
                (cond_later site.region n (n + 1) m (omega arith) (cond_is held))
                (goods_later g b (Arm n true) k m l.sources (omega arith) x.sources) y.sources)),
          );
          sources = goods_later g b site.region (m + length joins) (n + length whole.nodes) (inputs_from m (length joins)) (omega (arith, both, long))
              (one_ports site.region m joins held.merges (merge_ports site at n l.sources r.sources));
          blocks = each_append _ l.blocks r.blocks x.blocks y.blocks;
        }
