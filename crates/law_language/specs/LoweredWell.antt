-- WHAT A PART IS LOWERED TO AT A GOOD SITE is in good form, in the block that holds it.
use Rattle.std.specs.Prelude.{◌≡◌, ℕ, Bool, ◌+◌, ◌≤◌, ⊤, List, [], ◌∷◌, map, length, Ok, Contains, FitsSigned}
use Rattle.std.specs.Int.{w64}
use Rattle.lemmas.proofs.Permutations.{Each}
use Rattle.semantics.specs.declared.graph.Region.{Region}
use Rattle.semantics.specs.declared.graph.Source.{Source}
use Rattle.semantics.specs.declared.graph.Kind.{Kind}
use Rattle.semantics.specs.declared.graph.Kind.TheVariants.{Lit, Apply1, Apply2, Cond, Enter, Merge, Fetch, Store, Call, StrictCall, Loop}
use Rattle.semantics.specs.Graph.{Node, Block, Graph}
use Rattle.semantics.specs.WellFormed.{region_of, IsRegion, IsEarlier, IsNodeWell, IsBlockWell}
use Rattle.source.specs.Tree.{Name, Expr, Exprs, Body, Program}
use Rattle.source.specs.Fits.{Fits, FitsAll, FitsBody}
use Rattle.source.specs.Outside.{uses, list_uses, body_uses}
use Rattle.source.specs.Rules.{values, list_values, body_values}
use Rattle.source.specs.Holds.{Holds}
use Rattle.source.specs.Lowered.{Made, MadeBlock, node_of, Lowered, Site, Spot, Scope, source_in, graph_block, lower, lower_list, lower_body}

-- from node n on, the block has these lines
abbrev pub HoldsMade : Block Name → ℕ → List Made → Type 0
HoldsMade b n ms = Holds b n (map node_of ms)

-- a literal is a number of 64 bits
abbrev pub LiteralFits : Kind Name → Type 0
LiteralFits (Lit z) = FitsSigned w64 z
LiteralFits (Apply1 op) = ⊤
LiteralFits (Apply2 op) = ⊤
LiteralFits Cond = ⊤
LiteralFits Enter = ⊤
LiteralFits (Merge k) = ⊤
LiteralFits (Fetch a) = ⊤
LiteralFits (Store a) = ⊤
LiteralFits (Call f) = ⊤
LiteralFits (StrictCall f) = ⊤
LiteralFits (Loop f k) = ⊤

module _ (g : Graph) where
  -- an output port of a node before node n, which lies in that region
  pub record IsGoodSource (b : Block Name) (r : Region) (n : ℕ) (s : Source) : Type 0 where
    pub earlier : IsEarlier g b n s
    pub lies : region_of b s.node ≡ r

  abbrev pub AreGood : Block Name → Region → ℕ → List Source → Type 0
  AreGood b r n ss = Each (λ s. IsGoodSource b r n s) ss

  -- the names stand for such sources
  abbrev pub AreKnown : Block Name → Region → ℕ → Scope → List Name → Type 0
  AreKnown b r n scope xs = Each (λ x. IsGoodSource b r n (source_in scope x)) xs

  -- node n is this line, and in good form
  pub record IsLineWell (b : Block Name) (n : ℕ) (line : Node Name) : Type 0 where
    pub well : IsNodeWell g b n line
    pub literal : LiteralFits line.kind

  abbrev pub AreWell : Block Name → ℕ → List Made → Type 0
  AreWell b n [] = ⊤
  AreWell b n (m ∷ ms) = IsLineWell b n m.node × AreWell b (n + 1) ms

  -- a block in good form, which is as narrow as one with a text
  pub record IsBlockGood (b : Block Name) : Type 0 where
    pub well : IsBlockWell g b
    pub literals : Each (λ (line : Node Name). LiteralFits line.kind) b.nodes
    pub inputs : b.inputs ≤ 16
    pub outputs : b.outputs ≤ 16

  -- these blocks of f are in the graph, and they are in good form
  abbrev pub AreThere : Name → List MadeBlock → Type 0
  AreThere f bs = Each (λ mb. Contains g.blocks (graph_block f mb)) bs

  abbrev pub AreBlocksWell : Name → List MadeBlock → Type 0
  AreBlocksWell f bs = Each (λ mb. IsBlockGood (graph_block f mb).1) bs

  -- THE SITE is good: its region is one, and its trigger lies in it.
  pub record IsSite (b : Block Name) (site : Site) (n : ℕ) : Type 0 where
    pub region : IsRegion b n site.region
    pub trigger : IsGoodSource b site.region n site.trigger

  -- The block has the part's lines, and the graph the blocks of its loops.
  pub record IsIncluded (b : Block Name) (f : Name) (n : ℕ) (l : Lowered) : Type 0 where
    pub lines : HoldsMade b n l.nodes
    pub blocks : AreThere f l.blocks

  -- THE PART is in good form.
  pub record IsWell (b : Block Name) (f : Name) (r : Region) (n : ℕ) (l : Lowered) : Type 0 where
    pub nodes : AreWell b n l.nodes
    pub sources : AreGood b r (n + length l.nodes) l.sources
    pub blocks : AreBlocksWell f l.blocks

  -- THE STATEMENTS, by the kinds of parts
  module _ (p : Program) where
    abbrev pub WellExpr : Expr → Type 0
    WellExpr e = (b : Block Name) (site : Site) (spot : Spot) (scope : Scope) (names : List Name) (n : ℕ)
        → Fits e → values p names e ≡ Ok n
        → IsSite b site spot.next → AreKnown b site.region spot.next scope (uses e)
        → IsIncluded b site.function spot.next (lower p site spot scope e)
        → IsWell b site.function site.region spot.next (lower p site spot scope e)

    abbrev pub WellList : Exprs → Type 0
    WellList es = (b : Block Name) (site : Site) (spot : Spot) (scope : Scope) (names : List Name) (n : ℕ)
        → FitsAll es → list_values p names es ≡ Ok n
        → IsSite b site spot.next → AreKnown b site.region spot.next scope (list_uses es)
        → IsIncluded b site.function spot.next (lower_list p site spot scope es)
        → IsWell b site.function site.region spot.next (lower_list p site spot scope es)

    abbrev pub WellBody : Body → Type 0
    WellBody body = (b : Block Name) (site : Site) (spot : Spot) (scope : Scope) (names : List Name) (n : ℕ) (behind_else : Bool)
        → FitsBody behind_else body → body_values p names body ≡ Ok n
        → IsSite b site spot.next → AreKnown b site.region spot.next scope (body_uses body)
        → IsIncluded b site.function spot.next (lower_body p site spot scope body)
        → IsWell b site.function site.region spot.next (lower_body p site spot scope body)
