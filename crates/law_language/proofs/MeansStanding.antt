-- Parts that are active, in a scene: what is active before and after, at another spot of the same number, and in an arm.
use Rattle.std.proofs.Common.{◌≡◌, ℕ, ◌+◌, Bool, List, [], ◌++◌, map, IsPermutation, sym, subst, arith}
use Rattle.std.proofs.lemmas.List.Sorted.{IsPermutation-refl}
use Rattle.tags.specs.declared.value.Value.{Value}
use Rattle.semantics.specs.declared.graph.Region.TheVariants.{Arm}
use Rattle.semantics.specs.Meaning.{Context}
use Rattle.source.specs.Evaluates.{Stores}
use Rattle.source.specs.Lowered.{Made, MadeBlock, Lowered, Site, Spot, spot_after, arm_site, port}
use Rattle.source.specs.Holds.{Holds}
use Rattle.law_language.specs.MeansHolds.{resolved, AreTraced}
use Rattle.law_language.proofs.MeansRanges.{stores_both}
use Rattle.law_language.proofs.MeansParts.{first_part, rest_part}
use Rattle.law_language.proofs.MeansScene.{Scene, flow, RegionIn, HasIn, StoresIn, ActiveIn}

module _ (z : Scene) (c : Context) where
  pub first_in : (site : Site) (spot : Spot) (l m : Lowered) (ns : List Made) (bs : List MadeBlock) → m.nodes ≡ l.nodes ++ ns → m.blocks ≡ l.blocks ++ bs
      → ActiveIn z c site spot m → ActiveIn z c site spot l
  first_in site spot l m ns bs en eb h = first_part z.program z.graph z.origin z.inputs z.run z.state z.is_run c site spot l m ns bs en eb h

  pub rest_in : (site : Site) (spot : Spot) (l k m : Lowered) → m.nodes ≡ l.nodes ++ k.nodes → m.blocks ≡ l.blocks ++ k.blocks → ActiveIn z c site spot m
      → ActiveIn z c site (spot_after spot l) k
  rest_in site spot l k m en eb h = rest_part z.program z.graph z.origin z.inputs z.run z.state z.is_run c site spot l k m en eb h

  -- how many loops were met says nothing of what is active
  pub stands_at : (site : Site) (spot to : Spot) (l : Lowered) → spot.next ≡ to.next → ActiveIn z c site spot l → ActiveIn z c site to l
  stands_at site spot to l e h = record {
    number = h.number;
    block = h.block;
    is_number = h.is_number;
    is_block = h.is_block;
    due = h.due;
    taken = h.taken;
    trigger = h.trigger;
    triggered = h.triggered;
    lines = subst (λ n. Holds h.block n (map (resolved z.graph) l.nodes)) e h.lines;
    traced = subst (λ n. AreTraced z.origin h.number n l.nodes) e h.traced;
    loops = h.loops;
  }

  -- what is active at an arm that is taken, whose first enter has a value, is active in it
  pub stands_in_arm : (site : Site) (spot : Spot) (l : Lowered) (cond : ℕ) (side : Bool) (h : ActiveIn z c site spot l) → RegionIn z c h.block (Arm cond side)
      → (v : Value) → HasIn z c (port spot.next 0) v → ActiveIn z c (arm_site site cond side spot) spot l
  stands_in_arm site spot l cond side h here_taken v has = record {
    number = h.number;
    block = h.block;
    is_number = h.is_number;
    is_block = h.is_block;
    due = h.due;
    taken = here_taken;
    trigger = v;
    triggered = has;
    lines = h.lines;
    traced = h.traced;
    loops = h.loops;
  }

  -- STORES
  abbrev pub MakesIn : Stores → ℕ → ℕ → Type 0
  MakesIn ss lo hi = IsPermutation ss (StoresIn z c lo hi)

  pub makes_none : (lo hi : ℕ) → StoresIn z c lo hi ≡ [] → MakesIn [] lo hi
  makes_none lo hi e = subst (λ us. IsPermutation [] us) (sym e) (IsPermutation-refl [])

  pub makes_both : (n i j : ℕ) (ss us : Stores) → MakesIn ss n (n + i) → MakesIn us (n + i) (n + i + j) → MakesIn (ss ++ us) n (n + i + j)
  makes_both n i j ss us h k = stores_both (flow z) z.run c n (n + i) (n + i + j) ss us (omega arith) (omega arith) h k

  pub makes_to : (ss : Stores) (lo hi to : ℕ) → hi ≡ to → MakesIn ss lo hi → MakesIn ss lo to
  makes_to ss lo hi to e h = subst (λ hi. MakesIn ss lo hi) e h

  pub makes_same : (ss us : Stores) (lo hi : ℕ) → ss ≡ us → MakesIn ss lo hi → MakesIn us lo hi
  makes_same ss us lo hi e h = subst (λ ss. MakesIn ss lo hi) e h
