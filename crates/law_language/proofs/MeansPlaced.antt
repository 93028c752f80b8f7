-- The blocks of each function are in the graph, at the places of their names.
use Rattle.std.proofs.Common.{◌≡◌, ℕ, zero, suc, ◌+◌, Bool, true, false, List, [], ◌∷◌, ◌++◌, length, map, Some, if◌then◌else◌, refl, sym, subst, arith}
use Rattle.std.specs.Prelude.{slice_get}
use Rattle.std.proofs.lemmas.List.{length-map}
use Rattle.std.proofs.lemmas.Option.{same_Some}
use Rattle.tags.specs.declared.value.Origin.{Origin}
use Rattle.semantics.specs.Graph.{Block, Graph, place_of, same_name, block_names, flow_of}
use Rattle.semantics.specs.WellFormed.{WellFormed}
use Rattle.lemmas.proofs.SliceGet.{map_get}
use Rattle.law_confluence.proofs.OutcomeResolved.{place_get}
use Rattle.source.specs.Tree.{Name, Function, Item, Cells, Defines, Program}
use Rattle.source.specs.Rules.{function_in}
use Rattle.source.specs.Lowered.{MadeBlock, block_name, graph_block, function_blocks, blocks_of, made_blocks, graph_of}
use Rattle.law_language.specs.MeansHolds.{AreTraced, HasBlock, HasBlocks, block_place, block_in}
use Rattle.law_language.specs.MeansTheorem.{PlacesFromOrigins}
use Rattle.law_language.proofs.MeansMainActive.{graph_is}

pub get_left : {X : Type 0} (xs ys : List X) (i : ℕ) (x : X) → slice_get xs i ≡ Some x → slice_get (xs ++ ys) i ≡ Some x
get_left [] ys i x e = cc
get_left (y ∷ xs) ys zero x e = e
get_left (y ∷ xs) ys (suc i) x e = get_left xs ys i x e

get_right : {X : Type 0} (xs ys : List X) (n i : ℕ) (x : X) → n ≡ length xs → slice_get ys i ≡ Some x → slice_get (xs ++ ys) (n + i) ≡ Some x
get_right [] ys n i x l e = let same : i ≡ n + i = omega (arith, l) in subst (λ i. slice_get ys i ≡ Some x) same e
get_right (y ∷ xs) ys zero i x l e = absurd (omega (arith, l))
get_right (y ∷ xs) ys (suc n) i x l e =
    let same : suc (n + i) ≡ suc n + i = omega arith in
    subst (λ i. slice_get (y ∷ (xs ++ ys)) i ≡ Some x) same (get_right xs ys n i x (omega (arith, l)) e)

-- where the blocks of a function are, among those that are made and in the graph
pub record StandsAt (p : Program) (items : List Item) (h : Function) : Type 0 where
  pub from : ℕ
  pub made : (j : ℕ) (b : MadeBlock) → slice_get (function_blocks p h) j ≡ Some b → slice_get (made_blocks p items) (from + j) ≡ Some b
  pub graph : (j : ℕ) (b : MadeBlock) → slice_get (function_blocks p h) j ≡ Some b → slice_get (blocks_of p items) (from + j) ≡ Some (graph_block h.name.name b)

first_stands : (p : Program) (h : Function) (items : List Item) → StandsAt p (Defines h ∷ items) h
first_stands p h items = record {
  from = 0;
  made = λ j b e. get_right [] (function_blocks p h ++ made_blocks p items) 0 j b refl (get_left (function_blocks p h) (made_blocks p items) j b e);
  graph = λ j b e.
      get_right [] (map (graph_block h.name.name) (function_blocks p h) ++ blocks_of p items) 0 j (graph_block h.name.name b) refl
      (get_left (map (graph_block h.name.name) (function_blocks p h)) (blocks_of p items) j (graph_block h.name.name b)
      (map_get (graph_block h.name.name) (function_blocks p h) j b e));
}

later_stands : (p : Program) (k h : Function) (items : List Item) → StandsAt p items h → StandsAt p (Defines k ∷ items) h
later_stands p k h items at =
    let n = length (function_blocks p k) in
    let same : (j : ℕ) → n + (at.from + j) ≡ n + at.from + j = λ j. omega arith in
    record {
      from = n + at.from;
      made = λ j b e.
          subst (λ i. slice_get (made_blocks p (Defines k ∷ items)) i ≡ Some b) (same j)
          (get_right (function_blocks p k) (made_blocks p items) n (at.from + j) b refl (at.made j b e));
      graph = λ j b e.
          subst (λ i. slice_get (blocks_of p (Defines k ∷ items)) i ≡ Some (graph_block h.name.name b)) (same j)
          (get_right (map (graph_block k.name.name) (function_blocks p k)) (blocks_of p items) n (at.from + j) (graph_block h.name.name b)
          (sym (length-map (function_blocks p k) (graph_block k.name.name))) (at.graph j b e));
    }

stands_at : (p : Program) (items : List Item) (f : Name) (h : Function) → function_in items f ≡ Some h → StandsAt p items h
stands_at p [] f h e = cc
stands_at p (Cells x len ∷ items) f h e = let at = stands_at p items f h e in record { from = at.from; made = at.made; graph = at.graph }
stands_at p (Defines k ∷ items) f h e = go (same_name f k.name.name) e (λ e. stands_at p items f h e)
  where
    go : (t : Bool) → (if t then Some k else function_in items f) ≡ Some h → (function_in items f ≡ Some h → StandsAt p items h)
        → StandsAt p (Defines k ∷ items) h
    go true e later = subst (λ h. StandsAt p (Defines k ∷ items) h) (same_Some k h e) (first_stands p k items)
    go false e later = later_stands p k h items (later e)

each_has : (g : Graph) (origin : ℕ → Origin) (f : Name) (bs : List MadeBlock) → ((j : ℕ) (b : MadeBlock) → slice_get bs j ≡ Some b → HasBlock g origin f b)
    → HasBlocks g origin f bs
each_has g origin f [] h = tt
each_has g origin f (b ∷ bs) h = (h 0 b refl, each_has g origin f bs (λ j b e. h (suc j) b e))

module _ (p : Program) (g : Graph) (origin : ℕ → Origin) (is : graph_of p ≡ g) (well : WellFormed g)
    (traced : (i : ℕ) (b : MadeBlock) → slice_get (made_blocks p p) i ≡ Some b → AreTraced origin i b.inputs b.nodes)
    (h : Function) (at : StandsAt p p h) where
  has : (j : ℕ) (b : MadeBlock) → slice_get (function_blocks p h) j ≡ Some b → HasBlock g origin h.name.name b
  has j b e =
      let i = at.from + j in
      let got : slice_get g.blocks i ≡ Some (graph_block h.name.name b) = subst (λ (g : Graph). slice_get g.blocks i ≡ Some (graph_block h.name.name b)) is
      (at.graph j b e) in
      let name = block_name h.name.name b.loop in
      let named = map_get (λ (b : List ℕ × Block (List ℕ)). b.0) g.blocks i (graph_block h.name.name b) got in
      let same : i ≡ block_place g h.name.name b = well.blocks_differ i (place_of name (block_names g)) name named (place_get name (block_names g) i named) in
      record {
        is_there = subst (λ i. slice_get (flow_of g).blocks i ≡ Some (block_in g h.name.name b)) same (map_get _ g.blocks i (graph_block h.name.name b) got);
        traced = subst (λ i. AreTraced origin i b.inputs b.nodes) same (traced i b (at.made j b e));
      }

  pub all_placed : HasBlocks g origin h.name.name (function_blocks p h)
  all_placed = each_has g origin h.name.name (function_blocks p h) has

pub places_from_origins : PlacesFromOrigins
places_from_origins traced p g origin low well f h e =
    all_placed p g origin (graph_is p g low.lowered.graph) well (traced p g origin low) h (stands_at p p f h e)
