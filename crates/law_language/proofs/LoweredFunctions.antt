-- FUNCTIONS of a good program, and all blocks of its graph.
use Rattle.std.proofs.Common.{◌≡◌, ℕ, ◌<◌, ◌≤◌, ◌==◌, Bool, true, false, List, [], ◌∷◌, length, map, is_some, Some, Ok, if◌then◌else◌, refl, sym, subst, arith}
use Rattle.std.proofs.Common.{Contains}
use Rattle.std.specs.Prelude.{⊤}
use Rattle.std.proofs.lemmas.List.{length-map}
use Rattle.std.proofs.lemmas.List.Elements.{Contains-append_left, Contains-append_right}
use Rattle.std.proofs.lemmas.Option.{same_Some}
use Rattle.lemmas.proofs.Contains.{contains_head, contains_tail}
use Rattle.lemmas.proofs.Permutations.{Each, each_append, each_map}
use Rattle.semantics.specs.declared.graph.Region.TheVariants.{Root}
use Rattle.semantics.specs.Graph.{Block, Graph, same_name, array_names}
use Rattle.semantics.specs.WellFormed.{HasShape}
use Rattle.semantics.proofs.Lines.{same_name_is}
use Rattle.source.specs.declared.fault.FaultKind.TheVariants.{Arity, NoMain}
use Rattle.source.specs.Tree.{Name, NameAt, Function, Item, Cells, Defines, Program}
use Rattle.source.specs.Fits.{FitsBody, FitsProgram}
use Rattle.source.specs.Outside.{bare, body_uses}
use Rattle.source.specs.First.{◌>>=◌, must}
use Rattle.source.specs.Rules.{array_in, function_in, main_name, written_or_one, Heads, no_items, head, heads, body_values, new_names, function_checked}
use Rattle.source.specs.Rules.{functions_checked}
use Rattle.source.specs.Counts.{IsGood}
use Rattle.source.specs.Lowered.{MadeBlock, node_of, Lowered, Spot, inputs_from, turn_site, lower_body, function_scope, function_blocks, graph_block, blocks_of}
use Rattle.source.specs.Lowered.{arrays_of, graph_of}
use Rattle.source.proofs.Steps.{then_ok, must_ok, ok_as}
use Rattle.source.proofs.Kept.{test_ok}
use Rattle.source.proofs.CountedSources.{inputs_count}
use Rattle.law_language.specs.LoweredWell.{IsGoodSource, AreThere, AreBlocksWell, IsBlockGood, IsSite, IsIncluded}
use Rattle.source.proofs.Holding.{holds_whole}
use Rattle.source.proofs.Counting.{body_count}
use Rattle.source.proofs.NamesUsed.{body_used}
use Rattle.law_language.proofs.LoweredNames.{known_in}
use Rattle.law_language.proofs.LoweredHeads.{function_head}
use Rattle.law_language.proofs.LoweredBlocks.{input_good, inputs_good, block_good}
use Rattle.law_language.proofs.LoweredParts.{body_well}

-- what the rules say of a function
pub record IsFunctionGood (p : Program) (h : Function) : Type 0 where
  pub some : 0 < length h.params
  pub few : length h.params ≤ 16
  pub one : 1 ≤ written_or_one h.results
  pub narrow : written_or_one h.results ≤ 16
  pub fits : FitsBody false h.body
  pub values : body_values p (bare h.params) h.body ≡ Ok (written_or_one h.results)

abbrev pub AreFunctionsGood : Program → List Item → Type 0
AreFunctionsGood p [] = ⊤
AreFunctionsGood p (Cells x len ∷ items) = AreFunctionsGood p items
AreFunctionsGood p (Defines h ∷ items) = IsFunctionGood p h × AreFunctionsGood p items

checked_values : (p : Program) (h : Function) → function_checked p h ≡ Ok tt → body_values p (bare h.params) h.body ≡ Ok (written_or_one h.results)
checked_values p f h =
    let s = then_ok (new_names p [] f.params) (λ new. body_values p (bare f.params) f.body >>= (λ n. must (n == written_or_one f.results) Arity f.body_at))
    tt h in
    let t = then_ok (body_values p (bare f.params) f.body) (λ n. must (n == written_or_one f.results) Arity f.body_at) tt s.2 in
    ok_as (body_values p (bare f.params) f.body) t.0 (written_or_one f.results) t.1 (test_ok t.0 (written_or_one f.results) Arity f.body_at tt t.2)

functions_good : (p : Program) (before after : Heads) (items : List Item) → FitsProgram items → heads before items ≡ Ok after
    → functions_checked p items ≡ Ok tt
    → AreFunctionsGood p items
functions_good p before after [] fits e c = tt
functions_good p before after (Cells x len ∷ items) fits e c =
    let s = then_ok (head before (Cells x len)) (λ next. heads next items) after e in functions_good p s.0 after items fits.1 s.2 c
functions_good p before after (Defines h ∷ items) fits e c =
    let s = then_ok (head before (Defines h)) (λ next. heads next items) after e in
    let k = function_head before s.0 h s.1 in
    let t = then_ok (function_checked p h) (λ good. functions_checked p items) tt c in (
      record { some = fits.0.0; few = k.few; one = k.one; narrow = k.narrow; fits = fits.0.2; values = checked_values p h t.1 },
      functions_good p s.0 after items fits.1 s.2 t.2,
    )

-- A GOOD PROGRAM, taken apart
pub record IsTakenApart (p : Program) : Type 0 where
  pub after : Heads
  pub heads : heads no_items p ≡ Ok after
  pub main : is_some (function_in p main_name) ≡ true
  pub functions : AreFunctionsGood p p

pub taken_apart : (p : Program) → IsGood p → IsTakenApart p
taken_apart p good =
    let s = then_ok (heads no_items p) (λ all. must (is_some (function_in p main_name)) NoMain good.end >>= (λ main. functions_checked p p)) tt good.checked in
    let t = then_ok (must (is_some (function_in p main_name)) NoMain good.end) (λ main. functions_checked p p) tt s.2 in
    record {
      after = s.0;
      heads = s.1;
      main = must_ok (is_some (function_in p main_name)) NoMain good.end t.0 t.1;
      functions = functions_good p no_items s.0 p good.fits s.1 t.2;
    }

-- A FUNCTION that a name stands for
abbrev pub main_spot : Function → Spot
main_spot h = record { next = length h.params; loops = 0 }

abbrev pub body_lowered : Program → Function → Lowered
body_lowered p h = lower_body p (turn_site h.name.name) (main_spot h) (function_scope h) h.body

abbrev pub own_block : Program → Function → MadeBlock
own_block p h = record { at = h.name.at; loop = 0; inputs = length h.params; nodes = (body_lowered p h).nodes; results = (body_lowered p h).sources }

pub record IsNamed (p : Program) (items : List Item) (f : Name) (h : Function) : Type 0 where
  pub good : IsFunctionGood p h
  pub name : f ≡ h.name.name
  pub there : Contains (blocks_of p items) (graph_block h.name.name (own_block p h))

later_named : (p : Program) (k : Function) (items : List Item) (f : Name) (h : Function) → IsNamed p items f h → IsNamed p (Defines k ∷ items) f h
later_named p k items f h n = record {
  good = n.good;
  name = n.name;
  there = Contains-append_right (map (graph_block k.name.name) (function_blocks p k)) (blocks_of p items) (graph_block h.name.name (own_block p h)) n.there;
}

first_named : (p : Program) (k : Function) (items : List Item) (f : Name) → IsFunctionGood p k → f ≡ k.name.name → IsNamed p (Defines k ∷ items) f k
first_named p k items f good e = record {
  good = good;
  name = e;
  there = Contains-append_left (map (graph_block k.name.name) (function_blocks p k)) (blocks_of p items) (graph_block k.name.name (own_block p k))
      (contains_head (graph_block k.name.name (own_block p k)) (map (graph_block k.name.name) (body_lowered p k).blocks));
}

pub function_named : (p : Program) (items : List Item) (f : Name) (h : Function) → AreFunctionsGood p items → function_in items f ≡ Some h → IsNamed p items f h
function_named p [] f h all e = cc
function_named p (Cells x len ∷ items) f h all e =
    let n = function_named p items f h all e in record { good = n.good; name = n.name; there = n.there }
function_named p (Defines k ∷ items) f h all e = go (same_name f k.name.name) refl e (λ e. function_named p items f h all.1 e)
  where
    go : (t : Bool) → same_name f k.name.name ≡ t → (if t then Some k else function_in items f) ≡ Some h → (function_in items f ≡ Some h → IsNamed p items f h)
        → IsNamed p (Defines k ∷ items) f h
    go true s e later = subst (λ h. IsNamed p (Defines k ∷ items) f h) (same_Some k h e) (first_named p k items f all.0 (same_name_is f k.name.name s))
    go false s e later = later_named p k items f h (later e)

pub is_called : (p : Program) → AreFunctionsGood p p → (f : Name) (h : Function) → function_in p f ≡ Some h
    → HasShape (graph_of p) f (length h.params) (written_or_one h.results)
is_called p all f h e =
    let n = function_named p p f h all e in
    let count = body_count p (turn_site h.name.name) (main_spot h) (function_scope h) h.body (bare h.params) (written_or_one h.results) n.good.values in (
      (graph_block h.name.name (own_block p h)).1,
      subst (λ x. Contains (blocks_of p p) (x, (graph_block h.name.name (own_block p h)).1)) (sym n.name)
          n.there,
      refl,
      count,
    )

-- ARRAYS
pub is_array : (items : List Item) (a : Name) → is_some (array_in items a) ≡ true → Contains (map (λ (x : List ℕ × ℕ). x.0) (arrays_of items)) a
is_array [] a h = cc
is_array (Defines k ∷ items) a h = is_array items a h
is_array (Cells x len ∷ items) a h = go (same_name a x.name) refl h (λ h. is_array items a h)
  where
    names : List Name
    names = map (λ (x : List ℕ × ℕ). x.0) (arrays_of items)

    go : (t : Bool) → same_name a x.name ≡ t → is_some (if t then Some len.number else array_in items a) ≡ true
        → (is_some (array_in items a) ≡ true → Contains names a)
        → Contains (x.name ∷ names) a
    go true s e later = subst (λ y. Contains (y ∷ names) a) (same_name_is a x.name s) (contains_head a names)
    go false s e later = contains_tail x.name names a (later e)

-- THE BLOCKS
module _ (p : Program) (g : Graph) (is : graph_of p ≡ g) (all : AreFunctionsGood p p) where
  called : (f : Name) (h : Function) → function_in p f ≡ Some h → HasShape g f (length h.params) (written_or_one h.results)
  called f h e = subst (λ g. HasShape g f (length h.params) (written_or_one h.results)) is (is_called p all f h e)

  arrays : (a : Name) → is_some (array_in p a) ≡ true → Contains (array_names g) a
  arrays a h = subst (λ (g : Graph). Contains (array_names g) a) is (is_array p a h)

  blocks_good : (h : Function) → IsFunctionGood p h → AreThere g h.name.name (function_blocks p h) → AreBlocksWell g h.name.name (function_blocks p h)
  blocks_good h good there =
      let f : Name = h.name.name in
      let mb : MadeBlock = own_block p h in
      let b : Block Name = (graph_block f mb).1 in
      let n : ℕ = length h.params in
      let l : Lowered = body_lowered p h in
      let some = good.some in
      let long : length (bare h.params) ≡ n = length-map h.params (λ (x : NameAt). x.name) in
      let as_many : length (bare h.params) ≤ length (inputs_from 0 n) = omega (arith, long, inputs_count 0 n) in
      let site : IsSite g b (turn_site f) n = record { region = tt; trigger = input_good g b 0 n (omega (arith, some)) (omega (arith, some)) } in
      let known = known_in (λ s. IsGoodSource g b Root n s) (bare h.params) (inputs_from 0 n) [] (inputs_good g b 0 n n (omega arith) (omega arith)) as_many
      (body_uses h.body) (body_used p (bare h.params) h.body (written_or_one h.results) good.values) in
      let held : IsIncluded g b f n l = record { lines = holds_whole b (map node_of l.nodes) refl; blocks = there.1 } in
      let w = body_well p g called arrays h.body b (turn_site f) (main_spot h) (function_scope h) (bare h.params) (written_or_one h.results) false
      good.fits good.values site known held in
      let count : length l.sources ≡ written_or_one h.results = body_count p (turn_site f) (main_spot h) (function_scope h) h.body (bare h.params)
      (written_or_one h.results) good.values in
      let one = good.one in
      let narrow = good.narrow in
      (block_good g f mb some (omega (arith, one, count)) good.few (omega (arith, narrow, count)) w.nodes w.sources, w.blocks)

  all_there : (f : Name) (bs : List MadeBlock) → ((x : Name × Block Name) → Contains (map (graph_block f) bs) x → Contains g.blocks x) → AreThere g f bs
  all_there f [] h = tt
  all_there f (b ∷ bs) h = (
    h (graph_block f b) (contains_head (graph_block f b) (map (graph_block f) bs)),
    all_there f bs (λ x c. h x (contains_tail (graph_block f b) (map (graph_block f) bs) x c)),
  )

  items_good : (items : List Item) → AreFunctionsGood p items → ((x : Name × Block Name) → Contains (blocks_of p items) x → Contains g.blocks x)
      → Each (λ (x : Name × Block Name). IsBlockGood g x.1) (blocks_of p items)
  items_good [] good there = tt
  items_good (Cells x len ∷ items) good there = items_good items good there
  items_good (Defines h ∷ items) good there =
      let f : Name = h.name.name in
      let own : List (Name × Block Name) = map (graph_block f) (function_blocks p h) in
      let rest : List (Name × Block Name) = blocks_of p items in
      each_append (λ (x : Name × Block Name). IsBlockGood g x.1) own rest
      (each_map (λ (x : Name × Block Name). IsBlockGood g x.1) (graph_block f) (function_blocks p h)
      (blocks_good h good.0 (all_there f (function_blocks p h) (λ x c. there x (Contains-append_left own rest x c)))))
      (items_good items good.1 (λ x c. there x (Contains-append_right own rest x c)))

  pub all_good : Each (λ (x : Name × Block Name). IsBlockGood g x.1) g.blocks
  all_good =
      subst (λ (g' : Graph). Each (λ (x : Name × Block Name). IsBlockGood g x.1) g'.blocks) is
      (items_good p all (λ x c. subst (λ (g : Graph). Contains g.blocks x) is c))
