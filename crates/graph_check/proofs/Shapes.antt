-- Names that occur once, and what has a name.
use Rattle.std.proofs.Common.{◌≡◌, ℕ, zero, suc, ◌+◌, ◌<◌, Bool, true, false, List, [], ◌∷◌, length, take, Option, Some, None, Contains, nat_lt}
use Rattle.std.proofs.Common.{if◌then◌else◌, refl, sym, ap, ap₂, ◌∙◌, subst, arith, ltb-true, ltb-false, lt-ltb}
use Rattle.std.specs.Prelude.{slice_get}
use Rattle.std.proofs.lemmas.Option.{slice_get_within}
use Rattle.lemmas.proofs.Contains.{contains_get, get_contains}
use Rattle.lemmas.proofs.SliceGet.{map_get}
use Rattle.semantics.specs.Graph.{Block, Graph, same_name, place_of, block_names}
use Rattle.semantics.specs.WellFormed.{AllDiffer, HasShape}
use Rattle.semantics.proofs.Lines.{same_name_is}
use Rattle.graph_check.specs.declared.faults.CheckFaultKind.TheVariants.{SameName}
use Rattle.graph_check.specs.Names.{is_name, place_if}
use Rattle.graph_check.specs.FirstFault.{first_in, repeat_fault, array_name_fault, block_name_fault, shape_in, shape_of}
use Rattle.graph_check.proofs.Places.{same_name_of, found_from, place_found}
use Rattle.graph_check.proofs.NoFault.{first_none, first_yes, fault_at_none, none_at}

-- ---- a name is at its place

found_some : (n : ℕ) (name : List ℕ) (xs : List (List ℕ)) (p : ℕ) → found_from n name xs ≡ Some p → (i : ℕ) × (p ≡ n + i) × (slice_get xs i ≡ Some name)
found_some n name [] p e = cc
found_some n name (x ∷ xs) p e = go (same_name name x) refl e (λ e. found_some (n + 1) name xs p e)
  where
    go : (t : Bool) → same_name name x ≡ t → (if t then Some n else found_from (n + 1) name xs) ≡ Some p
        → (found_from (n + 1) name xs ≡ Some p → (i : ℕ) × (p ≡ n + 1 + i) × (slice_get xs i ≡ Some name))
        → (i : ℕ) × (p ≡ n + i) × (slice_get (x ∷ xs) i ≡ Some name)
    go true s f ih =
        let same : n ≡ p = cc in
        (0, omega arith, ap (λ y. Some y) (sym (same_name_is name x s)))
    go false s f ih =
        let k = ih f in
        (suc k.0, omega (arith, k.1), k.2)

found_none : (n : ℕ) (name : List ℕ) (xs : List (List ℕ)) → found_from n name xs ≡ None → (i : ℕ) → slice_get xs i ≡ Some name → ⊥
found_none n name [] e i at = cc
found_none n name (x ∷ xs) e i at = go (same_name name x) refl e (λ f. found_none (n + 1) name xs f) i at
  where
    go : (t : Bool) → same_name name x ≡ t → (if t then Some n else found_from (n + 1) name xs) ≡ None
        → (found_from (n + 1) name xs ≡ None → (i : ℕ) → slice_get xs i ≡ Some name → ⊥) → (i : ℕ) → slice_get (x ∷ xs) i ≡ Some name → ⊥
    go true s f ih i at = cc
    go false s f ih zero at =
        let same : name ≡ x = cc in
        let yes = same_name_of name x same in
        cc
    go false s f ih (suc i) at = ih f i at

pub is_name_at : (name : List ℕ) (names : List (List ℕ)) → is_name name names ≡ true → slice_get names (place_of name names) ≡ Some name
is_name_at name names e =
    let here : place_if name names ≡ Some (place_of name names) = ap (λ (t : Bool). if t then Some (place_of name names) else None) e in
    let k = found_some 0 name names (place_of name names) (sym (place_found name names) ∙ here) in
    let same : k.0 ≡ place_of name names = omega (arith, k.1) in
    subst (λ i. slice_get names i ≡ Some name) same k.2

pub at_is_name : (name : List ℕ) (names : List (List ℕ)) (i : ℕ) → slice_get names i ≡ Some name → is_name name names ≡ true
at_is_name name names i at = go (is_name name names) refl
  where
    go : (t : Bool) → is_name name names ≡ t → t ≡ true
    go true e = refl
    go false e =
        let none : place_if name names ≡ None = ap (λ (t : Bool). if t then Some (place_of name names) else None) e in
        absurd (found_none 0 name names (sym (place_found name names) ∙ none) i at)

pub is_name_contains : (name : List ℕ) (names : List (List ℕ)) → is_name name names ≡ true → Contains names name
is_name_contains name names e = get_contains names (place_of name names) name (is_name_at name names e)

pub contains_is_name : (name : List ℕ) (names : List (List ℕ)) → Contains names name → is_name name names ≡ true
contains_is_name name names h =
    let k = contains_get names name h in
    at_is_name name names k.0 k.1

pub place_below : (name : List ℕ) (names : List (List ℕ)) → Contains names name → place_of name names < length names
place_below name names h = ltb-true (place_of name names) (length names) (contains_is_name name names h)

-- ---- each name occurs once

get_take : {X : Type 0} (xs : List X) (n i : ℕ) (x : X) → slice_get (take n xs) i ≡ Some x → (i < n) × (slice_get xs i ≡ Some x)
get_take xs zero i x e = cc
get_take [] (suc n) i x e = cc
get_take (y ∷ ys) (suc n) zero x e = (omega arith, e)
get_take (y ∷ ys) (suc n) (suc i) x e =
    let k = get_take ys n i x e in
    (omega (arith, k.0), k.1)

take_get : {X : Type 0} (xs : List X) (n i : ℕ) (x : X) → i < n → slice_get xs i ≡ Some x → slice_get (take n xs) i ≡ Some x
take_get xs zero i x h e = absurd (omega arith)
take_get [] (suc n) i x h e = cc
take_get (y ∷ ys) (suc n) zero x h e = e
take_get (y ∷ ys) (suc n) (suc i) x h e = take_get ys n i x (omega arith) e

-- no name is one of those before it
abbrev pub NoneRepeats : List (List ℕ) → Type 0
NoneRepeats names = (i : ℕ) (name : List ℕ) → slice_get names i ≡ Some name → repeat_fault names i name ≡ None

no_earlier : (names : List (List ℕ)) → NoneRepeats names → (i j : ℕ) (name : List ℕ) → slice_get names i ≡ Some name → slice_get names j ≡ Some name → i < j → ⊥
no_earlier names h i j name p q l =
    let yes = at_is_name name (take j names) i (take_get names j i name l p) in
    let some : repeat_fault names j name ≡ Some SameName = ap (λ (t : Bool). if t then Some SameName else None) yes in
    let none = h j name q in
    cc

pub differ : (names : List (List ℕ)) → NoneRepeats names → AllDiffer names
differ names h i j name p q = go (nat_lt i j) (nat_lt j i) refl refl
  where
    go : (s t : Bool) → nat_lt i j ≡ s → nat_lt j i ≡ t → i ≡ j
    go true t e f = absurd (no_earlier names h i j name p q (ltb-true i j e))
    go false true e f = absurd (no_earlier names h j i name q p (ltb-true j i f))
    go false false e f =
        let up = ltb-false i j e in
        let down = ltb-false j i f in
        omega arith

pub none_repeats : (names : List (List ℕ)) → AllDiffer names → NoneRepeats names
none_repeats names h i name at = go (is_name name (take i names)) refl
  where
    go : (t : Bool) → is_name name (take i names) ≡ t → (if t then Some SameName else None) ≡ None
    go false e = refl
    go true e =
        let k = get_take names i _ name (is_name_at name (take i names) e) in
        let same = h _ i name k.1 at in
        absurd (omega (arith, k.0, same))

pub arrays_differ : (names : List (List ℕ)) → first_in (array_name_fault names) 0 names ≡ None → AllDiffer names
arrays_differ names e = differ names (λ i name at. fault_at_none None None _ (first_none (array_name_fault names) names e i name at))

pub differ_arrays : (names : List (List ℕ)) → AllDiffer names → first_in (array_name_fault names) 0 names ≡ None
differ_arrays names h = first_yes (array_name_fault names) names (λ i name at. none_at None None _ (none_repeats names h i name at))

pub blocks_differ : (names : List (List ℕ)) → first_in (block_name_fault names) 0 names ≡ None → AllDiffer names
blocks_differ names e = differ names (λ i name at. fault_at_none (Some i) None _ (first_none (block_name_fault names) names e i name at))

pub differ_blocks : (names : List (List ℕ)) → AllDiffer names → first_in (block_name_fault names) 0 names ≡ None
differ_blocks names h = first_yes (block_name_fault names) names (λ i name at. none_at (Some i) None _ (none_repeats names h i name at))

-- ---- the block of a name

abbrev name_in : List ℕ × Block (List ℕ) → List ℕ
name_in b = b.0

pub block_there : (g : Graph) (f : List ℕ) (b : List ℕ × Block (List ℕ)) → slice_get g.blocks (place_of f (block_names g)) ≡ Some b → Contains g.blocks (f, b.1)
block_there g f b e =
    let at = map_get name_in g.blocks (place_of f (block_names g)) b e in
    let here = is_name_at f (block_names g) (at_is_name_of (slice_get_within (block_names g) (place_of f (block_names g)) b.0 at)) in
    let same : b.0 ≡ f = cc in
    get_contains g.blocks (place_of f (block_names g)) (f, b.1) (e ∙ ap (λ n. Some (n, b.1)) same)
  where
    at_is_name_of : place_of f (block_names g) < length (block_names g) → is_name f (block_names g) ≡ true
    at_is_name_of h = lt-ltb _ _ h

pub there_block : (g : Graph) (f : List ℕ) (b : Block (List ℕ)) → AllDiffer (block_names g) → Contains g.blocks (f, b)
    → slice_get g.blocks (place_of f (block_names g)) ≡ Some (f, b)
there_block g f b h c =
    let k = contains_get g.blocks (f, b) c in
    let at = map_get name_in g.blocks k.0 (f, b) k.1 in
    let here = is_name_at f (block_names g) (at_is_name f (block_names g) k.0 at) in
    let same = h k.0 (place_of f (block_names g)) f at here in
    subst (λ i. slice_get g.blocks i ≡ Some (f, b)) same k.1

shape_some : (o : Option (List ℕ × Block (List ℕ))) (n m : ℕ) → shape_in o ≡ Some (n, m) → (b : List ℕ × Block (List ℕ)) × (o ≡ Some b)
    × (b.1.inputs ≡ n) × (b.1.outputs ≡ m)
shape_some None n m e = cc
shape_some (Some b) n m e =
    let p : (b.1.inputs, b.1.outputs) ≡ (n, m) = cc in
    (b, refl, ap (λ (x : ℕ × ℕ). x.0) p, ap (λ (x : ℕ × ℕ). x.1) p)

pub shape_has : (g : Graph) (f : List ℕ) (n m : ℕ) → shape_of g f ≡ Some (n, m) → HasShape g f n m
shape_has g f n m e =
    let k = shape_some _ n m e in
    (k.0.1, block_there g f k.0 k.1, k.2, k.3)

pub there_shape : (g : Graph) (f : List ℕ) (b : Block (List ℕ)) → AllDiffer (block_names g) → Contains g.blocks (f, b) → shape_of g f
    ≡ Some (b.inputs, b.outputs)
there_shape g f b h c = ap shape_in (there_block g f b h c)

pub has_shape : (g : Graph) (f : List ℕ) (n m : ℕ) → AllDiffer (block_names g) → HasShape g f n m → shape_of g f ≡ Some (n, m)
has_shape g f n m h s = there_shape g f s.0 h s.1 ∙ ap₂ (λ (n m : ℕ). Some (n, m)) s.2 s.3

pub has_name : (g : Graph) (f : List ℕ) (n m : ℕ) → HasShape g f n m → is_name f (block_names g) ≡ true
has_name g f n m s =
    let k = contains_get g.blocks (f, s.0) s.1 in
    at_is_name f (block_names g) k.0 (map_get name_in g.blocks k.0 (f, s.0) k.1)
