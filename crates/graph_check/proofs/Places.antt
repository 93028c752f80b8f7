-- Names and their places.
use Rattle.std.proofs.Common.{◌≡◌, ℕ, suc, ◌+◌, ◌<◌, ◌≤◌, Bool, true, false, not, List, [], ◌∷◌, ◌++◌, length, map, Option, Some, None, nat_lt}
use Rattle.std.proofs.Common.{if◌then◌else◌, refl, sym, ap, ap₂, ◌∙◌, subst, arith, ltb-false, le-ltb, lt-ltb, Bor}
use Rattle.std.specs.Prelude.{is_some}
use Rattle.std.specs.Str.{bytes_eq}
use Rattle.std.proofs.lemmas.List.{length-map}
use Rattle.std.specs.BTreeMap.{BTreeMap, get_by, UpdatesBy}
use Rattle.std.specs.Cmp.Lexicographic.{slice_cmp}
use Rattle.std.specs.Ordering.{nat_cmp}
use Rattle.std.proofs.lemmas.Slice.Eq.{bytes_eq-Decides}
use Rattle.std.proofs.lemmas.Map.Text.{btree_map_updates_str}
use Rattle.semantics.specs.Graph.{same_name, place_from, place_of}
use Rattle.semantics.proofs.Lines.{same_name_is, same_name_itself}
use Rattle.graph_check.specs.Names.{is_name, place_if, IsIndexOf}
use Rattle.graph_check.specs.FirstFault.{or_later}

-- ---- equal names

pub same_name_of : (x y : List ℕ) → x ≡ y → same_name x y ≡ true
same_name_of x y e = ap (λ z. same_name x z) (sym e) ∙ same_name_itself x

-- ---- places, found one after another

abbrev pub found_from : ℕ → List ℕ → List (List ℕ) → Option ℕ
found_from n name [] = None
found_from n name (x ∷ xs) = if same_name name x then Some n else found_from (n + 1) name xs

abbrev in_time : ℕ → ℕ → Option ℕ
in_time p end = if nat_lt p end then Some p else None

in_time_yes : (p end : ℕ) → p < end → in_time p end ≡ Some p
in_time_yes p end h = ap (λ (t : Bool). if t then Some p else None) (lt-ltb p end h)

in_time_no : (p end : ℕ) → end ≤ p → in_time p end ≡ None
in_time_no p end h = ap (λ (t : Bool). if t then Some p else None) (le-ltb p end h)

found_is : (n : ℕ) (name : List ℕ) (xs : List (List ℕ)) → in_time (place_from n name xs) (n + length xs) ≡ found_from n name xs
found_is n name [] = in_time_no n (n + 0) (omega arith)
found_is n name (x ∷ xs) = go (same_name name x) (found_is (n + 1) name xs)
  where
    go : (t : Bool) → in_time (place_from (n + 1) name xs) (n + 1 + length xs) ≡ found_from (n + 1) name xs
        → in_time (if t then n else place_from (n + 1) name xs) (n + suc (length xs)) ≡ (if t then Some n else found_from (n + 1) name xs)
    go true ih = in_time_yes n (n + suc (length xs)) (omega arith)
    go false ih =
        let e : n + suc (length xs) ≡ n + 1 + length xs = omega arith in
        rw e ih

pub place_found : (name : List ℕ) (xs : List (List ℕ)) → place_if name xs ≡ found_from 0 name xs
place_found name xs =
    let e : 0 + length xs ≡ length xs = omega arith in
    rw e at (found_is 0 name xs)

found_more : (n : ℕ) (name x : List ℕ) (xs : List (List ℕ)) → found_from n name (xs ++ x ∷ [])
    ≡ or_later (found_from n name xs) (if same_name name x then Some (n + length xs) else None)
found_more n name x [] =
    let e : n + 0 ≡ n = omega arith in
    rw e refl
found_more n name x (y ∷ ys) = go (same_name name y) (found_more (n + 1) name x ys)
  where
    go : (t : Bool) → found_from (n + 1) name (ys ++ x ∷ [])
        ≡ or_later (found_from (n + 1) name ys) (if same_name name x then Some (n + 1 + length ys) else None)
        → (if t then Some n else found_from (n + 1) name (ys ++ x ∷ [])) ≡ or_later (if t then Some n else found_from (n + 1) name ys)
        (if same_name name x then Some (n + suc (length ys)) else None)
    go true ih = refl
    go false ih =
        let e : n + suc (length ys) ≡ n + 1 + length ys = omega arith in
        rw e ih

pub place_more : (name x : List ℕ) (xs : List (List ℕ)) → place_if name (xs ++ x ∷ [])
    ≡ or_later (place_if name xs) (if same_name name x then Some (length xs) else None)
place_more name x xs =
    let e : 0 + length xs ≡ length xs = omega arith in
    place_found name (xs ++ x ∷ []) ∙ (rw e at (found_more 0 name x xs)) ∙ ap (λ v. or_later v (if same_name name x then Some (length xs) else None))
    (sym (place_found name xs))

place_from_le : (n : ℕ) (name : List ℕ) (xs : List (List ℕ)) → (n ≤ place_from n name xs) × (place_from n name xs ≤ n + length xs)
place_from_le n name [] = (omega arith, omega arith)
place_from_le n name (x ∷ xs) = go (same_name name x) (place_from_le (n + 1) name xs)
  where
    go : (t : Bool) → (n + 1 ≤ place_from (n + 1) name xs) × (place_from (n + 1) name xs ≤ n + 1 + length xs)
        → (n ≤ (if t then n else place_from (n + 1) name xs)) × ((if t then n else place_from (n + 1) name xs) ≤ n + suc (length xs))
    go true ih = (omega arith, omega arith)
    go false ih = (omega (arith, ih.0), omega (arith, ih.1))

pub place_le : (name : List ℕ) (xs : List (List ℕ)) → place_of name xs ≤ length xs
place_le name xs = omega (arith, (place_from_le 0 name xs).1)

-- ---- what a look-up shows

pub place_some : (name : List ℕ) (xs : List (List ℕ)) (p : ℕ) → place_if name xs ≡ Some p → (p ≡ place_of name xs) × (is_name name xs ≡ true)
place_some name xs p e = go (is_name name xs) e
  where
    go : (t : Bool) → (if t then Some (place_of name xs) else None) ≡ Some p → (p ≡ place_of name xs) × (t ≡ true)
    go true f = (cc, refl)
    go false f = cc

pub place_none : (name : List ℕ) (xs : List (List ℕ)) → place_if name xs ≡ None → (length xs ≡ place_of name xs) × (is_name name xs ≡ false)
place_none name xs e = go (is_name name xs) refl e
  where
    go : (t : Bool) → is_name name xs ≡ t → (if t then Some (place_of name xs) else None) ≡ None → (length xs ≡ place_of name xs) × (t ≡ false)
    go true p f = cc
    go false p f =
        let h = ltb-false (place_of name xs) (length xs) p in
        (omega (arith, place_le name xs), refl)

pub place_none_count : {X : Type 0} (f : X → List ℕ) (name : List ℕ) (xs : List X) (count : ℕ) → count ≡ length xs → place_if name (map f xs) ≡ None
    → count ≡ place_of name (map f xs)
place_none_count f name xs count e h = e ∙ simp length-map refl ∙ (place_none name (map f xs) h).0

pub is_some_place : (name : List ℕ) (xs : List (List ℕ)) (o : Option ℕ) → o ≡ place_if name xs → is_some o ≡ is_name name xs
is_some_place name xs o e = ap is_some e ∙ go (is_name name xs)
  where
    go : (t : Bool) → is_some (if t then Some (place_of name xs) else None) ≡ t
    go true = refl
    go false = refl

not_not : (a b : Bool) → a ≡ not b → b ≡ not a
not_not true true e = cc
not_not true false e = refl
not_not false true e = refl
not_not false false e = cc

pub is_new : (name : List ℕ) (xs : List (List ℕ)) (old : Option ℕ) (new : Bool) → old ≡ place_if name xs → is_some old ≡ not new → new ≡ not (is_name name xs)
is_new name xs old new e f = not_not (is_name name xs) new (sym (is_some_place name xs old e) ∙ f)

pub absent_if : (b new : Bool) → new ≡ not b → new ≡ true → b ≡ false
absent_if true new e f = cc
absent_if false new e f = refl

-- ---- a name more

pub index_more : (m n : BTreeMap (Bor (List ℕ)) ℕ) (names : List (List ℕ)) (name : List ℕ) (place : ℕ) → IsIndexOf m names → is_name name names
    ≡ false → place ≡ length names
    → UpdatesBy (λ x y. slice_cmp nat_cmp x.now y.now) (λ k. slice_cmp nat_cmp name k.now) m n (Some place)
    → IsIndexOf n (names ++ name ∷ [])
index_more m n names name place index absent at updates q =
    btree_map_updates_str name m n (Some place) updates q ∙ ap (λ p. if bytes_eq name q then Some p else get_by (λ k. slice_cmp nat_cmp q k.now) m) at
    ∙ go (bytes_eq name q) refl ∙ sym (place_more q name names)
  where
    sides : (bytes_eq name q ≡ true → name ≡ q) × (name ≡ q → bytes_eq name q ≡ true)
    sides = bytes_eq-Decides name q

    none : place_if name names ≡ None
    none = ap (λ (t : Bool). if t then Some (place_of name names) else None) absent

    go : (t : Bool) → bytes_eq name q ≡ t → (if t then Some (length names) else get_by (λ k. slice_cmp nat_cmp q k.now) m)
        ≡ or_later (place_if q names) (if same_name q name then Some (length names) else None)
    go true p =
        let same : name ≡ q = sides.0 p in
        let other : place_if q names ≡ None = subst (λ q. place_if q names ≡ None) same none in
        let yes : same_name q name ≡ true = same_name_of q name (sym same) in
        sym (ap₂ (λ (v : Option ℕ) (t : Bool). or_later v (if t then Some (length names) else None)) other yes)
    go false p = index q ∙ apart (same_name q name) refl (place_if q names)
      where
        apart : (t : Bool) → same_name q name ≡ t → (v : Option ℕ) → v ≡ or_later v (if t then Some (length names) else None)
        apart true e v =
            let same : name ≡ q = sym (same_name_is q name e) in
            let yes = sides.1 same in
            absurd (cc)
        apart false e None = refl
        apart false e (Some p) = refl
