-- What holds of a sound net: each spot is made once, each item was made by a firing, and no conditional goes both ways.
use Rattle.std.proofs.Common.{◌≡◌, ℕ, zero, suc, ◌+◌, ◌<◌, ◌≤◌, Bool, true, false, not, cond, ℤ, List, [], ◌∷◌, ◌++◌, refl, sym, ap, ◌∙◌, subst, inl, inr, ◌⊎◌}
use Rattle.std.proofs.Common.{arith, true≢false, if◌then◌else◌}
use Rattle.std.specs.Prelude.{Contains, IsPermutation, flat_map, count_by}
use Rattle.std.proofs.lemmas.List.Sorted.{IsPermutation-trans, IsPermutation-sym, IsPermutation-append, IsPermutation-append_left, Contains-permutation}
use Rattle.std.proofs.lemmas.List.Elements.{All-contains, Contains-append_left, Contains-append_right, Contains-append_cases}
use Rattle.lemmas.proofs.Contains.{contains_cases, contains_head, contains_none, contains_tail}
use Rattle.tags.specs.declared.token.Token.{Token}
use Rattle.semantics.specs.Graph.{Flow}
use Rattle.law_confluence.specs.OrdersTotals.{one, total}
use Rattle.law_confluence.proofs.OrdersTotals.{one-cases}
use Rattle.law_confluence.proofs.Orders.{shuffled, Part, ◌⊕◌, total-append, total-sum_by, total-same}
use Rattle.law_confluence.proofs.Net.{Waits, Fires}
use Rattle.law_net.specs.ContextsParts.{Item, Firing, spot_of, same_spot, Spot}
use Rattle.law_net.specs.Contexts.{Wires}
use Rattle.law_net.specs.ContextsAround.{Choice}
use Rattle.law_net.specs.ContextsFirings.{Config, Move, begin, begins, takes, makes, own_takes, renewed, ProperMoves, Still, Then}
use Rattle.law_net.specs.ContextsLaws.{Allowed, IsSoundNet, InArm, says}
use Rattle.law_net.specs.ContextsMirror.{came, only, but_cells, is_cell_token}
use Rattle.law_net.proofs.ContextsSames.{hits_at, hit_counted, same_spot-refl}

-- TOTALS
pub total_flat : {X Y : Type 0} (g : Y → ℕ) (h : X → List Y) (xs : List X) → total g (flat_map h xs) ≡ total (λ (x : X). total g (h x)) xs
total_flat g h [] = refl
total_flat g h (x ∷ xs) = let a = total-append g (h x) (flat_map h xs) in let b = total_flat g h xs in omega (arith, a, b)

pub total_below : {X : Type 0} (f g : X → ℕ) (xs : List X) → ((x : X) → Contains xs x → f x ≤ g x) → total f xs ≤ total g xs
total_below f g [] h = omega arith
total_below f g (x ∷ xs) h = let a = h x (contains_head x xs) in let b = total_below f g xs (λ y c. h y (contains_tail x xs y c)) in omega (arith, a, b)

cond_one : (t : Bool) → cond t 1 0 ≡ one t
cond_one true = refl
cond_one false = refl

pub count_total : {X : Type 0} (p : X → Bool) (xs : List X) → count_by p xs ≡ total (λ (x : X). one (p x)) xs
count_total p xs = sym (total-sum_by (λ x. cond (p x) 1 0) xs) ∙ total-same (λ x. cond (p x) 1 0) (λ x. one (p x)) xs (λ x. cond_one (p x))

pub some_of : {X : Type 0} (p : X → Bool) (xs : List X) → 0 < total (λ (x : X). one (p x)) xs → (x : X) × Contains xs x × (p x ≡ true)
some_of p [] h = absurd (omega (arith, h))
some_of p (x ∷ xs) h = pick (one-cases (p x)) (some_of p xs)
  where
    pick : ((p x ≡ true) × (one (p x) ≡ 1)) ⊎ ((p x ≡ false) × (one (p x) ≡ 0)) → (0 < total (λ x. one (p x)) xs → (y : _) × Contains xs y × (p y ≡ true))
        → (y : _) × Contains (x ∷ xs) y × (p y ≡ true)
    pick (inl k) more = (x, contains_head x xs, k.0)
    pick (inr k) more = let o = k.1 in let m = more (omega (arith, h, o)) in (m.0, contains_tail x xs m.0 m.1, m.2)

-- what passes a test
pub only_total : (test : Item → Bool) (g : Item → ℕ) (items : List Item) → total g (only test items) ≤ total g items
only_total test g [] = omega arith
only_total test g (i ∷ items) =
    let m = only_total test g items in let a = total-append g (if test i then i ∷ [] else []) (only test items) in let b = here (test i) in
    omega (arith, m, a, b)
  where
    here : (t : Bool) → total g (if t then i ∷ [] else []) ≤ g i
    here true = omega arith
    here false = omega arith

pub only_contains : (test : Item → Bool) (items : List Item) (i : Item) → Contains (only test items) i → Contains items i × (test i ≡ true)
only_contains test [] i c = absurd (contains_none i c)
only_contains test (j ∷ items) i c = pick (Contains-append_cases (if test j then j ∷ [] else []) (only test items) i c) (only_contains test items i)
  where
    here : (t : Bool) → test j ≡ t → Contains (if t then j ∷ [] else []) i → Contains (j ∷ items) i × (test i ≡ true)
    here true e c = single (contains_cases j [] i c)
      where
        single : (j ≡ i) ⊎ Contains [] i → Contains (j ∷ items) i × (test i ≡ true)
        single (inl g) = (subst (Contains (j ∷ items)) g (contains_head j items), ap test (sym g) ∙ e)
        single (inr d) = absurd (contains_none i d)
    here false e c = absurd (contains_none i c)

    pick : Contains (if test j then j ∷ [] else []) i ⊎ Contains (only test items) i → (Contains (only test items) i → Contains items i × (test i ≡ true))
        → Contains (j ∷ items) i × (test i ≡ true)
    pick (inl d) more = here (test j) refl d
    pick (inr d) more = let m = more d in (contains_tail j items i m.0, m.1)

pub only_has : (test : Item → Bool) (items : List Item) (i : Item) → Contains items i → test i ≡ true → Contains (only test items) i
only_has test [] i c e = absurd (contains_none i c)
only_has test (j ∷ items) i c e = pick (contains_cases j items i c) (λ d. only_has test items i d e)
  where
    pick : (j ≡ i) ⊎ Contains items i → (Contains items i → Contains (only test items) i) → Contains ((if test j then j ∷ [] else []) ++ only test items) i
    pick (inl g) more =
        subst (λ (t : Bool). Contains ((if t then j ∷ [] else []) ++ only test items) i) (sym (ap test g ∙ e))
        (subst (λ (k : Item). Contains (k ∷ only test items) i) (sym g) (contains_head i (only test items)))
    pick (inr d) more = Contains-append_right (if test j then j ∷ [] else []) (only test items) i (more d)

-- the tokens of cells count for nothing that is not theirs
pub cells_apart : (p : Token → Bool) → ((t : Token) → is_cell_token t ≡ true → p t ≡ false) → (ts : List Token)
    → total (λ (t : Token). one (p t)) ts ≡ total (λ (t : Token). one (p t)) (but_cells ts)
cells_apart p h [] = refl
cells_apart p h (t ∷ ts) =
    let m = cells_apart p h ts in let a = total-append (λ (t : Token). one (p t)) (if is_cell_token t then [] else t ∷ []) (but_cells ts) in
    let b = here (is_cell_token t) refl in omega (arith, m, a, b)
  where
    here : (s : Bool) → is_cell_token t ≡ s → total (λ (t : Token). one (p t)) (if s then [] else t ∷ []) ≡ one (p t)
    here true e = sym (ap one (h t e))
    here false e = omega arith

-- what came, and all of it
abbrev pub all_of : Flow → Config → List Item
all_of fl c = c.pending ++ (c.waiting ++ flat_map (takes fl) c.fired)

abbrev own : Flow → Firing → List Item
own fl f = own_takes fl f f.part

pub came_total : (fl : Flow) (g : Item → ℕ) (c : Config) → total g (came fl c) ≤ total g (all_of fl c)
came_total fl g c =
    let a = total-append g c.pending (c.waiting ++ flat_map (own fl) c.fired) in let b = total-append g c.pending (c.waiting ++ flat_map (takes fl) c.fired) in
    let d = total-append g c.waiting (flat_map (own fl) c.fired) in let e = total-append g c.waiting (flat_map (takes fl) c.fired) in
    let m = less c.fired in omega (arith, a, b, d, e, m)
  where
    less : (fired : List Firing) → total g (flat_map (own fl) fired) ≤ total g (flat_map (takes fl) fired)
    less [] = omega arith
    less (f ∷ fired) =
        let a = total-append g (own fl f) (flat_map (own fl) fired) in let b = total-append g (takes fl f) (flat_map (takes fl) fired) in
        let d = total-append g (own fl f) (renewed fl f f.part) in let m = less fired in omega (arith, a, b, d, m)

-- and what is taken only to be made anew
pub came_split : (fl : Flow) (g : Item → ℕ) (c : Config)
    → total g (all_of fl c) ≡ total g (came fl c) + total g (flat_map (λ (f : Firing). renewed fl f f.part) c.fired)
came_split fl g c =
    let a = total-append g c.pending (c.waiting ++ flat_map (own fl) c.fired) in let b = total-append g c.pending (c.waiting ++ flat_map (takes fl) c.fired) in
    let d = total-append g c.waiting (flat_map (own fl) c.fired) in let e = total-append g c.waiting (flat_map (takes fl) c.fired) in
    let m = both c.fired in omega (arith, a, b, d, e, m)
  where
    both : (fired : List Firing) → total g (flat_map (takes fl) fired) ≡ total g (flat_map (own fl) fired)
        + total g (flat_map (λ (f : Firing). renewed fl f f.part) fired)
    both [] = omega arith
    both (f ∷ fired) =
        let a = total-append g (own fl f) (flat_map (own fl) fired) in let b = total-append g (takes fl f) (flat_map (takes fl) fired) in
        let e = total-append g (renewed fl f f.part) (flat_map (λ (f : Firing). renewed fl f f.part) fired) in
        let d = total-append g (own fl f) (renewed fl f f.part) in let m = both fired in omega (arith, a, b, d, e, m)

-- what is in one of joined lists
pub flat_contains : {X Y : Type 0} (g : X → List Y) (xs : List X) (x : X) (y : Y) → Contains xs x → Contains (g x) y → Contains (flat_map g xs) y
flat_contains g [] x y c d = absurd (contains_none x c)
flat_contains g (z ∷ xs) x y c d = pick (contains_cases z xs x c) (λ k. flat_contains g xs x y k d)
  where
    pick : (z ≡ x) ⊎ Contains xs x → (Contains xs x → Contains (flat_map g xs) y) → Contains (g z ++ flat_map g xs) y
    pick (inl e) more = Contains-append_left (g z) (flat_map g xs) y (subst (λ (v : _). Contains (g v) y) (sym e) d)
    pick (inr k) more = Contains-append_right (g z) (flat_map g xs) y (more k)

pub taken_in : (fl : Flow) (fired : List Firing) (h : Firing) (i : Item) → Contains fired h → Contains (takes fl h) i → Contains (flat_map (takes fl) fired) i
taken_in fl fired h i c d = flat_contains (takes fl) fired h i c d

pub came_all : (fl : Flow) (c : Config) (i : Item) → Contains (came fl c) i → Contains (all_of fl c) i
came_all fl c i h = pick (Contains-append_cases c.pending (c.waiting ++ flat_map (own fl) c.fired) i h)
  where
    taken : (fired : List Firing) → Contains (flat_map (own fl) fired) i → Contains (flat_map (takes fl) fired) i
    taken [] d = d
    taken (f ∷ fired) d = go (Contains-append_cases (own fl f) (flat_map (own fl) fired) i d) (taken fired)
      where
        go : Contains (own fl f) i ⊎ Contains (flat_map (own fl) fired) i → (Contains (flat_map (own fl) fired) i → Contains (flat_map (takes fl) fired) i)
            → Contains (takes fl f ++ flat_map (takes fl) fired) i
        go (inl k) more = Contains-append_left (takes fl f) (flat_map (takes fl) fired) i (Contains-append_left (own fl f) (renewed fl f f.part) i k)
        go (inr k) more = Contains-append_right (takes fl f) (flat_map (takes fl) fired) i (more k)

    later : Contains c.waiting i ⊎ Contains (flat_map (own fl) c.fired) i → Contains (all_of fl c) i
    later (inl d) =
        Contains-append_right c.pending (c.waiting ++ flat_map (takes fl) c.fired) i (Contains-append_left c.waiting (flat_map (takes fl) c.fired) i d)
    later (inr d) =
        Contains-append_right c.pending (c.waiting ++ flat_map (takes fl) c.fired) i
        (Contains-append_right c.waiting (flat_map (takes fl) c.fired) i (taken c.fired d))

    pick : Contains c.pending i ⊎ Contains (c.waiting ++ flat_map (own fl) c.fired) i → Contains (all_of fl c) i
    pick (inl d) = Contains-append_left c.pending (c.waiting ++ flat_map (takes fl) c.fired) i d
    pick (inr d) = later (Contains-append_cases c.waiting (flat_map (own fl) c.fired) i d)

-- at most one passes a test that only items at one spot pass
pub one_passes : (p : Item → Bool) (items : List Item) → ((x : Spot) → hits_at x items ≤ 1)
    → ((i j : Item) → Contains items i → Contains items j → p i ≡ true → p j ≡ true → spot_of i ≡ spot_of j) → total (λ (i : Item). one (p i)) items ≤ 1
one_passes p items few meet = go (total (λ (i : Item). one (p i)) items) refl
  where
    by_test : (i j : Item) (t : Bool) → p j ≡ t → (p j ≡ true → spot_of i ≡ spot_of j) → one t ≤ one (same_spot (spot_of i) (spot_of j))
    by_test i j true e h =
        let o : one (same_spot (spot_of i) (spot_of j)) ≡ 1 = ap one (ap (λ (x : Spot). same_spot (spot_of i) x) (sym (h e)) ∙ same_spot-refl (spot_of i)) in
        omega (arith, o)
    by_test i j false e h = omega arith

    go : (n : ℕ) → total (λ (i : Item). one (p i)) items ≡ n → total (λ (i : Item). one (p i)) items ≤ 1
    go zero e = omega (arith, e)
    go (suc n) e =
        let s = some_of p items (omega (arith, e)) in
        let few_here = few (spot_of s.0) in
        let below = total_below (λ (j : Item). one (p j)) (λ (j : Item). one (same_spot (spot_of s.0) (spot_of j))) items
        (λ j c. by_test s.0 j (p j) refl (λ h. meet s.0 j s.1 c s.2 h)) in
        omega (arith, few_here, below)

module _ (fl : Flow) (w : Wires) (inputs : List ℤ) where
  -- SOUND NETS
  module _ (c : Config) (sound : IsSoundNet fl w inputs c) where
    pub once_all : (x : Spot) → hits_at x (all_of fl c) ≤ 1
    once_all x =
        let g : Item → ℕ = λ (i : Item). one (same_spot x (spot_of i)) in
        let s = sound.safe x in let m = sound.marked g in
        let a = total-append g c.pending (c.waiting ++ flat_map (takes fl) c.fired) in let d = total-append g c.waiting (flat_map (takes fl) c.fired) in
        let t = total_flat g (takes fl) c.fired in omega (arith, s, m, a, d, t)

    -- what is on its way is nowhere else
    pub not_twice : (i j : Item) → Contains c.pending i → Contains (c.waiting ++ flat_map (takes fl) c.fired) j → spot_of i ≡ spot_of j → ⊥
    not_twice i j a b e =
        let x = spot_of i in
        let here = hit_counted c.pending i a in
        let two = subst (λ (y : Spot). 0 < hits_at y (c.waiting ++ flat_map (takes fl) c.fired)) (sym e)
        (hit_counted (c.waiting ++ flat_map (takes fl) c.fired) j b) in
        let few = once_all x in let sum = total-append (λ (i : Item). one (same_spot x (spot_of i))) c.pending (c.waiting ++ flat_map (takes fl) c.fired) in
        omega (arith, here, two, few, sum)

    pub allowed_in : (i : Item) → Contains (all_of fl c) i → Allowed fl w inputs c.fired i
    allowed_in i h = All-contains (Allowed fl w inputs c.fired) (all_of fl c) i sound.allowed h

    -- no conditional goes both ways
    pub not_opposed : (i j : Item) (k : Choice) (s : Bool) → Contains (all_of fl c) i → Contains (all_of fl c) j → InArm fl (spot_of i) k s
        → InArm fl (spot_of j) k (not s) → ⊥
    not_opposed i j k s a b x y =
        let d = (allowed_in i a).arms k s x in let e = (allowed_in j b).arms k (not s) y in
        differ s (sym d.3 ∙ ap (says fl) (sound.once d.0 e.0 d.1 e.1 (d.2 ∙ sym e.2)) ∙ e.3)
      where
        differ : (t : Bool) → t ≡ not t → ⊥
        differ true e = true≢false e
        differ false e = true≢false (sym e)

  -- WHERE ITEMS COME FROM
  abbrev pub Born : List Firing → Item → Type 0
  Born fired i = Contains (begins inputs) i ⊎ ((h : Firing) × Contains fired h × Contains (makes fl w h) i)

  born_later : (f : Firing) (fired : List Firing) (i : Item) → Born fired i → Born (f ∷ fired) i
  born_later f fired i (inl c) = inl c
  born_later f fired i (inr (h, c, m)) = inr (h, contains_tail f fired h c, m)

  abbrev AllBorn : Config → Type 0
  AllBorn c = (i : Item) → Contains (all_of fl c) i → Born c.fired i

  born_move : (c d : Config) → Move fl w c d → AllBorn c → AllBorn d
  born_move c d (Waits i rest a e) born = subst AllBorn (sym e) (λ j h. born j (Contains-permutation _ _ j (IsPermutation-sym _ _ perm) h))
    where
      perm : IsPermutation (c.pending ++ (c.waiting ++ flat_map (takes fl) c.fired)) (rest ++ ((i ∷ c.waiting) ++ flat_map (takes fl) c.fired))
      perm = IsPermutation-trans _ _ _ (IsPermutation-append_left (c.waiting ++ flat_map (takes fl) c.fired) _ _ a)
          (shuffled ((i ∷ []) ∷ rest ∷ c.waiting ∷ flat_map (takes fl) c.fired ∷ []) ((Part 0 ⊕ Part 1) ⊕ (Part 2 ⊕ Part 3))
          (Part 1 ⊕ ((Part 0 ⊕ Part 2) ⊕ Part 3)) refl)
  born_move c d (Fires f now kept rest others a b both e) born =
      subst AllBorn (sym e) (λ j h. pick j
      (Contains-append_cases (makes fl w f) (rest ++ (others ++ (takes fl f ++ flat_map (takes fl) c.fired))) j (Contains-permutation _ _ j joined h)))
    where
      joined : IsPermutation ((makes fl w f ++ rest) ++ (others ++ (takes fl f ++ flat_map (takes fl) c.fired)))
          (makes fl w f ++ (rest ++ (others ++ (takes fl f ++ flat_map (takes fl) c.fired))))
      joined =
          shuffled (makes fl w f ∷ rest ∷ others ∷ takes fl f ∷ flat_map (takes fl) c.fired ∷ []) ((Part 0 ⊕ Part 1) ⊕ (Part 2 ⊕ (Part 3 ⊕ Part 4)))
          (Part 0 ⊕ (Part 1 ⊕ (Part 2 ⊕ (Part 3 ⊕ Part 4)))) refl

      perm : IsPermutation (c.pending ++ (c.waiting ++ flat_map (takes fl) c.fired)) (rest ++ (others ++ (takes fl f ++ flat_map (takes fl) c.fired)))
      perm = IsPermutation-trans _ _ _ (IsPermutation-append _ _ _ _ a (IsPermutation-append_left (flat_map (takes fl) c.fired) _ _ b))
          (IsPermutation-trans _ _ _ (shuffled (now ∷ rest ∷ kept ∷ others ∷ flat_map (takes fl) c.fired ∷ [])
          ((Part 0 ⊕ Part 1) ⊕ ((Part 2 ⊕ Part 3) ⊕ Part 4)) ((Part 0 ⊕ Part 2) ⊕ (Part 1 ⊕ (Part 3 ⊕ Part 4))) refl)
          (IsPermutation-trans _ _ _ (IsPermutation-append_left (rest ++ (others ++ flat_map (takes fl) c.fired)) _ _ both)
          (shuffled (takes fl f ∷ rest ∷ others ∷ flat_map (takes fl) c.fired ∷ []) (Part 0 ⊕ (Part 1 ⊕ (Part 2 ⊕ Part 3)))
          (Part 1 ⊕ (Part 2 ⊕ (Part 0 ⊕ Part 3))) refl)))

      pick : (j : Item) → Contains (makes fl w f) j ⊎ Contains (rest ++ (others ++ (takes fl f ++ flat_map (takes fl) c.fired))) j → Born (f ∷ c.fired) j
      pick j (inl h) = inr (f, contains_head f c.fired, h)
      pick j (inr h) = born_later f c.fired j (born j (Contains-permutation _ _ j (IsPermutation-sym _ _ perm) h))

  born_moves : (c d : Config) → ProperMoves fl w c d → AllBorn c → AllBorn d
  born_moves c d (Still e) born = born
  born_moves c d (Then a mid b m proper more) born = born_moves mid b more (born_move a mid m born)

  pub all_born : (d : Config) → ProperMoves fl w (begin inputs) d → AllBorn d
  all_born d moves = born_moves (begin inputs) d moves (λ i h. start i (Contains-append_cases (begins inputs) [] i h))
    where
      start : (i : Item) → Contains (begins inputs) i ⊎ Contains [] i → Born [] i
      start i (inl c) = inl c
      start i (inr c) = absurd (contains_none i c)
