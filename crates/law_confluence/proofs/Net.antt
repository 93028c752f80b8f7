-- A net over any kinds of items and firings: what a firing takes and makes may depend on the words that it takes, a part
-- may take one of several inlets, as a merge, and there may be endlessly many parts and inlets.
use Rattle.std.proofs.Common.{◌≡◌, ℕ, ◌+◌, ◌<◌, ◌≤◌, Bool, List, ◌∷◌, ◌++◌, length, refl, sym, ap, ◌∙◌, subst, inl, inr, ◌⊎◌, arith, length-append, []}
use Rattle.std.specs.Prelude.{All, IsPermutation, Contains, flat_map}
use Rattle.std.proofs.lemmas.Bool.{cases_eq}
use Rattle.std.proofs.lemmas.List.Sorted.{IsPermutation-trans, IsPermutation-refl, IsPermutation-append, IsPermutation-append_left, IsPermutation-append_right}
use Rattle.std.proofs.lemmas.List.Sorted.{All-permutation, length_permutation}
use Rattle.std.proofs.lemmas.List.Elements.{All-cons, All-append, All-weaker, All-nil, All-contains}
use Rattle.lemmas.proofs.Alls.{all_left, all_right}
use Rattle.lemmas.proofs.Contains.{contains_cases, contains_head, contains_none, contains_tail}
use Rattle.law_confluence.specs.OrdersTotals.{one, total}
use Rattle.law_confluence.proofs.Orders.{total-append, total-IsPermutation, shuffled, Part, ◌⊕◌}

pub record NetConfig (I F : Type 0) : Type 0 where
  pub pending : List I
  pub waiting : List I
  pub fired : List F

-- An item waits, or a firing takes exactly some items that arrive and some that waited.
pub data NetMove {I F : Type 0} (takes makes : F → List I) (c d : NetConfig I F) : Type 0 where
  Waits : (i : I) (rest : List I) → IsPermutation c.pending (i ∷ rest) → d ≡ record { pending = rest; waiting = i ∷ c.waiting; fired = c.fired }
      → NetMove takes makes c d
  Fires : (f : F) (now kept rest others : List I) → IsPermutation c.pending (now ++ rest) → IsPermutation c.waiting (kept ++ others)
      → IsPermutation (now ++ kept) (takes f)
      → d ≡ record { pending = makes f ++ rest; waiting = others; fired = f ∷ c.fired } → NetMove takes makes c d

-- how many pending items a move takes up
abbrev pub taken_up : {I F : Type 0} {takes makes : F → List I} {c d : NetConfig I F} → NetMove takes makes c d → ℕ
taken_up (Waits i rest p e) = 1
taken_up (Fires f now kept rest others p q both e) = length now

-- the pending items that a move takes up, and the items that it makes
abbrev pub takes_up : {I F : Type 0} {takes makes : F → List I} {c d : NetConfig I F} → NetMove takes makes c d → List I
takes_up (Waits i rest p e) = i ∷ []
takes_up (Fires f now kept rest others p q both e) = now

-- what the firings took or made, by weight
abbrev pub weigh : {I F : Type 0} → (F → List I) → (I → ℕ) → List F → ℕ
weigh side g fired = total (λ f. total g (side f)) fired

module _ {I X F R : Type 0} (inlet : I → X) (same : X → X → Bool) (takes makes : F → List I) (begins : List I) (role : F → R) where
  abbrev pub hit : X → I → ℕ
  hit x i = one (same x (inlet i))

  -- what is made is what is pending, what waits, and what was taken
  abbrev pub IsMarked : NetConfig I F → Type 0
  IsMarked c = (g : I → ℕ) → total g begins + weigh makes g c.fired ≡ total g c.pending + total g c.waiting + weigh takes g c.fired

  -- each move keeps the marking
  pub marked_moves : (c d : NetConfig I F) → IsMarked c → NetMove takes makes c d → IsMarked d
  marked_moves c d m (Waits i rest p e) =
      subst IsMarked (sym e) (λ g. let a = m g in let t = total-IsPermutation g c.pending (i ∷ rest) p in omega (arith, a, t))
  marked_moves c d m (Fires f now kept rest others p q both e) = subst IsMarked (sym e) (λ g.
      let a = m g in let t = total-IsPermutation g c.pending (now ++ rest) p in let u = total-IsPermutation g c.waiting (kept ++ others) q in
      let v = total-IsPermutation g (now ++ kept) (takes f) both in
      let k = total-append g kept others in let n = total-append g (makes f) rest in
      let x = total-append g now rest in let y = total-append g now kept in
      omega (arith, a, t, u, v, k, n, x, y))

  -- how many items wait or were taken up
  abbrev pub net_size : NetConfig I F → ℕ
  net_size c = length c.waiting + total (λ f. length (takes f)) c.fired

  -- each move takes up one pending item for each that it counts
  pub size_moves : (c d : NetConfig I F) (m : NetMove takes makes c d) → net_size d ≡ taken_up m + net_size c
  size_moves c d (Waits i rest p e) = ap net_size e ∙ omega arith
  size_moves c d (Fires f now kept rest others p q both e) =
      let a = length_permutation _ _ q in let k = length_permutation _ _ both in let n = length-append kept others in let x = length-append now kept in
      ap net_size e ∙ omega (arith, a, k, n, x)

  -- all that was taken up so far waits, or was taken by a firing
  abbrev pub up : NetConfig I F → List I
  up c = c.waiting ++ flat_map takes c.fired

  pub up_moves : (c d : NetConfig I F) (m : NetMove takes makes c d) → IsPermutation (takes_up m ++ up c) (up d)
  up_moves c d (Waits i rest p e) = subst (λ d. IsPermutation (i ∷ up c) (up d)) (sym e) (IsPermutation-refl (i ∷ up c))
  up_moves c d (Fires f now kept rest others p q both e) =
      let before = flat_map takes c.fired in
      subst (λ d. IsPermutation (now ++ up c) (up d)) (sym e)
      (IsPermutation-trans _ _ _ (IsPermutation-append_right now _ _ (IsPermutation-append_left before _ _ q))
      (IsPermutation-trans _ _ _ (shuffled (now ∷ kept ∷ others ∷ before ∷ []) (Part 0 ⊕ ((Part 1 ⊕ Part 2) ⊕ Part 3))
      (Part 2 ⊕ ((Part 0 ⊕ Part 1) ⊕ Part 3)) refl)
      (IsPermutation-append_right others _ _ (IsPermutation-append_left before _ _ both))))

  -- two firings of a part are one
  abbrev pub FiresOnce : List F → Type 0
  FiresOnce fired = (f h : F) → Contains fired f → Contains fired h → role f ≡ role h → f ≡ h

  -- WHAT MAY BE THERE
  -- `Allowed fired i`: by what has fired, item i may be there. The laws of a net:
  pub record IsLawful (Allowed : List F → I → Type 0) : Type 0 where
    pub later : (f : F) (fired : List F) (i : I) → Allowed fired i → Allowed (f ∷ fired) i
    -- what an allowed firing makes is allowed
    pub makes_allowed : (f : F) (fired : List F) → All (Allowed fired) (takes f) → All (Allowed (f ∷ fired)) (makes f)
    pub starts : All (Allowed []) begins
    pub begins_once : (x : X) → total (hit x) begins ≤ 1
    pub makes_once : (f : F) (fired : List F) (x : X) → All (Allowed fired) (takes f) → total (hit x) (makes f) ≤ 1
    pub begins_apart : (f : F) (fired : List F) (x : X) → All (Allowed fired) (takes f) → 0 < total (hit x) (makes f) → total (hit x) begins ≡ 0
    -- an inlet is fed by one part, in all its firings
    pub feeders : (f h : F) (fired : List F) (x : X) → All (Allowed fired) (takes f) → All (Allowed fired) (takes h) → 0 < total (hit x) (makes f)
        → 0 < total (hit x) (makes h) → role f ≡ role h
    -- and two firings of a part, both allowed, take one inlet
    pub rivals : (f h : F) (fired : List F) → FiresOnce fired → Contains fired h → All (Allowed fired) (takes f) → All (Allowed fired) (takes h)
        → role f ≡ role h
        → (z : X) × (0 < total (hit z) (takes f)) × (0 < total (hit z) (takes h))

  pub record IsNetSound (Allowed : List F → I → Type 0) (c : NetConfig I F) : Type 0 where
    pub marked : IsMarked c
    pub allowed : All (Allowed c.fired) (c.pending ++ (c.waiting ++ flat_map takes c.fired))
    pub safe : (x : X) → total (hit x) begins + weigh makes (hit x) c.fired ≤ 1
    pub once : FiresOnce c.fired

  module _ (Allowed : List F → I → Type 0) (laws : IsLawful Allowed) where
    -- a firing that took an inlet counts in what was taken
    pub taken_counts : (h : F) (fired : List F) (z : X) → Contains fired h → total (hit z) (takes h) ≤ weigh takes (hit z) fired
    taken_counts h fired z c = All-contains (λ h. total (hit z) (takes h) ≤ weigh takes (hit z) fired) fired h (all fired) c
      where
        all : (fired : List F) → All (λ h. total (hit z) (takes h) ≤ weigh takes (hit z) fired) fired
        all [] = All-nil (λ h. total (hit z) (takes h) ≤ 0)
        all (f ∷ fired) = All-cons (λ h. total (hit z) (takes h) ≤ weigh takes (hit z) (f ∷ fired)) f fired (omega arith)
            (All-weaker (λ h. total (hit z) (takes h) ≤ weigh takes (hit z) fired) (λ h. total (hit z) (takes h) ≤ weigh takes (hit z) (f ∷ fired))
            (λ h k. omega (arith, k)) fired (all fired))

    -- what was made before has a firing that made it
    pub maker : (x : X) (fired : List F) → (weigh makes (hit x) fired ≡ 0) ⊎ ((h : F) × Contains fired h × (0 < total (hit x) (makes h)))
    maker x [] = inl refl
    maker x (f ∷ fired) = pick (cases_eq (total (hit x) (makes f)) 0) (maker x fired)
      where
        pick : (total (hit x) (makes f) ≡ 0) ⊎ (total (hit x) (makes f) ≡ 0 → ⊥)
            → (weigh makes (hit x) fired ≡ 0) ⊎ ((h : F) × Contains fired h × (0 < total (hit x) (makes h)))
            → (weigh makes (hit x) (f ∷ fired) ≡ 0) ⊎ ((h : F) × Contains (f ∷ fired) h × (0 < total (hit x) (makes h)))
        pick (inr n) k = inr (f, contains_head f fired, omega (arith, n))
        pick (inl e) (inl z) = inl (omega (arith, e, z))
        pick (inl e) (inr (h, c, l)) = inr (h, contains_tail f fired h c, l)

    -- what a firing took was allowed
    pub takes_allowed : (c : NetConfig I F) → IsNetSound Allowed c → (h : F) → Contains c.fired h → All (Allowed c.fired) (takes h)
    takes_allowed c s h k =
        All-contains (λ h. All (Allowed c.fired) (takes h)) c.fired h
        (all c.fired (all_right (Allowed c.fired) c.waiting (flat_map takes c.fired)
        (all_right (Allowed c.fired) c.pending (c.waiting ++ flat_map takes c.fired) s.allowed))) k
      where
        all : (fs : List F) → All (Allowed c.fired) (flat_map takes fs) → All (λ h. All (Allowed c.fired) (takes h)) fs
        all [] a = All-nil (λ h. All (Allowed c.fired) (takes h))
        all (f ∷ fs) a =
            All-cons (λ h. All (Allowed c.fired) (takes h)) f fs (all_left (Allowed c.fired) (takes f) (flat_map takes fs) a)
            (all fs (all_right (Allowed c.fired) (takes f) (flat_map takes fs) a))

    all_later : (f : F) (fired : List F) (is : List I) → All (Allowed fired) is → All (Allowed (f ∷ fired)) is
    all_later f fired is a = All-weaker (Allowed fired) (Allowed (f ∷ fired)) (laws.later f fired) is a

    net_waits : (c : NetConfig I F) → IsNetSound Allowed c → (i : I) (rest : List I) → IsPermutation c.pending (i ∷ rest)
        → IsNetSound Allowed (record { pending = rest; waiting = i ∷ c.waiting; fired = c.fired })
    net_waits c s i rest p = record {
      marked = marked_moves c (record { pending = rest; waiting = i ∷ c.waiting; fired = c.fired }) s.marked (Waits i rest p refl);
      allowed = All-permutation (Allowed c.fired) _ _ (IsPermutation-trans _ _ _ (IsPermutation-append_left (c.waiting ++ flat_map takes c.fired) _ _ p)
          (shuffled ((i ∷ []) ∷ rest ∷ c.waiting ∷ flat_map takes c.fired ∷ []) ((Part 0 ⊕ Part 1) ⊕ (Part 2 ⊕ Part 3))
          (Part 1 ⊕ ((Part 0 ⊕ Part 2) ⊕ Part 3)) refl)) s.allowed;
      safe = s.safe;
      once = s.once;
    }

    -- what a firing takes is allowed
    pub fires_allowed : (c : NetConfig I F) → IsNetSound Allowed c → (f : F) (now kept rest others : List I) → IsPermutation c.pending (now ++ rest)
        → IsPermutation c.waiting (kept ++ others) → IsPermutation (now ++ kept) (takes f) → All (Allowed c.fired) (takes f)
    fires_allowed c s f now kept rest others p q both =
        all_left (Allowed c.fired) (takes f) (rest ++ (others ++ flat_map takes c.fired)) (All-permutation (Allowed c.fired) _ _
        (IsPermutation-trans _ _ _ (IsPermutation-append _ _ _ _ p (IsPermutation-append_left (flat_map takes c.fired) _ _ q))
        (IsPermutation-trans _ _ _ (shuffled (now ∷ rest ∷ kept ∷ others ∷ flat_map takes c.fired ∷ []) ((Part 0 ⊕ Part 1) ⊕ ((Part 2 ⊕ Part 3) ⊕ Part 4))
        ((Part 0 ⊕ Part 2) ⊕ (Part 1 ⊕ (Part 3 ⊕ Part 4))) refl)
        (IsPermutation-append_left (rest ++ (others ++ flat_map takes c.fired)) _ _ both))) s.allowed)

    net_fires : (c : NetConfig I F) → IsNetSound Allowed c → (f : F) (now kept rest others : List I) → IsPermutation c.pending (now ++ rest)
        → IsPermutation c.waiting (kept ++ others) → IsPermutation (now ++ kept) (takes f)
        → IsNetSound Allowed (record { pending = makes f ++ rest; waiting = others; fired = f ∷ c.fired })
    net_fires c s f now kept rest others p q both = record {
      marked =
          marked_moves c (record { pending = makes f ++ rest; waiting = others; fired = f ∷ c.fired }) s.marked (Fires f now kept rest others p q both refl);
      allowed = All-append (Allowed (f ∷ c.fired)) (makes f ++ rest) (others ++ (takes f ++ flat_map takes c.fired))
          (All-append (Allowed (f ∷ c.fired)) (makes f) rest (laws.makes_allowed f c.fired mine)
          (all_later f c.fired rest (all_left (Allowed c.fired) rest (others ++ flat_map takes c.fired) left)))
          (All-append (Allowed (f ∷ c.fired)) others (takes f ++ flat_map takes c.fired)
          (all_later f c.fired others (all_left (Allowed c.fired) others (flat_map takes c.fired) left'))
          (All-append (Allowed (f ∷ c.fired)) (takes f) (flat_map takes c.fired) (all_later f c.fired (takes f) mine)
          (all_later f c.fired (flat_map takes c.fired) (all_right (Allowed c.fired) others (flat_map takes c.fired) left'))));
      safe = λ x. by_hit x (cases_eq (total (hit x) (makes f)) 0);
      once = λ g h a d e. one_of (contains_cases f c.fired g a) (contains_cases f c.fired h d) e;
    }
      where
        perm : IsPermutation (c.pending ++ (c.waiting ++ flat_map takes c.fired)) (takes f ++ (rest ++ (others ++ flat_map takes c.fired)))
        perm = IsPermutation-trans _ _ _ (IsPermutation-append _ _ _ _ p (IsPermutation-append_left (flat_map takes c.fired) _ _ q))
            (IsPermutation-trans _ _ _ (shuffled (now ∷ rest ∷ kept ∷ others ∷ flat_map takes c.fired ∷ []) ((Part 0 ⊕ Part 1) ⊕ ((Part 2 ⊕ Part 3) ⊕ Part 4))
            ((Part 0 ⊕ Part 2) ⊕ (Part 1 ⊕ (Part 3 ⊕ Part 4))) refl)
            (IsPermutation-append_left (rest ++ (others ++ flat_map takes c.fired)) _ _ both))

        all : All (Allowed c.fired) (takes f ++ (rest ++ (others ++ flat_map takes c.fired)))
        all = All-permutation (Allowed c.fired) _ _ perm s.allowed

        mine : All (Allowed c.fired) (takes f)
        mine = all_left (Allowed c.fired) (takes f) (rest ++ (others ++ flat_map takes c.fired)) all

        left : All (Allowed c.fired) (rest ++ (others ++ flat_map takes c.fired))
        left = all_right (Allowed c.fired) (takes f) (rest ++ (others ++ flat_map takes c.fired)) all

        left' : All (Allowed c.fired) (others ++ flat_map takes c.fired)
        left' = all_right (Allowed c.fired) rest (others ++ flat_map takes c.fired) left

        -- an inlet that it takes was not taken before
        untaken : (z : X) → 0 < total (hit z) (takes f) → weigh takes (hit z) c.fired ≡ 0
        untaken z h =
            let m = s.marked (hit z) in let k = s.safe z in
            let t = total-IsPermutation (hit z) c.pending (now ++ rest) p in let u = total-IsPermutation (hit z) c.waiting (kept ++ others) q in
            let v = total-IsPermutation (hit z) (now ++ kept) (takes f) both in
            let a = total-append (hit z) kept others in let x = total-append (hit z) now rest in let y = total-append (hit z) now kept in
            omega (arith, h, m, k, t, u, v, a, x, y)

        -- no firing of its part was earlier
        first_of_part : (g : F) → Contains c.fired g → role f ≡ role g → ⊥
        first_of_part g k e =
            let r = laws.rivals f g c.fired s.once k mine (takes_allowed c s g k) e in
            let u = untaken r.0 r.1 in let t = taken_counts g c.fired r.0 k in let v = r.2 in omega (arith, u, t, v)

        one_of : {g h : F} → (f ≡ g) ⊎ Contains c.fired g → (f ≡ h) ⊎ Contains c.fired h → role g ≡ role h → g ≡ h
        one_of (inl a) (inl d) e = sym a ∙ d
        one_of {h = h} (inl a) (inr d) e = absurd (first_of_part h d (ap role a ∙ e))
        one_of {g = g} (inr a) (inl d) e = absurd (first_of_part g a (ap role d ∙ sym e))
        one_of {g = g} {h = h} (inr a) (inr d) e = s.once g h a d e

        fresh : (x : X) → 0 < total (hit x) (makes f) → weigh makes (hit x) c.fired ≡ 0
        fresh x h = pick (maker x c.fired)
          where
            pick : (weigh makes (hit x) c.fired ≡ 0) ⊎ ((g : F) × Contains c.fired g × (0 < total (hit x) (makes g))) → weigh makes (hit x) c.fired ≡ 0
            pick (inl e) = e
            pick (inr (g, k, l)) = absurd (first_of_part g k (laws.feeders f g c.fired x mine (takes_allowed c s g k) h l))

        by_hit : (x : X) → (total (hit x) (makes f) ≡ 0) ⊎ (total (hit x) (makes f) ≡ 0 → ⊥) → total (hit x) begins + weigh makes (hit x) (f ∷ c.fired) ≤ 1
        by_hit x (inl e) = let k = s.safe x in omega (arith, e, k)
        by_hit x (inr n) =
            let pos : 0 < total (hit x) (makes f) = omega (arith, n) in let a = fresh x pos in let d = laws.begins_apart f c.fired x mine pos in
            let o = laws.makes_once f c.fired x mine in omega (arith, a, d, o)

    -- EACH MOVE KEEPS A LAWFUL NET SOUND
    pub net_sound_moves : (c d : NetConfig I F) → IsNetSound Allowed c → NetMove takes makes c d → IsNetSound Allowed d
    net_sound_moves c d s (Waits i rest p e) = subst (IsNetSound Allowed) (sym e) (net_waits c s i rest p)
    net_sound_moves c d s (Fires f now kept rest others p q both e) = subst (IsNetSound Allowed) (sym e) (net_fires c s f now kept rest others p q both)

    pub net_sound_begins : IsNetSound Allowed (record { pending = begins; waiting = []; fired = [] })
    net_sound_begins = record {
      marked = λ g. omega arith;
      allowed = All-append (Allowed []) begins [] laws.starts (All-nil (Allowed []));
      safe = λ x. let k = laws.begins_once x in omega (arith, k);
      once = λ f h a d e. absurd (contains_none f a);
    }
