-- Tables of literals that ascend: two with the same literals are the same, and a literal that is put in keeps the order.
use Rattle.std.proofs.Common.{◌≡◌, ℕ, zero, suc, ◌+◌, ◌<◌, ◌≤◌, not, Bool, true, false, cond, List, [], ◌∷◌, length, get_or, Some, ℤ, refl, sym, ap}
use Rattle.std.proofs.Common.{subst, ◌∙◌, arith, inl, inr, Less, Equal, Greater}
use Rattle.std.specs.Prelude.{⊤, ◌⊎◌, slice_get, int_lt}
use Rattle.std.specs.Ordering.{int_cmp, match_ordering}
use Rattle.std.specs.BTreeSet.{insert_key}
use Rattle.std.proofs.lemmas.Bool.{and_from, not_from_false, false≢true}
use Rattle.lemmas.proofs.Integers.{int_lt_trans, int_lt_itself}
use Rattle.assembler.proofs.Fitting.{same_int}

-- z is one of them
abbrev pub In : ℤ → List ℤ → Type 0
In z [] = ⊥
In z (x ∷ xs) = (x ≡ z) ⊎ In z xs

-- each of them is above x
abbrev pub Above : ℤ → List ℤ → Type 0
Above x [] = ⊤
Above x (y ∷ ys) = (int_lt x y ≡ true) × Above x ys

abbrev pub Ascends : List ℤ → Type 0
Ascends [] = ⊤
Ascends (x ∷ xs) = Above x xs × Ascends xs

never : (z : ℤ) → int_lt z z ≡ true → ⊥
never z e = false≢true (sym (int_lt_itself z) ∙ e)

above_in : (x z : ℤ) (xs : List ℤ) → Above x xs → In z xs → int_lt x z ≡ true
above_in x z [] h i = absurd i
above_in x z (y ∷ ys) h (inl e) = subst (λ (w : ℤ). int_lt x w ≡ true) e h.0
above_in x z (y ∷ ys) h (inr i) = above_in x z ys h.1 i

above_more : (x y : ℤ) (ys : List ℤ) → int_lt x y ≡ true → Above y ys → Above x ys
above_more x y [] lt h = tt
above_more x y (z ∷ zs) lt h = (int_lt_trans x y z lt h.0, above_more x y zs lt h.1)

pub ascends_from : (zs : List ℤ) → ((k : ℕ) (y z : ℤ) → slice_get zs k ≡ Some y → slice_get zs (k + 1) ≡ Some z → int_lt y z ≡ true) → Ascends zs
ascends_from [] h = tt
ascends_from (y ∷ []) h = (tt, tt)
ascends_from (y ∷ z ∷ zs) h =
    let first : int_lt y z ≡ true = h 0 y z refl refl in
    let rest = ascends_from (z ∷ zs) (λ k a b at next. let e : suc k + 1 ≡ suc (k + 1) = omega arith
    in h (suc k) a b at (ap (slice_get (y ∷ z ∷ zs)) e ∙ next)) in
    ((first, above_more y z zs first rest.0), rest)

above_first : (x z : ℤ) (xs : List ℤ) → Above x xs → slice_get xs 0 ≡ Some z → int_lt x z ≡ true
above_first x z [] h at = absurd cc
above_first x z (y ∷ ys) h at = let e : y ≡ z = cc (at) in subst (λ (w : ℤ). int_lt x w ≡ true) e h.0

pub steps_up : (zs : List ℤ) → Ascends zs → (k : ℕ) (y z : ℤ) → slice_get zs k ≡ Some y → slice_get zs (k + 1) ≡ Some z → int_lt y z ≡ true
steps_up [] h zero y z at next = absurd cc
steps_up [] h (suc k) y z at next = absurd cc
steps_up (x ∷ xs) h zero y z at next = let e : x ≡ y = cc (at) in subst (λ (w : ℤ). int_lt w z ≡ true) e (above_first x z xs h.0 next)
steps_up (x ∷ xs) h (suc k) y z at next =
    let e : suc (k + 1) ≡ suc k + 1 = omega arith in
    steps_up xs h.1 k y z at (ap (slice_get (x ∷ xs)) e ∙ next)

-- ---- the same literals
abbrev Covers : List ℤ → List ℤ → Type 0
Covers xs ys = (z : ℤ) → In z xs → In z ys

same_heads : (x y : ℤ) (xs ys : List ℤ) → Above x xs → Above y ys → In x (y ∷ ys) → In y (x ∷ xs) → x ≡ y
same_heads x y xs ys a b (inl e) j = sym e
same_heads x y xs ys a b (inr i) (inl e) = e
same_heads x y xs ys a b (inr i) (inr j) = absurd (never x (int_lt_trans x y x (above_in x y xs a j) (above_in y x ys b i)))

in_tail : (x y : ℤ) (xs ys : List ℤ) → x ≡ y → Above x xs → Covers (x ∷ xs) (y ∷ ys) → Covers xs ys
in_tail x y xs ys e a h z i = go (h z (inr i))
  where
    go : In z (y ∷ ys) → In z ys
    go (inl k) = absurd (never x (above_in x x xs a (subst (λ (w : ℤ). In w xs) (sym (e ∙ k)) i)))
    go (inr j) = j

pub same_members : (xs ys : List ℤ) → Ascends xs → Ascends ys → Covers xs ys → Covers ys xs → xs ≡ ys
same_members [] [] a b h k = refl
same_members [] (y ∷ ys) a b h k = absurd (k y (inl refl))
same_members (x ∷ xs) [] a b h k = absurd (h x (inl refl))
same_members (x ∷ xs) (y ∷ ys) a b h k =
    let e : x ≡ y = same_heads x y xs ys a.0 b.0 (h x (inl refl)) (k y (inl refl)) in
    ap (λ (w : ℤ). w ∷ xs) e ∙ ap (λ (zs : List ℤ). y ∷ zs) (same_members xs ys a.1 b.1 (in_tail x y xs ys e a.0 h) (in_tail y x ys xs (sym e) b.0 k))

-- a table that has no other literals has no more
pub no_more : (ys xs : List ℤ) → Ascends xs → Ascends ys → Covers xs ys → length xs ≤ length ys
no_more [] [] a b h = omega arith
no_more [] (x ∷ xs) a b h = absurd (h x (inl refl))
no_more (y ∷ ys) [] a b h = omega arith
no_more (y ∷ ys) (x ∷ xs) a b h = go (h x (inl refl)) (no_more ys xs a.1 b.1) (no_more ys (x ∷ xs) a b.1)
  where
    behind : In x ys → Covers (x ∷ xs) ys
    behind i z j = skip (h z j)
      where
        below : In z (x ∷ xs) → int_lt y z ≡ true
        below (inl e) = subst (λ (w : ℤ). int_lt y w ≡ true) e (above_in y x ys b.0 i)
        below (inr m) = int_lt_trans y x z (above_in y x ys b.0 i) (above_in x z xs a.0 m)

        skip : In z (y ∷ ys) → In z ys
        skip (inl e) = absurd (never z (subst (λ (w : ℤ). int_lt w z ≡ true) e (below j)))
        skip (inr m) = m

    go : In x (y ∷ ys) → (Covers xs ys → length xs ≤ length ys) → (Covers (x ∷ xs) ys → length (x ∷ xs) ≤ length ys) → length (x ∷ xs) ≤ length (y ∷ ys)
    go (inl e) one two = let le = one (in_tail x y xs ys (sym e) a.0 h) in omega arith
    go (inr i) one two = let le = two (behind i) in omega arith

-- ---- one more literal
abbrev put : List ℤ → ℤ → List ℤ
put zs k = insert_key int_cmp zs k

-- where a literal goes, by two tests
abbrev put_by : Bool → Bool → ℤ → ℤ → List ℤ → List ℤ
put_by below above k x xs = match_ordering (cond below Less (cond above Greater Equal)) (k ∷ x ∷ xs) (x ∷ xs) (x ∷ put xs k)

put_is : (x k : ℤ) (xs : List ℤ) → put (x ∷ xs) k ≡ put_by (int_lt k x) (int_lt x k) k x xs
put_is x k xs = refl

equal_is : (k x : ℤ) → int_lt k x ≡ false → int_lt x k ≡ false → k ≡ x
equal_is k x a b = same_int k x (and_from (not (int_lt x k)) (not (int_lt k x)) (not_from_false (int_lt x k) b) (not_from_false (int_lt k x) a))

above_put : (w k : ℤ) (xs : List ℤ) → int_lt w k ≡ true → Above w xs → Above w (put xs k)
above_put w k [] lt h = (lt, tt)
above_put w k (x ∷ xs) lt h = go (int_lt k x) (int_lt x k) (above_put w k xs lt h.1)
  where
    go : (below above : Bool) → Above w (put xs k) → Above w (put_by below above k x xs)
    go true above ih = (lt, h)
    go false true ih = (h.0, ih)
    go false false ih = h

pub ascends_put : (k : ℤ) (xs : List ℤ) → Ascends xs → Ascends (put xs k)
ascends_put k [] h = (tt, tt)
ascends_put k (x ∷ xs) h = go (int_lt k x) (int_lt x k) refl refl (ascends_put k xs h.1)
  where
    go : (below above : Bool) → int_lt k x ≡ below → int_lt x k ≡ above → Ascends (put xs k) → Ascends (put_by below above k x xs)
    go true above e f ih = ((e, above_more k x xs e h.0), h)
    go false true e f ih = (above_put x k xs f h.0, ih)
    go false false e f ih = h

pub put_has : (z k : ℤ) (xs : List ℤ) → In z (put xs k) → (k ≡ z) ⊎ In z xs
put_has z k [] i = i
put_has z k (x ∷ xs) i = go (int_lt k x) (int_lt x k) i (put_has z k xs)
  where
    go : (below above : Bool) → In z (put_by below above k x xs) → (In z (put xs k) → (k ≡ z) ⊎ In z xs) → (k ≡ z) ⊎ In z (x ∷ xs)
    go true above (inl e) ih = inl e
    go true above (inr j) ih = inr j
    go false true (inl e) ih = inr (inl e)
    go false true (inr j) ih = later (ih j)
      where
        later : (k ≡ z) ⊎ In z xs → (k ≡ z) ⊎ In z (x ∷ xs)
        later (inl e) = inl e
        later (inr m) = inr (inr m)
    go false false j ih = inr j

pub put_new : (k : ℤ) (xs : List ℤ) → In k (put xs k)
put_new k [] = inl refl
put_new k (x ∷ xs) = go (int_lt k x) (int_lt x k) refl refl (put_new k xs)
  where
    go : (below above : Bool) → int_lt k x ≡ below → int_lt x k ≡ above → In k (put xs k) → In k (put_by below above k x xs)
    go true above e f ih = inl refl
    go false true e f ih = inr ih
    go false false e f ih = inl (sym (equal_is k x e f))

pub put_old : (z k : ℤ) (xs : List ℤ) → In z xs → In z (put xs k)
put_old z k [] i = absurd i
put_old z k (x ∷ xs) i = go (int_lt k x) (int_lt x k) i (put_old z k xs)
  where
    go : (below above : Bool) → In z (x ∷ xs) → (In z xs → In z (put xs k)) → In z (put_by below above k x xs)
    go true above j ih = inr j
    go false true (inl e) ih = inl e
    go false true (inr j) ih = inr (ih j)
    go false false j ih = j

-- ---- by places
pub in_from : (z : ℤ) (zs : List ℤ) (k : ℕ) → k < length zs → get_or zs k z ≡ z → In z zs
in_from z [] k lt at = absurd (omega arith)
in_from z (y ∷ ys) zero lt at = inl at
in_from z (y ∷ ys) (suc k) lt at = inr (in_from z ys k (omega arith) at)

pub place_of : (z : ℤ) (zs : List ℤ) → In z zs → (k : ℕ) × (k < length zs) × (slice_get zs k ≡ Some z)
place_of z [] i = absurd i
place_of z (y ∷ ys) (inl e) = (0, omega arith, ap (λ (w : ℤ). Some w) e)
place_of z (y ∷ ys) (inr i) = let p = place_of z ys i in (suc p.0, (let lt = p.1 in omega arith), p.2)

pub in_at : (z : ℤ) (zs : List ℤ) (k : ℕ) → slice_get zs k ≡ Some z → In z zs
in_at z [] zero at = absurd cc
in_at z [] (suc k) at = absurd cc
in_at z (y ∷ ys) zero at = let e : y ≡ z = cc (at) in inl e
in_at z (y ∷ ys) (suc k) at = inr (in_at z ys k at)
