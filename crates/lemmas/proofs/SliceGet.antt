-- What is at a place of a list.
use Rattle.std.proofs.Common.{[], ◌++◌, ◌+◌, ◌<◌, ◌∷◌, ◌≡◌, ◌≤◌, ◌⊎◌, List, None, Some, arith, inl, inr, length, map, refl, slice_get, suc, sym, zero, ℕ}

-- an element is at each place within
pub get_some : {X : Type 0} (xs : List X) (i : ℕ) → i < length xs → (x : X) × (slice_get xs i ≡ Some x)
get_some [] i h = absurd (omega (arith, h))
get_some (x ∷ xs) zero h = (x, refl)
get_some (x ∷ xs) (suc i) h = get_some xs i (omega (arith, h))

-- where nothing is, the list has ended
pub get_none : {X : Type 0} (xs : List X) (i : ℕ) → slice_get xs i ≡ None → length xs ≤ i
get_none [] i e = omega (arith)
get_none (x ∷ xs) zero e = absurd cc
get_none (x ∷ xs) (suc i) e =
    let below = get_none xs i e in
    omega (arith, below)

-- what is in two lists, one after the other, is in one of them
pub get_append_cases : {X : Type 0} (xs ys : List X) (i : ℕ) (y : X) → slice_get (xs ++ ys) i ≡ Some y
    → (slice_get xs i ≡ Some y) ⊎ ((j : ℕ) × (i ≡ length xs + j) × (slice_get ys j ≡ Some y))
get_append_cases [] ys i y e = inr (i, omega arith, e)
get_append_cases (x ∷ xs) ys zero y e = inl e
get_append_cases (x ∷ xs) ys (suc i) y e = shift (get_append_cases xs ys i y e)
  where
    shift : (slice_get xs i ≡ Some y) ⊎ ((j : ℕ) × (i ≡ length xs + j) × (slice_get ys j ≡ Some y))
        → (slice_get xs i ≡ Some y) ⊎ ((j : ℕ) × (suc i ≡ length (x ∷ xs) + j) × (slice_get ys j ≡ Some y))
    shift (inl h) = inl h
    shift (inr (j, h, g)) = inr (j, omega (arith, h), g)

-- IN A MAPPED LIST
pub map_get : {X Y : Type 0} (f : X → Y) (xs : List X) (i : ℕ) (x : X) → slice_get xs i ≡ Some x → slice_get (map f xs) i ≡ Some (f x)
map_get f [] i x e = cc
map_get f (y ∷ xs) zero x e = cc
map_get f (y ∷ xs) (suc i) x e = map_get f xs i x e

pub map_get_back : {X Y : Type 0} (f : X → Y) (xs : List X) (i : ℕ) (y : Y) → slice_get (map f xs) i ≡ Some y → (x : X) × (slice_get xs i ≡ Some x) × (f x ≡ y)
map_get_back f [] i y e = cc
map_get_back f (x ∷ xs) zero y e = (x, refl, cc)
map_get_back f (x ∷ xs) (suc i) y e = map_get_back f xs i y e

pub map_got : {X Y : Type 0} (f : X → Y) (xs : List X) (i : ℕ) (y : Y) → slice_get (map f xs) i ≡ Some y → (x : X) × (slice_get xs i ≡ Some x) × (y ≡ f x)
map_got f xs i y e = let m = map_get_back f xs i y e in (m.0, m.1, sym m.2)
