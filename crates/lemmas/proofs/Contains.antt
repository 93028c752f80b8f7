-- What a list contains.
use Rattle.std.proofs.Common.{[], ◌∙◌, ◌∷◌, ◌≡◌, ◌⊎◌, Contains, List, Some, ap, arith, flat_map, inl, inr, map, refl, slice_get, suc, zero, ℕ}
use Rattle.std.proofs.lemmas.List.Elements.{Contains-append_cases}
use Rattle.std.proofs.lemmas.Option.{get_or_from_slice_get, slice_get-get_or, slice_get_within}

pub contains_head : {X : Type 0} (x : X) (xs : List X) → Contains (x ∷ xs) x
contains_head x xs = (0, omega arith, refl)

pub contains_tail : {X : Type 0} (x : X) (xs : List X) (y : X) → Contains xs y → Contains (x ∷ xs) y
contains_tail x xs y h = (suc h.0, omega (arith, h.1), h.2)

pub contains_cases : {X : Type 0} (x : X) (xs : List X) (y : X) → Contains (x ∷ xs) y → (x ≡ y) ⊎ Contains xs y
contains_cases x xs y (zero, below, e) = inl e
contains_cases x xs y (suc k, below, e) = inr (k, omega (arith, below), e)

pub contains_none : {X : Type 0} (y : X) → Contains [] y → ⊥
contains_none y (k, below, e) = omega (arith, below)

-- AT A PLACE
pub get_contains : {X : Type 0} (xs : List X) (i : ℕ) (x : X) → slice_get xs i ≡ Some x → Contains xs x
get_contains xs i x e = (i, slice_get_within xs i x e, get_or_from_slice_get xs i x x e)

pub contains_get : {X : Type 0} (xs : List X) (x : X) → Contains xs x → (i : ℕ) × (slice_get xs i ≡ Some x)
contains_get xs x h = (h.0, slice_get-get_or xs h.0 x h.1 ∙ ap (λ y. Some y) h.2)

-- OF IMAGES
pub contains_map : {X Y : Type 0} (f : X → Y) (xs : List X) (x : X) → Contains xs x → Contains (map f xs) (f x)
contains_map f [] x c = absurd (contains_none x c)
contains_map f (y ∷ xs) x c = pick (contains_cases y xs x c) (contains_map f xs x)
  where
    pick : (y ≡ x) ⊎ Contains xs x → (Contains xs x → Contains (map f xs) (f x)) → Contains (map f (y ∷ xs)) (f x)
    pick (inl e) more = (0, omega arith, ap f e)
    pick (inr d) more = contains_tail (f y) (map f xs) (f x) (more d)

pub contains_mapped : {X Y : Type 0} (f : X → Y) (xs : List X) (y : Y) → Contains (map f xs) y → (x : X) × Contains xs x × (f x ≡ y)
contains_mapped f [] y c = absurd (contains_none y c)
contains_mapped f (x ∷ xs) y c = pick (contains_cases (f x) (map f xs) y c) (contains_mapped f xs y)
  where
    pick : (f x ≡ y) ⊎ Contains (map f xs) y → (Contains (map f xs) y → (x : _) × Contains xs x × (f x ≡ y)) → (z : _) × Contains (x ∷ xs) z × (f z ≡ y)
    pick (inl e) more = (x, contains_head x xs, e)
    pick (inr d) more = let m = more d in (m.0, contains_tail x xs m.0 m.1, m.2)

pub contains_flat_mapped : {X Y : Type 0} (f : X → List Y) (xs : List X) (y : Y) → Contains (flat_map f xs) y → (x : X) × Contains xs x × Contains (f x) y
contains_flat_mapped f [] y c = absurd (contains_none y c)
contains_flat_mapped f (x ∷ xs) y c = pick (Contains-append_cases (f x) (flat_map f xs) y c) (contains_flat_mapped f xs y)
  where
    pick : Contains (f x) y ⊎ Contains (flat_map f xs) y → (Contains (flat_map f xs) y → (z : _) × Contains xs z × Contains (f z) y) → (z : _)
        × Contains (x ∷ xs) z × Contains (f z) y
    pick (inl d) more = (x, contains_head x xs, d)
    pick (inr d) more = let m = more d in (m.0, contains_tail x xs m.0 m.1, m.2)
