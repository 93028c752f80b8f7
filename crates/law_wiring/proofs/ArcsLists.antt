-- Instructions at their places, while instructions and destinations are added.
use Rattle.std.proofs.Common.{◌≡◌, ℕ, zero, suc, ◌+◌, ◌<◌, Bool, true, false, ◌⊎◌, inl, inr, List, [], ◌∷◌, ◌++◌, length, refl, ap, subst, arith, Some}
use Rattle.std.specs.Prelude.{slice_get, slice_set, slice_index_or}
use Rattle.semantics.specs.declared.program.Dest.{Dest}
use Rattle.semantics.specs.Program.{Instr}
use Rattle.schemas.specs.Builds.{with_dest, no_instr}

-- PUSHING
pub get_push : {X : Type 0} (xs : List X) (x : X) (n : ℕ) (y : X) → slice_get (xs ++ x ∷ []) n ≡ Some y
    → (slice_get xs n ≡ Some y) ⊎ ((n ≡ length xs) × (x ≡ y))
get_push [] x zero y e = inr (refl, cc)
get_push [] x (suc n) y e = absurd (cc)
get_push (z ∷ xs) x zero y e = inl e
get_push {X} (z ∷ xs) x (suc n) y e = go (get_push xs x n y e)
  where
    go : (slice_get xs n ≡ Some y) ⊎ ((n ≡ length xs) × (x ≡ y)) → (slice_get (z ∷ xs) (suc n) ≡ Some y) ⊎ ((suc n ≡ length (z ∷ xs)) × (x ≡ y))
    go (inl h) = inl h
    go (inr (p, q)) = inr (ap suc p, q)

pub get_old : {X : Type 0} (xs : List X) (x : X) (n : ℕ) (y : X) → slice_get xs n ≡ Some y → slice_get (xs ++ x ∷ []) n ≡ Some y
get_old [] x n y e = absurd (cc)
get_old (z ∷ xs) x zero y e = e
get_old (z ∷ xs) x (suc n) y e = get_old xs x n y e

pub get_new : {X : Type 0} (xs : List X) (x : X) → slice_get (xs ++ x ∷ []) (length xs) ≡ Some x
get_new [] x = refl
get_new (z ∷ xs) x = get_new xs x

pub get_left : {X : Type 0} (xs ys : List X) (n : ℕ) (x : X) → slice_get xs n ≡ Some x → slice_get (xs ++ ys) n ≡ Some x
get_left [] ys n x e = absurd (cc)
get_left (y ∷ xs) ys zero x e = e
get_left (y ∷ xs) ys (suc n) x e = get_left xs ys n x e

pub get_right : {X : Type 0} (xs ys : List X) (n k : ℕ) (x : X) → n ≡ length xs + k → slice_get ys k ≡ Some x → slice_get (xs ++ ys) n ≡ Some x
get_right [] ys n k x q e = let same : k ≡ n = omega (arith, q) in subst (λ m. slice_get ys m ≡ Some x) same e
get_right (y ∷ xs) ys zero k x q e = absurd (omega (arith, q))
get_right (y ∷ xs) ys (suc n) k x q e = get_right xs ys n k x (omega (arith, q)) e

pub length_push : {X : Type 0} (xs : List X) (x : X) → length (xs ++ x ∷ []) ≡ suc (length xs)
length_push [] x = refl
length_push (z ∷ xs) x = ap suc (length_push xs x)

pub index_old : {X : Type 0} (xs : List X) (x d : X) (j : ℕ) → j < length xs → slice_index_or (xs ++ x ∷ []) j d ≡ slice_index_or xs j d
index_old [] x d j h = absurd (omega (arith, h))
index_old (y ∷ xs) x d zero h = refl
index_old (y ∷ xs) x d (suc j) h = index_old xs x d j (omega (arith, h))

pub index_new : {X : Type 0} (xs : List X) (x d : X) → slice_index_or (xs ++ x ∷ []) (length xs) d ≡ x
index_new [] x d = refl
index_new (y ∷ xs) x d = index_new xs x d

-- ONE MORE DESTINATION
abbrev pub linked_in : List Instr → ℕ → Bool → Dest → List Instr
linked_in is n s d = slice_set is n (with_dest (slice_index_or is n no_instr) s d)

pub length_linked : (is : List Instr) (n : ℕ) (s : Bool) (d : Dest) → length (linked_in is n s d) ≡ length is
length_linked [] n s d = refl
length_linked (i ∷ is) zero s d = refl
length_linked (i ∷ is) (suc n) s d = ap suc (length_linked is n s d)

-- an instruction is as it was, or is the one with the new destination
pub get_linked : (is : List Instr) (n : ℕ) (s : Bool) (d : Dest) (m : ℕ) (i : Instr) → slice_get (linked_in is n s d) m ≡ Some i
    → ((m ≡ n → ⊥) × (slice_get is m ≡ Some i)) ⊎ ((m ≡ n) × (j : Instr) × (slice_get is n ≡ Some j) × (with_dest j s d ≡ i))
get_linked [] n s d m i e = absurd (cc)
get_linked (x ∷ is) zero s d zero i e = inr (refl, x, refl, cc)
get_linked (x ∷ is) zero s d (suc m) i e = inl (λ p. cc, e)
get_linked (x ∷ is) (suc n) s d zero i e = inl (λ p. cc, e)
get_linked (x ∷ is) (suc n) s d (suc m) i e = go (get_linked is n s d m i e)
  where
    go : ((m ≡ n → ⊥) × (slice_get is m ≡ Some i)) ⊎ ((m ≡ n) × (j : Instr) × (slice_get is n ≡ Some j) × (with_dest j s d ≡ i))
        → ((suc m ≡ suc n → ⊥) × (slice_get (x ∷ is) (suc m) ≡ Some i))
        ⊎ ((suc m ≡ suc n) × (j : Instr) × (slice_get (x ∷ is) (suc n) ≡ Some j) × (with_dest j s d ≡ i))
    go (inl (p, q)) = inl (λ f. p (omega (arith, f)), q)
    go (inr (p, j, q, r)) = inr (ap suc p, j, q, r)

pub same_op : (i : Instr) (s : Bool) (d : Dest) → (with_dest i s d).op ≡ i.op
same_op i true d = refl
same_op i false d = refl

-- NUMBERS
pub split : (k n : ℕ) → k < suc n → (k < n) ⊎ (k ≡ n)
split zero zero h = inr refl
split zero (suc n) h = inl (omega arith)
split (suc k) zero h = absurd (omega (arith, h))
split (suc k) (suc n) h = go (split k n (omega (arith, h)))
  where
    go : (k < n) ⊎ (k ≡ n) → (suc k < suc n) ⊎ (suc k ≡ suc n)
    go (inl p) = inl (omega (arith, p))
    go (inr p) = inr (ap suc p)
