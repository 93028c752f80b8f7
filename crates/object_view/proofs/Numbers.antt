-- The number of a literal in a table that ascends.
use Rattle.std.proofs.Common.{◌≡◌, ℕ, zero, suc, ◌+◌, ◌<◌, ◌≤◌, Bool, true, false, List, [], ◌∷◌, length, get_or, Some, ℤ, if◌then◌else◌, refl, ap, ◌∙◌, arith}
use Rattle.std.specs.Prelude.{slice_get, int_lt}
use Rattle.lemmas.proofs.Integers.{int_lt_trans}
use Rattle.semantics.specs.Bytes.{number_from}
use Rattle.object_view.specs.Sending.{IsAscending}

number_least : (n : ℕ) (z : ℤ) (ls : List ℤ) → n ≤ number_from n z ls
number_least n z [] = omega arith
number_least n z (x ∷ xs) = go (int_lt x z) (number_least (n + 1) z xs)
  where
    go : (t : Bool) → n + 1 ≤ number_from (n + 1) z xs → n ≤ (if t then number_from (n + 1) z xs else n)
    go true h = omega arith
    go false h = omega arith

pub number_most : (n : ℕ) (z : ℤ) (ls : List ℤ) → number_from n z ls ≤ n + length ls
number_most n z [] = omega arith
number_most n z (x ∷ xs) = go (int_lt x z) (number_most (n + 1) z xs)
  where
    go : (t : Bool) → number_from (n + 1) z xs ≤ (n + 1) + length xs → (if t then number_from (n + 1) z xs else n) ≤ n + length (x ∷ xs)
    go true h = omega arith
    go false h = omega arith

-- where a literal is not below z, the place is no later
pub number_stops : (n : ℕ) (z : ℤ) (ls : List ℤ) (i : ℕ) (d : ℤ) → i < length ls → int_lt (get_or ls i d) z ≡ false → number_from n z ls ≤ n + i
number_stops n z [] i d h e = absurd (omega arith)
number_stops n z (x ∷ xs) zero d h e =
    let s : number_from n z (x ∷ xs) ≡ n = rw e refl in
    omega (arith, s)
number_stops n z (x ∷ xs) (suc i) d h e = go (int_lt x z) (number_stops (n + 1) z xs i d (omega arith) e)
  where
    go : (t : Bool) → number_from (n + 1) z xs ≤ (n + 1) + i → (if t then number_from (n + 1) z xs else n) ≤ n + suc i
    go true h = omega arith
    go false h = omega arith

at_next : (x : ℤ) (xs : List ℤ) (k : ℕ) (y : ℤ) → slice_get xs k ≡ Some y → slice_get (x ∷ xs) (k + 1) ≡ Some y
at_next x xs k y p = let e : k + 1 ≡ suc k = omega arith in ap (slice_get (x ∷ xs)) e ∙ p

later : (x : ℤ) (xs : List ℤ) → IsAscending (x ∷ xs) → IsAscending xs
later x xs a = record { steps = λ k y z p q. a.steps (k + 1) y z (at_next x xs k y p) (at_next x xs (k + 1) z q) }

head_below : (n : ℕ) (z y : ℤ) (ys : List ℤ) → n + 1 ≤ number_from n z (y ∷ ys) → int_lt y z ≡ true
head_below n z y ys h = go (int_lt y z) refl
  where
    go : (t : Bool) → int_lt y z ≡ t → int_lt y z ≡ true
    go true e = e
    go false e =
        let s : number_from n z (y ∷ ys) ≡ n = rw e refl in
        absurd (omega (arith, s, h))

-- where a literal is below z, the place is later
pub number_goes : (n : ℕ) (z : ℤ) (ls : List ℤ) (i : ℕ) (d : ℤ) → IsAscending ls → i < length ls → int_lt (get_or ls i d) z ≡ true
    → n + i + 1 ≤ number_from n z ls
number_goes n z [] i d a h e = absurd (omega arith)
number_goes n z (x ∷ xs) zero d a h e =
    let s : number_from n z (x ∷ xs) ≡ number_from (n + 1) z xs = rw e refl in
    omega (arith, s, number_least (n + 1) z xs)
number_goes n z (x ∷ []) (suc i) d a h e = absurd (omega arith)
number_goes n z (x ∷ y ∷ ys) (suc i) d a h e =
    let ih = number_goes (n + 1) z (y ∷ ys) i d (later x (y ∷ ys) a) (omega arith) e in
    let yz = head_below (n + 1) z y ys (omega (arith, ih)) in
    let xy : int_lt x y ≡ true = a.steps 0 x y refl refl in
    let xz = int_lt_trans x y z xy yz in
    let s : number_from n z (x ∷ y ∷ ys) ≡ number_from (n + 1) z (y ∷ ys) = rw xz refl in
    omega (arith, s, ih)
