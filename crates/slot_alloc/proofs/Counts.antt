-- A list that has each number below n has at least n items.
use Rattle.std.proofs.Common.{◌≡◌, refl, sym, ap, ◌∙◌, ℕ, zero, suc, ◌<◌, ◌≤◌, Bool, true, false, cond, ◌||◌, ◌==◌, List, [], ◌∷◌, length, get_or}
use Rattle.std.proofs.Common.{⊎_elim, arith}
use Rattle.std.proofs.lemmas.Bool.{both_ways, cases_eq, eq-eqb, ne_eqb, or_cases, or_left, or_right}

abbrev has : ℕ → List ℕ → Bool
has s [] = false
has s (x ∷ xs) = (x == s) || has s xs

abbrev without : ℕ → List ℕ → List ℕ
without n [] = []
without n (x ∷ xs) = cond (x == n) (without n xs) (x ∷ without n xs)

has_at : (xs : List ℕ) (k s : ℕ) → k < length xs → get_or xs k 0 ≡ s → has s xs ≡ true
has_at [] k s below e = let none : k < 0 → ⊥ = λ lt. omega (arith, lt) in absurd (none below)
has_at (x ∷ xs) zero s below e = or_left (x == s) (has s xs) (eq-eqb x s e)
has_at (x ∷ xs) (suc k) s below e = or_right (x == s) (has s xs) (has_at xs k s (omega (arith, below)) e)

long_without : (n : ℕ) (xs : List ℕ) → length (without n xs) ≤ length xs
long_without n [] = omega arith
long_without n (x ∷ xs) = by_test (x == n) (long_without n xs)
  where
    by_test : (t : Bool) → length (without n xs) ≤ length xs → length (cond t (without n xs) (x ∷ without n xs)) ≤ suc (length xs)
    by_test true h = omega (arith, h)
    by_test false h = omega (arith, h)

long_with : (n : ℕ) (xs : List ℕ) → has n xs ≡ true → length (without n xs) < length xs
long_with n [] h = absurd (both_ways false refl h)
long_with n (x ∷ xs) h = by_test (x == n) (λ e. long_with n xs e) h
  where
    by_test : (t : Bool) → (has n xs ≡ true → length (without n xs) < length xs) → (t || has n xs) ≡ true
        → length (cond t (without n xs) (x ∷ without n xs)) < suc (length xs)
    by_test true later e = let le = long_without n xs in omega (arith, le)
    by_test false later e = let lt = later e in omega (arith, lt)

has_without : (n s : ℕ) (xs : List ℕ) → (s ≡ n → ⊥) → has s xs ≡ true → has s (without n xs) ≡ true
has_without n s [] ne h = h
has_without n s (x ∷ xs) ne h = ⊎_elim
    (λ (at : x ≡ n).
    let off : (x == s) ≡ false = ne_eqb x s (λ e. ne (sym e ∙ at)) in
    let later : has s xs ≡ true = ap (λ t. t || has s xs) (sym off) ∙ h in
    ap (λ t. has s (cond t (without n xs) (x ∷ without n xs))) (eq-eqb x n at) ∙ has_without n s xs ne later)
    (λ (other : x ≡ n → ⊥).
    ap (λ t. has s (cond t (without n xs) (x ∷ without n xs))) (ne_eqb x n other)
    ∙ ⊎_elim
    (λ e. or_left (x == s) (has s (without n xs)) e)
    (λ e. or_right (x == s) (has s (without n xs)) (has_without n s xs ne e))
    (or_cases (x == s) (has s xs) h))
    (cases_eq x n)

all_there : (n : ℕ) (xs : List ℕ) → ((s : ℕ) → s < n → has s xs ≡ true) → n ≤ length xs
all_there zero xs h = omega arith
all_there (suc n) xs h =
    let more = all_there n (without n xs) (λ s lt. has_without n s xs (λ e. omega (arith, e, lt)) (h s (omega (arith, lt)))) in
    let less = long_with n xs (h n (omega arith)) in
    omega (arith, more, less)

-- each number below n is somewhere in the list
pub so_long : (n : ℕ) (xs : List ℕ) → ((s : ℕ) → s < n → (k : ℕ) × (k < length xs) × (get_or xs k 0 ≡ s)) → n ≤ length xs
so_long n xs h = all_there n xs (λ s lt. let w = h s lt in has_at xs w.0 s w.1 w.2)
