-- The first fault of a list.
use Rattle.std.proofs.Common.{◌≡◌, ℕ, zero, suc, ◌+◌, ◌<◌, List, [], ◌∷◌, length, get_or, drop, Option, Some, None, refl, ap, ◌∙◌, ◌≤◌, arith}
use Rattle.std.proofs.Math.ListN.{drop_of_length-le}
use Rattle.graph_check.specs.FirstFault.{or_later, first_in}

pub or_later_none : {F : Type 0} (x y : Option F) → x ≡ None → or_later x y ≡ y
or_later_none x y e = ap (λ v. or_later v y) e

pub or_later_some : {F : Type 0} (x y : Option F) (f : F) → x ≡ Some f → or_later x y ≡ Some f
or_later_some x y f e = ap (λ v. or_later v y) e

-- what is left of a list from item i on
first_in_next : {X F : Type 0} (f : ℕ → X → Option F) (n : ℕ) (xs : List X) (i : ℕ) (d : X) → i < length xs
    → first_in f (n + i) (drop i xs) ≡ or_later (f (n + i) (get_or xs i d)) (first_in f (n + i + 1) (drop (suc i) xs))
first_in_next f n [] i d h = absurd (omega arith)
first_in_next f n (x ∷ xs) zero d h =
    let e : n + 0 ≡ n = omega arith in
    rw e refl
first_in_next f n (x ∷ xs) (suc i) d h =
    let e : n + suc i ≡ n + 1 + i = omega arith in
    rw e (first_in_next f (n + 1) xs i d (omega arith))

pub first_in_turn : {X F : Type 0} (f : ℕ → X → Option F) (xs : List X) (i : ℕ) (d : X) → i < length xs
    → first_in f i (drop i xs) ≡ or_later (f i (get_or xs i d)) (first_in f (i + 1) (drop (i + 1) xs))
first_in_turn f xs i d h =
    let e : 0 + i ≡ i = omega arith in
    let n : suc i ≡ i + 1 = omega arith in
    rw e at (first_in_next f 0 xs i d h) ∙ ap (λ j. or_later (f i (get_or xs i d)) (first_in f (i + 1) (drop j xs))) n

pub first_in_end : {X F : Type 0} (f : ℕ → X → Option F) (xs : List X) (i : ℕ) → length xs ≤ i → first_in f i (drop i xs) ≡ None
first_in_end f xs i h = ap (λ l. first_in f i l) (drop_of_length-le xs h)

-- One turn of a loop over the list that has found no fault so far: it finds none, and goes on, or it finds one.
pub goes_on : {X F : Type 0} (f : ℕ → X → Option F) (xs : List X) (i : ℕ) (x : X) (all : Option F) → i < length xs → get_or xs i x ≡ x
    → all ≡ first_in f i (drop i xs) → f i x ≡ None → all ≡ first_in f (i + 1) (drop (i + 1) xs)
goes_on f xs i x all h at before none = before ∙ first_in_turn f xs i x h ∙ or_later_none _ _ (ap (λ y. f i y) at ∙ none)

pub finds : {X F : Type 0} (f : ℕ → X → Option F) (xs : List X) (i : ℕ) (x : X) (all : Option F) (e : F) → i < length xs → get_or xs i x ≡ x
    → all ≡ first_in f i (drop i xs) → f i x ≡ Some e → all ≡ Some e
finds f xs i x all e h at before some = before ∙ first_in_turn f xs i x h ∙ or_later_some _ _ e (ap (λ y. f i y) at ∙ some)

pub finds_none : {X F : Type 0} (f : ℕ → X → Option F) (xs : List X) (i : ℕ) (all : Option F) → length xs ≤ i
    → all ≡ first_in f i (drop i xs) → all ≡ None
finds_none f xs i all h before = before ∙ first_in_end f xs i h
