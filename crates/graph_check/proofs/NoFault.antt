-- What follows where no fault was found.
use Rattle.std.proofs.Common.{◌≡◌, ℕ, zero, suc, ◌+◌, Bool, true, false, List, [], ◌∷◌, Option, Some, None, refl, ap, ◌∙◌, subst, arith}
use Rattle.std.specs.Prelude.{slice_get}
use Rattle.graph_check.specs.declared.faults.CheckFaultKind.{CheckFaultKind}
use Rattle.graph_check.specs.FirstFault.{or_later, first_in, unless, fault_at}

pub unless_none : (t : Bool) (k : CheckFaultKind) → unless t k ≡ None → t ≡ true
unless_none true k e = refl
unless_none false k e = cc

pub unless_yes : (t : Bool) (k : CheckFaultKind) → t ≡ true → unless t k ≡ None
unless_yes t k e = ap (λ (t : Bool). unless t k) e

pub later_none : {F : Type 0} (x y : Option F) → or_later x y ≡ None → (x ≡ None) × (y ≡ None)
later_none None y e = (refl, e)
later_none (Some f) y e = cc

pub none_later : {F : Type 0} (x y : Option F) → x ≡ None → y ≡ None → or_later x y ≡ None
none_later x y e f = ap (λ v. or_later v y) e ∙ f

pub fault_at_none : (block line : Option ℕ) (k : Option CheckFaultKind) → fault_at block line k ≡ None → k ≡ None
fault_at_none block line None e = refl
fault_at_none block line (Some k) e = cc

pub none_at : (block line : Option ℕ) (k : Option CheckFaultKind) → k ≡ None → fault_at block line k ≡ None
none_at block line k e = ap (λ k. fault_at block line k) e

-- ---- lists

first_from_none : {X F : Type 0} (f : ℕ → X → Option F) (n : ℕ) (xs : List X) → first_in f n xs ≡ None → (i : ℕ) (x : X) → slice_get xs i ≡ Some x
    → f (n + i) x ≡ None
first_from_none f n [] e i x at = cc
first_from_none f n (y ∷ ys) e zero x at =
    let none : f n y ≡ None = (later_none _ _ e).0 in
    let same : y ≡ x = cc in
    let z : n + 0 ≡ n = omega arith in
    rw z (subst (λ y. f n y ≡ None) same none)
first_from_none f n (y ∷ ys) e (suc i) x at =
    let z : n + suc i ≡ n + 1 + i = omega arith in
    rw z (first_from_none f (n + 1) ys (later_none _ _ e).1 i x at)

pub first_none : {X F : Type 0} (f : ℕ → X → Option F) (xs : List X) → first_in f 0 xs ≡ None → (i : ℕ) (x : X) → slice_get xs i ≡ Some x → f i x ≡ None
first_none f xs e i x at =
    let z : 0 + i ≡ i = omega arith in
    rw z at (first_from_none f 0 xs e i x at)

first_from_yes : {X F : Type 0} (f : ℕ → X → Option F) (n : ℕ) (xs : List X) → ((i : ℕ) (x : X) → slice_get xs i ≡ Some x → f (n + i) x ≡ None)
    → first_in f n xs ≡ None
first_from_yes f n [] h = refl
first_from_yes f n (y ∷ ys) h =
    let z : n + 0 ≡ n = omega arith in
    none_later (f n y) (first_in f (n + 1) ys) (rw z at (h 0 y refl))
    (first_from_yes f (n + 1) ys (λ i x at. let z : n + suc i ≡ n + 1 + i = omega arith in rw z at (h (suc i) x at)))

pub first_yes : {X F : Type 0} (f : ℕ → X → Option F) (xs : List X) → ((i : ℕ) (x : X) → slice_get xs i ≡ Some x → f i x ≡ None) → first_in f 0 xs ≡ None
first_yes f xs h = first_from_yes f 0 xs (λ i x at. let z : 0 + i ≡ i = omega arith in rw z (h i x at))
