-- From a value for each number below n to one function.
use Rattle.std.proofs.Common.{ℕ, ◌<◌, ◌≤◌, ◌⊎◌, inl, inr, arith}
use Rattle.std.proofs.lemmas.Bool.{cases_lt}

abbrev pick : {X : Type 0} (n e : ℕ) (d : X) (P : ℕ → X → Type 0) → ((i : ℕ) → i < n → (x : X) × P i x) → (e < n) ⊎ (n ≤ e) → X
pick n e d P all (inl low) = (all e low).0
pick n e d P all (inr over) = d

picked : {X : Type 0} (n e : ℕ) (d : X) (P : ℕ → X → Type 0) (all : (i : ℕ) → i < n → (x : X) × P i x) (c : (e < n) ⊎ (n ≤ e)) → e < n
    → P e (pick n e d P all c)
picked n e d P all (inl low) within = (all e low).1
picked n e d P all (inr over) within = absurd (let no : ⊥ = omega (arith, over, within) in no)

-- the values that there are for the numbers below n, as one function
pub chosen : {X : Type 0} (n : ℕ) (d : X) (P : ℕ → X → Type 0) → ((i : ℕ) → i < n → (x : X) × P i x) → (f : ℕ → X) × ((i : ℕ) → i < n → P i (f i))
chosen n d P all = ((λ e. pick n e d P all (cases_lt e n)), (λ e low. picked n e d P all (cases_lt e n) low))
