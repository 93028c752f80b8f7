-- What holds of each lane in its place.
use Rattle.std.proofs.Common.{◌≡◌, subst, ℕ, zero, suc, ◌+◌, List, [], ◌∷◌, ◌++◌, length, map, Some, arith}
use Rattle.std.specs.Prelude.{slice_get, slice_set}
use Rattle.schedule.specs.State.{AllFrom}

module _ {X : Type 0} (P : ℕ → X → Type 0) where
  pub from_get : (k : ℕ) (xs : List X) (i : ℕ) (x : X) → AllFrom P k xs → slice_get xs i ≡ Some x → P (k + i) x
  from_get k [] i x all e = absurd (let no : ⊥ = cc in no)
  from_get k (y ∷ ys) zero x all e =
      let same : y ≡ x = cc in
      let here : k ≡ k + 0 = omega arith in
      subst (λ (n : ℕ). P n x) here (subst (λ (z : X). P k z) same all.0)
  from_get k (y ∷ ys) (suc i) x all e =
      let there : suc k + i ≡ k + suc i = omega arith in
      subst (λ (n : ℕ). P n x) there (from_get (suc k) ys i x all.1 e)

  pub from_set : (k : ℕ) (xs : List X) (i : ℕ) (x : X) → AllFrom P k xs → P (k + i) x → AllFrom P k (slice_set xs i x)
  from_set k [] i x all p = tt
  from_set k (y ∷ ys) zero x all p = let here : k + 0 ≡ k = omega arith in (subst (λ (n : ℕ). P n x) here p, all.1)
  from_set k (y ∷ ys) (suc i) x all p =
      let there : k + suc i ≡ suc k + i = omega arith in
      (all.0, from_set (suc k) ys i x all.1 (subst (λ (n : ℕ). P n x) there p))

  pub from_push : (k : ℕ) (xs : List X) (x : X) → AllFrom P k xs → P (k + length xs) x → AllFrom P k (xs ++ x ∷ [])
  from_push k [] x all p = let here : k + 0 ≡ k = omega arith in (subst (λ (n : ℕ). P n x) here p, tt)
  from_push k (y ∷ ys) x all p =
      let there : k + suc (length ys) ≡ suc k + length ys = omega arith in
      (all.0, from_push (suc k) ys x all.1 (subst (λ (n : ℕ). P n x) there p))

  pub from_all : ((i : ℕ) (x : X) → P i x) → (k : ℕ) (xs : List X) → AllFrom P k xs
  from_all f k [] = tt
  from_all f k (x ∷ xs) = (f k x, from_all f (suc k) xs)

  pub from_map : {Y : Type 0} (Q : ℕ → Y → Type 0) (f : X → Y) → ((i : ℕ) (x : X) → P i x → Q i (f x)) → (k : ℕ) (xs : List X) → AllFrom P k xs
      → AllFrom Q k (map f xs)
  from_map Q f step k [] all = tt
  from_map Q f step k (x ∷ xs) all = (step k x all.0, from_map Q f step (suc k) xs all.1)

  -- what was so of the image
  pub to_map : {Y : Type 0} (Q : ℕ → Y → Type 0) (f : X → Y) → ((i : ℕ) (x : X) → Q i (f x) → P i x) → (k : ℕ) (xs : List X) → AllFrom Q k (map f xs)
      → AllFrom P k xs
  to_map Q f step k [] all = tt
  to_map Q f step k (x ∷ xs) all = (step k x all.0, to_map Q f step (suc k) xs all.1)

  pub from_weaker : (Q : ℕ → X → Type 0) → ((i : ℕ) (x : X) → P i x → Q i x) → (k : ℕ) (xs : List X) → AllFrom P k xs → AllFrom Q k xs
  from_weaker Q step k [] all = tt
  from_weaker Q step k (x ∷ xs) all = (step k x all.0, from_weaker Q step (suc k) xs all.1)

  -- two facts at once
  pub from_both : (Q R : ℕ → X → Type 0) → ((i : ℕ) (x : X) → P i x → Q i x → R i x) → (k : ℕ) (xs : List X) → AllFrom P k xs → AllFrom Q k xs → AllFrom R k xs
  from_both Q R step k [] ps qs = tt
  from_both Q R step k (x ∷ xs) ps qs = (step k x ps.0 qs.0, from_both Q R step (suc k) xs ps.1 qs.1)

  -- the same, counted from the first place
  pub first_get : (xs : List X) (i : ℕ) (x : X) → AllFrom P 0 xs → slice_get xs i ≡ Some x → P i x
  first_get xs i x all e = let here : 0 + i ≡ i = omega arith in subst (λ (n : ℕ). P n x) here (from_get 0 xs i x all e)

  pub first_set : (xs : List X) (i : ℕ) (x : X) → AllFrom P 0 xs → P i x → AllFrom P 0 (slice_set xs i x)
  first_set xs i x all p = let here : i ≡ 0 + i = omega arith in from_set 0 xs i x all (subst (λ (n : ℕ). P n x) here p)

  pub first_push : (xs : List X) (x : X) → AllFrom P 0 xs → P (length xs) x → AllFrom P 0 (xs ++ x ∷ [])
  first_push xs x all p = let here : length xs ≡ 0 + length xs = omega arith in from_push 0 xs x all (subst (λ (n : ℕ). P n x) here p)
