-- Lists of which some elements are left out, counted, or distinguished by a test.
use Rattle.std.proofs.Common.{◌≡◌, ◌+◌, Bool, true, false, cond, List, [], ◌∷◌, ◌++◌, length, refl, sym, ap, ◌∙◌, subst, inl, inr, ◌⊎◌, arith, if◌then◌else◌}
use Rattle.std.specs.Prelude.{IsPermutation, Contains, flat_map, count_by}
use Rattle.std.proofs.lemmas.List.Sums.{sum_by-cons}
use Rattle.std.proofs.lemmas.List.Concat.{flat_map-append}
use Rattle.std.proofs.lemmas.List.Elements.{Contains-append_right, Contains-append_cases}
use Rattle.std.proofs.lemmas.List.Sorted.{sum_by-IsPermutation}
use Rattle.lemmas.proofs.Permutations.{permutation_cancel}
use Rattle.lemmas.proofs.Contains.{contains_cases, contains_head, contains_none, contains_tail}

-- the elements that pass
abbrev pub kept_by : {X : Type 0} → (X → Bool) → List X → List X
kept_by test xs = flat_map (λ x. if test x then x ∷ [] else []) xs

module _ {X : Type 0} (test : X → Bool) where
  pub kept_yes : (x : X) (xs : List X) → test x ≡ true → kept_by test (x ∷ xs) ≡ x ∷ kept_by test xs
  kept_yes x xs e = ap (λ t. (if t then x ∷ [] else []) ++ kept_by test xs) e

  pub kept_no : (x : X) (xs : List X) → test x ≡ false → kept_by test (x ∷ xs) ≡ kept_by test xs
  kept_no x xs e = ap (λ t. (if t then x ∷ [] else []) ++ kept_by test xs) e

  pub kept_append : (xs ys : List X) → kept_by test (xs ++ ys) ≡ kept_by test xs ++ kept_by test ys
  kept_append xs ys = flat_map-append (λ x. if test x then x ∷ [] else []) xs ys

  -- none of them passes
  pub kept_none : (xs : List X) → ((x : X) → Contains xs x → test x ≡ false) → kept_by test xs ≡ []
  kept_none [] h = refl
  kept_none (x ∷ xs) h = kept_no x xs (h x (contains_head x xs)) ∙ kept_none xs (λ y c. h y (contains_tail x xs y c))

  -- some in the middle that do not pass may be left out
  pub kept_but : (before kept after : List X) → ((x : X) → Contains kept x → test x ≡ false)
      → kept_by test (before ++ (kept ++ after)) ≡ kept_by test (before ++ after)
  kept_but before kept after h =
      kept_append before (kept ++ after) ∙ ap (λ l. kept_by test before ++ l) (kept_append kept after ∙ ap (λ l. l ++ kept_by test after) (kept_none kept h))
      ∙ sym (kept_append before after)

  pub kept_in : (xs : List X) (x : X) → Contains xs x → test x ≡ true → Contains (kept_by test xs) x
  kept_in [] x c e = absurd (contains_none x c)
  kept_in (y ∷ ys) x c e = pick (contains_cases y ys x c) (λ d. kept_in ys x d e)
    where
      pick : (y ≡ x) ⊎ Contains ys x → (Contains ys x → Contains (kept_by test ys) x) → Contains (kept_by test (y ∷ ys)) x
      pick (inl s) more =
          subst (λ l. Contains l x) (sym (kept_yes y ys (ap test s ∙ e)))
          (subst (λ z. Contains (z ∷ kept_by test ys) x) (sym s) (contains_head x (kept_by test ys)))
      pick (inr d) more = Contains-append_right (if test y then y ∷ [] else []) (kept_by test ys) x (more d)

  pub kept_out : (xs : List X) (x : X) → Contains (kept_by test xs) x → Contains xs x × (test x ≡ true)
  kept_out [] x c = absurd (contains_none x c)
  kept_out (y ∷ ys) x c = pick (test y) refl (Contains-append_cases (if test y then y ∷ [] else []) (kept_by test ys) x c) (λ d. kept_out ys x d)
    where
      pick : (t : Bool) → test y ≡ t → Contains (if t then y ∷ [] else []) x ⊎ Contains (kept_by test ys) x
          → (Contains (kept_by test ys) x → Contains ys x × (test x ≡ true)) → Contains (y ∷ ys) x × (test x ≡ true)
      pick t e (inr d) more = let k = more d in (contains_tail y ys x k.0, k.1)
      pick false e (inl d) more = absurd (contains_none x d)
      pick true e (inl d) more = same (contains_cases y [] x d)
        where
          same : (y ≡ x) ⊎ Contains [] x → Contains (y ∷ ys) x × (test x ≡ true)
          same (inl s) = (subst (λ z. Contains (y ∷ ys) z) s (contains_head y ys), ap test (sym s) ∙ e)
          same (inr d) = absurd (contains_none x d)

  -- COUNTS
  pub count_yes : (x : X) (xs : List X) → test x ≡ true → count_by test (x ∷ xs) ≡ 1 + count_by test xs
  count_yes x xs e = sum_by-cons (λ y. cond (test y) 1 0) x xs ∙ ap (λ t. cond t 1 0 + count_by test xs) e

  pub count_no : (x : X) (xs : List X) → test x ≡ false → count_by test (x ∷ xs) ≡ count_by test xs
  count_no x xs e =
      let n : 0 + count_by test xs ≡ count_by test xs = omega arith in sum_by-cons (λ y. cond (test y) 1 0) x xs ∙ ap (λ t. cond t 1 0 + count_by test xs) e ∙ n

  pub count_append : (xs ys : List X) → count_by test (xs ++ ys) ≡ count_by test xs + count_by test ys
  count_append [] ys = let n : count_by test ys ≡ 0 + count_by test ys = omega arith in n
  count_append (x ∷ xs) ys =
      let a = sum_by-cons (λ y. cond (test y) 1 0) x (xs ++ ys) in let b = sum_by-cons (λ y. cond (test y) 1 0) x xs in let k = count_append xs ys in
      omega (arith, a, b, k)

  pub count_none : (xs : List X) → ((x : X) → Contains xs x → test x ≡ false) → count_by test xs ≡ 0
  count_none [] h = refl
  count_none (x ∷ xs) h = count_no x xs (h x (contains_head x xs)) ∙ count_none xs (λ y c. h y (contains_tail x xs y c))

  pub count_same : (xs ys : List X) → IsPermutation xs ys → count_by test xs ≡ count_by test ys
  count_same xs ys p = sym (sum_by-IsPermutation (λ y. cond (test y) 1 0) xs ys p)

  pub count_but : (before kept after : List X) → ((x : X) → Contains kept x → test x ≡ false)
      → count_by test (before ++ (kept ++ after)) ≡ count_by test (before ++ after)
  count_but before kept after h =
      let a = count_append before (kept ++ after) in let b = count_append kept after in let c = count_append before after in let n = count_none kept h in
      omega (arith, a, b, c, n)

-- how many pass
pub count_kept : {X : Type 0} (test : X → Bool) (xs : List X) → count_by test xs ≡ length (kept_by test xs)
count_kept test [] = refl
count_kept test (x ∷ xs) = go (test x) refl (count_kept test xs)
  where
    go : (t : Bool) → test x ≡ t → count_by test xs ≡ length (kept_by test xs) → count_by test (x ∷ xs) ≡ length (kept_by test (x ∷ xs))
    go true e k = let a = count_yes test x xs e in let b = ap length (kept_yes test x xs e) in omega (arith, a, b, k)
    go false e k = count_no test x xs e ∙ k ∙ sym (ap length (kept_no test x xs e))

module _ {X : Type 0} where
  -- an element of a list has others before it and after it
  pub taken_out : (xs : List X) (x : X) → Contains xs x → (before : List X) × (after : List X) × (xs ≡ before ++ (x ∷ after))
  taken_out [] x c = absurd (contains_none x c)
  taken_out (y ∷ ys) x c = pick (contains_cases y ys x c) (λ d. taken_out ys x d)
    where
      pick : (y ≡ x) ⊎ Contains ys x → (Contains ys x → (before : List X) × (after : List X) × (ys ≡ before ++ (x ∷ after)))
          → (before : List X) × (after : List X) × (y ∷ ys ≡ before ++ (x ∷ after))
      pick (inl e) more = ([], ys, ap (λ z. z ∷ ys) e)
      pick (inr d) more = let r = more d in (y ∷ r.0, r.1, ap (λ l. y ∷ l) r.2)

  -- what is left after the first
  pub rest_same : (x : X) (xs ys : List X) → IsPermutation (x ∷ xs) (x ∷ ys) → IsPermutation xs ys
  rest_same x xs ys p = permutation_cancel (x ∷ []) xs ys p

  pub contains_one : (x y : X) → Contains (x ∷ []) y → x ≡ y
  contains_one x y c = pick (contains_cases x [] y c)
    where
      pick : (x ≡ y) ⊎ Contains [] y → x ≡ y
      pick (inl e) = e
      pick (inr d) = absurd (contains_none y d)

  -- what holds of the one element
  pub one_holds : (P : X → Type 0) (x : X) → P x → (y : X) → Contains (x ∷ []) y → P y
  one_holds P x p y c = subst P (contains_one x y c) p
