-- How many frames are out, and the flags of a new manager.
use Rattle.std.proofs.Common.{◌≡◌, ◌≢◌, ℕ, zero, suc, ◌+◌, ◌-◌, ◌<◌, ◌≤◌, Bool, true, false, List, ◌∷◌, length, set, get_or, replicate, sym, ap}
use Rattle.std.proofs.Common.{◌∙◌, refl, arith, subst, ⊎_elim}
use Rattle.std.proofs.lemmas.Bool.{cases_eq, cases_lt}
use Rattle.std.proofs.lemmas.List.{get_or-set_same, get_or-set_other, get_or_past, same_lists, length-set, get_or-replicate, length-replicate}
use Rattle.std.proofs.lemmas.List.{get_or_default, set-set, set-get_or}
use Rattle.semantics.specs.Report.{sum_below, one_if}
use Rattle.semantics.proofs.Sums.{one_if_le, sum_same}
use Rattle.frame_manager.specs.Flags.{flag_at, out_count}

sum_more : (n f : ℕ) (g h : ℕ → ℕ) → f < n → g f ≡ h f + 1 → ((k : ℕ) → k ≢ f → g k ≡ h k) → sum_below n g ≡ sum_below n h + 1
sum_more zero f g h lt at others = absurd (omega arith)
sum_more (suc n) f g h lt at others = ⊎_elim
    (λ (e : n ≡ f).
    let before = sum_same n g h (λ k l. others k (λ q. absurd (omega arith))) in
    let here : g n ≡ h n + 1 = subst (λ m. g m ≡ h m + 1) (sym e) at in
    omega arith)
    (λ (ne : n ≡ f → ⊥).
    let before = sum_more n f g h (omega arith) at others in
    let here : g n ≡ h n = others n ne in
    omega arith)
    (cases_eq n f)

sum_le : (n : ℕ) (g : ℕ → ℕ) → ((k : ℕ) → g k ≤ 1) → sum_below n g ≤ n
sum_le zero g h = omega arith
sum_le (suc n) g h = let before = sum_le n g h in let here = h n in omega arith

pub count_le : (flags : List Bool) → out_count flags ≤ length flags
count_le flags = sum_le (length flags) (λ f. one_if (flag_at flags f)) (λ k. one_if_le (flag_at flags k))

pub flag_inside : (flags : List Bool) (f : ℕ) → flag_at flags f ≡ true → f < length flags
flag_inside flags f e = ⊎_elim
    (λ (lt : f < length flags). lt)
    (λ (ge : length flags ≤ f). let no : flag_at flags f ≡ false = get_or_past flags f false ge in cc)
    (cases_lt f (length flags))

changed_count : (flags : List Bool) (f : ℕ) (a b : Bool) → f < length flags → flag_at flags f ≡ a → one_if b ≡ one_if a + 1
    → out_count (set flags f b) ≡ out_count flags + 1
changed_count flags f a b h at e =
    let more : sum_below (length flags) (λ k. one_if (flag_at (set flags f b) k)) ≡ sum_below (length flags) (λ k. one_if (flag_at flags k)) + 1 =
    sum_more (length flags) f (λ k. one_if (flag_at (set flags f b) k)) (λ k. one_if (flag_at flags k)) h
    (ap one_if (get_or-set_same flags f b false h) ∙ e ∙ ap (λ x. one_if x + 1) (sym at))
    (λ k ne. ap one_if (get_or-set_other flags f k b false ne)) in
    ap (λ n. sum_below n (λ k. one_if (flag_at (set flags f b) k))) (length-set flags f b) ∙ more

pub count_taken : (flags : List Bool) (f : ℕ) → f < length flags → flag_at flags f ≡ false → out_count (set flags f true) ≡ out_count flags + 1
count_taken flags f h at = changed_count flags f false true h at refl

pub count_freed : (flags : List Bool) (f : ℕ) → flag_at flags f ≡ true → out_count (set flags f false) + 1 ≡ out_count flags
count_freed flags f at =
    let h = flag_inside flags f at in
    let inside : f < length (set flags f false) = subst (λ n. f < n) (sym (length-set flags f false)) h in
    let more : out_count (set (set flags f false) f true) ≡ out_count (set flags f false) + 1 = count_taken (set flags f false) f inside
    (get_or-set_same flags f false false h) in
    let back : set (set flags f false) f true ≡ flags = set-set flags f false true ∙ ap (set flags f) (sym at) ∙ set-get_or flags f false in
    sym more ∙ ap out_count back

-- A NEW MANAGER
count_none : (n : ℕ) → out_count (replicate n false) ≡ 0
count_none n =
    let none : sum_below n (λ k. one_if (flag_at (replicate n false) k)) ≡ sum_below n (λ k. 0) =
    sum_same n (λ k. one_if (flag_at (replicate n false) k)) (λ k. 0) (λ k lt. ap one_if (get_or-replicate n k false false lt)) in
    ap (λ m. sum_below m (λ k. one_if (flag_at (replicate n false) k))) (length-replicate n false) ∙ none ∙ zeros n where
      zeros : (m : ℕ) → sum_below m (λ k. 0) ≡ 0
      zeros zero = refl
      zeros (suc m) = let e = zeros m in omega arith

pub count_at_first : (n : ℕ) → out_count (true ∷ replicate n false) ≡ 1
count_at_first n =
    let e = count_taken (replicate (suc n) false) 0 (omega (arith, length-replicate (suc n) false)) refl in
    let z = count_none (suc n) in
    omega (arith, e, z)

-- frames 1 to i - 1 were freed so far
pub record IsOpened (flags : List Bool) (n i : ℕ) : Type 0 where
  pub size : length flags ≡ n
  pub main : flag_at flags 0 ≡ true
  pub freed : (k : ℕ) → 0 < k → k < i → flag_at flags k ≡ false

pub opened_none : (n : ℕ) → 0 < n → IsOpened (replicate n true) n 1
opened_none n h = record {
  size = length-replicate n true;
  main = get_or-replicate n 0 true false h;
  freed = λ k pos lt. absurd (omega arith);
}

pub opened_more : (flags : List Bool) (n i : ℕ) → IsOpened flags n i → 0 < i → i < n → IsOpened (set flags i false) n (i + 1)
opened_more flags n i o pos h = record {
  size = length-set flags i false ∙ o.size;
  main = get_or-set_other flags i 0 false false (λ e. absurd (omega arith)) ∙ o.main;
  freed = λ k p lt. ⊎_elim
      (λ (e : k ≡ i). ap (λ j. flag_at (set flags i false) j) e ∙ get_or-set_same flags i false false (subst (λ m. i < m) (sym o.size) h))
      (λ (ne : k ≡ i → ⊥). get_or-set_other flags i k false false ne ∙ o.freed k p (omega arith))
      (cases_eq k i);
}

pub opened_all : (flags : List Bool) (n : ℕ) → 0 < n → IsOpened flags n n → flags ≡ true ∷ replicate (n - 1) false
opened_all flags n h o = same_lists flags (true ∷ replicate (n - 1) false) (o.size ∙ size) go where
  size : n ≡ suc (length (replicate (n - 1) false))
  size = omega (arith, length-replicate (n - 1) false)

  go : (k : ℕ) (d : Bool) → k < length flags → get_or flags k d ≡ get_or (true ∷ replicate (n - 1) false) k d
  go zero d lt = get_or_default flags 0 d false lt ∙ o.main
  go (suc k) d lt =
      let below : suc k < n = subst (λ m. suc k < m) o.size lt in
      get_or_default flags (suc k) d false lt ∙ o.freed (suc k) (omega arith) below ∙ sym (get_or-replicate (n - 1) k false d (omega arith))
