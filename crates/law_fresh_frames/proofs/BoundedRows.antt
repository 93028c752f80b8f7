-- Amounts that lie in rows and blocks: no more than there is room for.
use Rattle.std.proofs.Common.{◌≡◌, refl, sym, ap, ℕ, zero, suc, ◌+◌, ◌*◌, ◌-◌, ◌<◌, ◌≤◌, max, ◌⊎◌, inl, inr, Bool, true, false, true≢false, List, [], ◌∷◌, map}
use Rattle.std.proofs.Common.{length, nat_lt, lt-ltb, le-ltb, ltb-true, ltb-false, eq-eqb, ne_eqb, arith}
use Rattle.std.specs.Prelude.{if◌then◌else◌, ◌==◌, count_by, cond}
use Rattle.std.proofs.lemmas.Bool.{cases_Bool, cases_order}
use Rattle.std.proofs.lemmas.List.Recursion.{is_sum_by}
use Rattle.lemmas.proofs.Permutations.{Each}
use Rattle.semantics.specs.Program.{CodeBlock}
use Rattle.semantics.specs.Faithful.{largest}
use Rattle.semantics.specs.Orderly.{same_block}
use Rattle.law_fresh_frames.proofs.BoundedWeights.{tot}

abbrev pub unless : Bool → ℕ → ℕ
unless t n = if t then n else 0

abbrev pub unit : Bool → ℕ
unit b = cond b 1 0

pub tot_le_each : {X : Type 0} (f g : X → ℕ) (xs : List X) → Each (λ x. f x ≤ g x) xs → tot f xs ≤ tot g xs
tot_le_each f g [] h = omega arith
tot_le_each f g (x ∷ xs) h = let a = h.0 in let b = tot_le_each f g xs h.1 in omega (arith, a, b)

pub tot_map : {X Y : Type 0} (g : X → Y) (f : Y → ℕ) (xs : List X) → tot f (map g xs) ≡ tot (λ x. f (g x)) xs
tot_map g f [] = refl
tot_map g f (x ∷ xs) = let a = tot_map g f xs in omega (arith, a)

pub tot_plus : {X : Type 0} (f g : X → ℕ) (xs : List X) → tot (λ x. f x + g x) xs ≡ tot f xs + tot g xs
tot_plus f g [] = omega arith
tot_plus f g (x ∷ xs) = let a = tot_plus f g xs in omega (arith, a)

pub tot_zero : {X : Type 0} (f : X → ℕ) (xs : List X) → ((x : X) → f x ≡ 0) → tot f xs ≡ 0
tot_zero f [] h = refl
tot_zero f (x ∷ xs) h = let a = h x in let b = tot_zero f xs h in omega (arith, a, b)

pub count_tot : {X : Type 0} (t : X → Bool) (xs : List X) → tot (λ x. cond (t x) 1 0) xs ≡ count_by t xs
count_tot t xs = is_sum_by (tot (λ x. cond (t x) 1 0)) (λ x. cond (t x) 1 0) refl (λ x xs. refl) xs

-- what occurs once counts once
pub once_tot : {X : Type 0} (t : X → Bool) (c : ℕ) (xs : List X) → tot (λ x. cond (t x) 1 0) xs ≤ 1 → tot (λ x. unless (t x) c) xs ≤ c
once_tot t c [] h = omega arith
once_tot t c (x ∷ xs) h = go (cases_Bool (t x)) (once_tot t c xs)
  where
    none : (xs : List _) → tot (λ x. cond (t x) 1 0) xs ≤ 0 → tot (λ x. unless (t x) c) xs ≤ 0
    none [] h = omega arith
    none (y ∷ ys) h = pick (cases_Bool (t y)) (none ys)
      where
        pick : (t y ≡ true) ⊎ (t y ≡ false) → (tot (λ x. cond (t x) 1 0) ys ≤ 0 → tot (λ x. unless (t x) c) ys ≤ 0) → tot (λ x. unless (t x) c) (y ∷ ys) ≤ 0
        pick (inl e) more = let a = ap unit e in absurd (omega (arith, a, h))
        pick (inr e) more = let a = ap unit e in let b = ap (λ (b : Bool). unless b c) e in let d = more (omega (arith, a, h)) in omega (arith, b, d)

    go : (t x ≡ true) ⊎ (t x ≡ false) → (tot (λ x. cond (t x) 1 0) xs ≤ 1 → tot (λ x. unless (t x) c) xs ≤ c) → tot (λ x. unless (t x) c) (x ∷ xs) ≤ c
    go (inl e) more = let a = ap unit e in let b = ap (λ (b : Bool). unless b c) e in let d = none xs (omega (arith, a, h)) in omega (arith, b, d)
    go (inr e) more = let a = ap unit e in let b = ap (λ (b : Bool). unless b c) e in let d = more (omega (arith, a, h)) in omega (arith, b, d)

-- ---- ROWS: the amounts at each number are few, and the numbers lie in a range
module _ {X : Type 0} (num : X → ℕ) (am : X → ℕ) (lo : ℕ) where
  abbrev up_to : ℕ → X → ℕ
  up_to n x = unless (nat_lt (num x) (lo + n)) (am x)

  abbrev at_num : ℕ → X → ℕ
  at_num k x = unless (num x == k) (am x)

  one_more : (n : ℕ) (x : X) → up_to (suc n) x ≡ up_to n x + at_num (lo + n) x
  one_more n x = pick (cases_order (num x) (lo + n))
    where
      pick : (num x ≡ lo + n) ⊎ ((num x < lo + n) ⊎ (lo + n < num x)) → up_to (suc n) x ≡ up_to n x + at_num (lo + n) x
      pick (inl e) =
          let a = ap (λ (b : Bool). unless b (am x)) (lt-ltb (num x) (lo + suc n) (omega (arith, e))) in
          let d = ap (λ (b : Bool). unless b (am x)) (le-ltb (num x) (lo + n) (omega (arith, e))) in
          let g = ap (λ (b : Bool). unless b (am x)) (eq-eqb (num x) (lo + n) e) in omega (arith, a, d, g)
      pick (inr (inl h)) =
          let a = ap (λ (b : Bool). unless b (am x)) (lt-ltb (num x) (lo + suc n) (omega (arith, h))) in
          let d = ap (λ (b : Bool). unless b (am x)) (lt-ltb (num x) (lo + n) h) in
          let g = ap (λ (b : Bool). unless b (am x)) (ne_eqb (num x) (lo + n) (λ e. omega (arith, e, h))) in omega (arith, a, d, g)
      pick (inr (inr h)) =
          let a = ap (λ (b : Bool). unless b (am x)) (le-ltb (num x) (lo + suc n) (omega (arith, h))) in
          let d = ap (λ (b : Bool). unless b (am x)) (le-ltb (num x) (lo + n) (omega (arith, h))) in
          let g = ap (λ (b : Bool). unless b (am x)) (ne_eqb (num x) (lo + n) (λ e. omega (arith, e, h))) in omega (arith, a, d, g)

  rows_more : (n : ℕ) (xs : List X) → tot (up_to (suc n)) xs ≡ tot (up_to n) xs + tot (at_num (lo + n)) xs
  rows_more n [] = omega arith
  rows_more n (x ∷ xs) = let a = one_more n x in let b = rows_more n xs in omega (arith, a, b)

  rows_few : (n : ℕ) (xs : List X) → Each (λ x. (am x ≡ 0) ⊎ (lo ≤ num x)) xs → ((k : ℕ) → tot (at_num k) xs ≤ 6) → tot (up_to n) xs ≤ 6 * n
  rows_few zero xs h few = zeros xs h
    where
      zeros : (xs : List X) → Each (λ x. (am x ≡ 0) ⊎ (lo ≤ num x)) xs → tot (up_to 0) xs ≤ 6 * 0
      zeros [] h = omega arith
      zeros (x ∷ xs) h = pick h.0 (zeros xs h.1) (cases_Bool (nat_lt (num x) (lo + 0)))
        where
          pick : (am x ≡ 0) ⊎ (lo ≤ num x) → tot (up_to 0) xs ≤ 6 * 0 → (nat_lt (num x) (lo + 0) ≡ true) ⊎ (nat_lt (num x) (lo + 0) ≡ false)
              → tot (up_to 0) (x ∷ xs) ≤ 6 * 0
          pick d more (inr e) = let a = ap (λ (b : Bool). unless b (am x)) e in omega (arith, a, more)
          pick (inl z) more (inl e) = let a = ap (λ (b : Bool). unless b (am x)) e in omega (arith, a, more, z)
          pick (inr l) more (inl e) = let a = ltb-true (num x) (lo + 0) e in absurd (omega (arith, a, l))
  rows_few (suc n) xs h few = let a = rows_more n xs in let b = rows_few n xs h few in let c = few (lo + n) in omega (arith, a, b, c)

  pub rows : (len : ℕ) (xs : List X) → Each (λ x. (am x ≡ 0) ⊎ ((lo ≤ num x) × (num x < lo + len))) xs → ((k : ℕ) → tot (at_num k) xs ≤ 6) → tot am xs ≤ 6 * len
  rows len xs h few =
      let a = rows_few len xs (lows xs h) few in let b = tot_le_each am (up_to len) xs (highs xs h) in omega (arith, a, b)
    where
      lows : (xs : List X) → Each (λ x. (am x ≡ 0) ⊎ ((lo ≤ num x) × (num x < lo + len))) xs → Each (λ x. (am x ≡ 0) ⊎ (lo ≤ num x)) xs
      lows [] h = tt
      lows (x ∷ xs) h = (pick h.0, lows xs h.1)
        where
          pick : (am x ≡ 0) ⊎ ((lo ≤ num x) × (num x < lo + len)) → (am x ≡ 0) ⊎ (lo ≤ num x)
          pick (inl z) = inl z
          pick (inr l) = inr l.0

      highs : (xs : List X) → Each (λ x. (am x ≡ 0) ⊎ ((lo ≤ num x) × (num x < lo + len))) xs → Each (λ x. am x ≤ up_to len x) xs
      highs [] h = tt
      highs (x ∷ xs) h = (pick h.0, highs xs h.1)
        where
          pick : (am x ≡ 0) ⊎ ((lo ≤ num x) × (num x < lo + len)) → am x ≤ up_to len x
          pick (inl z) = omega (arith, z)
          pick (inr l) = let a = ap (λ (b : Bool). unless b (am x)) (lt-ltb (num x) (lo + len) l.1) in omega (arith, a)

-- ---- BLOCKS: the range of the block in which a number lies
abbrev pub block_from : List CodeBlock → ℕ → ℕ
block_from [] ip = 0
block_from (b ∷ bs) ip = if nat_lt ip (length b.instrs) then 0 else length b.instrs + block_from bs (ip - length b.instrs)

abbrev pub block_size : List CodeBlock → ℕ → ℕ
block_size [] ip = 0
block_size (b ∷ bs) ip = if nat_lt ip (length b.instrs) then length b.instrs else block_size bs (ip - length b.instrs)

pub size_few : (bs : List CodeBlock) (ip : ℕ) → block_size bs ip ≤ largest bs
size_few [] ip = omega arith
size_few (b ∷ bs) ip = go (nat_lt ip (length b.instrs)) (size_few bs (ip - length b.instrs))
  where
    go : (t : Bool) → block_size bs (ip - length b.instrs) ≤ largest bs
        → (if t then length b.instrs else block_size bs (ip - length b.instrs)) ≤ max (length b.instrs) (largest bs)
    go true more = omega arith
    go false more = omega (arith, more)

pub block_range : (bs : List CodeBlock) (ip jp : ℕ) → same_block bs ip jp ≡ true → (block_from bs ip ≤ jp) × (jp < block_from bs ip + block_size bs ip)
block_range [] ip jp e = absurd (true≢false (sym e))
block_range (b ∷ bs) ip jp e = go (nat_lt ip n) (nat_lt jp n) refl refl e (block_range bs (ip - n) (jp - n))
  where
    n : ℕ
    n = length b.instrs

    go : (s t : Bool) → nat_lt ip (length b.instrs) ≡ s → nat_lt jp (length b.instrs) ≡ t
        → (if s then t else if t then false else same_block bs (ip - length b.instrs) (jp - length b.instrs)) ≡ true
        → (same_block bs (ip - n) (jp - n) ≡ true → (block_from bs (ip - n) ≤ jp - n) × (jp - n < block_from bs (ip - n) + block_size bs (ip - n)))
        → (block_from (b ∷ bs) ip ≤ jp) × (jp < block_from (b ∷ bs) ip + block_size (b ∷ bs) ip)
    go true true p q e more =
        let a : block_from (b ∷ bs) ip ≡ 0 = ap (λ (t : Bool). if t then 0 else length b.instrs + block_from bs (ip - length b.instrs)) p in
        let c : block_size (b ∷ bs) ip ≡ length b.instrs = ap (λ (t : Bool). if t then length b.instrs else block_size bs (ip - length b.instrs)) p in
        let l = ltb-true jp (length b.instrs) q in
        (omega (arith, a), omega (arith, a, c, l))
    go true false p q e more = absurd (true≢false (sym e))
    go false true p q e more = absurd (true≢false (sym e))
    go false false p q e more =
        let a : block_from (b ∷ bs) ip ≡ length b.instrs + block_from bs (ip - length b.instrs) =
        ap (λ (t : Bool). if t then 0 else length b.instrs + block_from bs (ip - length b.instrs)) p in
        let c : block_size (b ∷ bs) ip ≡ block_size bs (ip - length b.instrs) =
        ap (λ (t : Bool). if t then length b.instrs else block_size bs (ip - length b.instrs)) p in
        let l = ltb-false jp (length b.instrs) q in
        let m = more e in
        let m0 = m.0 in let m1 = m.1 in
        (omega (arith, a, m0, l), omega (arith, a, c, m1, l))

-- ---- GROUPS: each amount is of some group, and no group has more than so much
module _ {X : Type 0} (am : X → ℕ) (of_group : ℕ → X → Bool) where
  abbrev in_group : ℕ → X → ℕ
  in_group g x = unless (of_group g x) (am x)

  swapped : (gs : List ℕ) (xs : List X) → tot (λ x. tot (λ g. in_group g x) gs) xs ≡ tot (λ g. tot (in_group g) xs) gs
  swapped gs [] = sym (tot_zero (λ g. 0) gs (λ g. refl))
  swapped gs (x ∷ xs) = let a = swapped gs xs in let b = tot_plus (λ g. in_group g x) (λ g. tot (in_group g) xs) gs in omega (arith, a, b)

  -- one of them is the group of the thing
  abbrev pub HasGroup : List ℕ → X → Type 0
  HasGroup [] x = am x ≡ 0
  HasGroup (g ∷ gs) x = (of_group g x ≡ true) ⊎ HasGroup gs x

  covers : (gs : List ℕ) (x : X) → HasGroup gs x → am x ≤ tot (λ g. in_group g x) gs
  covers [] x h = omega (arith, h)
  covers (g ∷ gs) x (inl e) = let a = ap (λ (b : Bool). unless b (am x)) e in omega (arith, a)
  covers (g ∷ gs) x (inr h) = let a = covers gs x h in omega (arith, a)

  each_covers : (gs : List ℕ) (xs : List X) → Each (HasGroup gs) xs → Each (λ x. am x ≤ tot (λ g. in_group g x) gs) xs
  each_covers gs [] h = tt
  each_covers gs (x ∷ xs) h = (covers gs x h.0, each_covers gs xs h.1)

  all_few : (most : ℕ) (f : ℕ → ℕ) → ((g : ℕ) → f g ≤ most) → (gs : List ℕ) → tot f gs ≤ length gs * most
  all_few most f h [] = omega arith
  all_few most f h (g ∷ gs) =
      let a = all_few most f h gs in let b = h g in let c : suc (length gs) * most ≡ most + length gs * most = omega arith in omega (arith, a, b, c)

  pub groups : (most : ℕ) (gs : List ℕ) (xs : List X) → Each (HasGroup gs) xs → ((g : ℕ) → tot (in_group g) xs ≤ most) → tot am xs ≤ length gs * most
  groups most gs xs h few =
      let a = tot_le_each am (λ x. tot (λ g. in_group g x) gs) xs (each_covers gs xs h) in
      let b = swapped gs xs in
      let c = all_few most (λ g. tot (in_group g) xs) few gs in
      omega (arith, a, b, c)
