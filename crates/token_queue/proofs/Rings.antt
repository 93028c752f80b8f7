-- What is done in a ring, as seen in its list.
use Rattle.std.proofs.Common.{◌≡◌, refl, ℕ, zero, suc, ◌+◌, ◌-◌, ◌%◌, ◌^◌, ◌<◌, ◌≤◌, ◌⊎◌, List, [], ◌∷◌, ◌++◌, length, get_or, take, drop, set, bit_and, sym}
use Rattle.std.proofs.Common.{ap, ◌∙◌, subst, inl, inr, mod-eq_of_lt, arith, length-append, length-drop, length-set, length-take-le, get_or-drop}
use Rattle.std.proofs.Common.{get_or-take, append_assoc}
use native.Mathlib.Nat.{mod-eq-sub-mod, mod-add-mod}
use Rattle.std.specs.List.{remove, slice_rotate_right}
use Rattle.std.proofs.lemmas.List.{take-append-le, same_lists, get_or_append_left, get_or-append_right, take-take}
use Rattle.std.proofs.lemmas.List.{set_at, take_more, drop_more, length-take, take-append-drop}
use Rattle.std.proofs.Math.Seq.{drop-append_seam, take-append_seam}
use Rattle.std.proofs.lemmas.List.Edits.{length-remove, get_or-remove_below}
use Rattle.std.proofs.lemmas.Nat.{and_mask, and_le_r, pow_below}
use lib.Pow.{pow_pos, mod-mod-pow}
use Rattle.std.proofs.Math.Nat.{mod-lt}
use Rattle.std.proofs.lemmas.Bool.{cases_lt}
use Rattle.std.proofs.lemmas.Grind.{common_steps}
use Rattle.token_queue.specs.Ring.{ring, between, held, IsPower}

-- a place below two rounds is past the end once at most
rounds : (N j : ℕ) → j < N + N → ((j < N) × (j % N ≡ j)) ⊎ ((N ≤ j) × (j % N ≡ j - N))
rounds N j below = elim (cases_lt j N) [
  | inl low ↦ inl (low, mod-eq_of_lt low)
  | inr high ↦ inr (high, mod-eq-sub-mod high ∙ mod-eq_of_lt (omega arith))
]

pub masked : (n x : ℕ) → IsPower n → bit_and x (n - 1) ≡ x % n
masked n x (k, is) = subst (λ (m : ℕ). bit_and x (m - 1) ≡ x % m) (sym is) (and_mask x k)

-- the places turned round are as many
turned_long : {X : Type 0} (k n : ℕ) (xs : List X) → n ≤ length xs → n ≤ length (drop k xs ++ take k xs)
turned_long k n xs fits = simp (length-append, length-drop) (omega (arith, length-take k xs))

pub ring_long : {X : Type 0} (k n : ℕ) (xs : List X) → n ≤ length xs → length (ring k n xs) ≡ n
ring_long k n xs fits = length-take-le n _ (turned_long k n xs fits)

module _ {X : Type 0} (N k n : ℕ) (xs : List X) (head : k < N) (count : n ≤ N) (places : length xs ≡ N) where
  length-ring : length (ring k n xs) ≡ n
  length-ring = ring_long k n xs (omega arith)

  pub get_or-ring : (i : ℕ) (d : X) → i < n → get_or (ring k n xs) i d ≡ get_or xs ((k + i) % N) d
  get_or-ring i d within =
      let length_tail = length-drop k xs in
      get_or-take n _ i d within ∙ elim (rounds N (k + i) (omega arith)) [
        | inl low ↦ get_or_append_left _ _ d i (omega arith) ∙ get_or-drop k xs i d ∙ ap (λ j. get_or xs j d) (omega arith)
        | inr high ↦ get_or-append_right _ _ (N - k) i d (omega arith) (omega arith) ∙ get_or-take k xs _ d (omega arith)
            ∙ ap (λ j. get_or xs j d) (omega arith)
      ]

-- COUNTS THAT BEGIN AGAIN AT 2 ^ 64
pub power_some : (n : ℕ) → IsPower n → 0 < n
power_some n (k, is) = subst (λ (m : ℕ). 0 < m) (sym is) (pow_pos k)

pub is_power : (n : ℕ) → 0 < n → (n ≡ 0) ⊎ IsPower n → IsPower n
is_power n some (inl none) = absurd (omega arith)
is_power n some (inr power) = power

few_bits : (k : ℕ) → 2 ^ k ≤ 2 ^ 63 → k ≤ 63
few_bits k few = elim (cases_lt 63 k) [
  | inl high ↦ let more = pow_below 63 k high in absurd (omega arith)
  | inr low ↦ low
]

-- the places are as many for a count that began again
begun_again : (n x : ℕ) → IsPower n → n ≤ 2 ^ 63 → x % 2 ^ 64 % n ≡ x % n
begun_again n x (k, is) few =
    let low : k ≤ 63 = few_bits k (subst (λ (m : ℕ). m ≤ 2 ^ 63) is few) in
    let all : 64 - k + k ≡ 64 = omega arith in
    let same : x % 2 ^ 64 % 2 ^ k ≡ x % 2 ^ k = subst (λ (j : ℕ). x % 2 ^ j % 2 ^ k ≡ x % 2 ^ k) all (mod-mod-pow x (64 - k) k) in
    subst (λ (m : ℕ). x % 2 ^ 64 % m ≡ x % m) (sym is) same

-- the place of a count that is `i` on from another
pub place_on : (n h i : ℕ) → IsPower n → n ≤ 2 ^ 63 → (h + i) % 2 ^ 64 % n ≡ (h % n + i) % n
place_on n h i power few = begun_again n (h + i) power few ∙ sym (mod-add-mod h n i)

-- the place of the count after the last
pub place_after : (n h t : ℕ) → IsPower n → n ≤ 2 ^ 63 → h < 2 ^ 64 → t < 2 ^ 64 → t % n ≡ (h % n + between h t) % n
place_after n h t power few begun ended =
    let there : (h + between h t) % 2 ^ 64 ≡ t = omega arith in
    ap (λ (x : ℕ). x % n) (sym there) ∙ place_on n h (between h t) power few

pub between_pushed : (h t : ℕ) → h < 2 ^ 64 → t < 2 ^ 64 → between h t < 2 ^ 63 → between h ((t + 1) % 2 ^ 64) ≡ between h t + 1
between_pushed h t begun ended few = omega arith

pub between_popped : (h t : ℕ) → h < 2 ^ 64 → t < 2 ^ 64 → 0 < between h t → between ((h + 1) % 2 ^ 64) t ≡ between h t - 1
between_popped h t begun ended some = omega arith

pub held_long : {X : Type 0} (h t : ℕ) (xs : List X) → between h t ≤ length xs → length (held h t xs) ≡ between h t
held_long h t xs fits = ring_long (h % length xs) (between h t) xs fits

-- what is counted from a place on is one of the places turned round
pub held_turned : {X : Type 0} (h t mask : ℕ) (xs : List X) → (length xs ≡ 0) ⊎ IsPower (length xs) → mask ≡ length xs - 1 → between h t ≤ length xs
    → held h t xs ≡ take (between h t) (drop (bit_and h mask) xs ++ take (bit_and h mask) xs)
held_turned h t mask xs (inl none) e fits =
    let zero : between h t ≡ 0 = omega arith in
    ap (λ n. take n (drop (h % length xs) xs ++ take (h % length xs) xs)) zero
    ∙ sym (ap (λ n. take n (drop (bit_and h mask) xs ++ take (bit_and h mask) xs)) zero)
held_turned h t mask xs (inr power) e fits =
    let is : bit_and h mask ≡ h % length xs = ap (λ m. bit_and h m) e ∙ masked (length xs) h power in
    ap (λ k. ring k (between h t) xs) (sym is)

-- the place of the first one is one of the places
pub front_within : {X : Type 0} (h mask : ℕ) (xs : List X) → mask ≡ length xs - 1 → bit_and h mask ≤ length xs
front_within h mask xs e = omega (arith, and_le_r h mask)

-- the places turned round, with more places after them
pub held_grown : {X : Type 0} (h t mask n m : ℕ) (xs zs : List X) → (length xs ≡ 0) ⊎ IsPower (length xs) → mask ≡ length xs - 1
    → between h t ≤ length xs → n ≡ between h t → n ≤ m
    → take n (take m (drop (bit_and h mask) xs ++ take (bit_and h mask) xs) ++ zs) ≡ held h t xs
held_grown h t mask n m xs zs power e fits count large =
    let rs = drop (bit_and h mask) xs ++ take (bit_and h mask) xs in
    let within : n ≤ length rs = turned_long (bit_and h mask) n xs (omega arith) in
    let kept : n ≤ length (take m rs) = omega (arith, length-take m rs) in
    take-append-le n (take m rs) zs kept ∙ take-take n m rs large ∙ ap (λ k. take k rs) count ∙ sym (held_turned h t mask xs power e fits)

-- these use those above at other rings
module _ {X : Type 0} (N k n : ℕ) (xs : List X) (head : k < N) (count : n ≤ N) (places : length xs ≡ N) where
  pub ring_pushed : (x : X) → n < N → ring k (n + 1) (set xs ((k + n) % N) x) ≡ ring k n xs ++ x ∷ []
  ring_pushed x room =
      let ys = set xs ((k + n) % N) x in
      let length_ys = length-set xs ((k + n) % N) x ∙ places in
      let length_old = length-ring N k n xs head count places in
      let length_new = length-ring N k (n + 1) ys head (omega arith) length_ys in
      let written = rounds N (k + n) (omega arith) in
      same_lists _ _ (grind (arith, common_steps)) (λ i d within. grind (
        arith,
        common_steps,
        rounds N (k + i) (omega arith),
        get_or-ring N k n xs head count places i d,
        get_or-ring N k (n + 1) ys head (omega arith) length_ys i d,
      ))

  pub ring_set : (i : ℕ) (x : X) → i < n → ring k n (set xs ((k + i) % N) x) ≡ set (ring k n xs) i x
  ring_set i x there =
      let ys = set xs ((k + i) % N) x in
      let length_ys = length-set xs ((k + i) % N) x ∙ places in
      let length_old = length-ring N k n xs head count places in
      let length_new = length-ring N k n ys head count length_ys in
      let written = rounds N (k + i) (omega arith) in
      same_lists _ _ (grind (arith, common_steps)) (λ j d within. grind (
        arith,
        common_steps,
        rounds N (k + j) (omega arith),
        get_or-ring N k n xs head count places j d,
        get_or-ring N k n ys head count length_ys j d,
      ))

  pub ring_popped : 0 < n → ring ((k + 1) % N) (n - 1) xs ≡ drop 1 (ring k n xs)
  ring_popped some =
      let next : (k + 1) % N < N = grind (arith, rounds N (k + 1) (omega arith)) in
      let length_old = length-ring N k n xs head count places in
      let length_new = length-ring N ((k + 1) % N) (n - 1) xs next (omega arith) places in
      same_lists _ _ (simp length-drop (omega arith)) (λ i d within. grind (
        arith,
        get_or-drop 1 (ring k n xs) i d,
        mod-add-mod (k + 1) N i,
        get_or-ring N k n xs head count places (1 + i) d,
        get_or-ring N _ (n - 1) xs next (omega arith) places i d,
      ))

module _ {X : Type 0} where
  -- the places while the items before `at` move up: those from the place i on have moved
  abbrev pub opening : List X → ℕ → ℕ → List X
  opening xs at i = take (i + 1) xs ++ drop i (remove xs at)

  front : (xs : List X) (i : ℕ) → i < length xs → length (take i xs) ≡ i
  front xs i within = length-take-le i xs (omega arith)

  pub opening_all : (xs : List X) (at : ℕ) → at < length xs → opening xs at at ≡ xs
  opening_all xs at there =
      let long : length (take at xs) ≡ at = front xs at there in
      let later : drop at (remove xs at) ≡ drop (suc at) xs =
      ap (λ n. drop n (remove xs at)) (sym long) ∙ drop-append_seam (take at xs) (drop (suc at) xs) in
      let next : at + 1 ≡ suc at = omega arith in
      ap (λ ys. take (at + 1) xs ++ ys) later ∙ ap (λ n. take n xs ++ drop (suc at) xs) next ∙ take-append-drop (suc at) xs

  opening_more : (xs : List X) (at i : ℕ) (d : X) → i < at → at < length xs
      → set (opening xs at (i + 1)) (i + 1) (get_or xs i d) ≡ opening xs at i
  opening_more xs at i d before there =
      let kept : length (take (i + 1) xs) ≡ i + 1 = front xs (i + 1) (omega arith) in
      let some : i < length (remove xs at) = omega (arith, length-remove xs at there) in
      let below : get_or (remove xs at) i d ≡ get_or xs i d = get_or-remove_below xs at d i before there in
      ap (λ ys. set (ys ++ drop (i + 1) (remove xs at)) (i + 1) (get_or xs i d)) (take_more xs (i + 1) d (omega arith))
      ∙ ap (λ ys. set ys (i + 1) (get_or xs i d)) (append_assoc (take (i + 1) xs) (get_or xs (i + 1) d ∷ []) (drop (i + 1) (remove xs at)))
      ∙ set_at (take (i + 1) xs) (get_or xs (i + 1) d) (drop (i + 1) (remove xs at)) (get_or xs i d) (i + 1) kept
      ∙ ap (λ y. take (i + 1) xs ++ y ∷ drop (i + 1) (remove xs at)) (sym below)
      ∙ ap (λ ys. take (i + 1) xs ++ ys) (sym (drop_more (remove xs at) i d some))

  read : (xs : List X) (at i : ℕ) (d : X) → i < at → at < length xs → get_or (opening xs at (i + 1)) i d ≡ get_or xs i d
  read xs at i d before there =
      get_or_append_left (take (i + 1 + 1) xs) (drop (i + 1) (remove xs at)) d i (omega (arith, length-take-le (i + 1 + 1) xs (omega arith)))
      ∙ get_or-take (i + 1 + 1) xs i d (omega arith)

  pub opened_more : (N k n : ℕ) (ys xs : List X) (at i : ℕ) (x : X) → k < N → n ≤ N → length ys ≡ N → n ≡ length xs
      → ring k n ys ≡ opening xs at (i + 1) → i < at → at < n
      → x ≡ get_or ys ((k + i) % N) x → ring k n (set ys ((k + (i + 1)) % N) x) ≡ opening xs at i
  opened_more N k n ys xs at i x head count places long was before there is =
      let is_earlier : x ≡ get_or xs i x =
      is ∙ sym (get_or-ring N k n ys head count places i x (omega arith)) ∙ ap (λ zs. get_or zs i x) was ∙ read xs at i x before (omega arith) in
      ring_set N k n ys head count places (i + 1) x (omega arith) ∙ ap (λ zs. set zs (i + 1) x) was ∙ ap (set (opening xs at (i + 1)) (i + 1)) is_earlier
      ∙ opening_more xs at i x before (omega arith)

  pub opened_all : (xs : List X) (at : ℕ) → at < length xs → drop 1 (opening xs at 0) ≡ remove xs at
  opened_all xs at there =
      let long : length (take 1 xs) ≡ 1 = length-take-le 1 xs (omega arith) in
      ap (λ n. drop n (opening xs at 0)) (sym long) ∙ drop-append_seam (take 1 xs) (remove xs at)

-- the places turned back: the first one comes to the place k
pub ring_turned_back : {X : Type 0} (N k n : ℕ) (xs : List X) → length xs ≡ N → k ≤ N
    → ring k n (drop (N - k) xs ++ take (N - k) xs) ≡ take n xs
ring_turned_back N k n xs places within =
    let later = drop (N - k) xs in
    let earlier = take (N - k) xs in
    let long : length later ≡ k = length-drop (N - k) xs ∙ omega arith in
    let dropped : drop k (later ++ earlier) ≡ earlier = ap (λ m. drop m (later ++ earlier)) (sym long) ∙ drop-append_seam later earlier in
    let taken : take k (later ++ earlier) ≡ later = ap (λ m. take m (later ++ earlier)) (sym long) ∙ take-append_seam later earlier in
    ap (λ ys. take n (ys ++ take k (later ++ earlier))) dropped ∙ ap (λ ys. take n (earlier ++ ys)) taken ∙ ap (λ ys. take n ys) (take-append-drop (N - k) xs)

-- turned round and back
pub turned_back : {X : Type 0} (k : ℕ) (xs : List X) → k ≤ length xs → slice_rotate_right (drop k xs ++ take k xs) k ≡ xs
turned_back k xs within =
    let later = drop k xs in
    let earlier = take k xs in
    let all : length (later ++ earlier) - k ≡ length later =
    simp (length-append, length-drop) (omega (arith, length-take-le k xs within)) in
    ap (λ n. drop n (later ++ earlier) ++ take n (later ++ earlier)) all
    ∙ ap (λ ys. ys ++ take (length later) (later ++ earlier)) (drop-append_seam later earlier)
    ∙ ap (λ ys. earlier ++ ys) (take-append_seam later earlier) ∙ take-append-drop k xs

-- WHAT IS HELD
module _ {X : Type 0} (h t : ℕ) (xs : List X) (power : IsPower (length xs)) (few : length xs ≤ 2 ^ 63) (begun : h < 2 ^ 64) (ended : t < 2 ^ 64)
    (fits : between h t ≤ length xs) where
  low : h % length xs < length xs
  low = mod-lt h (power_some _ power)

  pub get_or-held : (i : ℕ) (d : X) → i < between h t → get_or (held h t xs) i d ≡ get_or xs ((h + i) % 2 ^ 64 % length xs) d
  get_or-held i d within =
      get_or-ring (length xs) (h % length xs) (between h t) xs low fits refl i d within ∙ ap (λ j. get_or xs j d) (sym (place_on (length xs) h i power few))

  pub held_pushed : (x : X) → between h t < length xs → held h ((t + 1) % 2 ^ 64) (set xs (t % length xs) x) ≡ held h t xs ++ x ∷ []
  held_pushed x room =
      let more : between h ((t + 1) % 2 ^ 64) ≡ between h t + 1 = between_pushed h t begun ended (omega arith) in
      ap (λ n. ring (h % n) (between h ((t + 1) % 2 ^ 64)) (set xs (t % length xs) x)) (length-set xs (t % length xs) x)
      ∙ ap (λ n. ring (h % length xs) n (set xs (t % length xs) x)) more
      ∙ ap (λ at. ring (h % length xs) (between h t + 1) (set xs at x)) (place_after (length xs) h t power few begun ended)
      ∙ ring_pushed (length xs) (h % length xs) (between h t) xs low fits refl x room

  pub held_popped : 0 < between h t → held ((h + 1) % 2 ^ 64) t xs ≡ drop 1 (held h t xs)
  held_popped some =
      ap (λ n. ring ((h + 1) % 2 ^ 64 % length xs) n xs) (between_popped h t begun ended some)
      ∙ ap (λ at. ring at (between h t - 1) xs) (place_on (length xs) h 1 power few)
      ∙ ring_popped (length xs) (h % length xs) (between h t) xs low fits refl some

-- A TOKEN THAT IS PUT FIRST AGAIN, into the place k before the first one
pub ring_put_back : {X : Type 0} (N k n : ℕ) (xs : List X) (x : X) → k < N → n < N → length xs ≡ N
    → ring k (n + 1) (set xs k x) ≡ x ∷ ring ((k + 1) % N) n xs
ring_put_back N k n xs x head count places =
    let ys = set xs k x in
    let length_ys = length-set xs k x ∙ places in
    let next : (k + 1) % N < N = mod-lt (k + 1) (omega arith) in
    let length_old = length-ring N ((k + 1) % N) n xs next (omega arith) places in
    let length_new = length-ring N k (n + 1) ys head (omega arith) length_ys in
    same_lists _ _ (grind (arith, common_steps)) (λ i d within. by_place N k n xs x head count places i d (omega arith))
  where
    by_place : {X : Type 0} (N k n : ℕ) (xs : List X) (x : X) → k < N → n < N → length xs ≡ N → (i : ℕ) (d : X) → i < n + 1
        → get_or (ring k (n + 1) (set xs k x)) i d ≡ get_or (x ∷ ring ((k + 1) % N) n xs) i d
    by_place N k n xs x head count places zero d within =
        let ys = set xs k x in
        let length_ys = length-set xs k x ∙ places in
        get_or-ring N k (n + 1) ys head (omega arith) length_ys 0 d (omega arith) ∙ grind (arith, common_steps, rounds N (k + 0) (omega arith))
    by_place N k n xs x head count places (suc i) d within =
        let ys = set xs k x in
        let length_ys = length-set xs k x ∙ places in
        get_or-ring N k (n + 1) ys head (omega arith) length_ys (suc i) d within
        ∙ grind (
          arith,
          common_steps,
          rounds N (k + suc i) (omega arith),
          mod-add-mod (k + 1) N i,
          get_or-ring N ((k + 1) % N) n xs (mod-lt (k + 1) (omega arith)) (omega arith) places i d (omega arith),
        )

pub held_put_back : {X : Type 0} (h t : ℕ) (xs : List X) (power : IsPower (length xs)) (few : length xs ≤ 2 ^ 63) → 0 < h → h < 2 ^ 64 → t < 2 ^ 64
    → between h t < length xs → (x : X) → held (h - 1) t (set xs ((h - 1) % length xs) x) ≡ x ∷ held h t xs
held_put_back h t xs power few some begun ended room x =
    let n = length xs in
    let at = (h - 1) % n in
    let low : at < n = mod-lt (h - 1) (power_some n power) in
    let more : between (h - 1) t ≡ between h t + 1 = omega arith in
    let next : (at + 1) % n ≡ h % n = sym (place_on n (h - 1) 1 power few) ∙ ap (λ (i : ℕ). i % 2 ^ 64 % n) (let e : h - 1 + 1 ≡ h = omega arith in e)
    ∙ begun_again n h power few in
    ap (λ m. ring ((h - 1) % m) (between (h - 1) t) (set xs at x)) (length-set xs at x)
    ∙ ap (λ m. ring at m (set xs at x)) more
    ∙ ring_put_back n at (between h t) xs x low room refl
    ∙ ap (λ k. x ∷ ring k (between h t) xs) next
