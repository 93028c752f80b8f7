-- Where the instructions of a block and their copies are in the new order.
use Rattle.std.proofs.Common.{◌≡◌, ℕ, zero, suc, ◌+◌, ◌<◌, ◌≤◌, Bool, true, false, List, ◌∷◌, ◌++◌, length, drop, refl, sym, ap, ◌∙◌, inl, inr, ◌⊎◌}
use Rattle.std.proofs.Common.{arith, Some, if◌then◌else◌, le_of_suc-le-suc, not-suc-le-zero, length-append, true≢false, []}
use Rattle.std.specs.Prelude.{slice_get, All}
use Rattle.std.proofs.lemmas.Option.{slice_get_within, same_Some}
use Rattle.std.proofs.lemmas.List.Elements.{All-cons, All-nil, All-head, All-tail, All-append}
use Rattle.lemmas.proofs.SliceGet.{get_append_cases}
use Rattle.semantics.specs.Program.{Instr}
use Rattle.fanout.specs.Rows.{is_tied, run}
use Rattle.fanout.specs.Places.{size, places_from, bases_from}
use Rattle.fanout.specs.Narrowed.{held, released, spread_of}

-- LISTS
pub get_left : {X : Type 0} (xs ys : List X) (k : ℕ) → k < length xs → slice_get (xs ++ ys) k ≡ slice_get xs k
get_left [] ys k h = absurd (not-suc-le-zero h)
get_left (x ∷ xs) ys zero h = refl
get_left (x ∷ xs) ys (suc k) h = get_left xs ys k (le_of_suc-le-suc h)

pub get_right : {X : Type 0} (xs ys : List X) (k : ℕ) → slice_get (xs ++ ys) (length xs + k) ≡ slice_get ys k
get_right [] ys k = let e : 0 + k ≡ k = omega arith in ap (slice_get ys) e
get_right (x ∷ xs) ys k = let e : length (x ∷ xs) + k ≡ suc (length xs + k) = omega arith in ap (slice_get (x ∷ (xs ++ ys))) e ∙ get_right xs ys k

-- the flag of an instruction, at the head of those that are left
pub flag_here : (ts : List Bool) (n : ℕ) → n < length ts → drop n ts ≡ is_tied ts n ∷ drop (n + 1) ts
flag_here [] n h = absurd (not-suc-le-zero h)
flag_here (t ∷ ts) zero h = refl
flag_here (t ∷ ts) (suc n) h = let k : suc (n + 1) ≡ suc n + 1 = omega arith in flag_here ts n (le_of_suc-le-suc h) ∙ ap (λ m. is_tied ts n ∷ drop m (t ∷ ts)) k

pub run_tied : (ts : List Bool) (n : ℕ) → n < length ts → is_tied ts n ≡ true → run (drop n ts) ≡ run (drop (n + 1) ts) + 1
run_tied ts n h e = ap run (flag_here ts n h ∙ ap (λ t. t ∷ drop (n + 1) ts) e)

pub run_free : (ts : List Bool) (n : ℕ) → n < length ts → is_tied ts n ≡ false → run (drop n ts) ≡ 1
run_free ts n h e = ap run (flag_here ts n h ∙ ap (λ t. t ∷ drop (n + 1) ts) e)

run_none : (ts : List Bool) (n : ℕ) → length ts ≡ n → run (drop n ts) ≡ 0
run_none [] zero h = refl
run_none [] (suc n) h = refl
run_none (t ∷ ts) zero h = absurd (omega (arith, h))
run_none (t ∷ ts) (suc n) h = run_none ts n (omega (arith, h))

nothing_there : {X : Type 0} (u : ℕ) (y : X) → slice_get [] u ≡ Some y → ⊥
nothing_there u y e = absurd (cc)

-- PLACES
pub place_there : (ts : List Bool) (n before copied : ℕ) (is : List Instr) (v : ℕ) → v < length is → (m : ℕ)
    × (slice_get (places_from ts n before copied is) v ≡ Some m)
place_there ts n before copied [] v h = absurd (not-suc-le-zero h)
place_there ts n before copied (i ∷ is) zero h = (n + before, refl)
place_there ts n before copied (i ∷ is) (suc v) h = place_there ts (n + 1) (if is_tied ts n then before else copied + size i) (copied + size i) is v
    (le_of_suc-le-suc h)

pub base_there : (ts : List Bool) (n copied : ℕ) (is : List Instr) (v : ℕ) → v < length is → (m : ℕ) × (slice_get (bases_from ts n copied is) v ≡ Some m)
base_there ts n copied [] v h = absurd (not-suc-le-zero h)
base_there ts n copied (i ∷ is) zero h = (n + run (drop n ts) + copied, refl)
base_there ts n copied (i ∷ is) (suc v) h = base_there ts (n + 1) (copied + size i) is v (le_of_suc-le-suc h)

-- no place is lower than those before it
pub place_low : (ts : List Bool) (n before copied : ℕ) (is : List Instr) (v m : ℕ) → before ≤ copied → slice_get (places_from ts n before copied is) v
    ≡ Some m → n + v + before ≤ m
place_low ts n before copied [] v m h e = absurd (cc)
place_low ts n before copied (i ∷ is) zero m h e = let k = same_Some (n + before) m e in omega (arith, k)
place_low ts n before copied (i ∷ is) (suc v) m h e = elim (is_tied ts n) as
    (λ t. slice_get (places_from ts (n + 1) (if t then before else copied + size i) (copied + size i) is) v ≡ Some m → n + suc v + before ≤ m) [
      | true ↦ λ e. let k = place_low ts (n + 1) before (copied + size i) is v m (omega (arith, h)) e in omega (arith, k)
      | false ↦ λ e. let k = place_low ts (n + 1) (copied + size i) (copied + size i) is v m (omega arith) e in omega (arith, k, h)
    ] e

run_some : (ts : List Bool) (n : ℕ) → n < length ts → 0 < run (drop n ts)
run_some ts n l = by_flag (is_tied ts n) refl
  where
    by_flag : (t : Bool) → is_tied ts n ≡ t → 0 < run (drop n ts)
    by_flag true e = let k = run_tied ts n l e in omega (arith, k)
    by_flag false e = let k = run_free ts n l e in omega (arith, k)

-- an instruction is before its copies
pub place_base : (ts : List Bool) (n before copied : ℕ) (is : List Instr) (v m k : ℕ) → before ≤ copied
    → slice_get (places_from ts n before copied is) v ≡ Some m → slice_get (bases_from ts n copied is) v ≡ Some k → length ts ≡ n + length is → m < k
place_base ts n before copied [] v m k h e f all = absurd (cc)
place_base ts n before copied (i ∷ is) zero m k h e f all =
    let a = same_Some (n + before) m e in let b = same_Some (n + run (drop n ts) + copied) k f in let r = run_some ts n (omega (arith, all))
    in omega (arith, a, b, r, h)
place_base ts n before copied (i ∷ is) (suc v) m k h e f all = elim (is_tied ts n) as
    (λ t. slice_get (places_from ts (n + 1) (if t then before else copied + size i) (copied + size i) is) v ≡ Some m → m < k) [
      | true ↦ λ e. place_base ts (n + 1) before (copied + size i) is v m k (omega (arith, h)) e f (omega (arith, all))
      | false ↦ λ e. place_base ts (n + 1) (copied + size i) (copied + size i) is v m k (omega arith) e f (omega (arith, all))
    ] e

-- where a row ends before an instruction, that one is after the copies of the first one
past_first : (ts : List Bool) (n before copied : ℕ) (i : Instr) (is : List Instr) (w m' k : ℕ) → before ≤ copied → length ts ≡ n + length (i ∷ is)
    → slice_get (places_from ts n before copied (i ∷ is)) w ≡ Some m' → k < w → is_tied ts (n + k) ≡ false → n + run (drop n ts) + copied + size i ≤ m'
past_first ts n before copied i is zero m' k h all e l free = absurd (not-suc-le-zero l)
past_first ts n before copied i is (suc w) m' k h all e l free = elim (is_tied ts n) as (λ t. is_tied ts n ≡ t
    → slice_get (places_from ts (n + 1) (if t then before else copied + size i) (copied + size i) is) w ≡ Some m'
    → n + run (drop n ts) + copied + size i ≤ m') [
      | true ↦ λ t e. more k l free t is all e (λ j js k a e l f. past_first ts (n + 1) before (copied + size i) j js w m' k (omega (arith, h)) a e l f)
      | false ↦ λ t e.
          let r = run_free ts n (omega (arith, all)) t in
          let p = place_low ts (n + 1) (copied + size i) (copied + size i) is w m' (omega arith) e in
          omega (arith, r, p)
    ] refl e
  where
    more : (k : ℕ) → k < suc w → is_tied ts (n + k) ≡ false → is_tied ts n ≡ true → (is : List Instr) → length ts ≡ n + length (i ∷ is)
        → slice_get (places_from ts (n + 1) before (copied + size i) is) w ≡ Some m'
        → ((j : Instr) (js : List Instr) (k : ℕ) → length ts ≡ n + 1 + length (j ∷ js)
        → slice_get (places_from ts (n + 1) before (copied + size i) (j ∷ js)) w ≡ Some m' → k < w → is_tied ts (n + 1 + k) ≡ false
        → n + 1 + run (drop (n + 1) ts) + (copied + size i) + size j ≤ m')
        → n + run (drop n ts) + copied + size i ≤ m'
    more zero l free t is all e deeper = let z : n + 0 ≡ n = omega arith in absurd (true≢false (sym t ∙ sym (ap (is_tied ts) z) ∙ free))
    more (suc k) l free t [] all e deeper = absurd (cc)
    more (suc k) l free t (j ∷ is) all e deeper =
        let r = run_tied ts n (omega (arith, all)) t in
        let z : n + 1 + k ≡ n + suc k = omega arith in
        let p = deeper j is k (omega (arith, all)) e (le_of_suc-le-suc l) (ap (is_tied ts) z ∙ free) in
        omega (arith, r, p)

-- the same of any two
pub place_past : (ts : List Bool) (n before copied : ℕ) (is : List Instr) (v w m m' k : ℕ) (i : Instr) → before ≤ copied → length ts ≡ n + length is
    → slice_get is v ≡ Some i → slice_get (bases_from ts n copied is) v ≡ Some m → slice_get (places_from ts n before copied is) w ≡ Some m' → v ≤ k
    → k < w → is_tied ts (n + k) ≡ false → m + size i ≤ m'
place_past ts n before copied [] v w m m' k i h all at b p l u free = absurd (cc)
place_past ts n before copied (j ∷ is) zero w m m' k i h all at b p l u free =
    let e : j ≡ i = cc in let s = ap size e in let q = same_Some (n + run (drop n ts) + copied) m b in
    let f = past_first ts n before copied j is w m' k h all p u free in omega (arith, s, q, f)
place_past ts n before copied (j ∷ is) (suc v) zero m m' k i h all at b p l u free = absurd (not-suc-le-zero u)
place_past ts n before copied (j ∷ is) (suc v) (suc w) m m' zero i h all at b p l u free = absurd (not-suc-le-zero l)
place_past ts n before copied (j ∷ is) (suc v) (suc w) m m' (suc k) i h all at b p l u free =
    let z : n + 1 + k ≡ n + suc k = omega arith in let far : is_tied ts (n + 1 + k) ≡ false = ap (is_tied ts) z ∙ free in
    elim (is_tied ts n) as (λ t. slice_get (places_from ts (n + 1) (if t then before else copied + size j) (copied + size j) is) w ≡ Some m'
    → m + size i ≤ m') [
      | true ↦ λ p. place_past ts (n + 1) before (copied + size j) is v w m m' k i (omega (arith, h)) (omega (arith, all)) at b p (le_of_suc-le-suc l)
          (le_of_suc-le-suc u) far
      | false ↦ λ p. place_past ts (n + 1) (copied + size j) (copied + size j) is v w m m' k i (omega arith) (omega (arith, all)) at b p
          (le_of_suc-le-suc l) (le_of_suc-le-suc u) far
    ] p

-- places ascend
pub place_order : (ts : List Bool) (n before copied : ℕ) (is : List Instr) (v w m m' : ℕ) → before ≤ copied
    → slice_get (places_from ts n before copied is) v ≡ Some m → slice_get (places_from ts n before copied is) w ≡ Some m' → v < w → m < m'
place_order ts n before copied [] v w m m' h p q l = absurd (cc)
place_order ts n before copied (i ∷ is) v zero m m' h p q l = absurd (not-suc-le-zero l)
place_order ts n before copied (i ∷ is) zero (suc w) m m' h p q l =
    let a = same_Some (n + before) m p in let b = place_low ts n before copied (i ∷ is) (suc w) m' h q in omega (arith, a, b)
place_order ts n before copied (i ∷ is) (suc v) (suc w) m m' h p q l = elim (is_tied ts n) as
    (λ t. slice_get (places_from ts (n + 1) (if t then before else copied + size i) (copied + size i) is) v ≡ Some m
    → slice_get (places_from ts (n + 1) (if t then before else copied + size i) (copied + size i) is) w ≡ Some m' → m < m') [
      | true ↦ λ p q. place_order ts (n + 1) before (copied + size i) is v w m m' (omega (arith, h)) p q (le_of_suc-le-suc l)
      | false ↦ λ p q. place_order ts (n + 1) (copied + size i) (copied + size i) is v w m m' (omega arith) p q (le_of_suc-le-suc l)
    ] p q

-- WHAT IS THERE
module _ {X : Type 0} (ts : List Bool) (one : ℕ → Instr → X) (more : ℕ → Instr → List X) (sized : (n : ℕ) (i : Instr) → length (more n i) ≡ size i) where
  -- the next step of the new order
  abbrev next : ℕ → List X → Instr → List Instr → Bool → List X
  next n waiting i is t = released t (waiting ++ more n i) ++ spread_of ts one more (n + 1) (held t (waiting ++ more n i)) is

  -- what waits is after the row
  waiting_at : (n : ℕ) (waiting : List X) (is : List Instr) (u : ℕ) → length ts ≡ n + length is → u < length waiting
      → slice_get (spread_of ts one more n waiting is) (run (drop n ts) + u) ≡ slice_get waiting u
  waiting_at n waiting [] u all l = let r = run_none ts n (omega (arith, all)) in let z : run (drop n ts) + u ≡ u = omega (arith, r) in ap (slice_get waiting) z
  waiting_at n waiting (i ∷ is) u all l =
      let k = length-append waiting (more n i) in
      let here : n < length ts = omega (arith, all) in
      let longer : u < length (waiting ++ more n i) = omega (arith, l, k) in
      elim (is_tied ts n) as (λ t. is_tied ts n ≡ t → slice_get (one n i ∷ next n waiting i is t) (run (drop n ts) + u) ≡ slice_get waiting u) [
        | true ↦ λ t.
            let r = run_tied ts n here t in
            let s : run (drop n ts) + u ≡ suc (run (drop (n + 1) ts) + u) = omega (arith, r) in
            ap (slice_get (one n i ∷ next n waiting i is true)) s ∙ waiting_at (n + 1) (waiting ++ more n i) is u (omega (arith, all)) longer
            ∙ get_left waiting (more n i) u l
        | false ↦ λ t.
            let r = run_free ts n here t in
            let s : run (drop n ts) + u ≡ suc u = omega (arith, r) in
            ap (slice_get (one n i ∷ next n waiting i is false)) s ∙ get_left (waiting ++ more n i) (spread_of ts one more (n + 1) [] is) u longer
            ∙ get_left waiting (more n i) u l
      ] refl

  one_from : (n before copied : ℕ) (waiting : List X) (is : List Instr) (v m q : ℕ) (i : Instr) → before + length waiting ≡ copied → slice_get is v ≡ Some i
      → slice_get (places_from ts n before copied is) v ≡ Some m → q ≡ n + v → (x : ℕ) × (n + before + x ≡ m)
      × (slice_get (spread_of ts one more n waiting is) x ≡ Some (one q i))
  one_from n before copied waiting [] v m q i h at p e = absurd (cc)
  one_from n before copied waiting (j ∷ is) zero m q i h at p e =
      let s = same_Some (n + before) m p in let z : n ≡ q = omega (arith, e) in let k : j ≡ i = cc in
      (0, omega (arith, s), (λ y. Some (one (z y) (k y))))
  one_from n before copied waiting (j ∷ is) (suc v) m q i h at p e =
      let k = length-append waiting (more n j) in let s = sized n j in
      let len : length (waiting ++ more n j) ≡ length waiting + size j = omega (arith, k, s) in
      elim (is_tied ts n) as (λ t. slice_get (places_from ts (n + 1) (if t then before else copied + size j) (copied + size j) is) v ≡ Some m
      → (x : ℕ) × (n + before + x ≡ m) × (slice_get (one n j ∷ next n waiting j is t) x ≡ Some (one q i))) [
        | true ↦ λ p.
            let r = one_from (n + 1) before (copied + size j) (waiting ++ more n j) is v m q i (omega (arith, h, len)) at p (omega (arith, e)) in
            let s = r.1 in (suc r.0, omega (arith, s), r.2)
        | false ↦ λ p.
            let r = one_from (n + 1) (copied + size j) (copied + size j) [] is v m q i (omega arith) at p (omega (arith, e)) in
            let s = r.1 in (
              suc (length (waiting ++ more n j) + r.0),
              omega (arith, s, len, h),
              get_right (waiting ++ more n j) (spread_of ts one more (n + 1) [] is)
                  r.0 ∙ r.2,
            )
      ] p

  more_from : (n before copied : ℕ) (waiting : List X) (is : List Instr) (v m q j : ℕ) (i : Instr) (y : X) → before + length waiting ≡ copied
      → length ts ≡ n + length is → slice_get is v ≡ Some i
      → slice_get (bases_from ts n copied is) v ≡ Some m → q ≡ n + v → slice_get (more q i) j ≡ Some y
      → (x : ℕ) × (n + before + x ≡ m + j) × (slice_get (spread_of ts one more n waiting is) x ≡ Some y)
  more_from n before copied waiting [] v m q j i y h all at p e f = absurd (cc)
  more_from n before copied waiting (k ∷ is) zero m q j i y h all at p e f = by_flag (is_tied ts n) refl
    where
      same : n + run (drop n ts) + copied ≡ m
      same = same_Some (n + run (drop n ts) + copied) m p

      here : n < length ts
      here = omega (arith, all)

      is_k : k ≡ i
      is_k = cc

      z : n ≡ q
      z = omega (arith, e)

      of_k : slice_get (more n k) j ≡ Some y
      of_k = (λ x. slice_get (more (z x) (is_k x)) j) ∙ f

      low : j < length (more n k)
      low = slice_get_within (more n k) j y of_k

      long : length waiting + j < length (waiting ++ more n k)
      long = let l = length-append waiting (more n k) in omega (arith, l, low)

      there : slice_get (waiting ++ more n k) (length waiting + j) ≡ Some y
      there = get_right waiting (more n k) j ∙ of_k

      by_flag : (t : Bool) → is_tied ts n ≡ t → (x : ℕ) × (n + before + x ≡ m + j) × (slice_get (one n k ∷ next n waiting k is t) x ≡ Some y)
      by_flag true t =
          let r = run_tied ts n here t in (
            suc (run (drop (n + 1) ts) + (length waiting + j)),
            omega (arith, r, same, h),
            waiting_at (n + 1) (waiting ++ more n k) is
                (length waiting + j) (omega (arith, all)) long ∙ there,
          )
      by_flag false t =
          let r = run_free ts n here t in (
            suc (length waiting + j),
            omega (arith, r, same, h),
            get_left (waiting ++ more n k) (spread_of ts one more (n + 1) [] is)
                (length waiting + j) long ∙ there,
          )
  more_from n before copied waiting (k ∷ is) (suc v) m q j i y h all at p e f =
      let l = length-append waiting (more n k) in let s = sized n k in
      let len : length (waiting ++ more n k) ≡ length waiting + size k = omega (arith, l, s) in
      elim (is_tied ts n) as (λ t. (x : ℕ) × (n + before + x ≡ m + j) × (slice_get (one n k ∷ next n waiting k is t) x ≡ Some y)) [
        | true ↦
            let r = more_from (n + 1) before (copied + size k) (waiting ++ more n k) is v m q j i y (omega (arith, h, len)) (omega (arith, all)) at p
            (omega (arith, e)) f in
            let s = r.1 in (suc r.0, omega (arith, s), r.2)
        | false ↦
            let r = more_from (n + 1) (copied + size k) (copied + size k) [] is v m q j i y (omega arith) (omega (arith, all)) at p (omega (arith, e)) f in
            let s = r.1 in (
              suc (length (waiting ++ more n k) + r.0),
              omega (arith, s, len, h),
              get_right (waiting ++ more n k) (spread_of ts one more (n + 1) [] is)
                  r.0 ∙ r.2,
            )
      ]

  -- an instruction is at its place, and its copies from its base on
  pub one_at : (is : List Instr) (n m : ℕ) (i : Instr) → slice_get is n ≡ Some i → slice_get (places_from ts 0 0 0 is) n ≡ Some m
      → slice_get (spread_of ts one more 0 [] is) m ≡ Some (one n i)
  one_at is n m i at p =
      let r = one_from 0 0 0 [] is n m n i (omega arith) at p (omega arith) in let s = r.1 in
      let e : m ≡ r.0 = omega (arith, s) in ap (slice_get (spread_of ts one more 0 [] is)) e ∙ r.2

  pub more_at : (is : List Instr) (n m j : ℕ) (i : Instr) (y : X) → length ts ≡ length is → slice_get is n ≡ Some i
      → slice_get (bases_from ts 0 0 is) n ≡ Some m → slice_get (more n i) j ≡ Some y
      → slice_get (spread_of ts one more 0 [] is) (m + j) ≡ Some y
  more_at is n m j i y all at p f =
      let r = more_from 0 0 0 [] is n m n j i y (omega arith) (omega (arith, all)) at p (omega arith) f in let s = r.1 in
      let e : m + j ≡ r.0 = omega (arith, s) in ap (slice_get (spread_of ts one more 0 [] is)) e ∙ r.2

  -- what holds of each, if it holds of what each instruction and each copy stands for
  all_from : (P : X → Type 0) (Q : Instr → Type 0) → ((n : ℕ) (i : Instr) → Q i → P (one n i)) → ((n : ℕ) (i : Instr) → All P (more n i))
      → (n : ℕ) (waiting : List X) (is : List Instr) → All P waiting → All Q is
      → All P (spread_of ts one more n waiting is)
  all_from P Q f g n waiting [] h all = h
  all_from P Q f g n waiting (i ∷ is) h all =
      let now = All-append P waiting (more n i) h (g n i) in
      All-cons P (one n i) _ (f n i (All-head Q i is all)) (elim (is_tied ts n) as (λ t. All P (next n waiting i is t)) [
        | true ↦ all_from P Q f g (n + 1) (waiting ++ more n i) is now (All-tail Q i is all)
        | false ↦ All-append P (waiting ++ more n i) (spread_of ts one more (n + 1) [] is) now
            (all_from P Q f g (n + 1) [] is (All-nil P) (All-tail Q i is all))
      ])

  pub all_spread : (P : X → Type 0) (Q : Instr → Type 0) → ((n : ℕ) (i : Instr) → Q i → P (one n i)) → ((n : ℕ) (i : Instr) → All P (more n i))
      → (is : List Instr) → All Q is → All P (spread_of ts one more 0 [] is)
  all_spread P Q f g is all = all_from P Q f g 0 [] is (All-nil P) all

  -- WHERE SOMETHING COMES FROM
  -- it stands for an instruction, from the n-th one on
  pub record IsOne (n before copied : ℕ) (is : List Instr) (x : ℕ) (y : X) : Type 0 where
    pub v : ℕ
    pub i : Instr
    pub m : ℕ
    pub q : ℕ
    pub there : slice_get is v ≡ Some i
    pub place : slice_get (places_from ts n before copied is) v ≡ Some m
    pub at : n + before + x ≡ m
    pub nth : q ≡ n + v
    pub what : one q i ≡ y

  -- or for a copy of one
  pub record IsMore (n before copied : ℕ) (is : List Instr) (x : ℕ) (y : X) : Type 0 where
    pub v : ℕ
    pub i : Instr
    pub m : ℕ
    pub q : ℕ
    pub j : ℕ
    pub there : slice_get is v ≡ Some i
    pub base : slice_get (bases_from ts n copied is) v ≡ Some m
    pub at : n + before + x ≡ m + j
    pub nth : q ≡ n + v
    pub what : slice_get (more q i) j ≡ Some y

  -- or it waited
  pub record HasWaited (n : ℕ) (waiting : List X) (x : ℕ) (y : X) : Type 0 where
    pub u : ℕ
    pub there : slice_get waiting u ≡ Some y
    pub at : x ≡ run (drop n ts) + u

  abbrev Comes : ℕ → ℕ → ℕ → List X → List Instr → ℕ → X → Type 0
  Comes n before copied waiting is x y = IsOne n before copied is x y ⊎ (IsMore n before copied is x y ⊎ HasWaited n waiting x y)

  one_later : (n before before' copied : ℕ) (i : Instr) (is : List Instr) (x x' : ℕ) (y : X) → n + 1 + before' + x' ≡ n + before + x
      → (if is_tied ts n then before else copied + size i) ≡ before' → IsOne (n + 1) before' (copied + size i) is x' y → IsOne n before copied (i ∷ is) x y
  one_later n before before' copied i is x x' y e f h = let a = h.at in let b = h.nth in record {
    v = suc h.v;
    i = h.i;
    m = h.m;
    q = h.q;
    there = h.there;
    place = ap (λ z. slice_get (places_from ts (n + 1) z (copied + size i) is) h.v) f ∙ h.place;
    at = omega (arith, a, e);
    nth = omega (arith, b);
    what = h.what;
  }

  more_later : (n before before' copied : ℕ) (i : Instr) (is : List Instr) (x x' : ℕ) (y : X) → n + 1 + before' + x' ≡ n + before + x
      → IsMore (n + 1) before' (copied + size i) is x' y → IsMore n before copied (i ∷ is) x y
  more_later n before before' copied i is x x' y e h = let a = h.at in let b = h.nth in record {
    v = suc h.v;
    i = h.i;
    m = h.m;
    q = h.q;
    j = h.j;
    there = h.there;
    base = h.base;
    at = omega (arith, a, e);
    nth = omega (arith, b);
    what = h.what;
  }

  -- what waits after an instruction waited before it, or is a copy of it
  waited_here : (n before copied : ℕ) (waiting : List X) (i : Instr) (is : List Instr) (x u : ℕ) (y : X) → before + length waiting ≡ copied
      → slice_get (waiting ++ more n i) u ≡ Some y → x ≡ run (drop n ts) + u
      → Comes n before copied waiting (i ∷ is) x y
  waited_here n before copied waiting i is x u y h e f = pick (get_append_cases waiting (more n i) u y e)
    where
      pick : (slice_get waiting u ≡ Some y) ⊎ ((j : ℕ) × (u ≡ length waiting + j) × (slice_get (more n i) j ≡ Some y))
          → Comes n before copied waiting (i ∷ is) x y
      pick (inl g) = inr (inr (record { u = u; there = g; at = f }))
      pick (inr (j, g, k)) = inr (inl (record {
        v = 0;
        i = i;
        m = n + run (drop n ts) + copied;
        q = n;
        j = j;
        there = refl;
        base = refl;
        at = omega
            (arith, h, f, g);
        nth = omega arith;
        what = k;
      }))

  comes_from : (n before copied : ℕ) (waiting : List X) (is : List Instr) (x : ℕ) (y : X) → before + length waiting ≡ copied → length ts ≡ n + length is
      → slice_get (spread_of ts one more n waiting is) x ≡ Some y → Comes n before copied waiting is x y
  comes_from n before copied waiting [] x y h all e = let r = run_none ts n (omega (arith, all))
      in inr (inr (record { u = x; there = e; at = omega (arith, r) }))
  comes_from n before copied waiting (i ∷ is) zero y h all e = let f : one n i ≡ y = cc
      in inl (record { v = 0; i = i; m = n + before; q = n; there = refl; place = refl; at = omega arith; nth = omega arith; what = f })
  comes_from n before copied waiting (i ∷ is) (suc x) y h all e =
      let k = length-append waiting (more n i) in let s = sized n i in
      let len : length (waiting ++ more n i) ≡ length waiting + size i = omega (arith, k, s) in
      let here : n < length ts = omega (arith, all) in
      elim (is_tied ts n) as (λ t. is_tied ts n ≡ t → slice_get (next n waiting i is t) x ≡ Some y → Comes n before copied waiting (i ∷ is) (suc x) y) [
        | true ↦ λ t e.
            by_tied n before copied waiting i is x y h t here
            (comes_from (n + 1) before (copied + size i) (waiting ++ more n i) is x y (omega (arith, h, len)) (omega (arith, all)) e)
        | false ↦ λ t e.
            by_free n before copied waiting i is x y h t here len (get_append_cases (waiting ++ more n i) (spread_of ts one more (n + 1) [] is) x y e)
            (λ x' e. comes_from (n + 1) (copied + size i) (copied + size i) [] is x' y (omega arith) (omega (arith, all)) e)
      ] refl e
    where
      by_tied : (n before copied : ℕ) (waiting : List X) (i : Instr) (is : List Instr) (x : ℕ) (y : X) → before + length waiting ≡ copied
          → is_tied ts n ≡ true → n < length ts
          → Comes (n + 1) before (copied + size i) (waiting ++ more n i) is x y → Comes n before copied waiting (i ∷ is) (suc x) y
      by_tied n before copied waiting i is x y h t here (inl o) = inl (one_later n before before copied i is (suc x) x y (omega arith)
          (ap (λ (t : Bool). if t then before else copied + size i) t) o)
      by_tied n before copied waiting i is x y h t here (inr (inl o)) = inr (inl (more_later n before before copied i is (suc x) x y (omega arith) o))
      by_tied n before copied waiting i is x y h t here (inr (inr o)) =
          let r = run_tied ts n here t in let a = o.at in waited_here n before copied waiting i is (suc x) o.u y h o.there (omega (arith, a, r))

      by_free : (n before copied : ℕ) (waiting : List X) (i : Instr) (is : List Instr) (x : ℕ) (y : X) → before + length waiting ≡ copied
          → is_tied ts n ≡ false → n < length ts → length (waiting ++ more n i) ≡ length waiting + size i
          → (slice_get (waiting ++ more n i) x ≡ Some y) ⊎ ((j : ℕ) × (x ≡ length (waiting ++ more n i) + j)
          × (slice_get (spread_of ts one more (n + 1) [] is) j ≡ Some y))
          → ((x' : ℕ) → slice_get (spread_of ts one more (n + 1) [] is) x' ≡ Some y → Comes (n + 1) (copied + size i) (copied + size i) [] is x' y)
          → Comes n before copied waiting (i ∷ is) (suc x) y
      by_free n before copied waiting i is x y h t here len (inl e) deeper = let r = run_free ts n here t in waited_here n before copied waiting i is
          (suc x) x y h e (omega (arith, r))
      by_free n before copied waiting i is x y h t here len (inr (j, f, e)) deeper = pick (deeper j e)
        where
          pick : Comes (n + 1) (copied + size i) (copied + size i) [] is j y → Comes n before copied waiting (i ∷ is) (suc x) y
          pick (inl o) = inl (one_later n before (copied + size i) copied i is (suc x) j y (omega (arith, f, len, h))
              (ap (λ (t : Bool). if t then before else copied + size i) t) o)
          pick (inr (inl o)) = inr (inl (more_later n before (copied + size i) copied i is (suc x) j y (omega (arith, f, len, h)) o))
          pick (inr (inr o)) = absurd (nothing_there o.u y o.there)

  pub comes : (is : List Instr) (x : ℕ) (y : X) → length ts ≡ length is → slice_get (spread_of ts one more 0 [] is) x ≡ Some y
      → IsOne 0 0 0 is x y ⊎ IsMore 0 0 0 is x y
  comes is x y all e = pick (comes_from 0 0 0 [] is x y (omega arith) (omega (arith, all)) e)
    where
      pick : Comes 0 0 0 [] is x y → IsOne 0 0 0 is x y ⊎ IsMore 0 0 0 is x y
      pick (inl o) = inl o
      pick (inr (inl o)) = inr o
      pick (inr (inr o)) = absurd (nothing_there o.u y o.there)
