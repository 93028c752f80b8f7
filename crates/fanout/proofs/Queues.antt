-- Where the destinations of a tree of copies lead, and how it grows: the copies are made from the last one on, and each
-- takes the last two of those that still wait for one.
use Rattle.std.proofs.Common.{◌≡◌, ℕ, zero, suc, ◌+◌, ◌-◌, ◌*◌, ◌<◌, ◌≤◌, Bool, true, false, List, ◌∷◌, ◌++◌, map, length, refl, sym, ap, ◌∙◌}
use Rattle.std.proofs.Common.{arith, Option, Some, None, if◌then◌else◌, nat_lt, not-suc-le-zero, lt-ltb, []}
use Rattle.std.specs.Prelude.{slice_get}
use Rattle.std.proofs.lemmas.Bool.{ltb-false, le-ltb}
use Rattle.lemmas.proofs.SliceGet.{get_some}
use Rattle.tags.specs.declared.token.Port.{Port}
use Rattle.tags.specs.declared.token.Port.TheVariants.{Left}
use Rattle.semantics.specs.declared.program.Dest.{Dest}
use Rattle.fanout.specs.Leading.{leads_to}
use Rattle.fanout.specs.Sides.{copies}
use Rattle.fanout.specs.Places.{Layout, place_of}
use Rattle.fanout.specs.Trees.{dest_at, leaf, leaf_or, child, copy_at, side}

-- a port of an instruction in the new order
abbrev pub Address : Type 0
Address = ℕ × Port

-- the first values of a function, in order, from the k-th on
abbrev pub window : {X : Type 0} → (ℕ → X) → ℕ → ℕ → List X
window f k zero = []
window f k (suc c) = f k ∷ window f (k + 1) c

window_end : {X : Type 0} (f : ℕ → X) (k a : ℕ) → window f k (suc (suc a)) ≡ window f k a ++ f (k + a) ∷ f (k + a + 1) ∷ []
window_end f k zero = let e : k ≡ k + 0 = omega arith in (λ z. f (e z) ∷ f (e z + 1) ∷ [])
window_end f k (suc a) =
    let e : k + 1 + a ≡ k + suc a = omega arith in
    ap (λ xs. f k ∷ xs) (window_end f (k + 1) a) ∙ (λ z. f k ∷ (window f (k + 1) a ++ f (e z) ∷ f (e z + 1) ∷ []))

module _ (l : Layout) (n : ℕ) where
  -- a destination of the n-th instruction
  abbrev pub to : Dest → Address
  to d = (place_of l (n + d.ahead), d.port)

  -- they are after that place
  abbrev pub Reaches : ℕ → List Dest → Type 0
  Reaches at ds = (k : ℕ) (d : Dest) → slice_get ds k ≡ Some d → at ≤ place_of l (n + d.ahead)

  leaf_goes : (at : ℕ) (d : Dest) → at ≤ place_of l (n + d.ahead) → leads_to at (leaf l n at d) ≡ to d
  leaf_goes at d h = let e : at + (place_of l (n + d.ahead) - at) ≡ place_of l (n + d.ahead) = omega (arith, h) in ap (λ p. (p, d.port)) e

  leaves_go : (at : ℕ) (ds : List Dest) → Reaches at ds → map (leads_to at) (map (leaf l n at) ds) ≡ map to ds
  leaves_go at [] h = refl
  leaves_go at (d ∷ ds) h = (λ k. leaf_goes at d (h 0 d refl) k ∷ leaves_go at ds (λ k d e. h (suc k) d e) k)

  abbrev or_to : Option Dest → Address
  or_to None = (0, Left)
  or_to (Some d) = to d

  -- child c of a tree of which the first copy is at `root`
  abbrev pub tip : ℕ → List Dest → ℕ → Address
  tip root ds c = if nat_lt c (copies ds) then (root + c, Left) else or_to (slice_get ds (c - copies ds))

  child_goes : (at root j : ℕ) (ds : List Dest) (c : ℕ) → at ≡ root + j → j < c → c ≤ 2 * copies ds → 0 < copies ds → Reaches at ds
      → leads_to at (child l n at j ds c) ≡ tip root ds c
  child_goes at root j ds c e low high some h = by_test (nat_lt c (copies ds)) refl
    where
      by_test : (t : Bool) → nat_lt c (copies ds) ≡ t
          → leads_to at (if t then dest_at j c Left else leaf_or l n at (slice_get ds (c - copies ds)))
          ≡ (if t then (root + c, Left) else or_to (slice_get ds (c - copies ds)))
      by_test true t = let k : at + (c - j) ≡ root + c = omega (arith, e, low) in ap (λ p. (p, Left)) k
      by_test false t =
          let k = ltb-false c (copies ds) t in
          let d = get_some ds (c - copies ds) (omega (arith, k, high, some)) in
          ap (λ o. leads_to at (leaf_or l n at o)) d.1 ∙ leaf_goes at d.0 (h (c - copies ds) d.0 d.1) ∙ sym (ap or_to d.1)

  pub copy_goes : (root j : ℕ) (ds : List Dest) → j < copies ds → Reaches (root + j) ds
      → map (leads_to (root + j)) ((copy_at l n (root + j) j ds).firsts ++ (copy_at l n (root + j) j ds).seconds) ≡ tip root ds (2 * j + 1)
      ∷ tip root ds (2 * j + 2) ∷ []
  copy_goes root j ds low h =
      let a = child_goes (root + j) root j ds (2 * j + 1) refl (omega arith) (omega (arith, low)) (omega (arith, low)) h in
      let b = child_goes (root + j) root j ds (2 * j + 2) refl (omega arith) (omega (arith, low)) (omega (arith, low)) h in
      (λ k. a k ∷ b k ∷ [])

  -- what waits for a copy when the copies from the m-th on are made
  abbrev pub queue : ℕ → List Dest → ℕ → List Address
  queue root ds m = window (tip root ds) m (suc m)

  -- the next copy takes the last two
  pub queue_last : (root : ℕ) (ds : List Dest) (m : ℕ) → queue root ds (suc m) ≡ window (tip root ds) (suc m) m ++ tip root ds (2 * m + 1)
      ∷ tip root ds (2 * m + 2) ∷ []
  queue_last root ds m =
      let a : suc m + m ≡ 2 * m + 1 = omega arith in let b : suc m + m + 1 ≡ 2 * m + 2 = omega arith in
      window_end (tip root ds) (suc m) m ∙ (λ k. window (tip root ds) (suc m) m ++ tip root ds (a k) ∷ tip root ds (b k) ∷ [])

  -- and is the first itself
  pub queue_first : (root : ℕ) (ds : List Dest) (m : ℕ) → m < copies ds → queue root ds m ≡ (root + m, Left) ∷ window (tip root ds) (suc m) m
  queue_first root ds m h =
      let s : m + 1 ≡ suc m = omega arith in
      (λ k. tip root ds m ∷ window (tip root ds) (s k) m)
      ∙ ap (λ (t : Bool). (if t then (root + m, Left) else or_to (slice_get ds (m - copies ds))) ∷ window (tip root ds) (suc m) m) (lt-ltb m (copies ds) h)

  -- At first the destinations wait.
  tips : (root : ℕ) (ds rest : List Dest) (u x : ℕ) → x ≡ copies ds + u → ((v : ℕ) → slice_get ds (u + v) ≡ slice_get rest v)
      → window (tip root ds) x (length rest) ≡ map to rest
  tips root ds [] u x e h = refl
  tips root ds (d ∷ rest) u x e h = (λ k. one k ∷ tips root ds rest (u + 1) (x + 1) (omega (arith, e)) later k)
    where
      at : slice_get ds (x - copies ds) ≡ Some d
      at = let z : x - copies ds ≡ u + 0 = omega (arith, e) in ap (slice_get ds) z ∙ h 0

      one : tip root ds x ≡ to d
      one = ap (λ (t : Bool). if t then (root + x, Left) else or_to (slice_get ds (x - copies ds))) (le-ltb x (copies ds) (omega (arith, e))) ∙ ap or_to at

      later : (v : ℕ) → slice_get ds (u + 1 + v) ≡ slice_get rest v
      later v = let z : u + 1 + v ≡ u + suc v = omega arith in ap (slice_get ds) z ∙ h (suc v)

  pub queue_all : (root : ℕ) (ds : List Dest) → 0 < length ds → queue root ds (copies ds) ≡ map to ds
  queue_all root ds some =
      let z : suc (copies ds) ≡ length ds = omega (arith, some) in
      ap (window (tip root ds) (copies ds)) z ∙ tips root ds ds 0 (copies ds) (omega arith) (λ v. let e : 0 + v ≡ v = omega arith in ap (slice_get ds) e)

  -- and at last what the instruction sends to
  pub side_goes : (at root : ℕ) (ds : List Dest) → at ≤ root → Reaches at ds → 0 < length ds → map (leads_to at) (side l n at root ds) ≡ queue root ds 0
  side_goes at root [] low h some = absurd (not-suc-le-zero some)
  side_goes at root (d ∷ []) low h some = ap (λ x. x ∷ []) (leaf_goes at d (h 0 d refl))
  side_goes at root (d ∷ e ∷ ds) low h some =
      let k : at + (root - at) ≡ root + 0 = omega (arith, low) in
      ap (λ (t : Bool). map (leads_to at) (if t then dest_at at root Left ∷ [] else map (leaf l n at) (d ∷ e ∷ ds)))
      (lt-ltb 1 (length (d ∷ e ∷ ds)) (omega arith))
      ∙ ap (λ p. (p, Left) ∷ []) k
      ∙ sym (queue_first root (d ∷ e ∷ ds) 0 (omega arith))
