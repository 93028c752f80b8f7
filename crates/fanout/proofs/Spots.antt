-- No two instructions of the new order are at one place: each is identified by a label.
use Rattle.std.proofs.Common.{◌≡◌, ℕ, zero, suc, ◌+◌, ◌<◌, ◌≤◌, Bool, false, List, ◌∷◌, ◌++◌, length, refl, sym, ap, ◌∙◌, inl, inr, ◌⊎◌, arith}
use Rattle.std.proofs.Common.{Some, not-suc-le-zero, length-append, []}
use Rattle.std.specs.Prelude.{slice_get}
use Rattle.std.proofs.lemmas.Bool.{cases_eq}
use Rattle.std.proofs.lemmas.Option.{slice_get_within, get_or_from_slice_get}
use Rattle.semantics.specs.declared.program.Dest.{Dest}
use Rattle.semantics.specs.Program.{Instr}
use Rattle.fanout.specs.Sides.{copies}
use Rattle.fanout.specs.Rows.{is_tied}
use Rattle.fanout.specs.Places.{Layout, size, places_from, bases_from, layout_with, place_of, base_of}
use Rattle.fanout.specs.Trees.{copy_at, tree, moved, copies_of}
use Rattle.fanout.specs.Narrowed.{spread_of, spread}
use Rattle.fanout.proofs.Positions.{get_left, get_right, place_there, base_there, place_base, place_past, place_order, one_at, more_at, IsOne, IsMore, comes}

-- LISTS OF SO MANY
abbrev pub counted : {X : Type 0} → (ℕ → X) → ℕ → List X
counted f zero = []
counted f (suc k) = counted f k ++ f k ∷ []

pub length-counted : {X : Type 0} (f : ℕ → X) (k : ℕ) → length (counted f k) ≡ k
length-counted f zero = refl
length-counted f (suc k) = let e = length-append (counted f k) (f k ∷ []) in let h = length-counted f k in omega (arith, e, h)

pub get-counted : {X : Type 0} (f : ℕ → X) (k j : ℕ) → j < k → slice_get (counted f k) j ≡ Some (f j)
get-counted f zero j h = absurd (not-suc-le-zero h)
get-counted f (suc k) j h = pick (cases_eq j k) (get-counted f k j)
  where
    len : length (counted f k) ≡ k
    len = length-counted f k

    pick : (j ≡ k) ⊎ (j ≡ k → ⊥) → (j < k → slice_get (counted f k) j ≡ Some (f j)) → slice_get (counted f k ++ f k ∷ []) j ≡ Some (f j)
    pick (inl e) more = let z : j ≡ length (counted f k) + 0 = omega (arith, e, len) in ap (slice_get (counted f k ++ f k ∷ [])) z
        ∙ get_right (counted f k) (f k ∷ []) 0 ∙ ap (λ k. Some (f k)) (sym e)
    pick (inr n) more = let l : j < k = omega (arith, h, n) in get_left (counted f k) (f k ∷ []) j (omega (arith, l, len)) ∙ more l

-- a tree of copies
pub tree_is : (l : Layout) (n root : ℕ) (ds : List Dest) (k : ℕ) → tree l n root ds k ≡ counted (λ j. copy_at l n (root + j) j ds) k
tree_is l n root ds zero = refl
tree_is l n root ds (suc k) = ap (λ is. is ++ copy_at l n (root + k) k ds ∷ []) (tree_is l n root ds k)

pub length-tree : (l : Layout) (n root : ℕ) (ds : List Dest) (k : ℕ) → length (tree l n root ds k) ≡ k
length-tree l n root ds k = ap length (tree_is l n root ds k) ∙ length-counted _ k

pub get-tree : (l : Layout) (n root : ℕ) (ds : List Dest) (k j : ℕ) → j < k → slice_get (tree l n root ds k) j ≡ Some (copy_at l n (root + j) j ds)
get-tree l n root ds k j h = ap (λ is. slice_get is j) (tree_is l n root ds k) ∙ get-counted (λ j. copy_at l n (root + j) j ds) k j h

pub sized : (l : Layout) (n : ℕ) (i : Instr) → length (copies_of l n i) ≡ size i
sized l n i =
    let a = length-tree l n (base_of l n) i.firsts (copies i.firsts) in
    let b = length-tree l n (base_of l n + copies i.firsts) i.seconds (copies i.seconds) in
    let e = length-append (tree l n (base_of l n) i.firsts (copies i.firsts)) (tree l n (base_of l n + copies i.firsts) i.seconds (copies i.seconds)) in
    omega (arith, a, b, e)

-- the copies of the first side, and those of the second one
pub first_copy : (l : Layout) (n : ℕ) (i : Instr) (j : ℕ) → j < copies i.firsts → slice_get (copies_of l n i) (0 + j)
    ≡ Some (copy_at l n (base_of l n + j) j i.firsts)
first_copy l n i j h =
    let a = length-tree l n (base_of l n) i.firsts (copies i.firsts) in
    let z : 0 + j ≡ j = omega arith in
    ap (slice_get (copies_of l n i)) z
    ∙ get_left (tree l n (base_of l n) i.firsts (copies i.firsts)) (tree l n (base_of l n + copies i.firsts) i.seconds (copies i.seconds)) j
    (omega (arith, a, h))
    ∙ get-tree l n (base_of l n) i.firsts (copies i.firsts) j h

pub second_copy : (l : Layout) (n : ℕ) (i : Instr) (j : ℕ) → j < copies i.seconds
    → slice_get (copies_of l n i) (copies i.firsts + j) ≡ Some (copy_at l n (base_of l n + copies i.firsts + j) j i.seconds)
second_copy l n i j h =
    let a = length-tree l n (base_of l n) i.firsts (copies i.firsts) in
    let z : copies i.firsts + j ≡ length (tree l n (base_of l n) i.firsts (copies i.firsts)) + j = omega (arith, a) in
    ap (slice_get (copies_of l n i)) z
    ∙ get_right (tree l n (base_of l n) i.firsts (copies i.firsts)) (tree l n (base_of l n + copies i.firsts) i.seconds (copies i.seconds)) j
    ∙ get-tree l n (base_of l n + copies i.firsts) i.seconds (copies i.seconds) j h

-- LABELS
pub data Label : Type 0 where
  Old : (number : ℕ) → Label
  New : (number copy : ℕ) → Label

abbrev old : ℕ → Instr → Label
old n i = Old n

abbrev news : ℕ → Instr → List Label
news n i = counted (New n) (size i)

same_old : (m n : ℕ) → Some (Old m) ≡ Some (Old n) → m ≡ n
same_old m n e = cc

same_new : (m n j k : ℕ) → Some (New m j) ≡ Some (New n k) → (m ≡ n) × (j ≡ k)
same_new m n j k e = (cc, cc)

not_both : (m n k : ℕ) → Some (Old m) ≡ Some (New n k) → ⊥
not_both m n k e = cc

module _ (ts : List Bool) (is : List Instr) (all : length ts ≡ length is) where
  abbrev pub l : Layout
  l = layout_with ts is

  pub place_is : (n : ℕ) (i : Instr) → slice_get is n ≡ Some i → slice_get (places_from ts 0 0 0 is) n ≡ Some (place_of l n)
  place_is n i at = let p = place_there ts 0 0 0 is n (slice_get_within is n i at) in p.1
      ∙ ap Some (sym (get_or_from_slice_get (places_from ts 0 0 0 is) n p.0 n p.1))

  pub base_is : (n : ℕ) (i : Instr) → slice_get is n ≡ Some i → slice_get (bases_from ts 0 0 is) n ≡ Some (base_of l n)
  base_is n i at = let p = base_there ts 0 0 is n (slice_get_within is n i at) in p.1 ∙ ap Some (sym (get_or_from_slice_get (bases_from ts 0 0 is) n p.0 n p.1))

  -- an instruction and its copies are there
  pub stands : (n : ℕ) (i : Instr) → slice_get is n ≡ Some i → slice_get (spread l 0 [] is) (place_of l n) ≡ Some (moved l n i)
  stands n i at = one_at ts (moved l) (copies_of l) (sized l) is n (place_of l n) i at (place_is n i at)

  pub copy_stands : (n j : ℕ) (i k : Instr) → slice_get is n ≡ Some i → slice_get (copies_of l n i) j ≡ Some k
      → slice_get (spread l 0 [] is) (base_of l n + j) ≡ Some k
  copy_stands n j i k at c = more_at ts (moved l) (copies_of l) (sized l) is n (base_of l n) j i k all at (base_is n i at) c

  abbrev labels : List Label
  labels = spread_of ts old news 0 [] is

  labelled : (n : ℕ) (i : Instr) → slice_get is n ≡ Some i → slice_get labels (place_of l n) ≡ Some (Old n)
  labelled n i at = one_at ts old news (λ n i. length-counted (New n) (size i)) is n (place_of l n) i at (place_is n i at)

  copy_labelled : (n j : ℕ) (i : Instr) → slice_get is n ≡ Some i → j < size i → slice_get labels (base_of l n + j) ≡ Some (New n j)
  copy_labelled n j i at h = more_at ts old news (λ n i. length-counted (New n) (size i)) is n (base_of l n) j i (New n j) all at (base_is n i at)
      (get-counted (New n) (size i) j h)

  pub places_differ : (m n : ℕ) (i k : Instr) → slice_get is m ≡ Some i → slice_get is n ≡ Some k → place_of l m ≡ place_of l n → m ≡ n
  places_differ m n i k at to e = same_old m n (sym (labelled m i at) ∙ ap (slice_get labels) e ∙ labelled n k to)

  pub copies_differ : (m n j q : ℕ) (i k : Instr) → slice_get is m ≡ Some i → slice_get is n ≡ Some k → j < size i → q < size k → base_of l m + j
      ≡ base_of l n + q → (m ≡ n) × (j ≡ q)
  copies_differ m n j q i k at to h g e = same_new m n j q (sym (copy_labelled m j i at h) ∙ ap (slice_get labels) e ∙ copy_labelled n q k to g)

  pub copy_apart : (m n q : ℕ) (i k : Instr) → slice_get is m ≡ Some i → slice_get is n ≡ Some k → q < size k → place_of l m ≡ base_of l n + q → ⊥
  copy_apart m n q i k at to g e = not_both m n q (sym (labelled m i at) ∙ ap (slice_get labels) e ∙ copy_labelled n q k to g)

  -- ORDER
  pub before_copies : (n : ℕ) (i : Instr) → slice_get is n ≡ Some i → place_of l n < base_of l n
  before_copies n i at = place_base ts 0 0 0 is n (place_of l n) (base_of l n) (omega arith) (place_is n i at) (base_is n i at) (omega (arith, all))

  pub past_copies : (n m k : ℕ) (i j : Instr) → slice_get is n ≡ Some i → slice_get is m ≡ Some j → n ≤ k → k < m → is_tied ts k ≡ false
      → base_of l n + size i ≤ place_of l m
  past_copies n m k i j at to low high free =
      let z : 0 + k ≡ k = omega arith in
      place_past ts 0 0 0 is n m (base_of l n) (place_of l m) k i (omega arith) (omega (arith, all)) at (base_is n i at) (place_is m j to) low high
      (ap (is_tied ts) z ∙ free)

  pub in_order : (n m : ℕ) (i j : Instr) → slice_get is n ≡ Some i → slice_get is m ≡ Some j → n < m → place_of l n < place_of l m
  in_order n m i j at to h = place_order ts 0 0 0 is n m (place_of l n) (place_of l m) (omega arith) (place_is n i at) (place_is m j to) h

  -- WHERE AN INSTRUCTION COMES FROM
  -- it is one of the old ones in its place, or a copy
  pub record IsMoved (x : ℕ) (y : Instr) : Type 0 where
    pub v : ℕ
    pub i : Instr
    pub there : slice_get is v ≡ Some i
    pub at : x ≡ place_of l v
    pub what : moved l v i ≡ y

  pub record IsCopied (x : ℕ) (y : Instr) : Type 0 where
    pub v : ℕ
    pub i : Instr
    pub j : ℕ
    pub there : slice_get is v ≡ Some i
    pub at : x ≡ base_of l v + j
    pub what : slice_get (copies_of l v i) j ≡ Some y

  pub comes_here : (x : ℕ) (y : Instr) → slice_get (spread l 0 [] is) x ≡ Some y → IsMoved x y ⊎ IsCopied x y
  comes_here x y e = pick (comes ts (moved l) (copies_of l) (sized l) is x y all e)
    where
      some : (a d : ℕ) → Some a ≡ Some d → a ≡ d
      some a d e = cc

      pick : IsOne ts (moved l) (copies_of l) (sized l) 0 0 0 is x y ⊎ IsMore ts (moved l) (copies_of l) (sized l) 0 0 0 is x y → IsMoved x y ⊎ IsCopied x y
      pick (inl o) =
          let z : o.q ≡ o.v = (let a = o.nth in omega (arith, a)) in
          let m = some (place_of l o.v) o.m (sym (place_is o.v o.i o.there) ∙ o.place) in
          let a = o.at in
          inl (record { v = o.v; i = o.i; there = o.there; at = omega (arith, a, m); what = ap (λ q. moved l q o.i) (sym z) ∙ o.what })
      pick (inr o) =
          let z : o.q ≡ o.v = (let a = o.nth in omega (arith, a)) in
          let m = some (base_of l o.v) o.m (sym (base_is o.v o.i o.there) ∙ o.base) in
          let a = o.at in
          inr (record {
            v = o.v;
            i = o.i;
            j = o.j;
            there = o.there;
            at = omega (arith, a, m);
            what = ap (λ q. slice_get (copies_of l q o.i) o.j)
                (sym z) ∙ o.what;
          })
