-- Lists in another order: what a function of each element makes of them, and a decision for lists that are joined.
use Rattle.std.proofs.Common.{◌≡◌, ℕ, zero, suc, ◌+◌, ◌<◌, true, false, List, [], ◌∷◌, ◌++◌, map, length, get_or, set, refl, sym, ap, ◌∙◌, subst, arith, sum_by}
use Rattle.std.proofs.Common.{append_assoc, append-nil, le_of_suc-le-suc, not-suc-le-zero, nat_lt, if◌then◌else◌, ◌&&◌, ◌≤◌, ◌⊎◌, Bool, Contains, inl, inr}
use Rattle.law_confluence.specs.OrdersTotals.{total, one}
use Rattle.std.specs.Prelude.{All, flat_map, IsPermutation}
use Rattle.std.proofs.lemmas.List.Elements.{All-head, All-tail}
use Rattle.std.specs.List.Sorted.{apply_swaps, SwapsInRange}
use Rattle.std.specs.List.{swap}
use Rattle.std.proofs.lemmas.List.{map-set, length-map}
use Rattle.std.proofs.Math.ListN.{get_or-map}
use Rattle.std.proofs.lemmas.List.Recursion.{is_sum_by}
use Rattle.std.proofs.lemmas.List.Concat.{flat_map-append}
use Rattle.std.proofs.lemmas.List.Sorted.{length_permutation, IsPermutation-refl, IsPermutation-sym, IsPermutation-trans, IsPermutation-cons}
use Rattle.std.proofs.lemmas.List.Sorted.{IsPermutation-append_left, IsPermutation-append_right, IsPermutation-append_comm, IsPermutation-keeps}
use Rattle.std.proofs.lemmas.List.Sorted.{sum_by-IsPermutation}
use Rattle.lemmas.proofs.Contains.{contains_cases, contains_none}

pub at_first : {X : Type 0} {xs zs ys : List X} → xs ≡ zs → IsPermutation zs ys → IsPermutation xs ys
at_first {ys = ys} e p = subst (λ l. IsPermutation l ys) (sym e) p

pub at_last : {X : Type 0} {xs ys zs : List X} → IsPermutation xs ys → ys ≡ zs → IsPermutation xs zs
at_last {xs = xs} p e = subst (λ l. IsPermutation xs l) e p

-- A list in the order of no elements is empty.
pub empty_list : {X : Type 0} (xs ys : List X) → IsPermutation xs ys → ys ≡ [] → xs ≡ []
empty_list [] ys p e = refl
empty_list (x ∷ xs) ys p e = let n = length_permutation _ _ p in let k = ap length e in absurd (omega (arith, n, k))

-- MAPS
pub map_agree : {X Y : Type 0} (f g : X → Y) (xs : List X) → All (λ x. f x ≡ g x) xs → map f xs ≡ map g xs
map_agree f g [] h = refl
map_agree f g (x ∷ xs) h = (λ k. All-head (λ x. f x ≡ g x) x xs h k ∷ map_agree f g xs (All-tail (λ x. f x ≡ g x) x xs h) k)

pub map-map : {X Y Z : Type 0} (g : Y → Z) (f : X → Y) (xs : List X) → map g (map f xs) ≡ map (λ x. g (f x)) xs
map-map g f [] = refl
map-map g f (x ∷ xs) = ap (λ l. g (f x) ∷ l) (map-map g f xs)

-- WHAT IS LIFTED THROUGH A MAP
module _ {X Y : Type 0} (f : X → Y) where
  map-swap : (xs : List X) (i j : ℕ) → map f (swap xs i j) ≡ swap (map f xs) i j
  map-swap [] i j = refl
  map-swap (d ∷ ys) i j = map-set f (set (d ∷ ys) i (get_or (d ∷ ys) j d)) j (get_or (d ∷ ys) i d)
      ∙ (λ k. set ((map-set f (d ∷ ys) i (get_or (d ∷ ys) j d) ∙ ap (set (map f (d ∷ ys)) i) (sym (get_or-map f (d ∷ ys) j d))) k) j
      (sym (get_or-map f (d ∷ ys) i d) k))

  map-apply_swaps : (xs : List X) (ps : List (ℕ × ℕ)) → map f (apply_swaps xs ps) ≡ apply_swaps (map f xs) ps
  map-apply_swaps xs [] = refl
  map-apply_swaps xs (p ∷ ps) = map-swap (apply_swaps xs ps) p.0 p.1 ∙ ap (λ l. swap l p.0 p.1) (map-apply_swaps xs ps)

  -- a list in the order of an image of it
  pub lifted : (xs : List X) (ys : List Y) → IsPermutation (map f xs) ys → (zs : List X) × IsPermutation xs zs × (map f zs ≡ ys)
  lifted xs ys p = (
    apply_swaps xs p.moves,
    record { moves = p.moves; below = subst (λ n. SwapsInRange n p.moves) (length-map xs f) p.below; is = refl },
    map-apply_swaps xs p.moves ∙ sym p.is,
  )

  -- the element after the first of an image, and the others
  pub first_lifted : (xs : List X) (y : Y) (ys : List Y) → IsPermutation (map f xs) (y ∷ ys)
      → (x : X) × (zs : List X) × IsPermutation xs (x ∷ zs) × (f x ≡ y) × (map f zs ≡ ys)
  first_lifted xs y ys p = go (lifted xs (y ∷ ys) p).0 (lifted xs (y ∷ ys) p).1 (lifted xs (y ∷ ys) p).2
    where
      go : (zs : List X) → IsPermutation xs zs → map f zs ≡ y ∷ ys → (x : X) × (zs : List X) × IsPermutation xs (x ∷ zs) × (f x ≡ y) × (map f zs ≡ ys)
      go [] q e = absurd (cc)
      go (x ∷ zs) q e = (x, zs, q, cc, cc)

-- JOINED IMAGES
module _ {X Y : Type 0} (f : X → List Y) where
  -- an element put in the place of another
  replaced : (l : List X) (i : ℕ) (v d : X) → i < length l → IsPermutation (f v ++ flat_map f l) (f (get_or l i d) ++ flat_map f (set l i v))
  replaced [] i v d h = absurd (not-suc-le-zero h)
  replaced (y ∷ l) zero v d h =
      subst (λ k. IsPermutation k (f y ++ (f v ++ flat_map f l))) (append_assoc (f v) (f y) (flat_map f l))
      (subst (λ k. IsPermutation ((f v ++ f y) ++ flat_map f l) k) (append_assoc (f y) (f v) (flat_map f l))
      (IsPermutation-append_left (flat_map f l) (f v ++ f y) (f y ++ f v) (IsPermutation-append_comm (f v) (f y))))
  replaced (y ∷ l) (suc i) v d h =
      let one = replaced l i v d (le_of_suc-le-suc h) in
      let a = f v in let b = f y in let c = flat_map f l in let x = f (get_or l i d) in let z = flat_map f (set l i v) in
      let p1 : IsPermutation (a ++ (b ++ c)) (b ++ (a ++ c)) =
      subst (λ k. IsPermutation k (b ++ (a ++ c))) (append_assoc a b c)
      (subst (λ k. IsPermutation ((a ++ b) ++ c) k) (append_assoc b a c) (IsPermutation-append_left c (a ++ b) (b ++ a) (IsPermutation-append_comm a b))) in
      let p2 : IsPermutation (b ++ (a ++ c)) (b ++ (x ++ z)) = IsPermutation-append_right b (a ++ c) (x ++ z) one in
      let p3 : IsPermutation (b ++ (x ++ z)) (x ++ (b ++ z)) =
      subst (λ k. IsPermutation k (x ++ (b ++ z))) (append_assoc b x z)
      (subst (λ k. IsPermutation ((b ++ x) ++ z) k) (append_assoc x b z) (IsPermutation-append_left z (b ++ x) (x ++ b) (IsPermutation-append_comm b x))) in
      IsPermutation-trans _ _ _ p1 (IsPermutation-trans _ _ _ p2 p3)

  exchanged : (l : List X) (i j : ℕ) (d : X) → i < length l → j < length l
      → IsPermutation (flat_map f l) (flat_map f (set (set l i (get_or l j d)) j (get_or l i d)))
  exchanged [] i j d h k = absurd (not-suc-le-zero h)
  exchanged (y ∷ l) zero zero d h k = IsPermutation-refl _
  exchanged (y ∷ l) zero (suc j) d h k = replaced l j y d (le_of_suc-le-suc k)
  exchanged (y ∷ l) (suc i) zero d h k = replaced l i y d (le_of_suc-le-suc h)
  exchanged (y ∷ l) (suc i) (suc j) d h k = IsPermutation-append_right (f y) _ _ (exchanged l i j d (le_of_suc-le-suc h) (le_of_suc-le-suc k))

  swapped : (l : List X) (i j : ℕ) → i < length l → j < length l → IsPermutation (flat_map f l) (flat_map f (swap l i j))
  swapped [] i j h k = IsPermutation-refl _
  swapped (d ∷ l) i j h k = exchanged (d ∷ l) i j d h k

  pub flat_map-IsPermutation : (xs ys : List X) → IsPermutation xs ys → IsPermutation (flat_map f xs) (flat_map f ys)
  flat_map-IsPermutation xs ys p =
      IsPermutation-keeps xs (λ l. IsPermutation (flat_map f xs) (flat_map f l)) (IsPermutation-refl _)
      (λ l i j h k q. IsPermutation-trans _ _ _ q (swapped l i j h k)) ys p

-- JOINS OF LISTS, DECIDED
pub data Shape : Type 0 where
  Nil : Shape
  Part : (n : ℕ) → Shape
  ◌⊕◌ : (s t : Shape) → Shape

infixr 70 ◌⊕◌
abbrev pub parts : Shape → List ℕ
parts Nil = []
parts (Part n) = n ∷ []
parts (s ⊕ t) = parts s ++ parts t

abbrev pub put_in : ℕ → List ℕ → List ℕ
put_in n [] = n ∷ []
put_in n (m ∷ ms) = if nat_lt m n then m ∷ put_in n ms else n ∷ m ∷ ms

abbrev pub ordered : List ℕ → List ℕ
ordered [] = []
ordered (n ∷ ns) = put_in n (ordered ns)

put_in-IsPermutation : (n : ℕ) (ms : List ℕ) → IsPermutation (n ∷ ms) (put_in n ms)
put_in-IsPermutation n [] = IsPermutation-refl _
put_in-IsPermutation n (m ∷ ms) = elim (nat_lt m n) as (λ t. IsPermutation (n ∷ m ∷ ms) (if t then m ∷ put_in n ms else n ∷ m ∷ ms)) [
  | true ↦ IsPermutation-trans _ (m ∷ n ∷ ms) _ (IsPermutation-append_left ms (n ∷ m ∷ []) (m ∷ n ∷ []) (IsPermutation-append_comm (n ∷ []) (m ∷ [])))
      (IsPermutation-cons m _ _ (put_in-IsPermutation n ms))
  | false ↦ IsPermutation-refl _
]

ordered-IsPermutation : (ns : List ℕ) → IsPermutation ns (ordered ns)
ordered-IsPermutation [] = IsPermutation-refl _
ordered-IsPermutation (n ∷ ns) = IsPermutation-trans _ _ _ (IsPermutation-cons n _ _ (ordered-IsPermutation ns)) (put_in-IsPermutation n (ordered ns))

module _ {X : Type 0} where
  abbrev pub part_of : List (List X) → ℕ → List X
  part_of env n = get_or env n []

  abbrev pub joined : List (List X) → Shape → List X
  joined env Nil = []
  joined env (Part n) = part_of env n
  joined env (s ⊕ t) = joined env s ++ joined env t

  joined_is : (env : List (List X)) (s : Shape) → flat_map (part_of env) (parts s) ≡ joined env s
  joined_is env Nil = refl
  joined_is env (Part n) = append-nil _
  joined_is env (s ⊕ t) = flat_map-append (part_of env) (parts s) (parts t) ∙ (λ k. joined_is env s k ++ joined_is env t k)

  -- two joins of the same parts
  pub shuffled : (env : List (List X)) (s t : Shape) → ordered (parts s) ≡ ordered (parts t) → IsPermutation (joined env s) (joined env t)
  shuffled env s t e =
      let p : IsPermutation (parts s) (parts t) =
      IsPermutation-trans _ _ _ (ordered-IsPermutation (parts s))
      (subst (λ l. IsPermutation l (parts t)) (sym e) (IsPermutation-sym _ _ (ordered-IsPermutation (parts t)))) in
      subst (λ l. IsPermutation l (joined env t)) (joined_is env s)
      (subst (λ l. IsPermutation (flat_map (part_of env) (parts s)) l) (joined_is env t) (flat_map-IsPermutation (part_of env) _ _ p))

-- TOTALS
pub total-append : {X : Type 0} (f : X → ℕ) (xs ys : List X) → total f (xs ++ ys) ≡ total f xs + total f ys
total-append f [] ys = omega arith
total-append f (x ∷ xs) ys = omega (arith, total-append f xs ys)

pub total-sum_by : {X : Type 0} (f : X → ℕ) (xs : List X) → total f xs ≡ sum_by f xs
total-sum_by f xs = is_sum_by (total f) f refl (λ x xs. refl) xs

pub total-IsPermutation : {X : Type 0} (f : X → ℕ) (xs ys : List X) → IsPermutation xs ys → total f xs ≡ total f ys
total-IsPermutation f xs ys p = total-sum_by f xs ∙ sym (sum_by-IsPermutation f xs ys p) ∙ sym (total-sum_by f ys)

pub total-map : {X Y : Type 0} (g : X → Y) (f : Y → ℕ) (xs : List X) → total f (map g xs) ≡ total (λ x. f (g x)) xs
total-map g f [] = refl
total-map g f (x ∷ xs) = ap (λ n. f (g x) + n) (total-map g f xs)

pub total-same : {X : Type 0} (f g : X → ℕ) (xs : List X) → ((x : X) → f x ≡ g x) → total f xs ≡ total g xs
total-same f g [] h = refl
total-same f g (x ∷ xs) h = (λ k. h x k + total-same f g xs h k)

-- one of a list counts in its total
pub total_there : {X : Type 0} (f : X → ℕ) (xs : List X) (x : X) → Contains xs x → f x ≤ total f xs
total_there f [] x c = absurd (contains_none x c)
total_there f (y ∷ xs) x c = pick (contains_cases y xs x c) (total_there f xs x)
  where
    pick : (y ≡ x) ⊎ Contains xs x → (Contains xs x → f x ≤ total f xs) → f x ≤ total f (y ∷ xs)
    pick (inl e) more = let k = ap f e in omega (arith, k)
    pick (inr d) more = let o = more d in omega (arith, o)

pub one_of_both : (t u : Bool) → one (t && u) ≤ one t
one_of_both true true = omega arith
one_of_both true false = omega arith
one_of_both false u = omega arith
