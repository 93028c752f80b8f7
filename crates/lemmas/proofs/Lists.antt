-- Lists that are joined, cut, copied and mapped.
use Rattle.std.proofs.Common.{[], ◌++◌, ◌+◌, ◌-◌, ◌<◌, ◌∙◌, ◌∷◌, ◌≡◌, List, Some, ap, arith, drop, false, get_or, length, length-append, map, refl}
use Rattle.std.proofs.Common.{replicate, slice_get, slice_index_or, suc, sym, take, zero, ℕ}
use Rattle.std.proofs.lemmas.List.{drop_more, get_or-append-add, take_at}

-- OF ONE ELEMENT, AND OF NONE
pub one_element : {X : Type 0} (xs : List X) → length xs ≡ 1 → (x : X) × (xs ≡ x ∷ [])
one_element [] e = absurd (omega (arith, e))
one_element (x ∷ []) e = (x, refl)
one_element (x ∷ y ∷ xs) e = absurd (omega (arith, e))

pub nothing_before : {X : Type 0} (xs ys : List X) → xs ++ ys ≡ [] → xs ≡ []
nothing_before [] ys e = refl
nothing_before (x ∷ xs) ys e = absurd (cc)

pub nothing_after : {X : Type 0} (xs ys : List X) → xs ++ ys ≡ [] → ys ≡ []
nothing_after [] ys e = e
nothing_after (x ∷ xs) ys e = absurd (cc)

-- EQUAL LISTS
pub same_head : {X : Type 0} (x y : X) (xs ys : List X) → x ∷ xs ≡ y ∷ ys → x ≡ y
same_head x y xs ys e = cc

pub same_tail : {X : Type 0} (x y : X) (xs ys : List X) → x ∷ xs ≡ y ∷ ys → xs ≡ ys
same_tail x y xs ys e = cc

-- A MAPPED LIST
pub map_append : {X Y : Type 0} (f : X → Y) (xs ys : List X) → map f (xs ++ ys) ≡ map f xs ++ map f ys
map_append f [] ys = refl
map_append f (x ∷ xs) ys = ap (λ l. f x ∷ l) (map_append f xs ys)

-- A BEGINNING, AND WHAT IS LEFT
pub drop_opens : {X : Type 0} (xs : List X) (n : ℕ) (x : X) → n < length xs → x ≡ get_or xs n x → drop n xs ≡ x ∷ drop (n + 1) xs
drop_opens xs n x lt is = drop_more xs n x lt ∙ ap (λ y. y ∷ drop (n + 1) xs) (sym is)

pub take_next : {X : Type 0} (n : ℕ) (xs : List X) (x : X) → slice_get xs n ≡ Some x → take (suc n) xs ≡ take n xs ++ x ∷ []
take_next zero [] x e = absurd cc
take_next (suc n) [] x e = absurd cc
take_next zero (y ∷ ys) x e = let same : y ≡ x = cc in ap (λ z. z ∷ []) same
take_next (suc n) (y ∷ ys) x e = ap (λ zs. y ∷ zs) (take_next n ys x e)

-- a list that is made of the elements of another, one after the other
pub taken_next : {X : Type 0} (n : ℕ) (xs done next : List X) (x : X) → slice_get xs n ≡ Some x → done ≡ take n xs → next ≡ done ++ x ∷ [] → next
    ≡ take (n + 1) xs
taken_next n xs done next x e so made =
    let up : suc n ≡ n + 1 = omega (arith) in
    made ∙ ap (λ zs. zs ++ x ∷ []) so ∙ sym (take_next n xs x e) ∙ ap (λ k. take k xs) up

-- THE LAST NUMBER, AND THOSE BEFORE IT
pub last_of : (front : List ℕ) (c : ℕ) → get_or (front ++ c ∷ []) (length (front ++ c ∷ []) - 1) 0 ≡ c
last_of front c =
    let n : length (front ++ c ∷ []) - 1 ≡ length front + 0 = omega (arith, length-append front (c ∷ [])) in
    ap (λ (i : ℕ). get_or (front ++ c ∷ []) i 0) n ∙ get_or-append-add front (c ∷ []) 0 0

pub front_of : (front : List ℕ) (c : ℕ) → take (length (front ++ c ∷ []) - 1) (front ++ c ∷ []) ≡ front
front_of front c = take_at front (c ∷ []) (length (front ++ c ∷ []) - 1) (omega (arith, length-append front (c ∷ [])))

pub front_and_last : (bs : List ℕ) → 0 < length bs → bs ≡ take (length bs - 1) bs ++ get_or bs (length bs - 1) 0 ∷ []
front_and_last [] h = absurd (omega arith)
front_and_last (b ∷ []) h = refl
front_and_last (b ∷ c ∷ bs) h =
    let n : length (b ∷ c ∷ bs) - 1 ≡ suc (length (c ∷ bs) - 1) = omega arith in
    rw n (ap (λ (xs : List ℕ). b ∷ xs) (front_and_last (c ∷ bs) (omega arith)))

-- COPIES OF FALSE
pub length_of_falses : (n : ℕ) → length (replicate n false) ≡ n
length_of_falses zero = refl
length_of_falses (suc n) = ap suc (length_of_falses n)

pub each_of_falses : (n k : ℕ) → slice_index_or (replicate n false) k false ≡ false
each_of_falses zero k = refl
each_of_falses (suc n) zero = refl
each_of_falses (suc n) (suc k) = each_of_falses n k
