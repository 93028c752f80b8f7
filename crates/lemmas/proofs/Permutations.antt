-- Lists in another order, by recursion on the list: for cancelling and for taking common parts out, which
-- `IsPermutation` does not offer.
use Rattle.std.proofs.Common.{◌≡◌, ℕ, zero, suc, ◌<◌, ◌⊎◌, List, [], ◌∷◌, ◌++◌, length, get_or, set, swap, IsPermutation, inl, inr, refl, sym, ap}
use Rattle.std.proofs.Common.{◌∙◌, subst, arith, Some, append_assoc, slice_get, subst₂}
use Rattle.std.specs.Prelude.{⊤}
use Rattle.std.proofs.lemmas.List.Elements.{Contains-append_left, Contains-append_right}
use Rattle.std.proofs.Common.{⊎_elim, map, flat_map, length-set, get_or-set_same, get_or-set_other, Contains}
use Rattle.std.proofs.lemmas.Bool.{cases_eq}
use Rattle.std.proofs.lemmas.List.Sorted.{Contains-permutation, IsPermutation-refl, IsPermutation-cons, IsPermutation-trans, IsPermutation-sym}
use Rattle.std.proofs.lemmas.List.Sorted.{IsPermutation-middle, IsPermutation-keeps, IsPermutation-append_comm, IsPermutation-append_left}
use Rattle.std.proofs.lemmas.List.Sorted.{IsPermutation-append_right}

-- ys is zs with x put in somewhere
abbrev pub Put : {X : Type 0} → X → List X → List X → Type 0
Put x zs [] = ⊥
Put {X} x zs (y ∷ ys) = ((x ≡ y) × (zs ≡ ys)) ⊎ ((ws : List X) × (zs ≡ y ∷ ws) × Put x ws ys)

abbrev pub Perm : {X : Type 0} → List X → List X → Type 0
Perm [] ys = ys ≡ []
Perm {X} (x ∷ xs) ys = (zs : List X) × Put x zs ys × Perm xs zs

abbrev pub Within : {X : Type 0} → X → List X → Type 0
Within {X} x ys = (zs : List X) × Put x zs ys

abbrev pub Each : {X : Type 0} → (X → Type 0) → List X → Type 0
Each P [] = ⊤
Each P (x ∷ xs) = P x × Each P xs

pub put_first : {X : Type 0} (x : X) (xs : List X) → Put x xs (x ∷ xs)
put_first x xs = inl (refl, refl)

pub put_later : {X : Type 0} (x y : X) (zs ys : List X) → Put x zs ys → Put x (y ∷ zs) (y ∷ ys)
put_later x y zs ys p = inr (zs, refl, p)

later_put : {X : Type 0} (x y c : X) (aa bs ws cs : List X) → Put y ws cs
    → ((as' : List X) → Put x as' ws → (ds : List X) × Put y as' ds × Put x ds cs)
    → Put x aa (c ∷ ws) → (ds : List X) × Put y aa ds × Put x ds (c ∷ cs)
later_put x y c aa bs ws cs q ih (inl r) = (cs, subst (λ l. Put y l cs) (sym r.1) q, inl (r.0, refl))
later_put x y c aa bs ws cs q ih (inr r) =
    let h = ih r.0 r.2 in
    (c ∷ h.0, subst (λ l. Put y l (c ∷ h.0)) (sym r.1) (put_later y c r.0 h.0 h.1), put_later x c h.0 cs h.2)

pub put_put : {X : Type 0} (x y : X) (aa bs cs : List X) → Put x aa bs → Put y bs cs → (ds : List X) × Put y aa ds × Put x ds cs
put_put x y aa bs [] p q = absurd q
put_put x y aa bs (c ∷ cs) p (inl q) =
    (y ∷ aa, put_first y aa, inr (aa, ap (λ z. z ∷ aa) q.0, subst (λ l. Put x aa l) q.1 p))
put_put x y aa bs (c ∷ cs) p (inr q) =
    later_put x y c aa bs q.0 cs q.2 (λ l h. put_put x y l q.0 cs h q.2) (subst (λ l. Put x aa l) q.1 p)

pub perm_refl : {X : Type 0} (xs : List X) → Perm xs xs
perm_refl [] = refl
perm_refl (x ∷ xs) = (xs, put_first x xs, perm_refl xs)

pub perm_cons : {X : Type 0} (x : X) (xs ys : List X) → Perm xs ys → Perm (x ∷ xs) (x ∷ ys)
perm_cons x xs ys p = (ys, put_first x ys, p)

-- what is in one list is in the other, and the rests are one in another order
pub perm_put : {X : Type 0} (x : X) (xs ys zs : List X) → Perm xs ys → Put x zs xs → (ws : List X) × Put x ws ys × Perm zs ws
perm_put x [] ys zs p q = absurd q
perm_put x (a ∷ xs) ys zs p (inl q) = (p.0, subst (λ v. Put v p.0 ys) (sym q.0) p.1, subst (λ l. Perm l p.0) (sym q.1) p.2)
perm_put x (a ∷ xs) ys zs p (inr q) =
    let ih = perm_put x xs p.0 q.0 p.2 q.2 in
    let both = put_put x a ih.0 p.0 ys ih.1 p.1 in
    (both.0, both.2, subst (λ l. Perm l both.0) (sym q.1) (ih.0, both.1, ih.2))

pub perm_add : {X : Type 0} (x : X) (xs ys zs ws : List X) → Perm zs ws → Put x zs xs → Put x ws ys → Perm xs ys
perm_add x [] ys zs ws p q r = absurd q
perm_add x (a ∷ xs) ys zs ws p (inl q) r = (ws, subst (λ v. Put v ws ys) q.0 r, subst (λ l. Perm l ws) q.1 p)
perm_add {X} x (a ∷ xs) ys zs ws p (inr q) r =
    let inner : Perm (a ∷ q.0) ws = subst (λ l. Perm l ws) q.1 p in
    let both = put_put a x inner.0 ws ys inner.1 r in
    (both.0, both.2, perm_add x xs both.0 q.0 inner.0 inner.2 q.2 both.1)

pub perm_trans : {X : Type 0} (xs ys zs : List X) → Perm xs ys → Perm ys zs → Perm xs zs
perm_trans [] ys zs p q = subst (λ l. Perm l zs) p q
perm_trans (x ∷ xs) ys zs p q =
    let moved = perm_put x ys zs p.0 q p.1 in
    (moved.0, moved.1, perm_trans xs p.0 moved.0 p.2 moved.2)

pub perm_sym : {X : Type 0} (xs ys : List X) → Perm xs ys → Perm ys xs
perm_sym [] ys p = subst (λ l. Perm l []) (sym p) refl
perm_sym (x ∷ xs) ys p = perm_add x ys (x ∷ xs) p.0 xs (perm_sym xs p.0 p.2) p.1 (put_first x xs)

pub put_same : {X : Type 0} (x : X) (aa bs ys : List X) → Put x aa ys → Put x bs ys → Perm aa bs
put_same x aa bs [] p q = absurd p
put_same x aa bs (y ∷ ys) (inl p) (inl q) = subst (λ l. Perm aa l) (p.1 ∙ sym q.1) (perm_refl aa)
put_same x aa bs (y ∷ ys) (inl p) (inr q) =
    let turned : Perm ys (x ∷ q.0) = perm_add x ys (x ∷ q.0) q.0 q.0 (perm_refl q.0) q.2 (put_first x q.0) in
    subst (λ l. Perm l bs) (sym p.1) (subst (λ l. Perm ys l) (ap (λ v. v ∷ q.0) p.0 ∙ sym q.1) turned)
put_same x aa bs (y ∷ ys) (inr p) (inl q) =
    let turned : Perm (x ∷ p.0) ys = perm_add x (x ∷ p.0) ys p.0 p.0 (perm_refl p.0) (put_first x p.0) p.2 in
    subst (λ l. Perm aa l) (sym q.1) (subst (λ l. Perm l ys) (ap (λ v. v ∷ p.0) q.0 ∙ sym p.1) turned)
put_same x aa bs (y ∷ ys) (inr p) (inr q) =
    subst (λ l. Perm aa l) (sym q.1) (subst (λ l. Perm l (y ∷ q.0)) (sym p.1) (perm_cons y p.0 q.0 (put_same x p.0 q.0 ys p.2 q.2)))

pub perm_cancel : {X : Type 0} (x : X) (xs ys zs ws : List X) → Perm xs ys → Put x zs xs → Put x ws ys → Perm zs ws
perm_cancel x xs ys zs ws p q r =
    let moved = perm_put x xs ys zs p q in
    perm_trans zs moved.0 ws moved.2 (put_same x moved.0 ws ys moved.1 r)

pub perm_cancel_append : {X : Type 0} (as' xs ys : List X) → Perm (as' ++ xs) (as' ++ ys) → Perm xs ys
perm_cancel_append [] xs ys p = p
perm_cancel_append (a ∷ as') xs ys p =
    perm_cancel_append as' xs ys (perm_cancel a (a ∷ (as' ++ xs)) (a ∷ (as' ++ ys)) (as' ++ xs) (as' ++ ys) p (put_first a (as' ++ xs))
    (put_first a (as' ++ ys)))

-- TO AND FROM STD'S WORD

pub put_IsPermutation : {X : Type 0} (x : X) (zs ys : List X) → Put x zs ys → IsPermutation (x ∷ zs) ys
put_IsPermutation x zs [] p = absurd p
put_IsPermutation x zs (y ∷ ys) (inl p) = subst (λ l. IsPermutation (x ∷ l) (y ∷ ys)) (sym p.1)
    (subst (λ v. IsPermutation (v ∷ ys) (y ∷ ys)) (sym p.0) (IsPermutation-refl (y ∷ ys)))
put_IsPermutation x zs (y ∷ ys) (inr p) =
    let ih = IsPermutation-cons y _ _ (put_IsPermutation x p.0 ys p.2) in
    subst (λ l. IsPermutation (x ∷ l) (y ∷ ys)) (sym p.1)
    (IsPermutation-trans _ _ _ (IsPermutation-middle (x ∷ []) y p.0) ih)

pub perm_to : {X : Type 0} (xs ys : List X) → Perm xs ys → IsPermutation xs ys
perm_to [] ys p = subst (λ l. IsPermutation [] l) (sym p) (IsPermutation-refl [])
perm_to (x ∷ xs) ys p = IsPermutation-trans _ _ _ (IsPermutation-cons x _ _ (perm_to xs p.0 p.2)) (put_IsPermutation x p.0 ys p.1)

-- an element out, and any other in
set_put : {X : Type 0} (xs : List X) (i : ℕ) (d : X) → i < length xs → (zs : List X) × Put (get_or xs i d) zs xs × ((v : X) → Put v zs (set xs i v))
set_put [] i d h = absurd (omega arith)
set_put (x ∷ xs) zero d h = (xs, put_first x xs, λ v. put_first v xs)
set_put (x ∷ xs) (suc i) d h =
    let ih = set_put xs i d (omega arith) in
    (x ∷ ih.0, put_later _ x ih.0 xs ih.1, λ v. put_later v x ih.0 _ (ih.2 v))

perm_swap : {X : Type 0} (xs : List X) (i j : ℕ) → i < length xs → j < length xs → Perm xs (swap xs i j)
perm_swap [] i j h k = absurd (omega arith)
perm_swap {X} (d ∷ ys) i j h k =
    let l : List X = d ∷ ys in
    let x : X = get_or l i d in
    let y : X = get_or l j d in
    let mid : List X = set l i y in
    let long = length-set l i y in
    let within : j < length mid = omega arith in
    let one = set_put l i d h in
    let two = set_put mid j d within in
    let read : get_or mid j d ≡ y =
    ⊎_elim (λ same. ap (λ k. get_or mid k d) same ∙ get_or-set_same l i y d h) (λ other. get_or-set_other l i j y d other) (cases_eq j i) in
    let there : Put y two.0 mid = subst (λ v. Put v two.0 mid) read two.1 in
    perm_add x l (set mid j x) one.0 two.0 (put_same y one.0 two.0 mid (one.2 y) there) one.1 (two.2 x)

pub perm_from : {X : Type 0} (xs ys : List X) → IsPermutation xs ys → Perm xs ys
perm_from xs ys moved =
    IsPermutation-keeps xs (λ l. Perm xs l) (perm_refl xs) (λ l i j h k p. perm_trans xs l (swap l i j) p (perm_swap l i j h k)) ys moved

pub within_from : {X : Type 0} (x : X) (xs : List X) → Contains xs x → Within x xs
within_from x xs h = let out = set_put xs h.0 x h.1 in (out.0, subst (λ v. Put v out.0 xs) h.2 out.1)

pub within_to : {X : Type 0} (x : X) (xs : List X) → Within x xs → Contains xs x
within_to x xs h = Contains-permutation (x ∷ h.0) xs x (put_IsPermutation x h.0 xs h.1) (0, omega arith, refl)

-- TWO PARTS OF ONE LIST THAT HAVE NOTHING IN COMMON

put_append : {X : Type 0} (x : X) (xs ys zs : List X) → Put x zs (xs ++ ys)
    → ((ws : List X) × Put x ws xs × (zs ≡ ws ++ ys)) ⊎ ((ws : List X) × Put x ws ys × (zs ≡ xs ++ ws))
put_append x [] ys zs p = inr (zs, p, refl)
put_append x (a ∷ xs) ys zs (inl p) = inl (xs, inl (p.0, refl), p.1)
put_append {X} x (a ∷ xs) ys zs (inr p) =
    ⊎_elim (λ q. inl (a ∷ q.0, put_later x a q.0 xs q.1, p.1 ∙ ap (λ (l : List X). a ∷ l) q.2))
    (λ q. inr (q.0, q.1, p.1 ∙ ap (λ (l : List X). a ∷ l) q.2)) (put_append x xs ys p.0 p.2)

-- they have an element in common, or what is left of each besides the other is one rest
abbrev pub Meet : {X : Type 0} → List X → List X → Type 0
Meet {X} xs ys = (x : X) × Within x xs × Within x ys

perm_meet : {X : Type 0} (xs ys us vs : List X) → Perm (xs ++ us) (ys ++ vs)
    → Meet xs ys ⊎ ((ws : List X) × Perm us (ys ++ ws) × Perm vs (xs ++ ws))
perm_meet xs [] us vs p = inr (us, perm_refl us, perm_sym (xs ++ us) vs p)
perm_meet {X} xs (y ∷ ys) us vs p =
    let back = perm_sym (xs ++ us) (y ∷ (ys ++ vs)) p in
    let out = perm_put y (y ∷ (ys ++ vs)) (xs ++ us) (ys ++ vs) back (put_first y (ys ++ vs)) in
    ⊎_elim (λ q. inl (y, (q.0, q.1), (ys, put_first y ys)))
    (λ q.
    let less : Perm (xs ++ q.0) (ys ++ vs) = perm_sym (ys ++ vs) (xs ++ q.0) (subst (λ l. Perm (ys ++ vs) l) q.2 out.2) in
    ⊎_elim (λ m. inl (m.0, m.1, (y ∷ m.2.0, put_later m.0 y m.2.0 ys m.2.1)))
    (λ ih. inr (ih.0, perm_add y us (y ∷ (ys ++ ih.0)) q.0 (ys ++ ih.0) ih.1 q.1 (put_first y (ys ++ ih.0)), ih.2))
    (perm_meet xs ys q.0 vs less))
    (put_append y xs us out.0 out.1)

-- WHAT EACH ELEMENT HAS, AND WHAT EACH TWO HAVE

pub each_put : {X : Type 0} (P : X → Type 0) (x : X) (zs ys : List X) → Put x zs ys → Each P ys → P x × Each P zs
each_put P x zs [] p h = absurd p
each_put P x zs (y ∷ ys) (inl p) h = (subst P (sym p.0) h.0, subst (Each P) (sym p.1) h.1)
each_put P x zs (y ∷ ys) (inr p) h =
    let ih = each_put P x p.0 ys p.2 h.1 in (ih.0, subst (Each P) (sym p.1) (h.0, ih.1))

pub each_perm : {X : Type 0} (P : X → Type 0) (xs ys : List X) → Perm xs ys → Each P ys → Each P xs
each_perm P [] ys p h = tt
each_perm P (x ∷ xs) ys p h = let out = each_put P x p.0 ys p.1 h in (out.0, each_perm P xs p.0 p.2 out.1)

pub each_within : {X : Type 0} (P : X → Type 0) (x : X) (xs : List X) → Within x xs → Each P xs → P x
each_within P x xs h all = (each_put P x h.0 xs h.1 all).0

pub each_from : {X : Type 0} (P : X → Type 0) (xs : List X) → ((x : X) → Within x xs → P x) → Each P xs
each_from P [] h = tt
each_from P (x ∷ xs) h = (h x (xs, put_first x xs), each_from P xs (λ y k. h y (x ∷ k.0, put_later y x k.0 xs k.1)))

pub each_append : {X : Type 0} (P : X → Type 0) (xs ys : List X) → Each P xs → Each P ys → Each P (xs ++ ys)
each_append P [] ys h k = k
each_append P (x ∷ xs) ys h k = (h.0, each_append P xs ys h.1 k)

pub each_append_back : {X : Type 0} (P : X → Type 0) (xs ys : List X) → Each P (xs ++ ys) → Each P xs × Each P ys
each_append_back P [] ys h = (tt, h)
each_append_back P (x ∷ xs) ys h = let ih = each_append_back P xs ys h.1 in ((h.0, ih.0), ih.1)

pub each_map : {X Y : Type 0} (P : Y → Type 0) (f : X → Y) (xs : List X) → Each (λ x. P (f x)) xs → Each P (map f xs)
each_map P f [] h = tt
each_map P f (x ∷ xs) h = (h.0, each_map P f xs h.1)

pub each_weaker : {X : Type 0} (P Q : X → Type 0) → ((x : X) → P x → Q x) → (xs : List X) → Each P xs → Each Q xs
each_weaker P Q f [] h = tt
each_weaker P Q f (x ∷ xs) h = (f x h.0, each_weaker P Q f xs h.1)

-- each two elements, at different places, are related
abbrev pub Spread : {X : Type 0} → (X → X → Type 0) → List X → Type 0
Spread R [] = ⊤
Spread R (x ∷ xs) = Each (R x) xs × Spread R xs

pub spread_put : {X : Type 0} (R : X → X → Type 0) (turn : (x y : X) → R x y → R y x) (x : X) (zs ys : List X) → Put x zs ys → Spread R ys
    → Each (R x) zs × Spread R zs
spread_put R turn x zs [] p h = absurd p
spread_put R turn x zs (y ∷ ys) (inl p) h =
    (subst (λ v. Each (R v) zs) (sym p.0) (subst (Each (R y)) (sym p.1) h.0), subst (Spread R) (sym p.1) h.1)
spread_put {X} R turn x zs (y ∷ ys) (inr p) h =
    let ih = spread_put R turn x p.0 ys p.2 h.1 in
    let near = each_put (R y) x p.0 ys p.2 h.0 in
    let near_x : Each (R x) (y ∷ p.0) = (turn y x near.0, ih.0) in
    let all : Spread R (y ∷ p.0) = (near.1, ih.1) in
    (subst (Each (R x)) (sym p.1) near_x, subst (Spread R) (sym p.1) all)

pub spread_perm : {X : Type 0} (R : X → X → Type 0) (turn : (x y : X) → R x y → R y x) (xs ys : List X) → Perm xs ys → Spread R ys → Spread R xs
spread_perm R turn [] ys p h = tt
spread_perm R turn (x ∷ xs) ys p h =
    let out = spread_put R turn x p.0 ys p.1 h in
    (each_perm (R x) xs p.0 p.2 out.0, spread_perm R turn xs p.0 p.2 out.1)

pub spread_append : {X : Type 0} (R : X → X → Type 0) (xs ys : List X) → Spread R xs → Spread R ys → Each (λ x. Each (R x) ys) xs → Spread R (xs ++ ys)
spread_append R [] ys h k across = k
spread_append R (x ∷ xs) ys h k across = (each_append (R x) xs ys h.0 across.0, spread_append R xs ys h.1 k across.1)

pub spread_append_back : {X : Type 0} (R : X → X → Type 0) (xs ys : List X) → Spread R (xs ++ ys) → Spread R xs × Spread R ys × Each (λ x. Each (R x) ys) xs
spread_append_back R [] ys h = (tt, h, tt)
spread_append_back R (x ∷ xs) ys h =
    let ih = spread_append_back R xs ys h.1 in
    let near = each_append_back (R x) xs ys h.0 in
    ((near.0, ih.0), ih.1, (near.1, ih.2))

-- THE SAME BY STD'S WORD

pub permutation_cancel : {X : Type 0} (as' xs ys : List X) → IsPermutation (as' ++ xs) (as' ++ ys) → IsPermutation xs ys
permutation_cancel as' xs ys p = perm_to xs ys (perm_cancel_append as' xs ys (perm_from (as' ++ xs) (as' ++ ys) p))

pub permutation_meet : {X : Type 0} (xs ys us vs : List X) → IsPermutation (xs ++ us) (ys ++ vs)
    → Meet xs ys ⊎ ((ws : List X) × IsPermutation us (ys ++ ws) × IsPermutation vs (xs ++ ws))
permutation_meet xs ys us vs p =
    ⊎_elim (λ m. inl m) (λ h. inr (h.0, perm_to us (ys ++ h.0) h.1, perm_to vs (xs ++ h.0) h.2)) (perm_meet xs ys us vs (perm_from (xs ++ us) (ys ++ vs) p))

pub each_permutation : {X : Type 0} (P : X → Type 0) (xs ys : List X) → IsPermutation xs ys → Each P xs → Each P ys
each_permutation P xs ys p h = each_perm P ys xs (perm_from ys xs (IsPermutation-sym xs ys p)) h

pub spread_permutation : {X : Type 0} (R : X → X → Type 0) (turn : (x y : X) → R x y → R y x) (xs ys : List X) → IsPermutation xs ys → Spread R xs → Spread R ys
spread_permutation R turn xs ys p h = spread_perm R turn ys xs (perm_from ys xs (IsPermutation-sym xs ys p)) h

pub within_permutation : {X : Type 0} (x : X) (xs ys : List X) → IsPermutation xs ys → Within x xs → Within x ys
within_permutation x xs ys p h = within_from x ys (Contains-permutation xs ys x p (within_to x xs h))

pub within_append : {X : Type 0} (x : X) (xs ys : List X) → Within x (xs ++ ys) → Within x xs ⊎ Within x ys
within_append x xs ys h = ⊎_elim (λ q. inl (q.0, q.1)) (λ q. inr (q.0, q.1)) (put_append x xs ys h.0 h.1)

pub within_left : {X : Type 0} (x : X) (xs ys : List X) → Within x xs → Within x (xs ++ ys)
within_left x xs ys h = within_from x (xs ++ ys) (Contains-append_left xs ys x (within_to x xs h))

pub within_right : {X : Type 0} (x : X) (xs ys : List X) → Within x ys → Within x (xs ++ ys)
within_right x xs ys h = within_from x (xs ++ ys) (Contains-append_right xs ys x (within_to x ys h))

-- MAPS

pub spread_map : {X Y : Type 0} (R : Y → Y → Type 0) (f : X → Y) (xs : List X) → Spread (λ x y. R (f x) (f y)) xs → Spread R (map f xs)
spread_map R f [] h = tt
spread_map R f (x ∷ xs) h = (each_map (R (f x)) f xs h.0, spread_map R f xs h.1)

pub spread_weaker : {X : Type 0} (R S : X → X → Type 0) → ((x y : X) → R x y → S x y) → (xs : List X) → Spread R xs → Spread S xs
spread_weaker R S f [] h = tt
spread_weaker R S f (x ∷ xs) h = (each_weaker (R x) (S x) (f x) xs h.0, spread_weaker R S f xs h.1)

pub each_flat_map : {X Y : Type 0} (P : Y → Type 0) (f : X → List Y) (xs : List X) → Each (λ x. Each P (f x)) xs → Each P (flat_map f xs)
each_flat_map P f [] h = tt
each_flat_map P f (x ∷ xs) h = each_append P (f x) (flat_map f xs) h.0 (each_flat_map P f xs h.1)

pub spread_flat_map : {X Y : Type 0} (R : Y → Y → Type 0) (S : X → X → Type 0) (f : X → List Y) (xs : List X) → Spread S xs → ((x : X) → Spread R (f x))
    → ((x y : X) → S x y → Each (λ u. Each (R u) (f y)) (f x)) → Spread R (flat_map f xs)
spread_flat_map R S f [] h one two = tt
spread_flat_map {X} {Y} R S f (x ∷ xs) h one two =
    spread_append R (f x) (flat_map f xs) (one x) (spread_flat_map R S f xs h.1 one two)
    (each_from (λ u. Each (R u) (flat_map f xs)) (f x) (λ u w.
    each_flat_map (R u) f xs (each_weaker (S x) (λ y. Each (R u) (f y)) (λ y s. each_within (λ u. Each (R u) (f y)) u (f x) w (two x y s)) xs h.0)))

pub within_map : {X Y : Type 0} (f : X → Y) (x : X) (xs : List X) → Within x xs → Within (f x) (map f xs)
within_map f x [] h = absurd h.1
within_map f x (y ∷ xs) (zs, inl h) = (map f xs, inl (ap f h.0, refl))
within_map f x (y ∷ xs) (zs, inr h) = let ih = within_map f x xs (h.0, h.2) in (f y ∷ ih.0, put_later (f x) (f y) ih.0 (map f xs) ih.1)

pub within_flat_map : {X Y : Type 0} (f : X → List Y) (x : X) (u : Y) (xs : List X) → Within x xs → Within u (f x) → Within u (flat_map f xs)
within_flat_map f x u [] h k = absurd h.1
within_flat_map f x u (y ∷ xs) (zs, inl h) k = within_left u (f y) (flat_map f xs) (subst (λ y. Within u (f y)) h.0 k)
within_flat_map f x u (y ∷ xs) (zs, inr h) k = within_right u (f y) (flat_map f xs) (within_flat_map f x u xs (h.0, h.2) k)

-- PARTS THAT CHANGE PLACES
pub permutation_same : {X : Type 0} (xs ys : List X) → xs ≡ ys → IsPermutation xs ys
permutation_same xs ys e = subst (λ l. IsPermutation xs l) e (IsPermutation-refl xs)

pub permutation_exchange : {X : Type 0} (xs ys zs : List X) → IsPermutation (xs ++ (ys ++ zs)) (ys ++ (xs ++ zs))
permutation_exchange xs ys zs =
    subst₂ (λ l r. IsPermutation l r) (append_assoc xs ys zs) (append_assoc ys xs zs) (IsPermutation-append_left zs (xs ++ ys) (ys ++ xs)
    (IsPermutation-append_comm xs ys))

-- (xs ys) (zs ws) is (xs zs) (ys ws)
pub permutation_crossed : {X : Type 0} (xs ys zs ws : List X) → IsPermutation ((xs ++ ys) ++ (zs ++ ws)) ((xs ++ zs) ++ (ys ++ ws))
permutation_crossed xs ys zs ws =
    subst₂ (λ l r. IsPermutation l r) (sym (append_assoc xs ys (zs ++ ws))) (sym (append_assoc xs zs (ys ++ ws)))
    (IsPermutation-append_right xs (ys ++ (zs ++ ws)) (zs ++ (ys ++ ws)) (permutation_exchange ys zs ws))

-- one of a list, and the others
pub one_out : {X : Type 0} (xs : List X) (x : X) → Contains xs x → (rest : List X) × IsPermutation xs (x ∷ rest)
one_out xs x c = let (rest, put) = within_from x xs c
    in (rest, perm_to xs (x ∷ rest) (perm_add x xs (x ∷ rest) rest rest (perm_refl rest) put (put_first x rest)))

-- what is at a place is one of the list's elements
pub get_within : {X : Type 0} (xs : List X) (i : ℕ) (x : X) → slice_get xs i ≡ Some x → Within x xs
get_within [] i x e = cc
get_within {X} (y ∷ xs) zero x e = let same : y ≡ x = cc in (xs, inl (sym same, refl))
get_within (y ∷ xs) (suc i) x e = let h = get_within xs i x e in (y ∷ h.0, put_later x y h.0 xs h.1)
