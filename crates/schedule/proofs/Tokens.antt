-- The tokens of all lanes.
use Rattle.std.proofs.Common.{◌≡◌, refl, sym, ◌∙◌, ap, subst, ℕ, zero, suc, ◌+◌, ◌<◌, ◌≤◌, Bool, true, false, ◌&&◌, cond, List, [], ◌∷◌, ◌++◌}
use Rattle.std.proofs.Common.{length, Some, arith, append_assoc, ◌⊎◌, inl, inr}
use Rattle.std.specs.Prelude.{slice_get, slice_set, remove, IsPermutation, nat_lt, nat_le, ◌==◌}
use Rattle.std.specs.List.{filter}
use Rattle.std.proofs.lemmas.Bool.{cases_order, cases_lt, eq-eqb, ne_eqb, lt-ltb, le-ltb, le-leb, lt-leb, and_left, and_right, and_from}
use Rattle.std.proofs.lemmas.List.{append-nil}
use Rattle.std.proofs.lemmas.List.Elements.{filter-append, filter_agree}
use Rattle.std.proofs.lemmas.List.Sorted.{IsPermutation-refl, IsPermutation-sym, IsPermutation-trans, IsPermutation-cons, IsPermutation-middle}
use Rattle.std.proofs.lemmas.List.Sorted.{IsPermutation-append_right, IsPermutation-append_comm}
use Rattle.lemmas.proofs.Permutations.{permutation_exchange}
use Rattle.tags.specs.declared.token.Token.{Token}
use Rattle.tags.specs.Addresses.{element_of}
use Rattle.tags.proofs.Elements.{element_below}
use Rattle.element.specs.Holding.{Holding, is_here, here, with_queue, queued}
use Rattle.schedule.specs.State.{AllFrom, IsAt, delivered, tokens_in}

-- LISTS IN ANOTHER ORDER
-- an element that passes c passes just one of a and b
abbrev Splits : Bool → Bool → Bool → Type 0
Splits true false true = Unit {0}
Splits false true true = Unit {0}
Splits false false false = Unit {0}
Splits a b c = ⊥

split_step : {X : Type 0} (x : X) (us vs ws : List X) (a b c : Bool) → Splits a b c → IsPermutation ws (us ++ vs)
    → IsPermutation (cond c (x ∷ ws) ws) (cond a (x ∷ us) us ++ cond b (x ∷ vs) vs)
split_step x us vs ws true true true s ih = absurd s
split_step x us vs ws true true false s ih = absurd s
split_step x us vs ws true false true s ih = IsPermutation-cons x ws (us ++ vs) ih
split_step x us vs ws true false false s ih = absurd s
split_step x us vs ws false true true s ih =
    IsPermutation-trans (x ∷ ws) (x ∷ (us ++ vs)) (us ++ x ∷ vs) (IsPermutation-cons x ws (us ++ vs) ih)
    (IsPermutation-sym (us ++ x ∷ vs) (x ∷ (us ++ vs)) (IsPermutation-middle us x vs))
split_step x us vs ws false true false s ih = absurd s
split_step x us vs ws false false true s ih = absurd s
split_step x us vs ws false false false s ih = ih

split_three : {X : Type 0} (a b c : X → Bool) → ((x : X) → Splits (a x) (b x) (c x)) → (xs : List X) → IsPermutation (filter c xs) (filter a xs ++ filter b xs)
split_three a b c h [] = IsPermutation-refl []
split_three a b c h (x ∷ xs) = split_step x (filter a xs) (filter b xs) (filter c xs) (a x) (b x) (c x) (h x) (split_three a b c h xs)

filter_whole : {X : Type 0} (p : X → Bool) → ((x : X) → p x ≡ true) → (xs : List X) → filter p xs ≡ xs
filter_whole p h [] = refl
filter_whole p h (x ∷ xs) = ap (λ (b : Bool). cond b (x ∷ filter p xs) (filter p xs)) (h x) ∙ ap (λ (ys : List _). x ∷ ys) (filter_whole p h xs)

-- WHERE TOKENS GO
-- it is addressed to one of n elements from the k-th on
abbrev among : ℕ → ℕ → ℕ → Token → Bool
among e k n t = nat_le k (element_of e t.to) && nat_lt (element_of e t.to) (k + n)

splits_by : (a b c x y z : Bool) → a ≡ x → b ≡ y → c ≡ z → Splits x y z → Splits a b c
splits_by a b c x y z e f g s = subst (λ (u : Bool). Splits u b c) (sym e)
    (subst (λ (u : Bool). Splits x u c) (sym f) (subst (λ (u : Bool). Splits x y u) (sym g) s))

same_split : (b : Bool) → Splits false b b
same_split true = tt
same_split false = tt

splits_at : (k n e : ℕ) → Splits (e == k) (nat_le (suc k) e && nat_lt e (suc k + n)) (nat_le k e && nat_lt e (k + suc n))
splits_at k n e = by_order (cases_order e k)
  where
    by_order : (e ≡ k) ⊎ ((e < k) ⊎ (k < e)) → Splits (e == k) (nat_le (suc k) e && nat_lt e (suc k + n)) (nat_le k e && nat_lt e (k + suc n))
    by_order (inl same) =
        let low : e < suc k = omega arith in
        let within : e < k + suc n = omega arith in
        let above : k ≤ e = omega arith in
        splits_by _ _ _ true false true (eq-eqb e k same) (and_left _ _ (lt-leb (suc k) e low))
        (and_from _ _ (le-leb k e above) (lt-ltb e (k + suc n) within)) tt
    by_order (inr (inl low)) =
        let below : e < suc k = omega arith in
        splits_by _ _ _ false false false (ne_eqb e k (λ (s : e ≡ k). omega arith)) (and_left _ _ (lt-leb (suc k) e below)) (and_left _ _ (lt-leb k e low)) tt
    by_order (inr (inr high)) =
        let above : suc k ≤ e = omega arith in
        let over : k ≤ e = omega arith in
        let same : k + suc n ≡ suc k + n = omega arith in
        splits_by _ _ _ false (nat_lt e (suc k + n)) (nat_lt e (suc k + n)) (ne_eqb e k (λ (s : e ≡ k). omega arith))
        (ap (λ (b : Bool). b && nat_lt e (suc k + n)) (le-leb (suc k) e above))
        (ap (λ (b : Bool). b && nat_lt e (k + suc n)) (le-leb k e over) ∙ ap (λ (m : ℕ). nat_lt e m) same)
        (same_split (nat_lt e (suc k + n)))

filter_none : {X : Type 0} (p : X → Bool) → ((x : X) → p x ≡ false) → (xs : List X) → filter p xs ≡ []
filter_none p h [] = refl
filter_none p h (x ∷ xs) = ap (λ (b : Bool). cond b (x ∷ filter p xs) (filter p xs)) (h x) ∙ filter_none p h xs

none_among : (n k : ℕ) (t : Token) → among n k 0 t ≡ false
none_among n k t = by_order (cases_lt (element_of n t.to) k)
  where
    by_order : (element_of n t.to < k) ⊎ (k ≤ element_of n t.to) → among n k 0 t ≡ false
    by_order (inl low) = and_left _ _ (lt-leb k (element_of n t.to) low)
    by_order (inr high) = let past : k + 0 ≤ element_of n t.to = omega arith in and_right _ _ (le-ltb (element_of n t.to) (k + 0) past)

same_order : {X : Type 0} {xs ys : List X} → xs ≡ ys → IsPermutation xs ys
same_order {X} {xs} e = subst (λ (l : List X). IsPermutation xs l) e (IsPermutation-refl xs)

tokens_from : (n k : ℕ) (lanes : List Holding) (ts : List Token) → AllFrom (IsAt n) k lanes → IsPermutation (tokens_in (delivered ts lanes))
    (tokens_in lanes ++ filter (among n k (length lanes)) ts)
tokens_from n k [] ts all = same_order (sym (filter_none (among n k 0) (none_among n k) ts))
tokens_from n k (h ∷ hs) ts all =
    let q : List Token = h.queue in
    let mine : List Token = here h.part.shape ts in
    let rest : List Token = tokens_in hs in
    let others : List Token = filter (among n (suc k) (length hs)) ts in
    let both : List Token = filter (among n k (suc (length hs))) ts in
    let mine_is : mine ≡ filter (λ (t : Token). element_of n t.to == k) ts = filter_agree (is_here h.part.shape)
    (λ (t : Token). element_of n t.to == k) (λ (t : Token). ap (λ (m : ℕ). element_of m t.to == h.part.shape.element) all.0.1
    ∙ ap (λ (m : ℕ). element_of n t.to == m) all.0.0) ts in
    let three : IsPermutation both (mine ++ others) = subst (λ (l : List Token). IsPermutation both (l ++ others)) (sym mine_is)
    (split_three (λ (t : Token). element_of n t.to == k) (among n (suc k) (length hs)) (among n k (suc (length hs)))
    (λ (t : Token). splits_at k (length hs) (element_of n t.to)) ts) in
    let first : IsPermutation ((q ++ mine) ++ tokens_in (delivered ts hs)) ((q ++ mine) ++ (rest ++ others)) = IsPermutation-append_right (q ++ mine)
    _ _ (tokens_from n (suc k) hs ts all.1) in
    let second : IsPermutation ((q ++ mine) ++ (rest ++ others)) (q ++ (rest ++ (mine ++ others))) = subst
    (λ (l : List Token). IsPermutation l (q ++ (rest ++ (mine ++ others)))) (sym (append_assoc q mine (rest ++ others)))
    (IsPermutation-append_right q _ _ (permutation_exchange mine rest others)) in
    let third : IsPermutation (q ++ (rest ++ (mine ++ others))) ((q ++ rest) ++ both) = subst
    (λ (l : List Token). IsPermutation l ((q ++ rest) ++ both)) (append_assoc q rest (mine ++ others))
    (IsPermutation-append_right (q ++ rest) _ _ (IsPermutation-sym both (mine ++ others) three)) in
    IsPermutation-trans _ _ _ first (IsPermutation-trans _ _ _ second third)

all_among : (n : ℕ) (t : Token) → 0 < n → among n 0 n t ≡ true
all_among n t some = let low : element_of n t.to < 0 + n = (let l = element_below n t.to some in omega (arith, l))
    in and_from _ _ (le-leb 0 (element_of n t.to) (omega arith)) (lt-ltb (element_of n t.to) (0 + n) low)

-- each token goes to one lane
pub tokens_delivered : (n : ℕ) (lanes : List Holding) (ts : List Token) → 0 < n → length lanes ≡ n → AllFrom (IsAt n) 0 lanes
    → IsPermutation (tokens_in (delivered ts lanes)) (tokens_in lanes ++ ts)
tokens_delivered n lanes ts some count all =
    let whole : filter (among n 0 (length lanes)) ts ≡ ts = ap (λ (m : ℕ). filter (among n 0 m) ts) count
    ∙ filter_whole (among n 0 n) (λ (t : Token). all_among n t some) ts in
    subst (λ (l : List Token). IsPermutation (tokens_in (delivered ts lanes)) (tokens_in lanes ++ l)) whole (tokens_from n 0 lanes ts all)

-- the tokens of one lane are first, whatever it holds
pub tokens_set : (lanes : List Holding) (i : ℕ) (h new : Holding) → slice_get lanes i ≡ Some h → IsPermutation (tokens_in (slice_set lanes i new))
    (new.queue ++ tokens_in (remove lanes i))
tokens_set [] i h new e = absurd (let no : ⊥ = cc in no)
tokens_set (x ∷ xs) zero h new e = IsPermutation-refl (new.queue ++ tokens_in xs)
tokens_set (x ∷ xs) (suc i) h new e =
    IsPermutation-trans (x.queue ++ tokens_in (slice_set xs i new)) (x.queue ++ (new.queue ++ tokens_in (remove xs i))) (new.queue
    ++ (x.queue ++ tokens_in (remove xs i)))
    (IsPermutation-append_right x.queue _ _ (tokens_set xs i h new e)) (permutation_exchange x.queue new.queue (tokens_in (remove xs i)))

pub set_same : {X : Type 0} (lanes : List X) (i : ℕ) (h : X) → slice_get lanes i ≡ Some h → slice_set lanes i h ≡ lanes
set_same [] i h e = absurd (let no : ⊥ = cc in no)
set_same {X} (x ∷ xs) zero h e = let same : x ≡ h = cc in ap (λ (y : X). y ∷ xs) (sym same)
set_same {X} (x ∷ xs) (suc i) h e = ap (λ (ys : List X). x ∷ ys) (set_same xs i h e)

pub tokens_first : (lanes : List Holding) (i : ℕ) (h : Holding) → slice_get lanes i ≡ Some h
    → IsPermutation (tokens_in lanes) (h.queue ++ tokens_in (remove lanes i))
tokens_first lanes i h e = subst (λ (l : List Holding). IsPermutation (tokens_in l) (h.queue ++ tokens_in (remove lanes i))) (set_same lanes i h e)
    (tokens_set lanes i h h e)

-- DELIVERIES
pub queued_none : (h : Holding) → queued h [] ≡ h
queued_none h = ap (λ (ts : List Token). with_queue h ts) (append-nil h.queue)

gets : (n k : ℕ) (x : Holding) (t : Token) (b : Bool) → IsAt n k x → (element_of n t.to == k) ≡ b → queued x (t ∷ [])
    ≡ with_queue x (x.queue ++ cond b (t ∷ []) [])
gets n k x t b at e =
    let is : is_here x.part.shape t ≡ b = ap (λ (m : ℕ). element_of m t.to == x.part.shape.element) at.1 ∙ ap (λ (m : ℕ). element_of n t.to == m) at.0 ∙ e in
    ap (λ (c : Bool). with_queue x (x.queue ++ cond c (t ∷ []) [])) is

-- lanes of later elements don't get it
passed : (n k : ℕ) (lanes : List Holding) (t : Token) → AllFrom (IsAt n) k lanes → element_of n t.to < k → delivered (t ∷ []) lanes ≡ lanes
passed n k [] t all low = refl
passed n k (x ∷ xs) t all low =
    let ne : element_of n t.to ≡ k → ⊥ = λ (s : element_of n t.to ≡ k). omega arith in
    let lower : element_of n t.to < suc k = omega arith in
    ap (λ (y : Holding). y ∷ delivered (t ∷ []) xs) (gets n k x t false all.0 (ne_eqb (element_of n t.to) k ne) ∙ queued_none x)
    ∙ ap (λ (l : List Holding). x ∷ l) (passed n (suc k) xs t all.1 lower)

pub delivered_none : (lanes : List Holding) → delivered [] lanes ≡ lanes
delivered_none [] = refl
delivered_none (h ∷ hs) = ap (λ (x : Holding). x ∷ delivered [] hs) (queued_none h) ∙ ap (λ (l : List Holding). h ∷ l) (delivered_none hs)

pub delivered_twice : (ts us : List Token) (lanes : List Holding) → delivered us (delivered ts lanes) ≡ delivered (ts ++ us) lanes
delivered_twice ts us [] = refl
delivered_twice ts us (h ∷ hs) =
    let one : queued (queued h ts) us ≡ queued h (ts ++ us) = ap (λ (l : List Token). with_queue h l)
    (append_assoc h.queue (here h.part.shape ts) (here h.part.shape us)
    ∙ ap (λ (l : List Token). h.queue ++ l) (sym (filter-append (is_here h.part.shape) ts us))) in
    ap (λ (x : Holding). x ∷ delivered us (delivered ts hs)) one ∙ ap (λ (l : List Holding). queued h (ts ++ us) ∷ l) (delivered_twice ts us hs)

-- A token goes to the lane of its element, and to no other.
pub delivered_one : (n k : ℕ) (lanes : List Holding) (i : ℕ) (t : Token) (h : Holding) → AllFrom (IsAt n) k lanes → element_of n t.to ≡ k + i
    → slice_get lanes i ≡ Some h
    → delivered (t ∷ []) lanes ≡ slice_set lanes i (with_queue h (h.queue ++ t ∷ []))
delivered_one n k [] i t h all is e = absurd (let no : ⊥ = cc in no)
delivered_one n k (x ∷ xs) zero t h all is e =
    let at : element_of n t.to ≡ k = omega arith in
    let low : element_of n t.to < suc k = omega arith in
    let same : x ≡ h = cc in
    ap (λ (y : Holding). y ∷ delivered (t ∷ []) xs) (gets n k x t true all.0 (eq-eqb (element_of n t.to) k at)
    ∙ ap (λ (y : Holding). with_queue y (y.queue ++ t ∷ [])) same)
    ∙ ap (λ (l : List Holding). with_queue h (h.queue ++ t ∷ []) ∷ l) (passed n (suc k) xs t all.1 low)
delivered_one n k (x ∷ xs) (suc j) t h all is e =
    let past : element_of n t.to ≡ suc k + j = omega arith in
    let ne : element_of n t.to ≡ k → ⊥ = λ (s : element_of n t.to ≡ k). omega arith in
    ap (λ (y : Holding). y ∷ delivered (t ∷ []) xs) (gets n k x t false all.0 (ne_eqb (element_of n t.to) k ne) ∙ queued_none x)
    ∙ ap (λ (l : List Holding). x ∷ l) (delivered_one n (suc k) xs j t h all.1 past e)

pub append_twice : {X : Type 0} (xs ys zs : List X) → IsPermutation ((xs ++ ys) ++ zs) (xs ++ (zs ++ ys))
append_twice xs ys zs = subst (λ (l : List _). IsPermutation l (xs ++ (zs ++ ys))) (sym (append_assoc xs ys zs))
    (IsPermutation-append_right xs (ys ++ zs) (zs ++ ys) (IsPermutation-append_comm ys zs))
