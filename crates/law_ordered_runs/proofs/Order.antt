-- WHERE AN ACTIVITY BELONGS: to nodes of an invocation, or to an iteration; and which may come before which.
use Rattle.std.proofs.Common.{◌≡◌, ℕ, zero, suc, ◌+◌, ◌<◌, ◌≤◌, ◌⊎◌, Bool, true, false, List, [], ◌∷◌, ◌++◌, Some, Contains, inl, inr, refl, sym, ap, ◌∙◌, subst, arith}
use Rattle.std.proofs.Common.{⊎_elim, ltb-true, ltb-false}
use Rattle.std.specs.Prelude.{slice_get, nat_lt}
use Rattle.std.proofs.lemmas.Option.{same_Some}
use Rattle.semantics.specs.Meaning.{Context, Main, Called, Turned, Activity, Fires, Gates, Passes, Returns, Turns, Outputs}
use Rattle.lemmas.proofs.Permutations.{Each, Spread, each_from, each_within, spread_append, within_to, get_within}
use Rattle.law_confluence.specs.EquationsContexts.{depth}
use Rattle.law_loops_complete.specs.Within.{place_of, IsIn}
use Rattle.law_ordered_runs.specs.InOrder.{OneAfterAnother}

-- the invocation that an activity belongs to: that of its node as if that were a call, or the one that it takes a result of
abbrev pub seat : Activity → Context
seat (Fires c n vs) = Called c n
seat (Gates c n v b) = Called c n
seat (Passes c n i v) = Called c n
seat (Returns c n j v) = Called c n
seat (Turns c n i j b v) = Turned c n i
seat (Outputs j v) = Main

-- made at nodes of c from lo on and below hi, or within what is made there
abbrev pub Under : Context → ℕ → ℕ → Context → Type 0
Under c lo hi Main = ⊥
Under c lo hi (Called d n) = ((d ≡ c) × (lo ≤ n) × (n < hi)) ⊎ Under c lo hi d
Under c lo hi (Turned d n t) = ((d ≡ c) × (lo ≤ n) × (n < hi)) ⊎ Under c lo hi d

-- RANGES OF NODES
pub under_more : (c : Context) (lo hi low high : ℕ) (d : Context) → low ≤ lo → hi ≤ high → Under c lo hi d → Under c low high d
under_more c lo hi low high Main below above h = h
under_more c lo hi low high (Called d n) below above (inl h) = let l = h.1 in let m = h.2 in inl (h.0, omega (arith, l, below), omega (arith, m, above))
under_more c lo hi low high (Called d n) below above (inr h) = inr (under_more c lo hi low high d below above h)
under_more c lo hi low high (Turned d n t) below above (inl h) = let l = h.1 in let m = h.2 in inl (h.0, omega (arith, l, below), omega (arith, m, above))
under_more c lo hi low high (Turned d n t) below above (inr h) = inr (under_more c lo hi low high d below above h)

pub half : (n mid : ℕ) → (n < mid) ⊎ (mid ≤ n)
half n mid = go (nat_lt n mid) refl
  where
    go : (t : Bool) → nat_lt n mid ≡ t → (n < mid) ⊎ (mid ≤ n)
    go true e = inl (ltb-true n mid e)
    go false e = inr (ltb-false n mid e)

pub under_split : (c : Context) (lo mid hi : ℕ) (d : Context) → Under c lo hi d → Under c lo mid d ⊎ Under c mid hi d
under_split c lo mid hi Main h = inl h
under_split c lo mid hi (Called d n) (inl h) = ⊎_elim (λ l. inl (inl (h.0, h.1, l))) (λ l. inr (inl (h.0, l, h.2))) (half n mid)
under_split c lo mid hi (Called d n) (inr h) = ⊎_elim (λ k. inl (inr k)) (λ k. inr (inr k)) (under_split c lo mid hi d h)
under_split c lo mid hi (Turned d n t) (inl h) = ⊎_elim (λ l. inl (inl (h.0, h.1, l))) (λ l. inr (inl (h.0, l, h.2))) (half n mid)
under_split c lo mid hi (Turned d n t) (inr h) = ⊎_elim (λ k. inl (inr k)) (λ k. inr (inr k)) (under_split c lo mid hi d h)

-- the node itself
pub under_at : (c : Context) (lo hi : ℕ) (d : Context) → Under c lo hi d → (n : ℕ) × (lo ≤ n) × (n < hi) × Under c n (n + 1) d
under_at c lo hi Main h = absurd h
under_at c lo hi (Called d n) (inl h) = (n, h.1, h.2, inl (h.0, omega arith, omega arith))
under_at c lo hi (Called d n) (inr h) = let k = under_at c lo hi d h in (k.0, k.1, k.2, inr k.3)
under_at c lo hi (Turned d n t) (inl h) = (n, h.1, h.2, inl (h.0, omega arith, omega arith))
under_at c lo hi (Turned d n t) (inr h) = let k = under_at c lo hi d h in (k.0, k.1, k.2, inr k.3)

under_deep : (c : Context) (lo hi : ℕ) (d : Context) → Under c lo hi d → depth c < depth d
under_deep c lo hi Main h = absurd h
under_deep c lo hi (Called d n) (inl h) = let e = ap depth h.0 in omega (arith, e)
under_deep c lo hi (Called d n) (inr h) = let l = under_deep c lo hi d h in omega (arith, l)
under_deep c lo hi (Turned d n t) (inl h) = let e = ap depth h.0 in omega (arith, e)
under_deep c lo hi (Turned d n t) (inr h) = let l = under_deep c lo hi d h in omega (arith, l)

under_not_own : (c : Context) (lo hi : ℕ) (d : Context) → d ≡ c → Under c lo hi d → ⊥
under_not_own c lo hi d e h = let l = under_deep c lo hi d h in let same = ap depth e in omega (arith, l, same)

under_apart : (c : Context) (lo mid hi : ℕ) (d : Context) → Under c lo mid d → Under c mid hi d → ⊥
under_apart c lo mid hi Main h k = h
under_apart c lo mid hi (Called d n) (inl h) (inl k) = let a = h.2 in let b = k.1 in omega (arith, a, b)
under_apart c lo mid hi (Called d n) (inl h) (inr k) = under_not_own c mid hi d h.0 k
under_apart c lo mid hi (Called d n) (inr h) (inl k) = under_not_own c lo mid d k.0 h
under_apart c lo mid hi (Called d n) (inr h) (inr k) = under_apart c lo mid hi d h k
under_apart c lo mid hi (Turned d n t) (inl h) (inl k) = let a = h.2 in let b = k.1 in omega (arith, a, b)
under_apart c lo mid hi (Turned d n t) (inl h) (inr k) = under_not_own c mid hi d h.0 k
under_apart c lo mid hi (Turned d n t) (inr h) (inl k) = under_not_own c lo mid d k.0 h
under_apart c lo mid hi (Turned d n t) (inr h) (inr k) = under_apart c lo mid hi d h k

-- IN AN INVOCATION
pub in_self : (c : Context) → IsIn c c
in_self Main = refl
in_self (Called c n) = inl refl
in_self (Turned c n t) = inl refl

in_depth : (c d : Context) → IsIn c d → depth c ≤ depth d
in_depth c Main h = let e = ap depth h in omega (arith, e)
in_depth c (Called d n) (inl h) = let e = ap depth h in omega (arith, e)
in_depth c (Called d n) (inr h) = let l = in_depth c d h in omega (arith, l)
in_depth c (Turned d n t) (inl h) = let e = ap depth h in omega (arith, e)
in_depth c (Turned d n t) (inr h) = let l = in_depth c d h in omega (arith, l)

pub in_trans : (b c d : Context) → IsIn b c → IsIn c d → IsIn b d
in_trans b c Main h k = subst (λ c. IsIn b c) k h
in_trans b c (Called d n) h (inl k) = subst (λ c. IsIn b c) k h
in_trans b c (Called d n) h (inr k) = inr (in_trans b c d h k)
in_trans b c (Turned d n t) h (inl k) = subst (λ c. IsIn b c) k h
in_trans b c (Turned d n t) h (inr k) = inr (in_trans b c d h k)

-- of two that one lies in, one lies in the other
comparable : (b c d : Context) → IsIn b d → IsIn c d → IsIn b c ⊎ IsIn c b
comparable b c Main h k = inl (subst (λ c. IsIn b c) (h ∙ sym k) (in_self b))
comparable b c (Called d n) (inl h) k = inr (subst (λ b. IsIn c b) (sym h) k)
comparable b c (Called d n) (inr h) (inl k) = inl (subst (λ c. IsIn b c) (sym k) (inr h))
comparable b c (Called d n) (inr h) (inr k) = comparable b c d h k
comparable b c (Turned d n t) (inl h) k = inr (subst (λ b. IsIn c b) (sym h) k)
comparable b c (Turned d n t) (inr h) (inl k) = inl (subst (λ c. IsIn b c) (sym k) (inr h))
comparable b c (Turned d n t) (inr h) (inr k) = comparable b c d h k

-- in one iteration of a loop only
pub turns_alike : (c d : Context) (n m t u : ℕ) → Turned c n t ≡ Turned d m u → (c ≡ d) × (n ≡ m) × (t ≡ u)
turns_alike c d n m t u e = (ap by_of e, ap node_of_it e, ap turn_of e)
  where
    by_of : Context → Context
    by_of Main = Main
    by_of (Called c n) = c
    by_of (Turned c n t) = c

    node_of_it : Context → ℕ
    node_of_it Main = 0
    node_of_it (Called c n) = n
    node_of_it (Turned c n t) = n

    turn_of : Context → ℕ
    turn_of Main = 0
    turn_of (Called c n) = 0
    turn_of (Turned c n t) = t

one_turn : (c : Context) (n t u : ℕ) (d : Context) → IsIn (Turned c n t) d → IsIn (Turned c n u) d → t ≡ u
one_turn c n t u Main h k = let e = ap depth h in omega (arith, e)
one_turn c n t u (Called d m) (inl h) k = cc
one_turn c n t u (Called d m) (inr h) (inl k) = cc
one_turn c n t u (Called d m) (inr h) (inr k) = one_turn c n t u d h k
one_turn c n t u (Turned d m i) (inl h) (inl k) = (turns_alike c d n m t i h).2 ∙ sym (turns_alike c d n m u i k).2
one_turn c n t u (Turned d m i) (inl h) (inr k) =
    let l = in_depth (Turned c n u) d k in let e = ap depth (turns_alike c d n m t i h).0 in absurd (omega (arith, l, e))
one_turn c n t u (Turned d m i) (inr h) (inl k) =
    let l = in_depth (Turned c n t) d h in let e = ap depth (turns_alike c d n m u i k).0 in absurd (omega (arith, l, e))
one_turn c n t u (Turned d m i) (inr h) (inr k) = one_turn c n t u d h k

pub under_in : (c : Context) (lo hi : ℕ) (d : Context) → Under c lo hi d → IsIn c d
under_in c lo hi Main h = absurd h
under_in c lo hi (Called d n) (inl h) = inr (subst (λ c. IsIn c d) h.0 (in_self d))
under_in c lo hi (Called d n) (inr h) = inr (under_in c lo hi d h)
under_in c lo hi (Turned d n t) (inl h) = inr (subst (λ c. IsIn c d) h.0 (in_self d))
under_in c lo hi (Turned d n t) (inr h) = inr (under_in c lo hi d h)

-- what lies in an invocation is it, or is made at a node of it
pub in_under : (c d : Context) → IsIn c d → (c ≡ d) ⊎ ((n : ℕ) × Under c n (n + 1) d)
in_under c Main h = inl h
in_under c (Called d n) (inl h) = inl h
in_under c (Called d n) (inr h) =
    inr (⊎_elim (λ e. (n, inl (sym e, omega arith, omega arith))) (λ (k : (n : ℕ) × Under c n (n + 1) d). (k.0, inr k.1)) (in_under c d h))
in_under c (Turned d n t) (inl h) = inl h
in_under c (Turned d n t) (inr h) =
    inr (⊎_elim (λ e. (n, inl (sym e, omega arith, omega arith))) (λ (k : (n : ℕ) × Under c n (n + 1) d). (k.0, inr k.1)) (in_under c d h))

-- an invocation round one that is made at these nodes is made there, too, or lies round theirs
under_through : (b c : Context) (lo hi : ℕ) (d : Context) → Under c lo hi d → IsIn b d → Under c lo hi b ⊎ IsIn b c
under_through b c lo hi Main h k = absurd h
under_through b c lo hi (Called d n) h (inl k) = inl (subst (λ d. Under c lo hi d) (sym k) h)
under_through b c lo hi (Called d n) (inl h) (inr k) = inr (subst (λ c. IsIn b c) h.0 k)
under_through b c lo hi (Called d n) (inr h) (inr k) = under_through b c lo hi d h k
under_through b c lo hi (Turned d n t) h (inl k) = inl (subst (λ d. Under c lo hi d) (sym k) h)
under_through b c lo hi (Turned d n t) (inl h) (inr k) = inr (subst (λ c. IsIn b c) h.0 k)
under_through b c lo hi (Turned d n t) (inr h) (inr k) = under_through b c lo hi d h k

-- WHICH MAY COME BEFORE WHICH: not one of a later iteration before one of an earlier
abbrev pub Precedes : Activity → Activity → Type 0
Precedes a b = (c : Context) (n t u : ℕ) → t < u → IsIn (Turned c n u) (seat a) → IsIn (Turned c n t) (seat b) → ⊥

turned_place : (c : Context) (n t : ℕ) (a : Activity) → IsIn (Turned c n t) (seat a) → IsIn (Turned c n t) (place_of a)
turned_place c n t (Fires d m vs) (inl h) = cc
turned_place c n t (Fires d m vs) (inr h) = h
turned_place c n t (Gates d m v b) (inl h) = cc
turned_place c n t (Gates d m v b) (inr h) = h
turned_place c n t (Passes d m i v) (inl h) = cc
turned_place c n t (Passes d m i v) (inr h) = h
turned_place c n t (Returns d m j v) h = h
turned_place c n t (Turns d m i j b v) h = h
turned_place c n t (Outputs j v) h = h

-- where one takes place round the other
pub precedes_round : (a b : Activity) → IsIn (place_of a) (seat b) → Precedes a b
precedes_round a b h c n t u low i j =
    let same = one_turn c n u t (seat b) (in_trans (Turned c n u) (place_of a) (seat b) (turned_place c n u a i) h) j in omega (arith, same, low)

pub precedes_inner : (a b : Activity) → IsIn (place_of b) (seat a) → Precedes a b
precedes_inner a b h c n t u low i j =
    let same = one_turn c n u t (seat a) i (in_trans (Turned c n t) (place_of b) (seat a) (turned_place c n t b j) h) in omega (arith, same, low)

-- where they belong to different nodes of an invocation
apart_nodes : (a b : Activity) (c : Context) (lo mid hi : ℕ) → Under c lo mid (seat a) → Under c mid hi (seat b) → (d : Context) (n t u : ℕ)
    → IsIn (Turned d n u) (seat a) → IsIn (Turned d n t) (seat b) → t ≡ u
apart_nodes a b c lo mid hi h k d n t u i j =
    ⊎_elim (λ x. ⊎_elim (λ y. absurd (under_apart c lo mid hi (Turned d n t) x y))
    (λ y. sym (one_turn d n u t (seat a) i (in_trans (Turned d n t) c (seat a) y (under_in c lo mid (seat a) h)))) (under_through (Turned d n t) c mid hi (seat b) k j))
    (λ x. sym (one_turn d n u t (seat b) (in_trans (Turned d n u) c (seat b) x (under_in c mid hi (seat b) k)) j))
    (under_through (Turned d n u) c lo mid (seat a) h i)

pub precedes_apart : (a b : Activity) (c : Context) (lo mid hi : ℕ) → Under c lo mid (seat a) → Under c mid hi (seat b) → Precedes a b
precedes_apart a b c lo mid hi h k d n t u low i j = let same = apart_nodes a b c lo mid hi h k d n t u i j in omega (arith, same, low)

pub precedes_turned : (a b : Activity) (c : Context) (lo mid hi : ℕ) → Under c mid hi (seat a) → Under c lo mid (seat b) → Precedes a b
precedes_turned a b c lo mid hi h k d n t u low i j = let same = apart_nodes b a c lo mid hi k h d n u t j i in omega (arith, same, low)

-- where one belongs to an earlier iteration
pub precedes_turns : (a b : Activity) (c : Context) (n t u : ℕ) → IsIn (Turned c n t) (seat a) → IsIn (Turned c n u) (seat b) → t < u → Precedes a b
precedes_turns a b c n t u h k low d m v w less i j = ⊎_elim (λ x. outer x) (λ x. inner x) (comparable (Turned d m w) (Turned c n t) (seat a) i h)
  where
    same : Turned d m w ≡ Turned c n t → ⊥
    same e =
        let s = turns_alike d c m n w t e in
        let at : IsIn (Turned c n v) (seat b) = subst (λ m. IsIn (Turned c m v) (seat b)) s.1 (subst (λ d. IsIn (Turned d m v) (seat b)) s.0 j) in
        let one = one_turn c n v u (seat b) at k in
        let last = s.2 in omega (arith, one, last, less, low)

    outer : IsIn (Turned d m w) (Turned c n t) → ⊥
    outer (inl e) = same e
    outer (inr x) =
        let one = one_turn d m w v (seat b) (in_trans (Turned d m w) c (seat b) x (in_trans c (Turned c n u) (seat b) (inr (in_self c)) k)) j in
        omega (arith, one, less)

    inner : IsIn (Turned c n t) (Turned d m w) → ⊥
    inner (inl e) = same (sym e)
    inner (inr x) =
        let one = one_turn c n t u (seat b) (in_trans (Turned c n t) d (seat b) x (in_trans d (Turned d m v) (seat b) (inr (in_self d)) j)) k in
        omega (arith, one, low)

-- what takes place in an invocation belongs to it
pub place_in_seat : (c : Context) (a : Activity) → IsIn c (place_of a) → IsIn c (seat a)
place_in_seat c (Fires d m vs) h = inr h
place_in_seat c (Gates d m v b) h = inr h
place_in_seat c (Passes d m i v) h = inr h
place_in_seat c (Returns d m j v) h = h
place_in_seat c (Turns d m i j b v) h = h
place_in_seat c (Outputs j v) h = h

-- IN ORDER
abbrev pub InOrder : List Activity → Type 0
InOrder run = Spread Precedes run

pub order_both : (xs ys : List Activity) → InOrder xs → InOrder ys → ((a b : Activity) → Contains xs a → Contains ys b → Precedes a b) → InOrder (xs ++ ys)
order_both xs ys h k f =
    spread_append Precedes xs ys h k
    (each_from (λ a. Each (Precedes a) ys) xs (λ a i. each_from (Precedes a) ys (λ b j. f a b (within_to a xs i) (within_to b ys j))))

order_at : (run : List Activity) → InOrder run → (i j : ℕ) (a b : Activity) → i < j → slice_get run i ≡ Some a → slice_get run j ≡ Some b → Precedes a b
order_at [] h i j a b low e f = cc
order_at (x ∷ run) h zero zero a b low e f = absurd (omega (arith, low))
order_at (x ∷ run) h zero (suc j) a b low e f =
    subst (λ x. Precedes x b) (same_Some x a e) (each_within (Precedes x) b run (get_within run j b f) h.0)
order_at (x ∷ run) h (suc i) zero a b low e f = absurd (omega (arith, low))
order_at (x ∷ run) h (suc i) (suc j) a b low e f = order_at run h.1 i j a b (omega (arith, low)) e f

pub one_after_another : (run : List Activity) → InOrder run → OneAfterAnother run
one_after_another run h c n t u i j a b low e x f y =
    ⊎_elim (λ late. absurd (order_at run h j i b a late f e c n t u low (place_in_seat (Turned c n u) b y) (place_in_seat (Turned c n t) a x))) (λ k. k) (half j i)
