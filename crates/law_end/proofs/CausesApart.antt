-- Lists of contexts in which none occurs twice: those of a list, each once, and that no more of them fit into another list than it has.
use Rattle.std.proofs.Common.{◌≡◌, ℕ, zero, suc, ◌+◌, ◌<◌, ◌≤◌, Bool, true, false, ◌⊎◌, inl, inr, List, [], ◌∷◌, length, map, Some, if◌then◌else◌, refl, sym}
use Rattle.std.proofs.Common.{ap, ◌∙◌, subst, arith, true≢false}
use Rattle.std.specs.Prelude.{Contains, slice_get, slice_index_or, count_by}
use Rattle.std.proofs.lemmas.Option.{same_Some}
use Rattle.lemmas.proofs.Contains.{contains_cases, contains_head, contains_mapped, contains_none, contains_tail, get_contains}
use Rattle.semantics.specs.Meaning.{Context, Main}
use Rattle.law_confluence.specs.OrdersTotals.{one, total}
use Rattle.law_confluence.specs.EquationsContexts.{same_context}
use Rattle.law_confluence.proofs.EquationsContexts.{same_context_is, same_itself}
use Rattle.law_net.specs.ContextsParts.{Entry, inlet, Item, item, signal, Spot, spot_of, same_inlet}
use Rattle.tags.specs.declared.token.Port.TheVariants.{Left}
use Rattle.law_confluence.proofs.Orders.{one_of_both}
use Rattle.law_net.proofs.ContextsSames.{hits_at}
use Rattle.law_net.proofs.WiredNets.{count_total}
use Rattle.law_net.proofs.RunsPigeons.{few_pigeons}

-- how often a context occurs in a list
abbrev pub often : Context → List Context → ℕ
often c xs = total (λ (d : Context). one (same_context c d)) xs

abbrev pub Apart : List Context → Type 0
Apart xs = (c : Context) → often c xs ≤ 1

pub often_some : (c : Context) (xs : List Context) → Contains xs c → 0 < often c xs
often_some c [] h = absurd (contains_none c h)
often_some c (x ∷ xs) h = pick (contains_cases x xs c h) (often_some c xs)
  where
    pick : (x ≡ c) ⊎ Contains xs c → (Contains xs c → 0 < often c xs) → 0 < one (same_context c x) + often c xs
    pick (inl e) more = let a = ap (λ (d : Context). one (same_context c d)) e ∙ ap one (same_itself c) in omega (arith, a)
    pick (inr d) more = let a = more d in omega (arith, a)

pub often_none : (c : Context) (xs : List Context) → (Contains xs c → ⊥) → often c xs ≡ 0
often_none c [] h = refl
often_none c (x ∷ xs) h = pick (same_context c x) refl (often_none c xs (λ d. h (contains_tail x xs c d)))
  where
    pick : (t : Bool) → same_context c x ≡ t → often c xs ≡ 0 → one t + often c xs ≡ 0
    pick true e more = absurd (h (subst (λ (y : Context). Contains (x ∷ xs) y) (sym (same_context_is c x e)) (contains_head x xs)))
    pick false e more = omega (arith, more)

-- EACH ONCE
abbrev pub has : Context → List Context → Bool
has c [] = false
has c (x ∷ xs) = if same_context c x then true else has c xs

has_contains : (c : Context) (xs : List Context) → has c xs ≡ true → Contains xs c
has_contains c [] e = absurd (true≢false (sym e))
has_contains c (x ∷ xs) e = go (same_context c x) refl e (has_contains c xs)
  where
    go : (t : Bool) → same_context c x ≡ t → (if t then true else has c xs) ≡ true → (has c xs ≡ true → Contains xs c) → Contains (x ∷ xs) c
    go true s f more = subst (λ (y : Context). Contains (x ∷ xs) y) (sym (same_context_is c x s)) (contains_head x xs)
    go false s f more = contains_tail x xs c (more f)

has_not : (c : Context) (xs : List Context) → has c xs ≡ false → often c xs ≡ 0
has_not c [] e = refl
has_not c (x ∷ xs) e = go (same_context c x) e (has_not c xs)
  where
    go : (t : Bool) → (if t then true else has c xs) ≡ false → (has c xs ≡ false → often c xs ≡ 0) → one t + often c xs ≡ 0
    go true f more = absurd (true≢false f)
    go false f more = let a = more f in omega (arith, a)

abbrev pub with_new : Bool → Context → List Context → List Context
with_new true x xs = xs
with_new false x xs = x ∷ xs

abbrev pub each_once : List Context → List Context
each_once [] = []
each_once (x ∷ xs) = with_new (has x (each_once xs)) x (each_once xs)

pub once_contains : (xs : List Context) (c : Context) → Contains xs c → Contains (each_once xs) c
once_contains [] c h = absurd (contains_none c h)
once_contains (x ∷ xs) c h = go (has x (each_once xs)) refl (contains_cases x xs c h) (once_contains xs c)
  where
    go : (t : Bool) → has x (each_once xs) ≡ t → (x ≡ c) ⊎ Contains xs c → (Contains xs c → Contains (each_once xs) c)
        → Contains (with_new t x (each_once xs)) c
    go true e (inl s) more = subst (λ (y : Context). Contains (each_once xs) y) s (has_contains x (each_once xs) e)
    go true e (inr d) more = more d
    go false e (inl s) more = subst (λ (y : Context). Contains (x ∷ each_once xs) y) s (contains_head x (each_once xs))
    go false e (inr d) more = contains_tail x (each_once xs) c (more d)

pub once_back : (xs : List Context) (c : Context) → Contains (each_once xs) c → Contains xs c
once_back [] c h = h
once_back (x ∷ xs) c h = go (has x (each_once xs)) h (once_back xs c)
  where
    go : (t : Bool) → Contains (with_new t x (each_once xs)) c → (Contains (each_once xs) c → Contains xs c) → Contains (x ∷ xs) c
    go true d more = contains_tail x xs c (more d)
    go false d more = pick (contains_cases x (each_once xs) c d)
      where
        pick : (x ≡ c) ⊎ Contains (each_once xs) c → Contains (x ∷ xs) c
        pick (inl e) = subst (λ (y : Context). Contains (x ∷ xs) y) e (contains_head x xs)
        pick (inr k) = contains_tail x xs c (more k)

pub once_apart : (xs : List Context) → Apart (each_once xs)
once_apart [] c = omega arith
once_apart (x ∷ xs) c = go (has x (each_once xs)) refl (once_apart xs c)
  where
    go : (t : Bool) → has x (each_once xs) ≡ t → often c (each_once xs) ≤ 1 → often c (with_new t x (each_once xs)) ≤ 1
    go true e more = more
    go false e more = pick (same_context c x) refl
      where
        pick : (s : Bool) → same_context c x ≡ s → one s + often c (each_once xs) ≤ 1
        pick true s =
            let n = has_not x (each_once xs) e in let same = ap (λ (d : Context). often d (each_once xs)) (same_context_is c x s) in omega (arith, n, same)
        pick false s = omega (arith, more)

twice : (x : Context) (xs : List Context) → Apart (x ∷ xs) → (j : ℕ) (c : Context) → x ≡ c → slice_get xs j ≡ Some c → ⊥
twice x xs few j c same f =
    let a = few c in let b = ap (λ (d : Context). one (same_context c d)) same ∙ ap one (same_itself c) in
    let d = often_some c xs (get_contains xs j c f) in omega (arith, a, b, d)

pub places_apart : (xs : List Context) → Apart xs → (i j : ℕ) (c : Context) → slice_get xs i ≡ Some c → slice_get xs j ≡ Some c → i ≡ j
places_apart [] few i j c e f = absurd (cc)
places_apart (x ∷ xs) few zero zero c e f = refl
places_apart (x ∷ xs) few (suc i) (suc j) c e f = ap suc (places_apart xs (λ d. let a = few d in omega (arith, a)) i j c e f)
places_apart (x ∷ xs) few zero (suc j) c e f = absurd (twice x xs few j c (same_Some x c e) f)
places_apart (x ∷ xs) few (suc i) zero c e f = absurd (twice x xs few i c (same_Some x c f) e)

-- NO MORE FIT than get_contains are
abbrev passing : (Context → Bool) → List Context → List Context
passing test [] = []
passing test (x ∷ xs) = if test x then x ∷ passing test xs else passing test xs

passing_count : (test : Context → Bool) (xs : List Context) → length (passing test xs) ≡ total (λ (c : Context). one (test c)) xs
passing_count test [] = refl
passing_count test (x ∷ xs) = go (test x) (passing_count test xs)
  where
    go : (t : Bool) → length (passing test xs) ≡ total (λ (c : Context). one (test c)) xs
        → length (if t then x ∷ passing test xs else passing test xs) ≡ one t + total (λ (c : Context). one (test c)) xs
    go true more = omega (arith, more)
    go false more = omega (arith, more)

passing_at : (test : Context → Bool) (xs : List Context) (c : Context) → Contains xs c → test c ≡ true
    → (k : ℕ) × (k < length (passing test xs)) × (slice_index_or (passing test xs) k Main ≡ c)
passing_at test [] c h e = absurd (contains_none c h)
passing_at test (x ∷ xs) c h e = go (test x) refl (contains_cases x xs c h) (λ d. passing_at test xs c d e)
  where
    go : (t : Bool) → test x ≡ t → (x ≡ c) ⊎ Contains xs c
        → (Contains xs c → (k : ℕ) × (k < length (passing test xs)) × (slice_index_or (passing test xs) k Main ≡ c))
        → (k : ℕ) × (k < length (if t then x ∷ passing test xs else passing test xs))
        × (slice_index_or (if t then x ∷ passing test xs else passing test xs) k Main ≡ c)
    go true q (inl s) more = (0, omega arith, s)
    go true q (inr d) more = let m = more d in let l = m.1 in (suc m.0, omega (arith, l), m.2)
    go false q (inl s) more = absurd (true≢false (sym e ∙ ap test (sym s) ∙ q))
    go false q (inr d) more = more d

-- as items, so that the pigeons' lemma speaks of them
abbrev spot_for : Context → Spot
spot_for c = record { context = c; inlet = inlet Entry Left 0 }

abbrev bird : Context → Item
bird c = item c (inlet Entry Left 0) signal

birds_apart : (x : Spot) (xs : List Context) → hits_at x (map bird xs) ≤ often x.context xs
birds_apart x [] = omega arith
birds_apart x (c ∷ xs) =
    let more = birds_apart x xs in let a = one_of_both (same_context x.context c) (same_inlet x.inlet (inlet Entry Left 0)) in omega (arith, more, a)

birds_length : (xs : List Context) → total (λ (i : Item). one true) (map bird xs) ≡ length xs
birds_length [] = refl
birds_length (c ∷ xs) = let more = birds_length xs in omega (arith, more)

pub fit_in : (test : Context → Bool) (xs zs : List Context) → Apart xs → ((c : Context) → Contains xs c → Contains zs c × (test c ≡ true))
    → length xs ≤ count_by test zs
fit_in test xs zs few all =
    let ps = passing test zs in
    let n = few_pigeons (λ i. true) (λ k. spot_for (slice_index_or ps k Main)) (length ps) (map bird xs)
    (λ x. let a = birds_apart x xs in let b = few x.context in omega (arith, a, b)) at in
    let a = birds_length xs in let b = passing_count test zs in let c = count_total test zs in omega (arith, n, a, b, c)
  where
    at : (i : Item) → Contains (map bird xs) i → true ≡ true
        → (k : ℕ) × (k < length (passing test zs)) × (spot_of i ≡ spot_for (slice_index_or (passing test zs) k Main))
    at i h t =
        let c = contains_mapped bird xs i h in
        let m = all c.0 c.1 in
        let k = passing_at test zs c.0 m.0 m.1 in
        (k.0, k.1, ap spot_of (sym c.2) ∙ ap spot_for (sym k.2))
