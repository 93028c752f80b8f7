-- Items at spots: no more items than spots, where each spot is made once.
use Rattle.std.proofs.Common.{◌≡◌, ℕ, zero, suc, ◌+◌, ◌<◌, ◌≤◌, Bool, true, false, List, [], ◌∷◌, refl, ap, ◌∙◌, inl, inr, ◌⊎◌, arith}
use Rattle.std.specs.Prelude.{Contains, flat_map}
use Rattle.std.proofs.lemmas.Bool.{cases_eq, cases_Bool, and_from, and_parts}
use Rattle.lemmas.proofs.Contains.{contains_cases, contains_head, contains_none, contains_tail}
use Rattle.law_confluence.specs.OrdersTotals.{one, total}
use Rattle.law_confluence.proofs.Orders.{total-append}
use Rattle.semantics.specs.Meaning.{Context}
use Rattle.law_confluence.specs.EquationsContexts.{same_context}
use Rattle.law_confluence.proofs.EquationsContexts.{same_context_is, same_itself}
use Rattle.law_net.specs.ContextsParts.{Part, Item, Firing, Spot, spot_of, same_spot, same_part}
use Rattle.law_net.specs.ContextsFirings.{is_firing, times}
use Rattle.law_net.specs.ContextsMirror.{is_item_at, items_at}
use Rattle.law_net.proofs.ContextsSames.{hits_at, same_spot-refl, same_part-refl, same_part-true}
use Rattle.law_net.proofs.WiredNets.{count_total}

abbrev pub sum_to : (ℕ → ℕ) → ℕ → ℕ
sum_to g zero = 0
sum_to g (suc n) = g n + sum_to g n

sum_at : (g : ℕ → ℕ) (n w : ℕ) → w < n → g w ≤ sum_to g n
sum_at g zero w h = absurd (omega (arith, h))
sum_at g (suc n) w h = pick (cases_eq w n) (λ l. sum_at g n w l)
  where
    pick : (w ≡ n) ⊎ (w ≡ n → ⊥) → (w < n → g w ≤ sum_to g n) → g w ≤ g n + sum_to g n
    pick (inl e) more = let same = ap g e in omega (arith, same)
    pick (inr m) more = let x = more (omega (arith, h, m)) in omega (arith, x)

sum_add : (f g h : ℕ → ℕ) (n : ℕ) → ((w : ℕ) → h w ≡ f w + g w) → sum_to h n ≡ sum_to f n + sum_to g n
sum_add f g h zero e = omega arith
sum_add f g h (suc n) e = let a = e n in let more = sum_add f g h n e in omega (arith, a, more)

sum_few : (g : ℕ → ℕ) (n : ℕ) → ((w : ℕ) → g w ≤ 1) → sum_to g n ≤ n
sum_few g zero h = omega arith
sum_few g (suc n) h = let a = h n in let more = sum_few g n h in omega (arith, a, more)

-- THE PIGEONS
pub pigeons : (test : Item → Bool) (at : ℕ → Spot) (n : ℕ) (items : List Item)
    → ((i : Item) → Contains items i → test i ≡ true → (w : ℕ) × (w < n) × (spot_of i ≡ at w))
    → total (λ (i : Item). one (test i)) items ≤ sum_to (λ (w : ℕ). hits_at (at w) items) n
pigeons test at n [] h = omega arith
pigeons test at n (i ∷ items) h =
    let more = pigeons test at n items (λ j c. h j (contains_tail i items j c)) in
    let both = sum_add (λ (w : ℕ). one (same_spot (at w) (spot_of i))) (λ (w : ℕ). hits_at (at w) items) (λ (w : ℕ). hits_at (at w) (i ∷ items)) n
    (λ w. refl) in
    let this = here (cases_Bool (test i)) in omega (arith, more, both, this)
  where
    here : (test i ≡ true) ⊎ (test i ≡ false) → one (test i) ≤ sum_to (λ (w : ℕ). one (same_spot (at w) (spot_of i))) n
    here (inr e) = let o = ap one e in omega (arith, o)
    here (inl e) =
        let k = h i (contains_head i items) e in
        let s = sum_at (λ (w : ℕ). one (same_spot (at w) (spot_of i))) n k.0 k.1 in
        let o : one (same_spot (at k.0) (spot_of i)) ≡ 1 = ap one (ap (same_spot (at k.0)) k.2 ∙ same_spot-refl (at k.0)) in
        let t = ap one e in omega (arith, s, o, t)

pub few_pigeons : (test : Item → Bool) (at : ℕ → Spot) (n : ℕ) (items : List Item) → ((x : Spot) → hits_at x items ≤ 1)
    → ((i : Item) → Contains items i → test i ≡ true → (w : ℕ) × (w < n) × (spot_of i ≡ at w)) → total (λ (i : Item). one (test i)) items ≤ n
few_pigeons test at n items few h =
    let a = pigeons test at n items h in let b = sum_few (λ (w : ℕ). hits_at (at w) items) n (λ w. few (at w)) in omega (arith, a, b)

-- COUNTS of items and firings
pub items_total : (c : Context) (r : Part) (items : List Item) → items_at c r items ≡ total (λ (i : Item). one (is_item_at c r i)) items
items_total c r items = count_total (is_item_at c r) items

pub item_there : (c : Context) (r : Part) (i : Item) → is_item_at c r i ≡ true → (i.context ≡ c) × (i.inlet.part ≡ r)
item_there c r i h = let k = and_parts _ _ h in (same_context_is i.context c k.0, same_part-true i.inlet.part r k.1)

pub item_here : (c : Context) (r : Part) (i : Item) → i.context ≡ c → i.inlet.part ≡ r → is_item_at c r i ≡ true
item_here c r i a b = and_from _ _ (ap (λ (d : Context). same_context d c) a ∙ same_itself c) (ap (λ (q : Part). same_part q r) b ∙ same_part-refl r)

pub some_item : (c : Context) (r : Part) (items : List Item) (i : Item) → Contains items i → i.context ≡ c → i.inlet.part ≡ r
    → 0 < total (λ (i : Item). one (is_item_at c r i)) items
some_item c r [] i h a b = absurd (contains_none i h)
some_item c r (j ∷ items) i h a b = pick (contains_cases j items i h) (λ d. some_item c r items i d a b)
  where
    pick : (j ≡ i) ⊎ Contains items i → (Contains items i → 0 < total (λ (i : Item). one (is_item_at c r i)) items)
        → 0 < total (λ (i : Item). one (is_item_at c r i)) (j ∷ items)
    pick (inl e) more = let o = ap one (item_here c r j (ap (λ (i : Item). i.context) e ∙ a) (ap (λ (i : Item). i.inlet.part) e ∙ b)) in omega (arith, o)
    pick (inr d) more = let m = more d in omega (arith, m)

pub times_total : (c : Context) (r : Part) (fired : List Firing) → times c r fired ≡ total (λ (f : Firing). one (is_firing c r f)) fired
times_total c r fired = count_total (is_firing c r) fired

pub firing_there : (c : Context) (r : Part) (f : Firing) → is_firing c r f ≡ true → (f.context ≡ c) × (f.part ≡ r)
firing_there c r f h = let k = and_parts _ _ h in (same_context_is f.context c k.0, same_part-true f.part r k.1)

pub firing_here : (c : Context) (r : Part) (f : Firing) → f.context ≡ c → f.part ≡ r → is_firing c r f ≡ true
firing_here c r f a b = and_from _ _ (ap (λ (d : Context). same_context d c) a ∙ same_itself c) (ap (λ (q : Part). same_part q r) b ∙ same_part-refl r)

-- each firing of a part took an item there
pub times_items : (c : Context) (r : Part) (g : Firing → List Item) (fired : List Firing)
    → ((f : Firing) → f.context ≡ c → f.part ≡ r → (i : Item) × Contains (g f) i × (i.context ≡ c) × (i.inlet.part ≡ r))
    → times c r fired ≤ total (λ (i : Item). one (is_item_at c r i)) (flat_map g fired)
times_items c r g fired took = let t = times_total c r fired in let m = go fired in omega (arith, t, m)
  where
    go : (fired : List Firing) → total (λ (f : Firing). one (is_firing c r f)) fired ≤ total (λ (i : Item). one (is_item_at c r i)) (flat_map g fired)
    go [] = omega arith
    go (f ∷ fired) =
        let a = total-append (λ (i : Item). one (is_item_at c r i)) (g f) (flat_map g fired) in let m = go fired in
        let h = here (cases_Bool (is_firing c r f)) in omega (arith, a, m, h)
      where
        here : (is_firing c r f ≡ true) ⊎ (is_firing c r f ≡ false) → one (is_firing c r f) ≤ total (λ (i : Item). one (is_item_at c r i)) (g f)
        here (inr e) = let o = ap one e in omega (arith, o)
        here (inl e) =
            let k = firing_there c r f e in let i = took f k.0 k.1 in let s = some_item c r (g f) i.0 i.1 i.2 i.3 in let o = ap one e in omega (arith, o, s)
