-- Some items lie in two lists: they are taken out, and the others keep their order. And items that wait, one after another.
use Rattle.std.proofs.Common.{◌≡◌, Bool, false, List, [], ◌∷◌, ◌++◌, refl, sym, ap, ◌∙◌, subst, inl, inr, ◌⊎◌}
use Rattle.std.specs.Prelude.{IsPermutation, Contains, ⊤}
use Rattle.std.proofs.lemmas.List.Elements.{Contains-append_left, Contains-append_right, Contains-append_cases}
use Rattle.std.proofs.lemmas.List.Sorted.{IsPermutation-refl, IsPermutation-trans, IsPermutation-append_right, IsPermutation-middle, Contains-permutation}
use Rattle.lemmas.proofs.Contains.{contains_cases, contains_head, contains_none, contains_tail}
use Rattle.law_confluence.proofs.Orders.{at_first}
use Rattle.law_net.specs.ContextsParts.{Item, Firing}
use Rattle.law_net.specs.ContextsMirror.{only}
use Rattle.law_machine_refines_net.specs.MovesCases.{Taking}
use Rattle.law_machine_refines_net.proofs.MovesLists.{kept_but, taken_out}
use Rattle.law_machine_refines_net.proofs.MovesAccount.{Account, item_waits}

-- no item of the list is there twice
abbrev pub Apart : List Item → Type 0
Apart [] = ⊤
Apart (x ∷ xs) = ((y : Item) → Contains xs y → x ≡ y → ⊥) × Apart xs

-- a test passes none of the items
abbrev pub Skips : (Item → Bool) → List Item → Type 0
Skips test items = (j : Item) → Contains items j → test j ≡ false

-- THE ITEMS, in both lists
pub record Split (first second items : List Item) : Type 0 where
  pub now : List Item
  pub rest : List Item
  pub kept : List Item
  pub left : List Item
  pub first_is : IsPermutation first (now ++ rest)
  pub second_is : IsPermutation second (kept ++ left)
  pub both : IsPermutation (now ++ kept) items
  pub same : (test : Item → Bool) → Skips test items → only test left ≡ only test second

-- without one of them, the others are still there
still_there : (x : Item) (before after : List Item) (y : Item) → (x ≡ y → ⊥) → Contains (before ++ (x ∷ after)) y → Contains (before ++ after) y
still_there x before after y n c = pick (contains_cases x (before ++ after) y (Contains-permutation _ _ y (IsPermutation-middle before x after) c))
  where
    pick : (x ≡ y) ⊎ Contains (before ++ after) y → Contains (before ++ after) y
    pick (inl e) = absurd (n e)
    pick (inr d) = d

pub split : (items first second : List Item) → Apart items → ((j : Item) → Contains items j → Contains (first ++ second) j) → Split first second items
split [] first second apart inside = record {
  now = [];
  rest = first;
  kept = [];
  left = second;
  first_is = IsPermutation-refl first;
  second_is = IsPermutation-refl second;
  both = IsPermutation-refl [];
  same = λ test skips. refl;
}
split (x ∷ xs) first second apart inside =
    pick (Contains-append_cases first second x (inside x (contains_head x xs))) (λ f s h. split xs f s apart.1 h)
  where
    in_tail : (j : Item) → Contains xs j → Contains first j ⊎ Contains second j
    in_tail j c = Contains-append_cases first second j (inside j (contains_tail x xs j c))

    in_first : (before after : List Item) → first ≡ before ++ (x ∷ after) → Split (before ++ after) second xs → Split first second (x ∷ xs)
    in_first before after e k = record {
      now = x ∷ k.now;
      rest = k.rest;
      kept = k.kept;
      left = k.left;
      first_is = at_first e (IsPermutation-trans _ _ _ (IsPermutation-middle before x after) (IsPermutation-append_right (x ∷ []) _ _ k.first_is));
      second_is = k.second_is;
      both = IsPermutation-append_right (x ∷ []) _ _ k.both;
      same = λ test skips. k.same test (λ j c. skips j (contains_tail x xs j c));
    }

    in_second : (before after : List Item) → second ≡ before ++ (x ∷ after) → Split first (before ++ after) xs → Split first second (x ∷ xs)
    in_second before after e k = record {
      now = k.now;
      rest = k.rest;
      kept = x ∷ k.kept;
      left = k.left;
      first_is = k.first_is;
      second_is = at_first e (IsPermutation-trans _ _ _ (IsPermutation-middle before x after) (IsPermutation-append_right (x ∷ []) _ _ k.second_is));
      both = IsPermutation-trans _ _ _ (IsPermutation-middle k.now x k.kept) (IsPermutation-append_right (x ∷ []) _ _ k.both);
      same =
          λ test skips. k.same test (λ j c. skips j (contains_tail x xs j c))
          ∙ sym (ap (only test) e ∙ kept_but test before (x ∷ []) after (λ j c. skips j (one j c)));
    }
      where
        one : (j : Item) → Contains (x ∷ []) j → Contains (x ∷ xs) j
        one j c = go (contains_cases x [] j c)
          where
            go : (x ≡ j) ⊎ Contains [] j → Contains (x ∷ xs) j
            go (inl e) = subst (Contains (x ∷ xs)) e (contains_head x xs)
            go (inr d) = absurd (contains_none j d)

    pick : Contains first x ⊎ Contains second x → ((f s : List Item) → ((j : Item) → Contains xs j → Contains (f ++ s) j) → Split f s xs)
        → Split first second (x ∷ xs)
    pick (inl c) more =
        let o = taken_out first x c in
        in_first o.0 o.1 o.2 (more (o.0 ++ o.1) second (λ j h. here j h o.0 o.1 o.2 (in_tail j h)))
      where
        here : (j : Item) → Contains xs j → (before after : List Item) → first ≡ before ++ (x ∷ after) → Contains first j ⊎ Contains second j
            → Contains ((before ++ after) ++ second) j
        here j h before after e (inl d) =
            Contains-append_left (before ++ after) second j (still_there x before after j (apart.0 j h) (subst (λ l. Contains l j) e d))
        here j h before after e (inr d) = Contains-append_right (before ++ after) second j d
    pick (inr c) more =
        let o = taken_out second x c in
        in_second o.0 o.1 o.2 (more first (o.0 ++ o.1) (λ j h. here j h o.0 o.1 o.2 (in_tail j h)))
      where
        here : (j : Item) → Contains xs j → (before after : List Item) → second ≡ before ++ (x ∷ after) → Contains first j ⊎ Contains second j
            → Contains (first ++ (before ++ after)) j
        here j h before after e (inl d) = Contains-append_left first (before ++ after) j d
        here j h before after e (inr d) =
            Contains-append_right first (before ++ after) j (still_there x before after j (apart.0 j h) (subst (λ l. Contains l j) e d))

-- ITEMS THAT WAIT, one after another
pub record Waited (s : Taking) (T : Item → Type 0) (new : List Firing) (made items rest waiting : List Item) (fired : List Firing) : Type 0 where
  pub now_pending : List Item
  pub now_waiting : List Item
  pub account : Account s T (record { pending = now_pending; waiting = now_waiting; fired = fired }) new made
  pub pending : IsPermutation now_pending rest
  pub waits : IsPermutation now_waiting (items ++ waiting)

pub wait_each : (s : Taking) (T : Item → Type 0) (new : List Firing) (made items rest pending waiting : List Item) (fired : List Firing)
    → Account s T (record { pending = pending; waiting = waiting; fired = fired }) new made → IsPermutation pending (items ++ rest)
    → ((j : Item) → Contains items j → T j) → Waited s T new made items rest waiting fired
wait_each s T new made [] rest pending waiting fired account perm kind =
    record { now_pending = pending; now_waiting = waiting; account = account; pending = perm; waits = IsPermutation-refl waiting }
wait_each s T new made (x ∷ xs) rest pending waiting fired account perm kind =
    let more = item_waits account x (xs ++ rest) perm (kind x (contains_head x xs)) in
    let k = wait_each s T new made xs rest (xs ++ rest) (x ∷ waiting) fired more (IsPermutation-refl (xs ++ rest))
    (λ j c. kind j (contains_tail x xs j c)) in
    record {
      now_pending = k.now_pending;
      now_waiting = k.now_waiting;
      account = k.account;
      pending = k.pending;
      waits = IsPermutation-trans _ _ _ k.waits (IsPermutation-middle xs x waiting);
    }
