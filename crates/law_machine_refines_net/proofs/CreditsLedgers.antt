-- The slot of a loop by what its ledger says, and the counts of a ledger after one more event.
use Rattle.std.proofs.Common.{◌≡◌, ℕ, ◌+◌, ◌-◌, ◌<◌, Bool, true, false, List, ◌∷◌, sym, ap, ◌∙◌, inl, inr, ◌⊎◌, arith, true≢false, lt-ltb, le-ltb, ltb-true}
use Rattle.std.proofs.Common.{nat_lt, Option, Some, None, if◌then◌else◌}
use Rattle.std.specs.Prelude.{Contains}
use Rattle.std.proofs.lemmas.Bool.{cases_eq, cases_Bool}
use Rattle.tags.specs.declared.token.Cont.{Cont}
use Rattle.tags.specs.declared.slot.SlotState.TheVariants.{Empty, Waiter, Draining}
use Rattle.tags.specs.declared.slot.SlotState.TheVariants as Slot
use Rattle.semantics.specs.Meaning.{Context}
use Rattle.law_net.specs.ContextsParts.{Part, Item, Firing}
use Rattle.law_net.specs.ContextsCredits.{Ledger, slot_for, waits_or}
use Rattle.law_net.specs.ContextsFirings.{times, is_firing}
use Rattle.law_net.specs.ContextsMirror.{is_item_at, items_at}
use Rattle.law_net.proofs.RunsPigeons.{firing_here, item_here, item_there}
use Rattle.law_machine_refines_net.proofs.MovesLists.{count_yes, count_no, count_none}

-- THE SLOT
module _ (k : ℕ) (l : Ledger) (opened : l.opened ≡ true) where
  pub over_slot : l.over ≡ true → slot_for k l ≡ Empty
  over_slot o =
      ap (λ (t : Bool). if t then (if l.over then Empty else if l.draining then Draining (l.granted - l.given)
      else waits_or l.waiter (Slot.Credits (k - (l.granted - l.given)))) else Empty) opened
      ∙ ap (λ (t : Bool). if t then Empty else if l.draining then Draining (l.granted - l.given)
      else waits_or l.waiter (Slot.Credits (k - (l.granted - l.given)))) o

  module _ (over : l.over ≡ false) where
    open_slot : slot_for k l ≡ (if l.draining then Draining (l.granted - l.given) else waits_or l.waiter (Slot.Credits (k - (l.granted - l.given))))
    open_slot =
        ap (λ (t : Bool). if t then (if l.over then Empty else if l.draining then Draining (l.granted - l.given)
        else waits_or l.waiter (Slot.Credits (k - (l.granted - l.given)))) else Empty) opened
        ∙ ap (λ (t : Bool). if t then Empty else if l.draining then Draining (l.granted - l.given)
        else waits_or l.waiter (Slot.Credits (k - (l.granted - l.given)))) over

    pub drain_slot : l.draining ≡ true → slot_for k l ≡ Draining (l.granted - l.given)
    drain_slot d = open_slot ∙ ap (λ (t : Bool). if t then Draining (l.granted - l.given) else waits_or l.waiter (Slot.Credits (k - (l.granted - l.given)))) d

    pub undrained_slot : l.draining ≡ false → slot_for k l ≡ waits_or l.waiter (Slot.Credits (k - (l.granted - l.given)))
    undrained_slot d =
        open_slot ∙ ap (λ (t : Bool). if t then Draining (l.granted - l.given) else waits_or l.waiter (Slot.Credits (k - (l.granted - l.given)))) d

    pub free_slot : l.draining ≡ false → l.waiter ≡ None → slot_for k l ≡ Slot.Credits (k - (l.granted - l.given))
    free_slot d v = undrained_slot d ∙ ap (λ (x : Option Cont). waits_or x (Slot.Credits (k - (l.granted - l.given)))) v

    pub waiter_slot : (x : Cont) → l.draining ≡ false → l.waiter ≡ Some x → slot_for k l ≡ Waiter x
    waiter_slot x d v = undrained_slot d ∙ ap (λ (x : Option Cont). waits_or x (Slot.Credits (k - (l.granted - l.given)))) v

-- COUNTS
pub times_more : (c : Context) (r : Part) (f : Firing) (fired : List Firing) → f.context ≡ c → f.part ≡ r → times c r (f ∷ fired) ≡ 1 + times c r fired
times_more c r f fired a b = count_yes (is_firing c r) f fired (firing_here c r f a b)

pub item_more : (c : Context) (r : Part) (i : Item) (items : List Item) → i.context ≡ c → i.inlet.part ≡ r → items_at c r (i ∷ items) ≡ 1 + items_at c r items
item_more c r i items a b = count_yes (is_item_at c r) i items (item_here c r i a b)

-- an item of another part
pub item_not : (c : Context) (r : Part) (i : Item) → (i.inlet.part ≡ r → ⊥) → is_item_at c r i ≡ false
item_not c r i differ = pick (cases_Bool (is_item_at c r i))
  where
    pick : (is_item_at c r i ≡ true) ⊎ (is_item_at c r i ≡ false) → is_item_at c r i ≡ false
    pick (inr e) = e
    pick (inl e) = absurd (differ (item_there c r i e).1)

pub item_else : (c : Context) (r : Part) (i : Item) (items : List Item) → (i.inlet.part ≡ r → ⊥) → items_at c r (i ∷ items) ≡ items_at c r items
item_else c r i items differ = count_no (is_item_at c r) i items (item_not c r i differ)

-- no item of a part
pub no_items : (c : Context) (r : Part) (items : List Item) → ((i : Item) → Contains items i → i.context ≡ c → i.inlet.part ≡ r → ⊥) → items_at c r items ≡ 0
no_items c r items none = count_none (is_item_at c r) items (λ i h. pick i h (cases_Bool (is_item_at c r i)))
  where
    pick : (i : Item) → Contains items i → (is_item_at c r i ≡ true) ⊎ (is_item_at c r i ≡ false) → is_item_at c r i ≡ false
    pick i h (inr e) = e
    pick i h (inl e) = let o = item_there c r i e in absurd (none i h o.0 o.1)

-- whether a count is none
pub some_yes : (n : ℕ) → 0 < n → nat_lt 0 n ≡ true
some_yes n h = lt-ltb 0 n h

pub none_no : (n : ℕ) → n ≡ 0 → nat_lt 0 n ≡ false
none_no n e = le-ltb 0 n (omega (arith, e))

pub no_none : (n : ℕ) → nat_lt 0 n ≡ false → n ≡ 0
no_none n e = pick (cases_eq n 0)
  where
    pick : (n ≡ 0) ⊎ (n ≡ 0 → ⊥) → n ≡ 0
    pick (inl h) = h
    pick (inr h) = absurd (true≢false (sym (some_yes n (omega (arith, h))) ∙ e))

pub yes_some : (n : ℕ) → nat_lt 0 n ≡ true → 0 < n
yes_some n e = ltb-true 0 n e
