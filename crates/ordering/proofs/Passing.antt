-- A pass over all elements.
use Rattle.std.proofs.Common.{◌≡◌, ◌≢◌, refl, sym, ◌∙◌, ap, subst, ℕ, ◌+◌, ◌<◌, ◌≤◌, Bool, true, false, ◌||◌, List, length, get_or, Some, arith}
use Rattle.std.specs.Prelude.{slice_get, slice_set, ◌==◌, nat_lt, if◌then◌else◌}
use Rattle.std.proofs.lemmas.Bool.{ltb-true, ltb-false}
use Rattle.std.proofs.lemmas.List.Sums.{sum_by-set}
use Rattle.lemmas.proofs.Bools.{by_equality}
use Rattle.tags.specs.declared.token.Token.{Token}
use Rattle.ordering.specs.declared.rest.Rest.{Rest}
use Rattle.ordering.specs.Rests.{IsStuck}
use Rattle.ordering.specs.Orders.{blocks_left}
use Rattle.ordering.proofs.Placing.{set_same, set_apart}

abbrev Amounts : Type 0
Amounts = Token → ℕ

pub or_first : (a b : Bool) → (a || b) ≡ false → a ≡ false
or_first false b e = refl
or_first true b e = e

pub or_second : (a b : Bool) → (a || b) ≡ false → b ≡ false
or_second false b e = e
or_second true b e = absurd (let no : ⊥ = cc in no)

-- an element that waits goes on waiting where no token arrives
stuck_stays : (before after : Amounts) (r : Rest) → ((q : Token) → after q ≤ before q) → IsStuck before r → IsStuck after r
stuck_stays before after r less stuck some =
    let waiting = stuck some in
    let none = waiting.2 in
    let few = less waiting.0 in
    (waiting.0, waiting.1, omega (arith, none, few))

-- one element more waits
pub stuck_more : (rests : List Rest) (at : ℕ) (new : Rest) (before after : Amounts) → ((q : Token) → after q ≤ before q) → IsStuck after new
    → ((e : ℕ) (r : Rest) → e < at → slice_get rests e ≡ Some r → IsStuck before r) → (e : ℕ) (r : Rest) → e < at + 1
    → slice_get (slice_set rests at new) e ≡ Some r → IsStuck after r
stuck_more rests at new before after less here others e r low get =
    by_equality (IsStuck after r) e at
    (λ (is : e ≡ at). subst (IsStuck after) (sym (set_same rests at r new (subst (λ (k : ℕ). slice_get (slice_set rests at new) k ≡ Some r) is get))) here)
    (λ (ne : e ≢ at). stuck_stays before after r less
    (others e r (omega (arith, low, ne)) (sym (set_apart rests at e new (λ (is : at ≡ e). ne (sym is))) ∙ get)))
    (e == at) refl

-- how many blocks are left after an element went on
pub left_less : (rests : List Rest) (at : ℕ) (old new : Rest) (went : Bool) (most : ℕ) → at < length rests → old ≡ get_or rests at old
    → length new.blocks.now ≤ length old.blocks.now
    → blocks_left rests + (if went then 1 else 0) ≤ most → blocks_left (slice_set rests at new) + (if went
    || nat_lt (length new.blocks.now) (length old.blocks.now) then 1 else 0) ≤ most
left_less rests at old new went most low is fewer so_far = go (nat_lt (length new.blocks.now) (length old.blocks.now)) refl went so_far where
  all : blocks_left (slice_set rests at new) + length old.blocks.now ≡ blocks_left rests + length new.blocks.now
  all = ap (λ (r : Rest). blocks_left (slice_set rests at new) + length r.blocks.now) is ∙ sum_by-set (λ (r : Rest). length r.blocks.now) rests at new old low

  go : (b : Bool) → nat_lt (length new.blocks.now) (length old.blocks.now) ≡ b → (w : Bool) → blocks_left rests + (if w then 1 else 0) ≤ most
      → blocks_left (slice_set rests at new) + (if w || b then 1 else 0) ≤ most
  go true t true h = let less = ltb-true (length new.blocks.now) (length old.blocks.now) t in omega (arith, all, less, h)
  go true t false h = let less = ltb-true (length new.blocks.now) (length old.blocks.now) t in omega (arith, all, less, h)
  go false t true h = omega (arith, all, fewer, h)
  go false t false h = omega (arith, all, fewer, h)

-- an element that takes no block leaves as many as there were
pub same_left : (a b : ℕ) → a ≤ b → nat_lt a b ≡ false → a ≡ b
same_left a b fewer is = let not_less = ltb-false a b is in omega (arith, fewer, not_less)
