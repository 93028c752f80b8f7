-- What is in the slot of a loop, by what has been granted and given back.
use Rattle.std.specs.Prelude.{◌≡◌, ℕ, ◌+◌, ◌-◌, ◌≤◌, ◌<◌, Bool, true, false, Option, Some, None, if◌then◌else◌}
use Rattle.tags.specs.declared.token.Cont.{Cont}
use Rattle.tags.specs.declared.slot.SlotState.{SlotState}
use Rattle.tags.specs.declared.slot.SlotState.TheVariants.{Empty, Credits, Waiter, Draining}

-- `granted`: 1 for `open`, and the takes that fired. `given`: the gives that wait. `waiter`: a take that waits.
pub record Ledger : Type 0 where
  pub opened : Bool
  pub granted : ℕ
  pub given : ℕ
  pub waiter : Option Cont
  pub draining : Bool
  pub over : Bool

abbrev pub waits_or : Option Cont → SlotState → SlotState
waits_or None s = s
waits_or (Some c) s = Waiter c

abbrev pub slot_for : ℕ → Ledger → SlotState
slot_for k l =
    if l.opened then (if l.over then Empty else if l.draining then Draining (l.granted - l.given) else waits_or l.waiter (Credits (k - (l.granted - l.given))))
    else Empty

pub record CreditLaw (k : ℕ) (l : Ledger) : Type 0 where
  pub given : l.given ≤ l.granted
  pub bound : l.granted ≤ l.given + k
  pub waits : (c : Cont) → l.waiter ≡ Some c → (l.granted ≡ l.given + k) × (l.draining ≡ false)
  pub drains : l.draining ≡ true → l.over ≡ false → l.given < l.granted
