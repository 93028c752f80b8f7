-- What a report says of a run.
use Rattle.std.specs.Prelude.{◌≡◌, ◌↔◌, ℕ, zero, suc, ◌+◌, ◌*◌, ◌<◌, ◌≤◌, Bool, true, false, ◌⊎◌, ℤ, List, length, Option, Some, slice_get, ◌==◌}
use Rattle.std.specs.Prelude.{Contains, count_by, ⊤}
use Rattle.tags.specs.declared.value.Value.{Value}
use Rattle.semantics.specs.declared.report.End.{End}
use Rattle.semantics.specs.declared.report.End.TheVariants.{Rest, Starved, Clash, Steps, Stuck, Memory, Stop}
use Rattle.tags.specs.declared.slot.SlotState.{SlotState}
use Rattle.tags.specs.declared.slot.SlotState.TheVariants.{Waiter}
use Rattle.tags.specs.declared.token.Token.{Token}
use Rattle.semantics.specs.Program.{Program}
use Rattle.semantics.specs.Rule.{array_base, array_len}
use Rattle.tags.specs.Addresses.{element_of}
use Rattle.semantics.specs.Machine.{Machine, Full, Size, Events, Run, at_start, outputs_of, Resting, Wants, stuck_rule, reader_count}
use Rattle.semantics.specs.Faithful.{HasStoreOfFull}

pub record Report : Type 0 where
  pub end : End
  pub outputs : List (Option Value)
  pub cells : List (ℕ × Value)
  pub deferred : ℕ
  pub waiting_frames : ℕ
  pub waiting_credits : ℕ
  pub frames_out : ℕ
  pub events : Events

-- f 0 + .. + f (n - 1)
abbrev pub sum_below : ℕ → (ℕ → ℕ) → ℕ
sum_below zero f = 0
sum_below (suc n) f = sum_below n f + f n

abbrev pub waiters : SlotState → ℕ
waiters (Waiter c) = 1
waiters s = 0

abbrev pub one_if : Bool → ℕ
one_if true = 1
one_if false = 0

-- the report shows this state
pub record IsPicture (p : Program) (z : Size) (m : Machine) (r : Report) : Type 0 where
  pub output_count : length r.outputs ≡ outputs_of p
  pub outputs : (j : ℕ) (v : Option Value) → slice_get r.outputs j ≡ Some v → v ≡ m.store.outputs j
  pub ascend : (i j : ℕ) (c d : ℕ × Value) → i < j → slice_get r.cells i ≡ Some c → slice_get r.cells j ≡ Some d → c.0 < d.0
  pub cells : (x : ℕ) (v : Value) → Contains r.cells (x, v) ↔ (m.store.cells x ≡ Full v)
  pub deferred : r.deferred ≡ sum_below (array_base p (length p.arrays)) (λ x. reader_count (m.store.cells x))
  pub waiting_frames : r.waiting_frames ≡ length m.store.requests
  pub waiting_credits : r.waiting_credits ≡ sum_below (z.elements * z.frames) (λ f. sum_below 512 (λ s. waiters (m.store.slots f s)))
  pub frames_out : r.frames_out ≡ sum_below (z.elements * z.frames) (λ f. one_if (m.store.out f))

abbrev pub HasTokenFor : Size → ℕ → Machine → Type 0
HasTokenFor z e m = (t : Token) × Contains m.pool t × (element_of z.elements t.to ≡ e)

-- `by_list`: the events were a list of picks, and it is used up. `may_stop`: the gate may answer false.
abbrev pub HasEnd : Program → Size → ℕ → Bool → Bool → Events → Machine → End → Type 0
HasEnd p z steps by_list may_stop events m Rest = Resting m × (Wants m → ⊥)
HasEnd p z steps by_list may_stop events m Starved = Resting m × Wants m
HasEnd p z steps by_list may_stop events m (Clash a i) = (a < length p.arrays) × (i < array_len p a) × HasStoreOfFull m (array_base p a + i)
HasEnd p z steps by_list may_stop events m Steps =
    ((e : ℕ) × (count_by (λ (ev : ℕ × Token). ev.0 == e) events ≡ steps) × HasTokenFor z e m)
    ⊎ ((by_list ≡ true) × ((e : ℕ) × HasTokenFor z e m))
HasEnd p z steps by_list may_stop events m (Stuck n) = (t : Token) × Contains m.pool t × (stuck_rule p m.store t.to t.word ≡ Some n)
HasEnd p z steps by_list may_stop events m Memory = ⊤
HasEnd p z steps by_list may_stop events m Stop = may_stop ≡ true

-- no element made more events than it may
abbrev pub IsWithinSteps : Size → ℕ → Events → Type 0
IsWithinSteps z steps events = (e : ℕ) → e < z.elements → count_by (λ (ev : ℕ × Token). ev.0 == e) events ≤ steps

pub record Shows (p : Program) (z : Size) (inputs : List ℤ) (steps : ℕ) (by_list may_stop : Bool) (r : Report) : Type 0 where
  pub last : Machine
  pub run : Run p z (at_start p inputs) r.events last
  pub picture : IsPicture p z last r
  pub ends : HasEnd p z steps by_list may_stop r.events last r.end
  pub within : IsWithinSteps z steps r.events
