-- How a replay follows the events of a run.
use Rattle.std.specs.Prelude.{◌≡◌, ℕ, ◌+◌, ◌-◌, ◌*◌, ℤ, Bool, true, false, List, length, All, Option, Some, None, Result, Ok, Err, ⊤}
use Rattle.tags.specs.declared.token.To.{To}
use Rattle.tags.specs.declared.token.Token.{Token}
use Rattle.tags.specs.declared.slot.SlotState.{SlotState}
use Rattle.tags.specs.declared.slot.SlotState.TheVariants.{Empty}
use Rattle.semantics.specs.Program.{Program}
use Rattle.semantics.specs.Machine.{Store, Machine, Size, Event, Events, Run, Happens, at_start, put_at}
use Rattle.element.specs.Near.{IsNearToken}
use Rattle.replay.specs.declared.fault.ReplayRefusal.{ReplayRefusal}
use Rattle.replay.specs.declared.fault.ReplayRefusal.TheVariants.{NotARun, Memory}
use Rattle.replay.specs.declared.moment.Moment.{Moment}
use Rattle.replay.specs.declared.slots.Slots.{Slots}
use Rattle.replay.specs.declared.state.State.{State}
use Rattle.replay.specs.declared.state.Did.{Did}
use Rattle.replay.specs.Moments.{fullness, IsMoment, Watches, deed_of}
use Rattle.replay.specs.Known.{held, Holds}
use Rattle.replay.specs.Nearby.{bounds_of, IsNearStore}

-- Of a run, this is so where there is an answer, and it is not said that it is no run.
abbrev pub OfRun : {T : Type 0} → Result T ReplayRefusal → (T → Type 0) → Type 0
OfRun (Ok x) P = P x
OfRun (Err NotARun) P = ⊥
OfRun (Err Memory) P = ⊤

-- the slot that an instruction uses in a frame, if it uses one
abbrev pub held_in : {A : Type 0} → Slots A → ℕ → Option ℕ → SlotState
held_in slots f None = Empty
held_in slots f (Some r) = held slots f r

-- The slot, if there is one, has this state then, and all others stay. The number of full ones is reported.
abbrev pub Sets : {A : Type 0} → Slots A → ℕ → Option ℕ → SlotState → Slots A → Type 0
Sets old f None v new = new ≡ old
Sets old f (Some r) v new = ((g q : ℕ) → held new g q ≡ put_at (held old) f (put_at (held old f) r v) g q)
    × (new.full ≡ old.full + fullness v - fullness (held old f r))

-- an answer whether this is so
abbrev pub IsAnswer : Type 0 → Bool → Type 0
IsAnswer P true = P
IsAnswer P false = P → ⊥

-- There was a token for the event to take, and there are those that it made.
abbrev pub IsCounted : ℕ → ℕ → Result ℕ ReplayRefusal → Type 0
IsCounted tokens made (Ok left) = tokens + made ≡ left + 1
IsCounted tokens made (Err NotARun) = tokens ≡ 0
IsCounted tokens made (Err Memory) = ⊤

-- What is reported of an event that found the store `s`, made these tokens and left the store `n` is so, and it is held.
pub record IsDone {A : Type 0} (p : Program) (frames : ℕ) (did : Did) (to : To) (ts : List Token) (s : Store) (new : State A) (n : Store) : Type 0 where
  pub made : did.made ≡ length ts
  pub deed : did.deed ≡ deed_of p s n to ts
  pub holds : Holds new n
  pub near_store : IsNearStore (bounds_of p frames) n
  pub near : All (IsNearToken (bounds_of p frames)) ts

-- Whatever the token does in a store that is held, is done.
abbrev pub DoesAs : {A : Type 0} → Program → State A → Token → Result Did ReplayRefusal → State A → Type 0
DoesAs p old t result new = (s n : Store) (made : List Token) → Holds old s → IsNearStore (bounds_of p old.frames) s → IsNearToken (bounds_of p old.frames) t
    → Happens p old.frames s t.to t.word made n
    → OfRun result (λ did. IsDone p old.frames did t.to made s new n)

-- All of the machine is held.
pub record KnowsAll {A : Type 0} (p : Program) (h : State A) (m : Machine) : Type 0 where
  pub holds : Holds h m.store
  pub tokens : h.tokens ≡ length m.pool
  pub near_store : IsNearStore (bounds_of p h.frames) m.store
  pub near : All (IsNearToken (bounds_of p h.frames)) m.pool

-- Whatever event takes the token in a machine that is held, this is its moment.
abbrev pub Moves : {A : Type 0} → Program → State A → Token → Result Moment ReplayRefusal → State A → Type 0
Moves p old t result new = (z : Size) (e : ℕ) (m n : Machine) → z.elements * z.frames ≡ old.frames → KnowsAll p old m → (ev : Event p z e t m n)
    → OfRun result (λ x. IsMoment p z t ev.made m n x × KnowsAll p new n)

-- Of each run by these events, of machines with `frames` frames and from `inputs` inputs, these are the moments.
abbrev pub IsReplay : Program → ℕ → ℕ → Events → Result (List Moment) ReplayRefusal → Type 0
IsReplay p frames inputs events result = (z : Size) (xs : List ℤ) (last : Machine) → z.elements * z.frames ≡ frames → length xs ≡ inputs
    → Run p z (at_start p xs) events last
    → OfRun result (λ moments. Watches p z (at_start p xs) events moments last)
