-- A run over shared slots that hands out each frame at most once, as a run of the plan, in which each holder has a slot of
-- its own.
use Rattle.std.specs.Prelude.{◌≡◌, ◌≢◌, ℕ, ℤ, List, IsPermutation}
use Rattle.tags.specs.declared.slot.SlotState.TheVariants.{Empty}
use Rattle.semantics.specs.Machine.{Machine, Size, Events, Run, at_start}
use Rattle.semantics.specs.Plan.{Plan}
use Rattle.semantics.specs.Sharing.{Good}
use Rattle.semantics.specs.Placed.{placed}
use Rattle.semantics.specs.Handed.{UsesEachOnce}
use Rattle.semantics.specs.Orderly.{Orderly, IsStart}
use Rattle.semantics.specs.Wired.{IsWired}
use Rattle.semantics.specs.Unfolded.{HasSlot}

-- The state m of a run of the code, and the state u of the plan's run with the same events. `block g` is the block that
-- runs in frame g.
pub record HasOwnSlots (slots : List (List ℕ)) (m u : Machine) : Type 0 where
  pub block : ℕ → ℕ
  pub pool : IsPermutation u.pool m.pool
  pub cells : u.store.cells ≡ m.store.cells
  pub out : u.store.out ≡ m.store.out
  pub requests : u.store.requests ≡ m.store.requests
  pub outputs : u.store.outputs ≡ m.store.outputs
  pub done : u.store.done ≡ m.store.done
  -- what is in a slot is in the slot of one of its holders
  pub held : (g s : ℕ) → m.store.slots g s ≢ Empty → (h : ℕ) × HasSlot slots (block g) h s × (u.store.slots g h ≡ m.store.slots g s)
  -- and what a holder has is in its slot
  pub shown : (g h : ℕ) → u.store.slots g h ≢ Empty → (s : ℕ) × HasSlot slots (block g) h s × (u.store.slots g h ≡ m.store.slots g s)
  -- two holders of one slot never hold it at the same time
  pub alone : (g s h k : ℕ) → HasSlot slots (block g) h s → HasSlot slots (block g) k s → u.store.slots g h ≢ Empty → u.store.slots g k ≢ Empty → h ≡ k

-- The plan's run with those events
pub record IsOwnRun (p : Plan) (slots : List (List ℕ)) (z : Size) (inputs : List ℤ) (events : Events) (m : Machine) : Type 0 where
  pub last : Machine
  pub run : Run p.program z (at_start p.program inputs) events last
  pub once : UsesEachOnce p.program z inputs events last run
  pub own : HasOwnSlots slots m last

-- Each such run over good slots of an orderly plan is the plan's, event by event.
abbrev pub OnceRunsAreOwn : Type 0
OnceRunsAreOwn = (p : Plan) (slots : List (List ℕ)) → IsWired p → Good p slots → Orderly p → (inputs : List ℤ) (z : Size) (events : Events) (m : Machine)
    → IsStart p z inputs
    → (run : Run (placed p slots) z (at_start (placed p slots) inputs) events m) → UsesEachOnce (placed p slots) z inputs events m run
    → IsOwnRun p slots z inputs events m
