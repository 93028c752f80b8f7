-- A run over shared slots, in which frames are used again, as a run in which each frame is used once and each holder has
-- a slot of its own.
use Rattle.std.specs.Prelude.{◌≡◌, ◌≢◌, ℕ, ◌+◌, ◌*◌, ◌⊎◌, false, ℤ, List, [], ◌++◌, map, length, Some, slice_get, slice_index_or, IsPermutation}
use Rattle.tags.specs.declared.token.Cont.{Cont}
use Rattle.tags.specs.declared.token.Word.{Word}
use Rattle.tags.specs.declared.token.To.{To}
use Rattle.tags.specs.declared.token.Token.{Token}
use Rattle.tags.specs.declared.slot.SlotState.TheVariants.{Empty}
use Rattle.semantics.specs.Rule.{token}
use Rattle.semantics.specs.Machine.{Machine, Size, Events, Run, at_start}
use Rattle.semantics.specs.Plan.{Plan}
use Rattle.semantics.specs.Cause.{request_count, credit_count}
use Rattle.semantics.specs.Handed.{UsesEachOnce}
use Rattle.semantics.specs.Placed.{placed}
use Rattle.semantics.specs.Renamed.{re_token, re_slot, re_cell}

-- Of `total` frames in all, the use of frame g after `gen g` releases of it is the frame of this number.
abbrev pub use_of : ℕ → (ℕ → ℕ) → ℕ → ℕ
use_of total gen g = g + gen g * total

-- a request that waits, as a token
abbrev pub request : Cont → Token
request c = token To.Manager (Word.Back c)

-- The slot of a holder, if it has that one. `slots` are those of a block's holders, in order.
abbrev pub HasSlot : List (List ℕ) → ℕ → ℕ → ℕ → Type 0
HasSlot slots b h s = slice_get (slice_index_or slots b []) h ≡ Some s

-- The state m of a run, and the state u of its unfolded run. `gen g` is how often frame g was released, and `block g` the
-- block that runs in it.
pub record Unfolds (total : ℕ) (slots : List (List ℕ)) (m u : Machine) : Type 0 where
  pub gen : ℕ → ℕ
  pub block : ℕ → ℕ
  -- a request that waits is still a token
  pub tokens : IsPermutation u.pool (map (re_token (use_of total gen)) (m.pool ++ map request m.store.requests))
  pub none_waits : u.store.requests ≡ []
  pub cells : (x : ℕ) → u.store.cells x ≡ re_cell (use_of total gen) (m.store.cells x)
  pub out : (g : ℕ) → u.store.out (use_of total gen g) ≡ m.store.out g
  pub same : (u.store.outputs ≡ m.store.outputs) × (u.store.done ≡ m.store.done)
  -- any other frame is empty and not out
  pub others : (f : ℕ) → (((h : ℕ) → u.store.slots f h ≡ Empty) × (u.store.out f ≡ false)) ⊎ ((g : ℕ) × (f ≡ use_of total gen g))
  -- what is in a slot is in the slot of one of its holders
  pub held : (g s : ℕ) → m.store.slots g s ≢ Empty
      → (h : ℕ) × HasSlot slots (block g) h s × (u.store.slots (use_of total gen g) h ≡ re_slot (use_of total gen) (m.store.slots g s))
  -- and what a holder has is in its slot
  pub shown : (g h : ℕ) → u.store.slots (use_of total gen g) h ≢ Empty
      → (s : ℕ) × HasSlot slots (block g) h s × (u.store.slots (use_of total gen g) h ≡ re_slot (use_of total gen) (m.store.slots g s))
  -- two holders of one slot never hold it at one moment
  pub alone : (g s h k : ℕ) → HasSlot slots (block g) h s → HasSlot slots (block g) k s
      → u.store.slots (use_of total gen g) h ≢ Empty → u.store.slots (use_of total gen g) k ≢ Empty → h ≡ k

-- The unfolded run of a run to m. The event of a request that waits is left out, and a release that serves one is two
-- events: so the requests that still wait make the difference.
pub record HasUnfolded (p : Plan) (slots : List (List ℕ)) (z : Size) (inputs : List ℤ) (events : Events) (m : Machine) : Type 0 where
  pub frames : ℕ
  pub unfolded : Events
  pub last : Machine
  pub run : Run p.program (record { elements = z.elements; frames = frames }) (at_start p.program inputs) unfolded last
  pub once : UsesEachOnce p.program (record { elements = z.elements; frames = frames }) inputs unfolded last run
  pub unfolds : Unfolds (z.elements * z.frames) slots m last
  pub event_count : length events ≡ length unfolded + length m.store.requests
  pub requests : request_count events ≡ request_count unfolded + length m.store.requests
  pub credits : credit_count (placed p slots) events ≡ credit_count p.program unfolded
