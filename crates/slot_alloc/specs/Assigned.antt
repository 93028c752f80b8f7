-- What is promised of slots that are assigned, and when there are too few.
use Rattle.std.specs.Prelude.{◌≡◌, ◌≢◌, ℕ, ◌<◌, List, length, Some, slice_get, All, ⊤}
use Rattle.semantics.specs.Program.{CodeBlock}
use Rattle.semantics.specs.Plan.{Plan}
use Rattle.semantics.specs.Sharing.{MayShare, IsGoodBlock, Good}
use Rattle.slot_alloc.specs.declared.faults.AssignFault.{AssignFault}
use Rattle.slot_alloc.specs.declared.faults.AssignFault.TheVariants.{TooManySlots, Memory}
use Rattle.slot_alloc.specs.Tables.{Table, IsFull}

-- A slot is closed to holder h of a block: an earlier holder in it may not share with h.
abbrev pub IsClosed : Plan → ℕ → List ℕ → ℕ → ℕ → Type 0
IsClosed p b ss h s = (g : ℕ) × (g < h) × (slice_get ss g ≡ Some s) × (MayShare p b g h → ⊥)

-- Each of the holders has the least slot that is not closed to it.
abbrev pub AreLeast : Plan → ℕ → List ℕ → Type 0
AreLeast p b ss = (h s : ℕ) → slice_get ss h ≡ Some s → (r : ℕ) → r < s → IsClosed p b ss h r

pub record IsBlockAssigned (p : Plan) (b : ℕ) (c : CodeBlock) (ss : List ℕ) : Type 0 where
  pub good : IsGoodBlock p b c ss
  pub least : AreLeast p b ss

pub record IsAssigned (p : Plan) (slots : List (List ℕ)) : Type 0 where
  pub good : Good p slots
  pub least : (b : ℕ) (ss : List ℕ) → slice_get slots b ≡ Some ss → AreLeast p b ss

-- A block has too few slots: its first holders have their least slots, and each slot of a frame is closed to the next one.
-- So it has more holders than a frame has slots.
pub record IsCrowded (p : Plan) (b : ℕ) (c : CodeBlock) : Type 0 where
  pub slots : List ℕ
  pub left : length slots < c.slots
  pub below : All (λ s. s < 512) slots
  pub share : (g h s : ℕ) → slice_get slots g ≡ Some s → slice_get slots h ≡ Some s → g ≢ h → MayShare p b g h
  pub least : AreLeast p b slots
  pub closed : (s : ℕ) → s < 512 → IsClosed p b slots (length slots) s
  pub many : 512 < c.slots

-- It is the first one: each block before it has slots.
pub record IsFirstCrowded (p : Plan) (b : ℕ) : Type 0 where
  pub block : CodeBlock
  pub here : slice_get p.program.blocks b ≡ Some block
  pub crowded : IsCrowded p b block
  pub before : (a : ℕ) (c : CodeBlock) → a < b → slice_get p.program.blocks a ≡ Some c → (ss : List ℕ) × IsBlockAssigned p a c ss

-- Why nothing was assigned: no block is named where a growth was refused.
abbrev pub IsRefused : Plan → AssignFault → Type 0
IsRefused p (TooManySlots b) = IsFirstCrowded p b
IsRefused p Memory = ⊤

-- the same of one block, and by its table
abbrev pub IsBlockRefused : Plan → ℕ → CodeBlock → AssignFault → Type 0
IsBlockRefused p n c (TooManySlots b) = (b ≡ n) × IsCrowded p n c
IsBlockRefused p n c Memory = ⊤

abbrev pub IsFillRefused : Table → ℕ → ℕ → AssignFault → Type 0
IsFillRefused t n holders (TooManySlots b) = (b ≡ n) × ((ss : List ℕ) × IsFull t holders ss)
IsFillRefused t n holders Memory = ⊤
