-- What tokens, slots, cells and requests name: frames and cells that there are, and places with room for an offset.
use Rattle.std.specs.Prelude.{ℕ, ◌<◌, ◌^◌, All, ⊤}
use Rattle.tags.specs.declared.token.Cont.{Cont}
use Rattle.tags.specs.declared.token.Word.{Word}
use Rattle.tags.specs.declared.token.To.{To}
use Rattle.tags.specs.declared.token.Token.{Token}
use Rattle.tags.specs.declared.slot.SlotState.{SlotState}
use Rattle.tags.specs.declared.slot.SlotState.TheVariants as slot
use Rattle.semantics.specs.Machine.{CellState, Deferred}

-- how many frames and cells there are in all
pub record Bounds : Type 0 where
  pub frames : ℕ
  pub cells : ℕ

abbrev pub IsNearCont : Bounds → Cont → Type 0
IsNearCont b (Cont.Frame f ip p) = (f < b.frames) × (ip < 2 ^ 31)
IsNearCont b (Cont.Host p) = p < 2 ^ 31

abbrev pub IsNearWord : Bounds → Word → Type 0
IsNearWord b (Word.Val v) = ⊤
IsNearWord b (Word.Frame f) = f < b.frames
IsNearWord b (Word.Back c) = IsNearCont b c

abbrev pub IsNearTo : Bounds → To → Type 0
IsNearTo b (To.Instr f ip p) = f < b.frames
IsNearTo b (To.Fetch x) = x < b.cells
IsNearTo b (To.Store x v) = x < b.cells
IsNearTo b To.Manager = ⊤
IsNearTo b (To.Release f) = ⊤
IsNearTo b (To.Host p) = ⊤

pub record IsNearToken (b : Bounds) (t : Token) : Type 0 where
  pub to : IsNearTo b t.to
  pub word : IsNearWord b t.word

abbrev pub IsNearSlot : Bounds → SlotState → Type 0
IsNearSlot b (slot.Left w) = IsNearWord b w
IsNearSlot b (slot.Right w) = IsNearWord b w
IsNearSlot b (slot.Waiter c) = IsNearCont b c
IsNearSlot b s = ⊤

abbrev pub IsNearCell : Bounds → CellState → Type 0
IsNearCell b (Deferred readers) = All (IsNearCont b) readers
IsNearCell b state = ⊤
