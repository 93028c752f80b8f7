-- Tokens and states with other numbers for their frames.
use Rattle.std.specs.Prelude.{ℕ, map}
use Rattle.tags.specs.declared.token.Cont.{Cont}
use Rattle.tags.specs.declared.token.Word.{Word}
use Rattle.tags.specs.declared.token.To.{To}
use Rattle.tags.specs.declared.token.Token.{Token}
use Rattle.tags.specs.declared.slot.SlotState.{SlotState}
use Rattle.tags.specs.declared.slot.SlotState.TheVariants as Slot
use Rattle.tags.specs.declared.slot.SlotState.TheVariants.{Waiter}
use Rattle.semantics.specs.Machine.{CellState, Deferred}

abbrev pub re_cont : (ℕ → ℕ) → Cont → Cont
re_cont h (Cont.Frame f ip p) = Cont.Frame (h f) ip p
re_cont h (Cont.Host j) = Cont.Host j

abbrev pub re_word : (ℕ → ℕ) → Word → Word
re_word h (Word.Val v) = Word.Val v
re_word h (Word.Frame f) = Word.Frame (h f)
re_word h (Word.Back c) = Word.Back (re_cont h c)

abbrev pub re_to : (ℕ → ℕ) → To → To
re_to h (To.Instr f ip p) = To.Instr (h f) ip p
re_to h (To.Release f) = To.Release (h f)
re_to h to = to

abbrev pub re_token : (ℕ → ℕ) → Token → Token
re_token h t = record { to = re_to h t.to; word = re_word h t.word }

abbrev pub re_slot : (ℕ → ℕ) → SlotState → SlotState
re_slot h (Slot.Left w) = Slot.Left (re_word h w)
re_slot h (Slot.Right w) = Slot.Right (re_word h w)
re_slot h (Waiter c) = Waiter (re_cont h c)
re_slot h s = s

abbrev pub re_cell : (ℕ → ℕ) → CellState → CellState
re_cell h (Deferred cs) = Deferred (map (re_cont h) cs)
re_cell h c = c
