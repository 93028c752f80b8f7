-- Words, tokens and states with other numbers for their instructions.
use Rattle.std.specs.Prelude.{ℕ, Bool, true, false, map}
use Rattle.tags.specs.declared.token.Port.{Port}
use Rattle.tags.specs.declared.token.Cont.{Cont}
use Rattle.tags.specs.declared.token.Word.{Word}
use Rattle.tags.specs.declared.token.To.{To}
use Rattle.tags.specs.declared.token.Token.{Token}
use Rattle.tags.specs.declared.slot.SlotState.{SlotState}
use Rattle.tags.specs.declared.slot.SlotState.TheVariants as Slot
use Rattle.tags.specs.declared.slot.SlotState.TheVariants.{Waiter}
use Rattle.semantics.specs.declared.program.Op.{Op}
use Rattle.semantics.specs.declared.program.Op.TheVariants.{Link, Fetch, Store, Frame, Ask}
use Rattle.semantics.specs.Machine.{CellState, Deferred, Store as MStore}

-- WORDS AND STATES
abbrev pub ip_cont : (ℕ → ℕ) → Cont → Cont
ip_cont h (Cont.Frame f ip p) = Cont.Frame f (h ip) p
ip_cont h (Cont.Host j) = Cont.Host j

abbrev pub ip_word : (ℕ → ℕ) → Word → Word
ip_word h (Word.Val v) = Word.Val v
ip_word h (Word.Frame f) = Word.Frame f
ip_word h (Word.Back c) = Word.Back (ip_cont h c)

abbrev pub ip_to : (ℕ → ℕ) → To → To
ip_to h (To.Instr f ip p) = To.Instr f (h ip) p
ip_to h to = to

abbrev pub ip_token : (ℕ → ℕ) → Token → Token
ip_token h t = record { to = ip_to h t.to; word = ip_word h t.word }

abbrev pub ip_slot : (ℕ → ℕ) → SlotState → SlotState
ip_slot h (Slot.Left w) = Slot.Left (ip_word h w)
ip_slot h (Slot.Right w) = Slot.Right (ip_word h w)
ip_slot h (Waiter c) = Waiter (ip_cont h c)
ip_slot h s = s

abbrev pub ip_cell : (ℕ → ℕ) → CellState → CellState
ip_cell h (Deferred cs) = Deferred (map (ip_cont h) cs)
ip_cell h c = c

abbrev pub ip_store : (ℕ → ℕ) → MStore → MStore
ip_store h s =
    record {
      slots = λ f r. ip_slot h (s.slots f r);
      cells = λ x. ip_cell h (s.cells x);
      out = s.out;
      requests = map (ip_cont h) s.requests;
      outputs = s.outputs;
      done = s.done;
    }

-- A port: an instruction's number, and the port
abbrev pub Spot : Type 0
Spot = ℕ × Port

-- it gets an answer at its first destination
abbrev pub is_answered : Op → Bool
is_answered (Fetch a) = true
is_answered (Store a) = true
is_answered Frame = true
is_answered (Ask o) = true
is_answered (Link b) = true
is_answered op = false
