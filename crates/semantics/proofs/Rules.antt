-- Worked examples of the machine: what each instruction does with its words. The instruction is at number 10, in
-- frame 3.
use Rattle.std.proofs.Common.{◌≡◌, refl, ℕ, pos, negsuc, [], ◌∷◌, Some}
use Rattle.tags.specs.declared.value.Value.{Value}
use Rattle.tags.specs.declared.value.Value.TheVariants.{Int, Fault}
use Rattle.tags.specs.declared.value.FaultKind.TheVariants.{Zero, Range}
use Rattle.tags.specs.declared.value.Origin.TheVariants.{At}
use Rattle.tags.specs.declared.token.Port.{Port}
use Rattle.tags.specs.declared.token.Port.TheVariants.{Left, Right}
use Rattle.tags.specs.declared.token.Cont.{Cont}
use Rattle.tags.specs.declared.token.Word.{Word}
use Rattle.tags.specs.declared.token.To.{To}
use Rattle.tags.specs.declared.slot.SlotState.{SlotState}
use Rattle.tags.specs.declared.slot.SlotState.TheVariants as Slot
use Rattle.tags.specs.declared.slot.SlotState.TheVariants.{Empty}
use Rattle.operators.specs.declared.Unary.TheVariants as U
use Rattle.operators.specs.declared.Binary.TheVariants as B
use Rattle.semantics.specs.declared.program.Dest.{Dest}
use Rattle.semantics.specs.declared.program.Op.{Op}
use Rattle.semantics.specs.declared.program.Op.TheVariants.{Apply1, Apply2, Apply2Right, Apply2Left, Lit, Copy, Sync, Switch, Fetch, Store, Frame}
use Rattle.semantics.specs.declared.program.Op.TheVariants.{Link, Send, Return, Ask, Release}
use Rattle.semantics.specs.Program.{Program}
use Rattle.semantics.specs.Rule.{token, signal, Outcome, Becomes, rule_at}
use Rattle.semantics.proofs.Emulator.{instr}

-- two blocks, the second one from number 2 on; two arrays, the second one from cell 3 on
abbrev code : Program
code = record {
  blocks = record { inputs = 1; outputs = 1; slots = 0; instrs = instr Copy 0 [] [] ∷ instr Copy 0 [] [] ∷ [] }
      ∷ record { inputs = 1; outputs = 1; slots = 0; instrs = instr Copy 0 [] [] ∷ [] } ∷ [];
  arrays = 3 ∷ 5 ∷ [];
  main = 0;
}

abbrev to_11_left : Dest
to_11_left = record { ahead = 1; port = Left }

abbrev to_12_right : Dest
to_12_right = record { ahead = 2; port = Right }

abbrev with_both : Op → SlotState → Port → Word → Outcome
with_both op slot port w = rule_at code record { frame = 3; ip = 10 } (Some record {
  op = op;
  origin = At 1 2;
  slot = 0;
  firsts = to_11_left
      ∷ [];
  seconds = to_12_right ∷ [];
}) slot port w

-- one destination
abbrev with_one : Op → SlotState → Port → Word → Outcome
with_one op slot port w = rule_at code record { frame = 3; ip = 10 } (Some record {
  op = op;
  origin = At 1 2;
  slot = 0;
  firsts = to_12_right
      ∷ [];
  seconds = [];
}) slot port w

-- the result: the slot is left as it is, or becomes empty; and the tokens to 11 left and to 12 right
abbrev sends : Word → Outcome
sends w = Becomes Empty (token (To.Instr 3 11 Left) w ∷ token (To.Instr 3 12 Right) w ∷ [])

abbrev number : ℕ → Word
number n = Word.Val (Int (pos n))

-- OPERATORS. The first word that arrives waits in the slot, on its side; the other one makes the instruction fire
left_waits : (w : Word) → with_both (Apply2 B.Sub) Empty Left w ≡ Becomes (Slot.Left w) []
left_waits w = refl

-- a right word waits as well
right_waits : (w : Word) → with_both (Apply2 B.Sub) Empty Right w ≡ Becomes (Slot.Right w) []
right_waits w = refl

-- 9 less 4, with the right word last
right_comes_last : with_both (Apply2 B.Sub) (Slot.Left (number 9)) Right (number 4) ≡ sends (number 5)
right_comes_last = refl

-- and with the left word last
left_comes_last : with_both (Apply2 B.Sub) (Slot.Right (number 4)) Left (number 9) ≡ sends (number 5)
left_comes_last = refl

-- a fault that is made has the instruction's origin
division : with_both (Apply2 B.Div) (Slot.Left (number 9)) Right (number 0) ≡ sends (Word.Val (Fault Zero (At 1 2)))
division = refl

-- with an operand from the code there is nothing to wait for
literal_on_the_right : with_both (Apply2Right B.Sub (pos 4)) Empty Left (number 9) ≡ sends (number 5)
literal_on_the_right = refl

-- the literal is the left operand
literal_on_the_left : with_both (Apply2Left B.Sub (pos 9)) Empty Left (number 4) ≡ sends (number 5)
literal_on_the_left = refl

-- minus 4
negation : with_both (Apply1 U.Neg) Empty Left (number 4) ≡ sends (Word.Val (Int (negsuc 3)))
negation = refl

-- any word makes a literal, and any word is copied
literal : (w : Word) → with_both (Lit (pos 7)) Empty Left w ≡ sends (number 7)
literal w = refl

-- a copy sends its word on, also a frame or a continuation
copy : (w : Word) → with_both Copy Empty Left w ≡ sends w
copy w = refl

-- a sync takes any two words and sends a signal
sync : (v w : Word) → with_both Sync (Slot.Left v) Right w ≡ sends signal
sync v w = refl

-- SWITCH. The left word goes on one side: the first where the right value is true
switch_true : (w : Word) → with_both Switch (Slot.Left w) Right (number 2) ≡ Becomes Empty (token (To.Instr 3 11 Left) w ∷ [])
switch_true w = refl

-- a false predicate: to the second destination
switch_false : (w : Word) → with_both Switch (Slot.Left w) Right (number 0) ≡ Becomes Empty (token (To.Instr 3 12 Right) w ∷ [])
switch_false w = refl

-- a faulty predicate goes to the false side, and only there
switch_fault : (w : Word) → with_both Switch (Slot.Right (Word.Val (Fault Zero (At 0 0)))) Left w ≡ Becomes Empty (token (To.Instr 3 12 Right) w ∷ [])
switch_fault w = refl

-- CELLS are numbered through the arrays. The answer goes to the destination, port and all
fetch : with_one (Fetch 1) Empty Left (number 2) ≡ Becomes Empty (token (To.Fetch 5) (Word.Back (Cont.Frame 3 12 Right)) ∷ [])
fetch = refl

-- a bad index makes the fault the answer
fetch_outside : with_one (Fetch 1) Empty Left (number 5) ≡ Becomes Empty (token (To.Instr 3 12 Right) (Word.Val (Fault Range (At 1 2))) ∷ [])
fetch_outside = refl

-- a store request carries the value
store : (v : Value) → with_one (Store 1) (Slot.Left (number 2)) Right (Word.Val v)
    ≡ Becomes Empty (token (To.Store 5 v) (Word.Back (Cont.Frame 3 12 Right)) ∷ [])
store v = refl

-- and a faulty index makes no request
store_by_fault : (v : Value) → with_one (Store 1) (Slot.Left (Word.Val (Fault Zero (At 0 0)))) Right (Word.Val v)
    ≡ Becomes Empty (token (To.Instr 3 12 Right) (Word.Val (Fault Zero (At 0 0))) ∷ [])
store_by_fault v = refl

-- CALLS. A request for a frame carries where its answer goes
frame : (w : Word) → with_one Frame Empty Left w ≡ Becomes Empty (token To.Manager (Word.Back (Cont.Frame 3 12 Right)) ∷ [])
frame w = refl

-- a link sends to the other frame where the landing begins, always at a left port, and signals to the second destination
link : with_both (Link 1) Empty Left (Word.Frame 8) ≡ Becomes Empty (token (To.Instr 8 2 Left) (Word.Back (Cont.Frame 3 11 Left))
    ∷ token (To.Instr 3 12 Right) signal ∷ [])
link = refl

-- entry 1 of block 1 takes its first input
send : (w : Word) → with_both (Send 1 1) (Slot.Left (Word.Frame 8)) Right w
    ≡ Becomes Empty (token (To.Instr 8 3 Left) w ∷ token (To.Instr 3 11 Left) signal ∷ token (To.Instr 3 12 Right) signal ∷ [])
send w = refl

-- a return goes to its continuation plus the offset, always on the left, and signals
return_to_frame : (v : Value) → with_one (Return 2) (Slot.Left (Word.Back (Cont.Frame 8 40 Right))) Right (Word.Val v)
    ≡ Becomes Empty (token (To.Instr 8 42 Left) (Word.Val v) ∷ token (To.Instr 3 12 Right) signal ∷ [])
return_to_frame v = refl

-- to the host it goes to a port
return_to_host : (v : Value) → with_one (Return 2) (Slot.Left (Word.Back (Cont.Host 0))) Right (Word.Val v)
    ≡ Becomes Empty (token (To.Host 2) (Word.Val v) ∷ token (To.Instr 3 12 Right) signal ∷ [])
return_to_host v = refl

-- an ask sends where its answer goes, port and all
ask : (w : Word) → with_one (Ask 2) (Slot.Left (Word.Back (Cont.Frame 8 40 Left))) Right w
    ≡ Becomes Empty (token (To.Instr 8 42 Left) (Word.Back (Cont.Frame 3 12 Right)) ∷ [])
ask w = refl

-- a release frees its own frame and signals to its continuation plus the offset
release : (w : Word) → with_both (Release 1) (Slot.Left (Word.Back (Cont.Host 0))) Right w
    ≡ Becomes Empty (token (To.Release 3) signal ∷ token (To.Host 1) signal ∷ [])
release w = refl
