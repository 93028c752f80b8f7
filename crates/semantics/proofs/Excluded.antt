-- Worked examples of the machine: the six rules that exclude a token.
use Rattle.std.proofs.Common.{◌≡◌, refl, ℕ, pos, [], ◌∷◌, Option, Some, None}
use Rattle.tags.specs.declared.value.Value.{Value}
use Rattle.tags.specs.declared.value.Value.TheVariants.{Int}
use Rattle.tags.specs.declared.token.Port.{Port}
use Rattle.tags.specs.declared.token.Port.TheVariants.{Left, Right}
use Rattle.tags.specs.declared.token.Word.{Word}
use Rattle.tags.specs.declared.token.To.{To}
use Rattle.tags.specs.declared.slot.SlotState.{SlotState}
use Rattle.tags.specs.declared.slot.SlotState.TheVariants as Slot
use Rattle.tags.specs.declared.slot.SlotState.TheVariants.{Empty, Credits, Draining}
use Rattle.operators.specs.declared.Binary.TheVariants as B
use Rattle.semantics.specs.declared.program.Op.TheVariants.{Apply2, Copy, Switch, Take, Give, Drain, Release}
use Rattle.semantics.specs.Program.{Program}
use Rattle.semantics.specs.Machine.{Store, with_slot, with_output, with_done, at_start, stuck_rule}
use Rattle.semantics.proofs.Emulator.{instr, none, one_block}

-- numbers 0 to 6
abbrev code : Program
code = one_block 1 1 3 (instr Copy 0 none none ∷ instr (Apply2 B.Add) 0 none none ∷ instr Switch 0 none none ∷ instr (Take 2) 1 none none
    ∷ instr (Give 2) 1 none none ∷ instr (Drain 2) 1 none none ∷ instr (Release 1) 2 none none ∷ [])

abbrev begun : Store
begun = (at_start code (pos 4 ∷ [])).store

abbrev four : Word
four = Word.Val (Int (pos 4))

abbrev rule : Store → To → Word → Option ℕ
rule s to w = stuck_rule code s to w

-- in frame 0, with this in a slot
abbrev slot_0 : SlotState → Store
slot_0 v = with_slot begun 0 0 v

abbrev slot_1 : SlotState → Store
slot_1 v = with_slot begun 0 1 v

-- 1: no instruction has that number
no_instruction : (q : Port) (w : Word) → rule begun (To.Instr 0 7 q) w ≡ Some 1
no_instruction q w = refl

-- 2: a right token for an instruction with one input, even if the slot or the word is wrong as well
right_of_copy : (w : Word) → rule begun (To.Instr 0 0 Right) w ≡ Some 2
right_of_copy w = refl

-- a credit instruction, too, takes only left tokens
right_of_take : rule begun (To.Instr 0 3 Right) four ≡ Some 2
right_of_take = refl

-- 3: the slot is in a state that the instruction does not meet
left_meets_left : (v w : Word) → rule (slot_0 (Slot.Left v)) (To.Instr 0 1 Left) w ≡ Some 3
left_meets_left v w = refl

-- a count of credits is no operand
operator_meets_credits : (w : Word) → rule (slot_0 (Credits 1)) (To.Instr 0 1 Right) w ≡ Some 3
operator_meets_credits w = refl

-- a loop that is not open has no credits
take_meets_empty : (w : Word) → rule begun (To.Instr 0 3 Left) w ≡ Some 3
take_meets_empty w = refl

-- all credits are back already
give_beyond_the_bound : (w : Word) → rule (slot_1 (Credits 2)) (To.Instr 0 4 Left) w ≡ Some 3
give_beyond_the_bound w = refl

-- a loop that is draining, but waits for no credit
give_meets_nothing_to_drain : (w : Word) → rule (slot_1 (Draining 0)) (To.Instr 0 4 Left) w ≡ Some 3
give_meets_nothing_to_drain w = refl

-- a loop is drained once
drain_meets_draining : (w : Word) → rule (slot_1 (Draining 1)) (To.Instr 0 5 Left) w ≡ Some 3
drain_meets_draining w = refl

-- 4: a word is of another kind than the instruction wants; this counts only when it fires
waits_with_any_word : rule begun (To.Instr 0 1 Left) (Word.Frame 0) ≡ None
waits_with_any_word = refl

-- a frame is no operand
adds_frame : rule (slot_0 (Slot.Left (Word.Frame 0))) (To.Instr 0 1 Right) four ≡ Some 4
adds_frame = refl

-- and no predicate
switch_by_frame : (w : Word) → rule (slot_0 (Slot.Left w)) (To.Instr 0 2 Right) (Word.Frame 0) ≡ Some 4
switch_by_frame w = refl

-- a credit is for a continuation
take_without_continuation : rule (slot_1 (Credits 1)) (To.Instr 0 3 Left) four ≡ Some 4
take_without_continuation = refl

-- a request has to say where its answer goes
fetch_without_continuation : (x : ℕ) → rule begun (To.Fetch x) four ≡ Some 4
fetch_without_continuation x = refl

-- an output is a value
output_of_frame : rule begun (To.Host 0) (Word.Frame 0) ≡ Some 4
output_of_frame = refl

-- 5: a frame that is not out is released
release_of_free : (w : Word) → rule begun (To.Release 1) w ≡ Some 5
release_of_free w = refl

-- the frame of main is out, so it can be released
release_of_main : (w : Word) → rule begun (To.Release 0) w ≡ None
release_of_main w = refl

-- 6: an output is filled or does not exist, or the done mark is set; this counts before the kind of the word
filled_output : (v : Value) (w : Word) → rule (with_output begun 0 v) (To.Host 0) w ≡ Some 6
filled_output v w = refl

-- main has one output, and one port for the done signal
no_output : (w : Word) → rule begun (To.Host 2) w ≡ Some 6
no_output w = refl

-- the done signal may be any word
done_once : (w : Word) → rule begun (To.Host 1) w ≡ None
done_once w = refl

-- it arrives once
done_twice : (w : Word) → rule (with_done begun) (To.Host 1) w ≡ Some 6
done_twice w = refl
