-- Worked examples of the machine: code made by hand, and how its run ends.
use Rattle.std.proofs.Common.{◌≡◌, refl, false, pos, [], ◌∷◌, Some, None}
use Rattle.tags.specs.declared.value.Value.TheVariants.{Int}
use Rattle.tags.specs.declared.token.Cont.{Cont}
use Rattle.tags.specs.declared.slot.SlotState.TheVariants.{Waiter}
use Rattle.operators.specs.declared.Binary.TheVariants as B
use Rattle.semantics.specs.declared.program.Op.TheVariants.{Apply2, Copy, Switch, Frame, Link, Return, Open, Take, Release}
use Rattle.semantics.specs.Program.{Instr, Program}
use Rattle.semantics.proofs.Emulator.{come, excluded, Came, instr, left, right, none, one_block}

-- ADDING TWO INPUTS, with the instructions that may differ in the examples
abbrev adds_with : Instr → Instr → Instr → Instr → Instr → Program
adds_with a b d e f = one_block 2 1 3 (a ∷ b ∷ instr Copy 0 (right 1) none ∷ d ∷ e ∷ f ∷ [])

abbrev continues : Instr
continues = instr Copy 0 (left 4) (left 5)

abbrev first_input : Instr
first_input = instr Copy 0 (left 2) none

abbrev sum : Instr
sum = instr (Apply2 B.Add) 0 (right 1) none

abbrev result : Instr
result = instr (Return 0) 1 (right 1) none

abbrev end : Instr
end = instr (Release 1) 2 none none

abbrev pub adds : Program
adds = adds_with continues first_input sum result end

abbrev on_2_and_3 : Program → Came
on_2_and_3 p = come p 1 (pos 2 ∷ pos 3 ∷ [])

-- 2 and 3 are 5 in 12 events, no token is left, and no frame is out
sum_is_5 : (on_2_and_3 adds).machine.store.outputs 0 ≡ Some (Int (pos 5))
sum_is_5 = refl

-- one event for each token
sum_takes_12_events : (on_2_and_3 adds).events ≡ 12
sum_takes_12_events = refl

-- no token is left
sum_rests : (on_2_and_3 adds).machine.pool ≡ []
sum_rests = refl

-- main's frame is free again
sum_frees_its_frame : (on_2_and_3 adds).machine.store.out 0 ≡ false
sum_frees_its_frame = refl

-- BAD CODE. Two left tokens arrive at the sum: its slot is in an excluded state
abbrev two_left : Program
two_left = one_block 2 1 3 (continues ∷ first_input ∷ instr Copy 0 (left 1) none ∷ sum ∷ result ∷ end ∷ [])

-- its one token is excluded by rule 3
two_left_stuck : excluded two_left (on_2_and_3 two_left) ≡ Some 3 ∷ []
two_left_stuck = refl

-- two left tokens arrive at the release
abbrev two_continuations : Program
two_continuations = adds_with (instr Copy 0 (left 5) (left 5)) first_input sum result end

-- by rule 3 again
two_continuations_stuck : excluded two_continuations (on_2_and_3 two_continuations) ≡ Some 3 ∷ []
two_continuations_stuck = refl

-- an operator gets a continuation
abbrev adds_continuation : Program
adds_continuation = adds_with (instr Copy 0 (left 3) (left 5)) (instr Copy 0 (left 3) none) sum result end

-- by rule 4
adds_continuation_stuck : excluded adds_continuation (on_2_and_3 adds_continuation) ≡ Some 4 ∷ []
adds_continuation_stuck = refl

-- a frame is released twice
abbrev releases_twice : Program
releases_twice = adds_with continues first_input (instr (Apply2 B.Add) 0 (right 1) (right 2)) (instr (Release 1) 1 none none) (instr (Release 0) 2 none none)

-- by rule 5
releases_twice_stuck : excluded releases_twice (on_2_and_3 releases_twice) ≡ Some 5 ∷ []
releases_twice_stuck = refl

-- a result goes to a port that the host does not have
abbrev no_such_output : Program
no_such_output = adds_with continues first_input sum (instr (Return 3) 1 (right 1) none) end

-- by rule 6
no_such_output_stuck : excluded no_such_output (on_2_and_3 no_such_output) ≡ Some 6 ∷ []
no_such_output_stuck = refl

-- a called block's release sends its done signal to a number beyond the code
abbrev goes_beyond : Program
goes_beyond = record {
  blocks = record {
    inputs = 1;
    outputs = 1;
    slots = 0;
    instrs = instr Copy 0 none none ∷ instr Copy 0 (left 1) none ∷ instr Frame 0 (left 1) none
        ∷ instr (Link 1) 0 (left 1) none ∷ instr Copy 0 none none ∷ [];
  }
      ∷ record {
        inputs = 1;
        outputs = 1;
        slots = 1;
        instrs = instr Copy 0 (left 2) (right 2) ∷ instr Copy 0 none none
            ∷ instr (Release 255) 0 none none ∷ [];
      } ∷ [];
  arrays = [];
  main = 0;
}

-- by rule 1
goes_beyond_stuck : excluded goes_beyond (come goes_beyond 2 (pos 2 ∷ [])) ≡ Some 1 ∷ []
goes_beyond_stuck = refl

-- NO RESULT. The release does not wait for the result: the run rests with the output missing
abbrev forgets_result : Program
forgets_result = adds_with continues first_input (instr (Apply2 B.Add) 0 (right 2) none) result end

-- no token is left
forgets_result_rests : (on_2_and_3 forgets_result).machine.pool ≡ []
forgets_result_rests = refl

-- the output is missing
forgets_result_output : (on_2_and_3 forgets_result).machine.store.outputs 0 ≡ None
forgets_result_output = refl

-- two events less than with a result
forgets_result_in_10_events : (on_2_and_3 forgets_result).events ≡ 10
forgets_result_in_10_events = refl

-- WANTING FOR EVER. This code opens a loop that the graph does not have, takes its only credit twice, and has no result.
-- Each of its runs wants a credit: so the clauses on runs that rest without wanting say nothing of it, and only the clause
-- on credits, with the one on the bounds of loops, refuses it.
abbrev wants_for_ever : Program
wants_for_ever = one_block 2 1 2 (instr Copy 0 (left 3) (left 4) ∷ instr Copy 0 none none ∷ instr Copy 0 none none ∷ instr (Open 1) 0 (right 1) none
    ∷ instr Switch 1 none (left 1) ∷ instr (Take 1) 0 none none ∷ [])

-- its slot has a waiter for ever
wants_a_credit : (on_2_and_3 wants_for_ever).machine.store.slots 0 0 ≡ Waiter (Cont.Host 0)
wants_a_credit = refl

-- and no token is left
wants_and_rests : (on_2_and_3 wants_for_ever).machine.pool ≡ []
wants_and_rests = refl
