-- Worked examples of plans: landings, arcs, the code of a plan with slots, frames used again, and what is counted.
use Rattle.std.proofs.Common.{◌≡◌, refl, ℕ, true, false, List, [], ◌∷◌, Some, None}
use Rattle.tags.specs.declared.token.Port.TheVariants.{Left, Right}
use Rattle.tags.specs.declared.token.Cont.{Cont}
use Rattle.tags.specs.declared.token.Word.{Word}
use Rattle.tags.specs.declared.token.To.{To}
use Rattle.semantics.specs.declared.graph.Kind.TheVariants.{Loop}
use Rattle.semantics.specs.declared.program.Op.TheVariants.{Copy, Sync, Link, Open, Take, Give, Drain, Switch, Release}
use Rattle.semantics.specs.Graph.{Flow}
use Rattle.semantics.specs.Program.{CodeBlock, first_of, instr_at}
use Rattle.semantics.specs.Rule.{token, signal}
use Rattle.semantics.specs.Machine.{Events}
use Rattle.semantics.specs.declared.program.Mark.TheVariants.{Unmarked, OfCond}
use Rattle.semantics.specs.Plan.{Plan, mark_at, landing}
use Rattle.semantics.specs.Sharing.{inlet, arc, arcs_in}
use Rattle.semantics.specs.Placed.{placed}
use Rattle.semantics.specs.Handed.{handed_by}
use Rattle.semantics.specs.Orderly.{is_entry, same_block, often}
use Rattle.semantics.specs.Renamed.{re_token}
use Rattle.semantics.specs.Unfolded.{use_of}
use Rattle.semantics.specs.Cause.{request_count, credit_count, coded_blocks, loop_bounds, open_bounds}
use Rattle.semantics.specs.Faithful.{largest}
use Rattle.semantics.proofs.Interpreter.{one, two, root, block, flow}
use Rattle.semantics.proofs.Emulator.{instr, left, right, none}

-- Block 0 is plain, and block 1 the loop variant of a block with two inputs. Block 0 has a link to it, whose landing is two
-- values, give, take and drain.
abbrev main : CodeBlock
main = record {
  inputs = 1;
  outputs = 1;
  slots = 3;
  instrs = instr Copy 0 (left 2) none ∷ instr Copy 0 (left 1) (right 7) ∷ instr (Link 1) 0 (left 1) (right 7) ∷ instr Copy 0 none none ∷ instr Copy 0 none none
      ∷ instr (Give 2) 0 (left 3) none ∷ instr (Take 2) 0 none none ∷ instr (Drain 2) 0 (left 1) none ∷ instr Sync 1 none none ∷ instr Sync 2 none none ∷ [];
}

abbrev variant : CodeBlock
variant = record {
  inputs = 2;
  outputs = 3;
  slots = 2;
  instrs = instr Copy 0 none none ∷ instr Copy 0 none none ∷ instr Copy 0 none none
      ∷ instr Switch 0 none none ∷ instr (Release 2) 1 none none ∷ [];
}

abbrev plan : Plan
plan = record {
  program = record { blocks = main ∷ variant ∷ []; arrays = []; main = 0 };
  plain = 1;
  marks = [] ∷ (Unmarked ∷ Unmarked ∷ Unmarked ∷ OfCond 4 ∷ Unmarked ∷ []) ∷ [];
}

-- the landing of a plain block of one output is that output and the done signal
landing_of_plain : landing plan 0 ≡ 2
landing_of_plain = refl

-- that of a loop variant of two values is both values, give, take and drain
landing_of_variant : landing plan 1 ≡ 5
landing_of_variant = refl

-- the switch of the variant takes a conditional's predicate
mark : mark_at plan 1 3 ≡ OfCond 4
mark = refl

-- a sync has no mark
no_mark : mark_at plan 0 8 ≡ Unmarked
no_mark = refl

-- a link has an arc to each instruction of its landing, and by its second destination
arcs : arcs_in plan (Some main)
    ≡ arc 0 false (inlet 2 Left) ∷ arc 1 false (inlet 2 Left) ∷ arc 1 true (inlet 8 Right)
    ∷ arc 2 false (inlet 3 Left) ∷ arc 2 false (inlet 4 Left) ∷ arc 2 false (inlet 5 Left) ∷ arc 2 false (inlet 6 Left) ∷ arc 2 false (inlet 7 Left)
    ∷ arc 2 true (inlet 9 Right)
    ∷ arc 5 false (inlet 8 Left) ∷ arc 7 false (inlet 8 Left) ∷ []
arcs = refl

-- NUMBERS count through all blocks
first_of_variant : first_of plan.program 1 ≡ 10
first_of_variant = refl

-- the last instruction of the second block
last_of_variant : instr_at plan.program 14 ≡ Some (instr (Release 2) 1 none none)
last_of_variant = refl

-- there is no instruction beyond it
beyond : instr_at plan.program 15 ≡ None
beyond = refl

-- a block's first instruction and those of its inputs are its entries
entry : is_entry plan.program.blocks 12 ≡ true
entry = refl

-- the switch after the entries is none
no_entry : is_entry plan.program.blocks 13 ≡ false
no_entry = refl

-- both numbers are of the second block
in_one_block : same_block plan.program.blocks 10 14 ≡ true
in_one_block = refl

-- the last number of the first block and the first of the second
in_two_blocks : same_block plan.program.blocks 9 10 ≡ false
in_two_blocks = refl

-- a `give` gets a token for each iteration
give_gets_many : often (instr_at plan.program 5) ≡ true
give_gets_many = refl

-- a `drain` gets one
drain_gets_one : often (instr_at plan.program 7) ≡ false
drain_gets_one = refl

-- SLOTS. The second and the third holder of main share slot 4; the block has as many slots as its greatest one needs
abbrev slots : List (List ℕ)
slots = (1 ∷ 4 ∷ 4 ∷ []) ∷ (0 ∷ 0 ∷ []) ∷ []

-- the third holder has slot 4
slot_of_last_join : instr_at (placed plan slots) 9 ≡ Some (instr Sync 4 none none)
slot_of_last_join = refl

-- an instruction that meets no operands has slot 0
slot_of_copy : instr_at (placed plan slots) 3 ≡ Some (instr Copy 0 none none)
slot_of_copy = refl

-- FRAMES. A request that is answered hands a frame out, and so does a release that serves one
handed_at_once : handed_by To.Manager (token (To.Instr 0 7 Left) (Word.Frame 5) ∷ []) ≡ 5 ∷ []
handed_at_once = refl

-- a request that waits hands none out
waiting : handed_by To.Manager [] ≡ []
waiting = refl

-- the frame goes on to the one that waits
handed_on : handed_by (To.Release 5) (token (To.Instr 0 7 Left) (Word.Frame 5) ∷ []) ≡ 5 ∷ []
handed_on = refl

-- a frame that is only passed on is not handed out
copied : handed_by (To.Instr 0 3 Left) (token (To.Instr 0 7 Left) (Word.Frame 5) ∷ []) ≡ []
copied = refl

-- of 8 frames in all, frame 5 after three releases is frame 29 of the unfolded run; its tokens are renamed with it
third_use : use_of 8 (λ g. 3) 5 ≡ 29
third_use = refl

-- the frame of a token and that of its continuation
renamed : re_token (use_of 8 (λ g. 3)) (token (To.Instr 5 40 Right) (Word.Back (Cont.Frame 2 9 Left)))
    ≡ token (To.Instr 29 40 Right) (Word.Back (Cont.Frame 26 9 Left))
renamed = refl

-- COUNTS
abbrev events : Events
events = (0, token To.Manager (Word.Back (Cont.Frame 0 7 Left))) ∷ (0, token (To.Instr 0 6 Left) (Word.Back (Cont.Host 0)))
    ∷ (0, token (To.Instr 0 5 Left) signal) ∷ (1, token (To.Instr 1 10 Left) signal) ∷ []

-- one of these tokens is a request
one_request : request_count events ≡ 1
one_request = refl

-- a `take` seeks a credit, and a `give` does not
one_credit : credit_count plan.program events ≡ 1
one_credit = refl

-- the larger block has 10 instructions
largest_block : largest plan.program.blocks ≡ 10
largest_block = refl

-- A graph's code blocks are its blocks, and then those that a loop names. Main has two loops over block 0
abbrev looping : Flow
looping = flow 1 [] (block 1 2 [] (two 0 0) ∷ block 1 1 (root (Loop 0 7) (one 0) ∷ root (Loop 0 3) (one 1) ∷ []) (one 2) ∷ []) 1

-- block 0 is there twice: plain, and as a loop variant
code_blocks : coded_blocks looping ≡ block 1 2 [] (two 0 0) ∷ block 1 1 (root (Loop 0 7) (one 0) ∷ root (Loop 0 3) (one 1) ∷ []) (one 2)
    ∷ block 1 2 [] (two 0 0) ∷ []
code_blocks = refl

-- main's loops have the bounds 7 and 3
bounds_of_main : loop_bounds (block 1 1 (root (Loop 0 7) (one 0) ∷ root (Loop 0 3) (one 1) ∷ []) (one 2)) ≡ 7 ∷ 3 ∷ []
bounds_of_main = refl

-- the code opens them in any order
bounds_opened : open_bounds record {
  inputs = 1;
  outputs = 1;
  slots = 2;
  instrs = instr (Open 3) 0 none none ∷ instr Copy 0 none none
      ∷ instr (Open 7) 1 none none ∷ [];
} ≡ 3 ∷ 7 ∷ []
bounds_opened = refl
