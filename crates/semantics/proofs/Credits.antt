-- Worked examples of the machine: the credits of a loop with bound 2, from its opening to its end.
use Rattle.std.proofs.Common.{◌≡◌, refl, ℕ, pos, [], ◌∷◌, Some, None}
use Rattle.std.specs.Prelude.{◌-◌}
use Rattle.tags.specs.declared.token.Port.TheVariants.{Left, Right}
use Rattle.tags.specs.declared.token.Cont.{Cont}
use Rattle.tags.specs.declared.token.Word.{Word}
use Rattle.tags.specs.declared.token.To.{To}
use Rattle.tags.specs.declared.slot.SlotState.{SlotState}
use Rattle.tags.specs.declared.slot.SlotState.TheVariants.{Empty, Credits, Waiter, Draining}
use Rattle.semantics.specs.declared.program.Op.{Op}
use Rattle.semantics.specs.declared.program.Op.TheVariants.{Copy, Open, Take, Give, Drain, Release}
use Rattle.semantics.specs.Program.{Program}
use Rattle.semantics.specs.Plan.{Plan}
use Rattle.semantics.specs.Rule.{token, signal, Outcome, Becomes, rule_at}
use Rattle.semantics.specs.Machine.{Store, with_slot, at_start}
use Rattle.semantics.specs.Holders.{Holder, holder_at, held_after}
use Rattle.semantics.specs.Credits.{granted_at, released_at}
use Rattle.semantics.proofs.Emulator.{instr, left, none, one_block}

-- a loop whose parts are at numbers 0 to 3, a release at 4, and a copy at 5
abbrev code : Program
code = one_block 1 1 2 (instr (Open 2) 0 (left 5) none ∷ instr (Take 2) 0 none none ∷ instr (Give 2) 0 (left 3) none ∷ instr (Drain 2) 0 (left 2) none
    ∷ instr (Release 1) 1 none none ∷ instr Copy 0 none none ∷ [])

-- in frame 3
abbrev at_number : ℕ → Op → SlotState → Word → Outcome
at_number ip op slot w = rule_at code record { frame = 3; ip = ip } (Some (instr op 0 (left (5 - ip)) none)) slot Left w

-- where an iteration waits
abbrev back : Cont
back = Cont.Frame 7 40 Right

abbrev signals_end : SlotState → Outcome
signals_end slot = Becomes slot (token (To.Instr 3 5 Left) signal ∷ [])

-- the loop opens with the first iteration's credit granted, and signals
opens : (w : Word) → at_number 0 (Open 2) Empty w ≡ signals_end (Credits 1)
opens w = refl

-- a credit is taken: the asker gets a signal, at its own port
takes : at_number 1 (Take 2) (Credits 1) (Word.Back back) ≡ Becomes (Credits 0) (token (To.Instr 7 40 Right) signal ∷ [])
takes = refl

-- no credit is left, and the asker waits
waits : at_number 1 (Take 2) (Credits 0) (Word.Back back) ≡ Becomes (Waiter back) []
waits = refl

-- a credit that is given back goes to the one that waits
gives_to_waiter : (w : Word) → at_number 2 (Give 2) (Waiter back) w ≡ Becomes (Credits 0) (token (To.Instr 7 40 Right) signal ∷ [])
gives_to_waiter w = refl

-- and else stays in the slot, up to the bound
gives : (w : Word) → at_number 2 (Give 2) (Credits 1) w ≡ Becomes (Credits 2) []
gives w = refl

-- the loop ends when all credits are back
drains_at_once : (w : Word) → at_number 3 (Drain 2) (Credits 2) w ≡ signals_end Empty
drains_at_once w = refl

-- or it waits for those that are out
drains : (w : Word) → at_number 3 (Drain 2) (Credits 0) w ≡ Becomes (Draining 2) []
drains w = refl

-- one of two that are out is given back
gives_while_draining : (w : Word) → at_number 2 (Give 2) (Draining 2) w ≡ Becomes (Draining 1) []
gives_while_draining w = refl

-- the last one ends the loop
gives_last : (w : Word) → at_number 2 (Give 2) (Draining 1) w ≡ signals_end Empty
gives_last w = refl

-- COUNTING. The loop is holder 0 of block 0 in this plan, and its slot in the code is as in the plan
abbrev plan : Plan
plan = record { program = code; plain = 1; marks = [] }

abbrev loop : Holder
loop = record { block = 0; number = 0 }

abbrev holding : SlotState → Store
holding v = with_slot (at_start code (pos 4 ∷ [])).store 3 0 v

-- a `give` belongs to the loop
holder_of_give : holder_at plan 2 ≡ Some loop
holder_of_give = refl

-- a copy uses no slot
no_holder_of_copy : holder_at plan 5 ≡ None
no_holder_of_copy = refl

-- `open` grants one credit, a `take` one where it need not wait, and a `give` one where it ends a wait
open_grants : granted_at plan code 3 loop (holding Empty) (To.Instr 3 0 Left) ≡ 1
open_grants = refl

-- a credit is there
take_grants : granted_at plan code 3 loop (holding (Credits 1)) (To.Instr 3 1 Left) ≡ 1
take_grants = refl

-- none is there
waiting_take_grants_none : granted_at plan code 3 loop (holding (Credits 0)) (To.Instr 3 1 Left) ≡ 0
waiting_take_grants_none = refl

-- an iteration waits
give_to_waiter_grants : granted_at plan code 3 loop (holding (Waiter back)) (To.Instr 3 2 Left) ≡ 1
give_to_waiter_grants = refl

-- none waits
give_grants_none : granted_at plan code 3 loop (holding (Credits 1)) (To.Instr 3 2 Left) ≡ 0
give_grants_none = refl

-- what happens in another frame is not counted
other_frame_grants_none : granted_at plan code 2 loop (holding (Credits 1)) (To.Instr 3 1 Left) ≡ 0
other_frame_grants_none = refl

-- an iteration in frame 8, whose continuation is the landing from number 1 of frame 3 on, is released: with the offset 1 it
-- gives the credit back
iteration_released : (w : Word) → released_at code 3 1 (To.Instr 8 4 Right) (token (To.Release 8) signal ∷ token (To.Instr 3 2 Left) signal ∷ []) ≡ 1
iteration_released w = refl

-- a `release` that only waits for its other word has made no token
release_waits : released_at code 3 1 (To.Instr 8 4 Left) [] ≡ 0
release_waits = refl

-- nor is one counted whose continuation is another one
other_released : released_at code 3 1 (To.Instr 8 4 Right) (token (To.Release 8) signal ∷ token (To.Host 1) signal ∷ []) ≡ 0
other_released = refl

-- HOLDING. A slot is held by the holder that filled it, until it is empty again
filled : held_after None (Some loop) (Credits 1) ≡ Some loop
filled = refl

-- an event of another holder would not change who holds it
still_held : held_after (Some loop) (Some record { block = 0; number = 1 }) (Credits 0) ≡ Some loop
still_held = refl

-- the slot is empty again
emptied : held_after (Some loop) (Some loop) Empty ≡ None
emptied = refl
