-- What lawful code has of inputs, outputs and slots.
use Rattle.std.proofs.Common.{ℕ, zero, suc, ◌<◌, ◌≤◌, List, [], ◌∷◌, arith, All}
use Rattle.std.specs.Prelude.{slice_get}
use Rattle.std.proofs.lemmas.List.Elements.{All-head, All-tail}
use Rattle.semantics.specs.Program.{CodeBlock, Code}
use Rattle.semantics.specs.Machine.{results_in, outputs_of}
use Rattle.semantics.specs.Bytes.{IsCode, IsCodeBlock, IsInstr}
use Rattle.schedule.specs.Setting.{inputs_in, inputs_of, FitsSlots}
use Rattle.loaded.specs.Ready.{widest}
use Rattle.loaded.proofs.Short.{found, low_slot, some_width}

inputs_at : (v : ℕ) (c : Code) (bs : List CodeBlock) (i : ℕ) → All (IsCodeBlock v c) bs → inputs_in (slice_get bs i) ≤ 16
inputs_at v c [] i all = omega arith
inputs_at v c (b ∷ bs) zero all = let head : IsCodeBlock v c b = All-head (IsCodeBlock v c) b bs all in let few = head.inputs.1 in omega arith
inputs_at v c (b ∷ bs) (suc i) all = inputs_at v c bs i (All-tail (IsCodeBlock v c) b bs all)

outputs_at : (v : ℕ) (c : Code) (bs : List CodeBlock) (i : ℕ) → All (IsCodeBlock v c) bs → results_in (slice_get bs i) ≤ 16
outputs_at v c [] i all = omega arith
outputs_at v c (b ∷ bs) zero all = let head : IsCodeBlock v c b = All-head (IsCodeBlock v c) b bs all in let few = head.outputs.1 in omega arith
outputs_at v c (b ∷ bs) (suc i) all = outputs_at v c bs i (All-tail (IsCodeBlock v c) b bs all)

pub few_inputs : (v : ℕ) (c : Code) → IsCode v c → inputs_of c.program ≤ 16
few_inputs v c code = inputs_at v c c.program.blocks c.program.main code.blocks

pub few_outputs : (v : ℕ) (c : Code) → IsCode v c → outputs_of c.program ≤ 16
few_outputs v c code = outputs_at v c c.program.blocks c.program.main code.blocks

slots_in : (v : ℕ) (c : Code) (bs : List CodeBlock) → All (IsCodeBlock v c) bs → widest bs ≤ 512
slots_in v c [] all = omega arith
slots_in v c (b ∷ bs) all =
    let head : IsCodeBlock v c b = All-head (IsCodeBlock v c) b bs all in
    let few = head.slots in
    let rest = slots_in v c bs (All-tail (IsCodeBlock v c) b bs all) in
    omega arith

pub few_slots : (v : ℕ) (c : Code) → IsCode v c → widest c.program.blocks ≤ 512
few_slots v c code = slots_in v c c.program.blocks code.blocks

pub some_slots : (c : Code) → 0 < widest c.program.blocks
some_slots c = let some = some_width c.program.blocks in omega arith

pub slots_fit : (v : ℕ) (c : Code) → IsCode v c → FitsSlots c.program (widest c.program.blocks)
slots_fit v c code ip i h =
    let f = found v c c.program.blocks ip i code.blocks h in
    let is : IsInstr v c f.block f.place i = f.lawful.instrs f.place i f.here in
    low_slot f.block i i.op (widest c.program.blocks) is.slot f.slots (some_width c.program.blocks)
