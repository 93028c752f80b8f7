-- The numbers of lawful code leave room for sums.
use Rattle.std.proofs.Common.{◌≡◌, ℕ, zero, suc, ◌+◌, ◌-◌, ◌*◌, ◌^◌, ◌<◌, ◌≤◌, Bool, true, false, nat_lt, if◌then◌else◌, List, [], ◌∷◌, length, map}
use Rattle.std.proofs.Common.{take, sum, Option, Some, None, refl, arith, All}
use Rattle.std.specs.Prelude.{slice_get, slice_index_or, IfSome, option_to_list}
use Rattle.std.proofs.lemmas.Bool.{ltb-true}
use Rattle.std.proofs.lemmas.List.Elements.{All-head, All-tail}
use Rattle.std.proofs.lemmas.List.Sums.{sum_by-cons, sum_by-take-le}
use Rattle.semantics.specs.declared.program.Dest.{Dest}
use Rattle.semantics.specs.declared.program.Op.{Op}
use Rattle.semantics.specs.declared.program.Op.TheVariants.{Apply1, Apply2, Apply2Right, Apply2Left, Lit, Copy, Sync, Switch, Fetch, Store, Frame}
use Rattle.semantics.specs.declared.program.Op.TheVariants.{Link, Send, Return, Ask, Open, Take, Give, Drain, Release}
use Rattle.semantics.specs.Program.{Instr, CodeBlock, Code, first_of, instr_from, instr_at}
use Rattle.semantics.specs.Rule.{slot_of, array_base, array_len}
use Rattle.semantics.specs.Bytes.{IsCode, IsCodeBlock, IsInstr, IsSlot, IsDest}
use Rattle.element.specs.Short.{ShortInstr}
use Rattle.element.specs.Decoded.{instr_of, dest_in, IsShort}
use Rattle.loaded.specs.Ready.{widest}

-- an instruction in its block
pub record Found (v : ℕ) (c : Code) (bs : List CodeBlock) (ip : ℕ) (i : Instr) : Type 0 where
  pub block : CodeBlock
  pub place : ℕ
  pub lawful : IsCodeBlock v c block
  pub here : slice_get block.instrs place ≡ Some i
  pub slots : block.slots ≤ widest bs
  pub below : ip < 32768 * length bs

pub found : (v : ℕ) (c : Code) (bs : List CodeBlock) (ip : ℕ) (i : Instr) → All (IsCodeBlock v c) bs → instr_from bs ip ≡ Some i → Found v c bs ip i
found v c [] ip i all h = cc
found v c (b ∷ bs) ip i all h = by (nat_lt ip (length b.instrs)) refl h (found v c bs (ip - length b.instrs) i (All-tail (IsCodeBlock v c) b bs all))
  where
    by : (t : Bool) → nat_lt ip (length b.instrs) ≡ t → (if t then slice_get b.instrs ip else instr_from bs (ip - length b.instrs)) ≡ Some i
        → (instr_from bs (ip - length b.instrs) ≡ Some i → Found v c bs (ip - length b.instrs) i) → Found v c (b ∷ bs) ip i
    by true e g later =
        let head : IsCodeBlock v c b = All-head (IsCodeBlock v c) b bs all in
        let size = head.size.1 in
        let low = ltb-true _ _ e in
        record { block = b; place = ip; lawful = head; here = g; slots = omega arith; below = omega arith }
    by false e g later =
        let head : IsCodeBlock v c b = All-head (IsCodeBlock v c) b bs all in
        let size = head.size.1 in
        let rest = later g in
        let below = rest.below in
        let slots = rest.slots in
        record { block = rest.block; place = rest.place; lawful = rest.lawful; here = rest.here; slots = omega arith; below = omega arith }

pub low_slot : (c : CodeBlock) (i : Instr) (op : Op) (width : ℕ) → IsSlot c i (slot_of i op) → c.slots ≤ width → 1 ≤ width → i.slot < width
low_slot c i (Apply1 op) width h few some = omega (arith, h, few, some)
low_slot c i (Apply2 op) width h few some = omega (arith, h, few, some)
low_slot c i (Apply2Right op z) width h few some = omega (arith, h, few, some)
low_slot c i (Apply2Left op z) width h few some = omega (arith, h, few, some)
low_slot c i (Lit z) width h few some = omega (arith, h, few, some)
low_slot c i Copy width h few some = omega (arith, h, few, some)
low_slot c i Sync width h few some = omega (arith, h, few, some)
low_slot c i Switch width h few some = omega (arith, h, few, some)
low_slot c i (Fetch a) width h few some = omega (arith, h, few, some)
low_slot c i (Store a) width h few some = omega (arith, h, few, some)
low_slot c i Frame width h few some = omega (arith, h, few, some)
low_slot c i (Link b) width h few some = omega (arith, h, few, some)
low_slot c i (Send b e) width h few some = omega (arith, h, few, some)
low_slot c i (Return o) width h few some = omega (arith, h, few, some)
low_slot c i (Ask o) width h few some = omega (arith, h, few, some)
low_slot c i (Open k) width h few some = omega (arith, h, few, some)
low_slot c i (Take k) width h few some = omega (arith, h, few, some)
low_slot c i (Give k) width h few some = omega (arith, h, few, some)
low_slot c i (Drain k) width h few some = omega (arith, h, few, some)
low_slot c i (Release o) width h few some = omega (arith, h, few, some)

pub some_width : (bs : List CodeBlock) → 1 ≤ widest bs
some_width [] = omega arith
some_width (b ∷ bs) = let rest = some_width bs in omega arith

near_dest : (b : CodeBlock) (n : ℕ) (o : Option Dest) → length b.instrs ≤ 32768 → All (IsDest b n) (option_to_list o)
    → IfSome o (λ (d : Dest). d.ahead < 2 ^ 30)
near_dest b n None size all = tt
near_dest b n (Some d) size all = let is : IsDest b n d = All-head (IsDest b n) d [] all in let inside = is.inside in omega arith

pub short : (v : ℕ) (c : Code) (ip : ℕ) (i : ShortInstr) → IsCode v c → instr_at c.program ip ≡ Some (instr_of i) → IsShort (widest c.program.blocks) ip i
short v c ip i code h =
    let f = found v c c.program.blocks ip (instr_of i) code.blocks h in
    let is : IsInstr v c f.block f.place (instr_of i) = f.lawful.instrs f.place (instr_of i) f.here in
    let size = f.lawful.size.1 in
    let below = f.below in
    let few = code.some_block.1 in
    record {
      near = omega arith;
      slot = low_slot f.block (instr_of i) i.op (widest c.program.blocks) is.slot f.slots (some_width c.program.blocks);
      first = near_dest f.block f.place (dest_in i.first) size is.firsts;
      second = near_dest f.block f.place (dest_in i.second) size is.seconds;
    }

few_from : (v : ℕ) (c : Code) (bs : List CodeBlock) (k : ℕ) → All (IsCodeBlock v c) bs → sum (map (λ (x : CodeBlock). length x.instrs) (take k bs)) ≤
    32768 * length bs
few_from v c [] zero all = omega arith
few_from v c [] (suc k) all = omega arith
few_from v c (b ∷ bs) zero all = omega arith
few_from v c (b ∷ bs) (suc k) all =
    let head : IsCodeBlock v c b = All-head (IsCodeBlock v c) b bs all in
    let size = head.size.1 in
    let rest = few_from v c bs k (All-tail (IsCodeBlock v c) b bs all) in
    let more = sum_by-cons (λ x. x) (length b.instrs) (map (λ (x : CodeBlock). length x.instrs) (take k bs)) in
    omega arith

-- the number of a block's first instruction
pub few_before : (v : ℕ) (c : Code) (k : ℕ) → IsCode v c → first_of c.program k < 2 ^ 30
few_before v c k code =
    let few = few_from v c c.program.blocks k code.blocks in
    let blocks = code.some_block.1 in
    omega arith

-- the cells of an array
pub few_cells : (v : ℕ) (c : Code) (a : ℕ) → IsCode v c → array_base c.program a + array_len c.program a ≤ 65536
few_cells v c a code =
    let within = from c.program.arrays a in
    let cells = code.cells in
    omega arith
  where
    from : (ns : List ℕ) (k : ℕ) → sum (take k ns) + slice_index_or ns k 0 ≤ sum ns
    from [] zero = omega arith
    from [] (suc k) = omega arith
    from (n ∷ ns) zero = let all = sum_by-cons (λ x. x) n ns in omega arith
    from (n ∷ ns) (suc k) =
        let rest = from ns k in
        let all = sum_by-cons (λ x. x) n ns in
        let part = sum_by-cons (λ x. x) n (take k ns) in
        omega arith

-- the cells of the first arrays
pub few_so_far : (v : ℕ) (c : Code) (k : ℕ) → IsCode v c → sum (take k c.program.arrays) ≤ 65536
few_so_far v c k code =
    let part = sum_by-take-le (λ x. x) c.program.arrays k in
    let cells = code.cells in
    omega arith
