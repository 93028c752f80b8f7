-- The bytes of lawful code pass each check.
use Rattle.std.proofs.Common.{◌≡◌, ℕ, zero, suc, ◌+◌, ◌-◌, ◌*◌, ◌/◌, ◌%◌, ◌^◌, ◌<◌, ◌≤◌, Bool, true, false, ◌&&◌, ◌||◌, ◌==◌, nat_lt, nat_le}
use Rattle.std.proofs.Common.{if◌then◌else◌, List, [], ◌∷◌, length, Option, Some, None, Ok, Err, ℤ, ◌⊎◌, inl, inr, refl, sym, ap, ◌∙◌, arith, sum}
use Rattle.std.specs.Prelude.{slice_get, All, Contains, int_lt, sum_by, is_some, is_none}
use Rattle.std.proofs.lemmas.Bool.{and_from, or_right, or_left, lt-ltb, le-leb, le-ltb, eq-eqb}
use Rattle.std.proofs.lemmas.Option.{slice_get_within}
use Rattle.std.proofs.lemmas.List.Sums.{sum-map}
use Rattle.lemmas.proofs.Alls.{all_at}
use Rattle.lemmas.proofs.SliceGet.{get_some}
use Rattle.tags.specs.declared.token.Port.{Port}
use Rattle.tags.specs.declared.token.Port.TheVariants.{Left, Right}
use Rattle.operators.specs.declared.Unary.TheVariants.{Neg, Not}
use Rattle.semantics.specs.declared.program.Dest.{Dest}
use Rattle.semantics.specs.declared.program.Op.{Op}
use Rattle.semantics.specs.declared.program.Op.TheVariants.{Apply1, Apply2, Apply2Right, Apply2Left, Lit, Copy, Sync, Switch, Fetch, Store, Frame}
use Rattle.semantics.specs.declared.program.Op.TheVariants.{Link, Send, Return, Ask, Open, Take, Give, Drain, Release}
use Rattle.semantics.specs.Program.{Instr, CodeBlock, Code}
use Rattle.semantics.specs.Rule.{slot_of}
use Rattle.semantics.specs.Bytes as Bytes
use Rattle.semantics.specs.Plan as Plan
use Rattle.semantics.specs.Opcodes as Opcodes
use Rattle.semantics.specs.Bytes.{number_from, head_of, dest_word, port_bit, origin_code, block_word, words_of, bytes_of, HasOperand, HasDests}
use Rattle.semantics.specs.Bytes.{IsOrigin, IsSlot, IsDest, IsInstr, IsCodeBlock, IsCode, IsObject}
use Rattle.object_view.specs.declared.fault.ObjectFault.{ObjectFault}
use Rattle.object_view.specs.declared.fault.ObjectFault.TheVariants.{Truncated, Trailing, BadMagic, BadVersion, BadTable, BadOpcode, BadDestination}
use Rattle.object_view.specs.declared.fault.ObjectFault.TheVariants.{BadSlot, BadLiteral}
use Rattle.semantics.specs.declared.version.Version.{Version}
use Rattle.semantics.specs.declared.version.Version.TheVariants.{One, Two}
use Rattle.object_view.specs.Fields.{word_at, count_in, inputs_in, outputs_in, slots_in, opcode_in, slot_in, dest_of, first_half, second_half}
use Rattle.object_view.specs.Fields.{operand_in, origin_number}
use Rattle.semantics.specs.Opcodes.{makes_faults, may_have, may_go_to, takes_two}
use Rattle.object_view.specs.Reading.{tabulated, version_in, instrs_below, instr_place, literal_in, array_in, word_count}
use Rattle.object_view.specs.Checks.{Checked, first_then, unless, each, MAGIC, counts_fit, header_checked, entry_fits, entry_checked}
use Rattle.object_view.specs.Checks.{length_checked, tables_checked, cells_below, array_checked, arrays_checked, literal_checked, literals_checked}
use Rattle.object_view.specs.Checks.{operand_fits, slot_fits, may_take_right, dest_fits, dests_fit, target_fits, number_checked, opcode_checked}
use Rattle.object_view.specs.Checks.{instr_checked_as, instr_checked, block_checked, opening_checked, content_checked, first_refusal}
use Rattle.object_view.proofs.Each.{passed_first}
use Rattle.object_view.proofs.Facts.{checked_all, none_refused}
use Rattle.object_view.proofs.Lawful.{cells_taken, map_same}
use Rattle.object_view.proofs.BackWords.{length_words}
use Rattle.semantics.specs.Opcodes.{opcode_for}
use Rattle.object_view.proofs.BackInstr.{HasHalf, word_one, word_two, opcode_parsed, second_parsed, operand_few, half_few, opcode_few, flag_few}
use Rattle.object_view.proofs.BackInstr.{first_parts, dest_back, not_zero}
use Rattle.object_view.proofs.BackLists.{IsRead, origin_few, block_there, place_there, entry_back}
use Rattle.object_view.proofs.Back.{number_there, literal_back, looked, object_read, all_tabulated_back}

-- CHECKS
passes : (b : Bool) (e : ObjectFault) → b ≡ true → unless b e ≡ Ok tt
passes b e h = ap (λ (t : Bool). unless t e) h

both_pass : (check next : Checked) → check ≡ Ok tt → next ≡ Ok tt → first_then check next ≡ Ok tt
both_pass check next p q = passed_first check next p ∙ q

each_passes : (check : ℕ → Checked) (i n : ℕ) → ((k : ℕ) → k < n → check (i + k) ≡ Ok tt) → each check i n ≡ Ok tt
each_passes check i zero h = refl
each_passes check i (suc n) h =
    let z : i ≡ i + 0 = omega arith in
    both_pass (check i) (each check (i + 1) n) (ap check z ∙ h 0 (omega arith))
    (each_passes check (i + 1) n (λ k lt. let e : i + 1 + k ≡ i + suc k = omega arith in ap check e ∙ h (suc k) (omega (arith, lt))))

from_zero : (check : ℕ → Checked) (n : ℕ) → ((k : ℕ) → k < n → check k ≡ Ok tt) → each check 0 n ≡ Ok tt
from_zero check n h = each_passes check 0 n (λ k lt. let z : 0 + k ≡ k = omega arith in ap check z ∙ h k lt)

-- OPERANDS
has_passes : (c : Code) (op : Op) → HasOperand c op → may_have (opcode_for op) (head_of c.literals op).operand ≡ true
has_passes c (Apply1 Neg) h = refl
has_passes c (Apply1 Not) h = refl
has_passes c (Apply2 op) h = refl
has_passes c (Apply2Right op z) h = refl
has_passes c (Apply2Left op z) h = refl
has_passes c (Lit z) h = refl
has_passes c Copy h = refl
has_passes c Sync h = refl
has_passes c Switch h = refl
has_passes c (Fetch a) h = refl
has_passes c (Store a) h = refl
has_passes c Frame h = refl
has_passes c (Link b) h = refl
has_passes c (Send b e) h = refl
has_passes c (Return o) h = refl
has_passes c (Ask o) h = refl
has_passes c (Open k) h = and_from (nat_le 2 k) (nat_le k 64) (le-leb 2 k h.0) (le-leb k 64 h.1)
has_passes c (Take k) h = and_from (nat_le 2 k) (nat_le k 64) (le-leb 2 k h.0) (le-leb k 64 h.1)
has_passes c (Give k) h = and_from (nat_le 2 k) (nat_le k 64) (le-leb 2 k h.0) (le-leb k 64 h.1)
has_passes c (Drain k) h = and_from (nat_le 2 k) (nat_le k 64) (le-leb 2 k h.0) (le-leb k 64 h.1)
has_passes c (Release o) h = refl

operand_passes : (version : Version) (op : Op) (k n : ℕ) → k < 2 ^ 32 → n ≤ 262144 → may_have (opcode_for op) k ≡ true
    → operand_in version (opcode_for op) (k + 2 ^ 32 * n) ≡ k → operand_fits version (opcode_for op) (k + 2 ^ 32 * n) ≡ true
operand_passes One op k n few small h e = ap (may_have (opcode_for op)) e ∙ h
operand_passes Two op k n few small h e =
    let o = opcode_for op in
    let y = k + 2 ^ 32 * n in
    let number : origin_number Two o y ≤ 262144 = go (makes_faults o) in
    and_from (nat_le (origin_number Two o y) 262144 && nat_lt (operand_in Two o y) (2 ^ 32)) (may_have o (operand_in Two o y))
    (and_from (nat_le (origin_number Two o y) 262144) (nat_lt (operand_in Two o y) (2 ^ 32)) (le-leb _ _ number) (lt-ltb _ _ (omega (arith, e, few))))
    (ap (may_have o) e ∙ h)
  where
    go : (t : Bool) → (if t then (k + 2 ^ 32 * n) / 2 ^ 32 else 0) ≤ 262144
    go true = omega (arith, few, small)
    go false = omega arith

target_passes : (w : ℕ → ℕ) (v : ℕ) (c : Code) (j : ℕ) → IsCode v c → IsRead v c w j → (op : Op) → HasOperand c op
    → target_fits w (opcode_for op) (head_of c.literals op).operand ≡ true
target_passes w v c j is r (Apply1 Neg) h = refl
target_passes w v c j is r (Apply1 Not) h = refl
target_passes w v c j is r (Apply2 op) h = refl
target_passes w v c j is r (Apply2Right op z) h = refl
target_passes w v c j is r (Apply2Left op z) h = refl
target_passes w v c j is r (Lit z) h = refl
target_passes w v c j is r Copy h = refl
target_passes w v c j is r Sync h = refl
target_passes w v c j is r Switch h = refl
target_passes w v c j is r (Fetch a) h = refl
target_passes w v c j is r (Store a) h = refl
target_passes w v c j is r Frame h = refl
target_passes w v c j is r (Link b) h = lt-ltb b (w 2) (omega (arith, h, r.blocks))
target_passes w v c j is r (Send b e) h =
    let x = h.0 in
    let ok = block_there v c b x is h.1 in
    let parts = entry_back v c x ok in
    let lt = slice_get_within c.program.blocks b x h.1 in
    let high : (e + 2 ^ 16 * b) / 2 ^ 16 ≡ b = omega (arith, h.2, ok.inputs.1) in
    let low : (e + 2 ^ 16 * b) % 2 ^ 16 ≡ e = omega (arith, h.2, ok.inputs.1) in
    let inputs : inputs_in (w (6 + b)) ≡ x.inputs = ap inputs_in (r.entry b x h.1) ∙ parts.inputs in
    let at : inputs_in (w (6 + (e + 2 ^ 16 * b) / 2 ^ 16)) ≡ x.inputs = ap (λ (m : ℕ). inputs_in (w (6 + m))) high ∙ inputs in
    and_from (nat_lt ((e + 2 ^ 16 * b) / 2 ^ 16) (w 2)) (nat_le ((e + 2 ^ 16 * b) % 2 ^ 16) (inputs_in (w (6 + (e + 2 ^ 16 * b) / 2 ^ 16))))
    (lt-ltb _ _ (omega (arith, high, lt, r.blocks))) (le-leb _ _ (omega (arith, low, at, h.2)))
target_passes w v c j is r (Return o) h = le-leb o 255 h
target_passes w v c j is r (Ask o) h = le-leb o 255 h
target_passes w v c j is r (Open k) h = refl
target_passes w v c j is r (Take k) h = refl
target_passes w v c j is r (Give k) h = refl
target_passes w v c j is r (Drain k) h = refl
target_passes w v c j is r (Release o) h = le-leb o 255 h

literal_passes : (w : ℕ → ℕ) (v : ℕ) (c : Code) (j : ℕ) → IsCode v c → IsRead v c w j → (z : ℤ) → Contains c.literals z
    → unless (nat_lt (number_from 0 z c.literals) (w 3)) BadLiteral ≡ Ok tt
literal_passes w v c j is r z h =
    let num = number_there z c.literals h.0 (record { steps = is.ascend }) h.1 h.2 in
    passes (nat_lt (number_from 0 z c.literals) (w 3)) BadLiteral (lt-ltb _ _ (omega (arith, num, h.1, r.literals)))

number_passes : (w : ℕ → ℕ) (v : ℕ) (c : Code) (j : ℕ) → IsCode v c → IsRead v c w j → (op : Op) → HasOperand c op
    → number_checked w (opcode_for op) (head_of c.literals op).operand ≡ Ok tt
number_passes w v c j is r (Apply1 Neg) h = refl
number_passes w v c j is r (Apply1 Not) h = refl
number_passes w v c j is r (Apply2 op) h = refl
number_passes w v c j is r (Apply2Right op z) h = literal_passes w v c j is r z h
number_passes w v c j is r (Apply2Left op z) h = literal_passes w v c j is r z h
number_passes w v c j is r (Lit z) h = literal_passes w v c j is r z h
number_passes w v c j is r Copy h = refl
number_passes w v c j is r Sync h = refl
number_passes w v c j is r Switch h = refl
number_passes w v c j is r (Fetch a) h = passes (nat_lt a (w 4)) BadTable (lt-ltb a (w 4) (omega (arith, h, r.arrays)))
number_passes w v c j is r (Store a) h = passes (nat_lt a (w 4)) BadTable (lt-ltb a (w 4) (omega (arith, h, r.arrays)))
number_passes w v c j is r Frame h = refl
number_passes w v c j is r (Link b) h = refl
number_passes w v c j is r (Send b e) h = refl
number_passes w v c j is r (Return o) h = refl
number_passes w v c j is r (Ask o) h = refl
number_passes w v c j is r (Open k) h = refl
number_passes w v c j is r (Take k) h = refl
number_passes w v c j is r (Give k) h = refl
number_passes w v c j is r (Drain k) h = refl
number_passes w v c j is r (Release o) h = refl

-- SLOTS
slot_passes : (x : CodeBlock) (i : Instr) (op : Op) → IsSlot x i (slot_of i op) → slot_fits (opcode_for op) i.slot x.slots ≡ true
slot_passes x i (Apply1 op) h = eq-eqb i.slot 0 h
slot_passes x i (Apply2 op) h = lt-ltb i.slot x.slots h
slot_passes x i (Apply2Right op z) h = eq-eqb i.slot 0 h
slot_passes x i (Apply2Left op z) h = eq-eqb i.slot 0 h
slot_passes x i (Lit z) h = eq-eqb i.slot 0 h
slot_passes x i Copy h = eq-eqb i.slot 0 h
slot_passes x i Sync h = lt-ltb i.slot x.slots h
slot_passes x i Switch h = lt-ltb i.slot x.slots h
slot_passes x i (Fetch a) h = eq-eqb i.slot 0 h
slot_passes x i (Store a) h = lt-ltb i.slot x.slots h
slot_passes x i Frame h = eq-eqb i.slot 0 h
slot_passes x i (Link b) h = eq-eqb i.slot 0 h
slot_passes x i (Send b e) h = lt-ltb i.slot x.slots h
slot_passes x i (Return o) h = lt-ltb i.slot x.slots h
slot_passes x i (Ask o) h = lt-ltb i.slot x.slots h
slot_passes x i (Open k) h = lt-ltb i.slot x.slots h
slot_passes x i (Take k) h = lt-ltb i.slot x.slots h
slot_passes x i (Give k) h = lt-ltb i.slot x.slots h
slot_passes x i (Drain k) h = lt-ltb i.slot x.slots h
slot_passes x i (Release o) h = lt-ltb i.slot x.slots h

-- DESTINATIONS
abbrev lead : List Dest → Option Dest
lead [] = None
lead (d ∷ ds) = Some d

lead_back : (ds : List Dest) → HasHalf ds → dest_of (dest_word ds) ≡ lead ds
lead_back [] h = refl
lead_back (d ∷ ds) h = dest_back d h.0 h.1

one_first : (ds es : List Dest) → length ds ≡ 1 → length es ≡ 0 → (is_some (lead ds) && is_none (lead es)) ≡ true
one_first [] es p q = absurd (omega (arith, p))
one_first (d ∷ ds) [] p q = refl
one_first (d ∷ ds) (e ∷ es) p q = absurd (omega (arith, q))

none_there : (ds es : List Dest) → length ds ≡ 0 → length es ≡ 0 → (is_none (lead ds) && is_none (lead es)) ≡ true
none_there (d ∷ ds) es p q = absurd (omega (arith, p))
none_there [] [] p q = refl
none_there [] (e ∷ es) p q = absurd (omega (arith, q))

no_second : (es : List Dest) → length es ≡ 0 → is_none (lead es) ≡ true
no_second [] q = refl
no_second (e ∷ es) q = absurd (omega (arith, q))

in_turn : (ds es : List Dest) → length es ≤ length ds → (is_some (lead ds) || is_none (lead es)) ≡ true
in_turn [] [] p = refl
in_turn [] (e ∷ es) p = absurd (omega (arith, p))
in_turn (d ∷ ds) es p = refl

landing : (ds es : List Dest) → length ds ≡ 1 → All (λ (d : Dest). d.port ≡ Left) ds → Opcodes.goes_left (lead ds) ≡ true
landing [] es p all = absurd (omega (arith, p))
landing (d ∷ ds) es p all =
    let left : d.port ≡ Left = all 0 d (omega arith) in
    ap Opcodes.is_left left

go_passes : (op : Op) (ds es : List Dest) → HasDests op ds es → may_go_to (opcode_for op) (lead ds) (lead es) ≡ true
go_passes (Apply1 op) ds es h = in_turn ds es h.1
go_passes (Apply2 op) ds es h = in_turn ds es h.1
go_passes (Apply2Right op z) ds es h = in_turn ds es h.1
go_passes (Apply2Left op z) ds es h = in_turn ds es h.1
go_passes (Lit z) ds es h = in_turn ds es h.1
go_passes Copy ds es h = in_turn ds es h.1
go_passes Sync ds es h = in_turn ds es h.1
go_passes Switch ds es h = refl
go_passes (Fetch a) ds es h = one_first ds es h.0 h.1
go_passes (Store a) ds es h = one_first ds es h.0 h.1
go_passes Frame ds es h = one_first ds es h.0 h.1
go_passes (Link b) ds es h = landing ds es h.0 h.1
go_passes (Send b e) ds es h = in_turn ds es h.1
go_passes (Return o) ds es h = in_turn ds es h.1
go_passes (Ask o) ds es h = one_first ds es h.0 h.1
go_passes (Open k) ds es h = in_turn ds es h.1
go_passes (Take k) ds es h = none_there ds es h.0 h.1
go_passes (Give k) ds es h = no_second es h.1
go_passes (Drain k) ds es h = no_second es h.1
go_passes (Release o) ds es h = none_there ds es h.0 h.1

dyadic_named : (i : Instr) (op : Op) → (elim (slot_of i op) as (λ x. Bool) [ None ↦ false | Some r ↦ if Plan.is_credit op then false else true ])
    ≡ true → takes_two (opcode_for op) ≡ true
dyadic_named i (Apply1 op) h = absurd cc
dyadic_named i (Apply2 op) h = refl
dyadic_named i (Apply2Right op z) h = absurd cc
dyadic_named i (Apply2Left op z) h = absurd cc
dyadic_named i (Lit z) h = absurd cc
dyadic_named i Copy h = absurd cc
dyadic_named i Sync h = refl
dyadic_named i Switch h = refl
dyadic_named i (Fetch a) h = absurd cc
dyadic_named i (Store a) h = refl
dyadic_named i Frame h = absurd cc
dyadic_named i (Link b) h = absurd cc
dyadic_named i (Send b e) h = refl
dyadic_named i (Return o) h = refl
dyadic_named i (Ask o) h = refl
dyadic_named i (Open k) h = absurd cc
dyadic_named i (Take k) h = absurd cc
dyadic_named i (Give k) h = absurd cc
dyadic_named i (Drain k) h = absurd cc
dyadic_named i (Release o) h = refl

right_passes : (w : ℕ → ℕ) (v : ℕ) (c : Code) (j k : ℕ) (b : CodeBlock) → IsCode v c → IsRead v c w j → slice_get c.program.blocks k ≡ Some b
    → (m : ℕ) → m < length b.instrs → Bytes.is_dyadic (slice_get b.instrs m) ≡ true
    → may_take_right (opcode_in (w (instr_place w (instrs_below w k + m)))) ≡ true
right_passes w v c j k b is r at m lt dyadic =
    let ok = block_there v c k b is at in
    let e = get_some b.instrs m lt in
    let i = e.0 in
    let parsed = ap opcode_in (r.instr k b at m i e.1).0 ∙ opcode_parsed v c i (place_there v c b m i is ok e.1) in
    ap may_take_right parsed ∙ dyadic_named i i.op (ap Bytes.is_dyadic (sym e.1) ∙ dyadic)

dest_passes : (w : ℕ → ℕ) (v : ℕ) (c : Code) (j k : ℕ) (b : CodeBlock) (n : ℕ) (ds : List Dest) → IsCode v c → IsRead v c w j
    → slice_get c.program.blocks k ≡ Some b → HasHalf ds → All (IsDest b n) ds
    → dest_fits w (instrs_below w k + length b.instrs) (instrs_below w k + n) (dest_word ds) ≡ true
dest_passes w v c j k b n [] is r at half all = refl
dest_passes w v c j k b n (d ∷ ds) is r at half all =
    let one : IsDest b n d = all 0 d (omega arith) in
    ap (λ (t : Bool). if t then h == 0 else inside (h % 2 ^ 15)) (ap (λ (m : ℕ). m == 0) low ∙ not_zero d.ahead half.0)
    ∙ ap inside low
    ∙ and_from (nat_lt (first + n + d.ahead) end) (h / 2 ^ 15 == 0 || may_take_right (opcode_in (w (instr_place w (first + n + d.ahead)))))
    (lt-ltb _ _ (omega (arith, one.inside))) (port d.port refl one)
  where
    h : ℕ
    h = d.ahead + 2 ^ 15 * port_bit d.port

    first : ℕ
    first = instrs_below w k

    end : ℕ
    end = instrs_below w k + length b.instrs

    inside : ℕ → Bool
    inside a = nat_lt (instrs_below w k + n + a) (instrs_below w k + length b.instrs) && ((d.ahead + 2 ^ 15 * port_bit d.port) / 2 ^ 15 == 0
        || may_take_right (opcode_in (w (instr_place w (instrs_below w k + n + a)))))

    low : (d.ahead + 2 ^ 15 * port_bit d.port) % 2 ^ 15 ≡ d.ahead
    low = omega (arith, half.1)

    port : (p : Port) → d.port ≡ p → IsDest b n d → ((d.ahead + 2 ^ 15 * port_bit d.port) / 2 ^ 15 == 0
        || may_take_right (opcode_in (w (instr_place w (instrs_below w k + n + d.ahead))))) ≡ true
    port Left e one =
        let bit : port_bit d.port ≡ 0 = ap port_bit e in
        let zero_bit : (d.ahead + 2 ^ 15 * port_bit d.port) / 2 ^ 15 ≡ 0 = omega (arith, half.1, bit) in
        or_left _ _ (eq-eqb _ _ zero_bit)
    port Right e one =
        let same : instrs_below w k + (n + d.ahead) ≡ instrs_below w k + n + d.ahead = omega arith in
        let right = right_passes w v c j k b is r at (n + d.ahead) one.inside (one.right e) in
        or_right ((d.ahead + 2 ^ 15 * port_bit d.port) / 2 ^ 15 == 0) _ (ap (λ (m : ℕ). may_take_right (opcode_in (w (instr_place w m)))) (sym same) ∙ right)

-- AN INSTRUCTION
instr_passes : (w : ℕ → ℕ) (v : ℕ) (c : Code) (j k : ℕ) (b : CodeBlock) (n : ℕ) (i : Instr) → IsCode v c → IsRead v c w j
    → slice_get c.program.blocks k ≡ Some b → slice_get b.instrs n ≡ Some i
    → opcode_checked w b.slots (instrs_below w k + length b.instrs) (instrs_below w k + n) (opcode_for i.op) (word_one c i) (word_two c i) ≡ Ok tt
instr_passes w v c j k b n i is r at there =
    let ok = block_there v c k b is at in
    let it : IsInstr v c b n i = ok.instrs n i there in
    let p = place_there v c b n i is ok there in
    let ls = c.literals in
    let o = opcode_for i.op in
    let x = word_one c i in
    let y = word_two c i in
    let version = version_in (w 1) in
    let end = instrs_below w k + length b.instrs in
    let ip = instrs_below w k + n in
    let number = (head_of ls i.op).operand in
    let parts = first_parts (head_of ls i.op).opcode (head_of ls i.op).flag i.slot (dest_word i.firsts) (dest_word i.seconds) (opcode_few ls i.op)
    (flag_few ls i.op) p.slot (half_few i.firsts p.firsts) (half_few i.seconds p.seconds) in
    let second = second_parsed w v c i r.version is.few_literals (looked v c w j is r) p in
    let operand : operand_fits version o y ≡ true =
    operand_passes version i.op number (origin_code i.origin) (operand_few ls i.op is.few_literals p.room) (origin_few v i.op i.origin it.origin)
    (has_passes c i.op it.operand) second.0 in
    let slot : slot_fits o (slot_in x) b.slots ≡ true = ap (λ (m : ℕ). slot_fits o m b.slots) parts.2 ∙ slot_passes b i i.op it.slot in
    let first : dest_fits w end ip (first_half x) ≡ true = ap (dest_fits w end ip) parts.3 ∙ dest_passes w v c j k b n i.firsts is r at p.firsts it.firsts in
    let next : dest_fits w end ip (second_half x) ≡ true = ap (dest_fits w end ip) parts.4 ∙ dest_passes w v c j k b n i.seconds is r at p.seconds it.seconds in
    let to : may_go_to o (dest_of (first_half x)) (dest_of (second_half x)) ≡ true =
    ap (λ (d : Option Dest). may_go_to o d (dest_of (second_half x))) (ap dest_of parts.3 ∙ lead_back i.firsts p.firsts)
    ∙ ap (λ (d : Option Dest). may_go_to o (lead i.firsts) d) (ap dest_of parts.4 ∙ lead_back i.seconds p.seconds)
    ∙ go_passes i.op i.firsts i.seconds it.dests in
    let dests : dests_fit w end ip o x ≡ true = and_from _ _ (and_from _ _ first next) to in
    let target : target_fits w o (operand_in version o y) ≡ true = ap (target_fits w o) second.0 ∙ target_passes w v c j is r i.op it.operand in
    let numbered : number_checked w o (operand_in version o y) ≡ Ok tt = ap (number_checked w o) second.0 ∙ number_passes w v c j is r i.op it.operand in
    both_pass (unless (operand_fits version o y) BadOpcode) _ (passes (operand_fits version o y) BadOpcode operand)
    (both_pass (unless (slot_fits o (slot_in x) b.slots) BadSlot) _ (passes (slot_fits o (slot_in x) b.slots) BadSlot slot)
    (both_pass (unless (dests_fit w end ip o x && target_fits w o (operand_in version o y)) BadDestination) (number_checked w o (operand_in version o y))
    (passes (dests_fit w end ip o x && target_fits w o (operand_in version o y)) BadDestination (and_from _ _ dests target)) numbered))

instr_checks : (w : ℕ → ℕ) (v : ℕ) (c : Code) (j k : ℕ) (b : CodeBlock) (n : ℕ) (i : Instr) → IsCode v c → IsRead v c w j
    → slice_get c.program.blocks k ≡ Some b → slice_get b.instrs n ≡ Some i
    → instr_checked w b.slots (instrs_below w k + length b.instrs) (instrs_below w k + n) ≡ Ok tt
unfolding instr_checked
instr_checks w v c j k b n i is r at there =
    let ok = block_there v c k b is at in
    let p = place_there v c b n i is ok there in
    let o = opcode_for i.op in
    let end = instrs_below w k + length b.instrs in
    let ip = instrs_below w k + n in
    let read = r.instr k b at n i there in
    ap (instr_checked_as w b.slots end ip) (ap opcode_in read.0 ∙ opcode_parsed v c i p)
    ∙ ap (λ (x : ℕ). opcode_checked w b.slots end ip o x (w (instr_place w ip + 1))) read.0
    ∙ ap (λ (y : ℕ). opcode_checked w b.slots end ip o (word_one c i) y) read.1
    ∙ instr_passes w v c j k b n i is r at there

-- BLOCKS
block_passes : (w : ℕ → ℕ) (v : ℕ) (c : Code) (j k : ℕ) (b : CodeBlock) → IsCode v c → IsRead v c w j → slice_get c.program.blocks k ≡ Some b
    → block_checked w k ≡ Ok tt
block_passes w v c j k b is r at =
    let e = r.entry k b at in
    let parts = entry_back v c b (block_there v c k b is at) in
    let first = instrs_below w k in
    let slots : slots_in (w (6 + k)) ≡ b.slots = ap slots_in e ∙ parts.slots in
    let count : count_in (w (6 + k)) ≡ length b.instrs = ap count_in e ∙ parts.count in
    ap (λ (s : ℕ). each (instr_checked w s (first + count_in (w (6 + k)))) first (count_in (w (6 + k)))) slots
    ∙ ap (λ (m : ℕ). each (instr_checked w b.slots (first + m)) first m) count
    ∙ each_passes (instr_checked w b.slots (first + length b.instrs)) first (length b.instrs) (λ n lt.
    let i = get_some b.instrs n lt in
    instr_checks w v c j k b n i.0 is r at i.1)

entry_passes : (w : ℕ → ℕ) (v : ℕ) (c : Code) (j k : ℕ) (b : CodeBlock) → IsCode v c → IsRead v c w j → slice_get c.program.blocks k ≡ Some b
    → entry_checked w k ≡ Ok tt
entry_passes w v c j k b is r at =
    let ok = block_there v c k b is at in
    let parts = entry_back v c b ok in
    let x = block_word b in
    let fits : entry_fits x ≡ true =
    and_from _ _ (and_from _ _ (and_from _ _ (and_from _ _ (and_from _ _ (and_from _ _
    (le-leb 1 (inputs_in x) (omega (arith, parts.inputs, ok.inputs.0)))
    (le-leb (inputs_in x) 16 (omega (arith, parts.inputs, ok.inputs.1))))
    (le-leb 1 (outputs_in x) (omega (arith, parts.outputs, ok.outputs.0))))
    (le-leb (outputs_in x) 16 (omega (arith, parts.outputs, ok.outputs.1))))
    (le-leb (inputs_in x + 1) (count_in x) (omega (arith, parts.inputs, parts.count, ok.size.0))))
    (le-leb (count_in x) 32768 (omega (arith, parts.count, ok.size.1))))
    (le-leb (slots_in x) 512 (omega (arith, parts.slots, ok.slots))) in
    passes (entry_fits (w (6 + k))) BadTable (ap entry_fits (r.entry k b at) ∙ fits)

-- ARRAYS AND LITERALS
cells_all : (w : ℕ → ℕ) (n : ℕ) → cells_below w n ≡ sum (tabulated (array_in w) 0 n)
cells_all w n =
    let s = cells_taken w 0 n in
    let z : 0 + n ≡ n = omega arith in
    let m = sum-map (λ x. x) (tabulated (array_in w) 0 n) in
    let e : sum (tabulated (array_in w) 0 n) ≡ sum_by (λ x. x) (tabulated (array_in w) 0 n) = ap sum (sym (map_same (tabulated (array_in w) 0 n))) ∙ m in
    omega (arith, s, ap (cells_below w) z, e)

arrays_pass : (w : ℕ → ℕ) (v : ℕ) (c : Code) (j : ℕ) → IsCode v c → IsRead v c w j → arrays_checked w ≡ Ok tt
arrays_pass w v c j is r =
    let all = all_tabulated_back (array_in w) (w 4) c.program.arrays r.arrays r.array in
    let cells : cells_below w (w 4) ≡ sum c.program.arrays = cells_all w (w 4) ∙ ap sum all in
    both_pass (each (array_checked w) 0 (w 4)) (unless (nat_le (cells_below w (w 4)) 65536) BadTable)
    (from_zero (array_checked w) (w 4) (λ k lt.
    let e = get_some c.program.arrays k (omega (arith, lt, r.arrays)) in
    let few = all_at (λ (m : ℕ). (1 ≤ m) × (m ≤ 65536)) c.program.arrays k e.0 is.arrays e.1 in
    let same : array_in w k ≡ e.0 = r.array k e.0 e.1 in
    passes (nat_le 1 (array_in w k) && nat_le (array_in w k) 65536) BadTable (and_from _ _ (le-leb 1 (array_in w k) (omega (arith, same, few.0)))
    (le-leb (array_in w k) 65536 (omega (arith, same, few.1))))))
    (passes (nat_le (cells_below w (w 4)) 65536) BadTable (le-leb (cells_below w (w 4)) 65536 (omega (arith, cells, is.cells))))

literals_pass : (w : ℕ → ℕ) (v : ℕ) (c : Code) (j : ℕ) → IsCode v c → IsRead v c w j → literals_checked w ≡ Ok tt
literals_pass w v c j is r = from_zero (literal_checked w) (w 3 - 1) (λ k lt.
    let y = get_some c.literals k (omega (arith, lt, r.literals)) in
    let z = get_some c.literals (k + 1) (omega (arith, lt, r.literals)) in
    passes (int_lt (literal_in w k) (literal_in w (k + 1))) BadLiteral
    (ap (λ (a : ℤ). int_lt a (literal_in w (k + 1))) (literal_back v c w j is r k y.0 y.1)
    ∙ ap (λ (a : ℤ). int_lt y.0 a) (literal_back v c w j is r (k + 1) z.0 z.1) ∙ is.ascend k y.0 z.0 y.1 z.1))

-- THE HEADER AND THE WHOLE
counts_pass : (w : ℕ → ℕ) (v : ℕ) (c : Code) (j : ℕ) → IsCode v c → IsRead v c w j → counts_fit w ≡ true
counts_pass w v c j is r =
    and_from _ _ (and_from _ _ (and_from _ _ (and_from _ _
    (le-leb 1 (w 2) (omega (arith, r.blocks, is.some_block.0)))
    (le-leb (w 2) 512 (omega (arith, r.blocks, is.some_block.1))))
    (le-leb (w 3) 65536 (omega (arith, r.literals, is.few_literals))))
    (le-leb (w 4) 64 (omega (arith, r.arrays, is.few_arrays))))
    (lt-ltb (w 5) (w 2) (omega (arith, r.main, r.blocks, is.main)))

header_passes : (w : ℕ → ℕ) (v : ℕ) (c : Code) (j : ℕ) → IsCode v c → IsRead v c w j → header_checked w ≡ Ok tt
header_passes w v c j is r =
    ap (λ (x : ℕ). if x == MAGIC then (if w 1 == 1 || w 1 == 2 then unless (counts_fit w) BadTable else Err BadVersion) else Err BadMagic) r.magic
    ∙ ap (λ (x : ℕ). if x == 1 || x == 2 then unless (counts_fit w) BadTable else Err BadVersion) r.version
    ∙ known is.version_known
    ∙ passes (counts_fit w) BadTable (counts_pass w v c j is r)
  where
    known : (v ≡ 1) ⊎ (v ≡ 2) → (if v == 1 || v == 2 then unless (counts_fit w) BadTable else Err BadVersion) ≡ unless (counts_fit w) BadTable
    known (inl e) = ap (λ (x : ℕ). if x == 1 || x == 2 then unless (counts_fit w) BadTable else Err BadVersion) e
    known (inr e) = ap (λ (x : ℕ). if x == 1 || x == 2 then unless (counts_fit w) BadTable else Err BadVersion) e

length_passes : (n : ℕ) (w : ℕ → ℕ) → n ≡ 8 * word_count w → length_checked n w ≡ Ok tt
length_passes n w e =
    ap (λ (t : Bool). if t then Err Truncated else if nat_lt (8 * word_count w) n then Err Trailing else Ok tt) (le-ltb n (8 * word_count w) (omega (arith, e)))
    ∙ ap (λ (t : Bool). if t then Err Trailing else Ok tt) (le-ltb (8 * word_count w) n (omega (arith, e)))

tables_pass : (n : ℕ) (w : ℕ → ℕ) (v : ℕ) (c : Code) (j : ℕ) → IsCode v c → IsRead v c w j → n ≡ 8 * word_count w → tables_checked n w ≡ Ok tt
tables_pass n w v c j is r e =
    ap (λ (t : Bool). if t then Err Truncated else first_then (each (entry_checked w) 0 (w 2)) (length_checked n w))
    (le-ltb n (8 * (6 + w 2)) (omega (arith, e)))
    ∙ both_pass (each (entry_checked w) 0 (w 2)) (length_checked n w)
    (from_zero (entry_checked w) (w 2) (λ k lt. let b = get_some c.program.blocks k (omega (arith, lt, r.blocks)) in entry_passes w v c j k b.0 is r b.1))
    (length_passes n w e)

opening_passes : (n : ℕ) (w : ℕ → ℕ) (v : ℕ) (c : Code) (j : ℕ) → IsCode v c → IsRead v c w j → n ≡ 8 * word_count w → opening_checked n w ≡ Ok tt
opening_passes n w v c j is r e =
    ap (λ (t : Bool). if t then Err Truncated else first_then (header_checked w) (tables_checked n w)) (le-ltb n 48 (omega (arith, e)))
    ∙ both_pass (header_checked w) (tables_checked n w) (header_passes w v c j is r) (tables_pass n w v c j is r e)

content_passes : (w : ℕ → ℕ) (v : ℕ) (c : Code) (j : ℕ) → IsCode v c → IsRead v c w j → content_checked w ≡ Ok tt
content_passes w v c j is r =
    both_pass (arrays_checked w) (first_then (literals_checked w) (each (block_checked w) 0 (w 2))) (arrays_pass w v c j is r)
    (both_pass (literals_checked w) (each (block_checked w) 0 (w 2)) (literals_pass w v c j is r)
    (from_zero (block_checked w) (w 2) (λ k lt. let b = get_some c.program.blocks k (omega (arith, lt, r.blocks)) in block_passes w v c j k b.0 is r b.1)))

pub lawful_opens : (v : ℕ) (c : Code) → IsCode v c → first_refusal (bytes_of v c) ≡ None
lawful_opens v c is =
    let bytes = bytes_of v c in
    let w = word_at bytes in
    let j = 0 + length (MAGIC ∷ words_of v c) in
    let r = object_read v c is in
    let long : length bytes ≡ 8 * word_count w = omega (arith, length_words (MAGIC ∷ words_of v c), r.long) in
    none_refused bytes (checked_all bytes (opening_passes (length bytes) w v c j is r long) (content_passes w v c j is r))

-- every object is opened
pub complete : (bytes : List ℕ) (v : ℕ) (c : Code) → IsObject bytes v c → first_refusal bytes ≡ None
complete bytes v c is = ap first_refusal is.0 ∙ lawful_opens v c is.1
