-- An instruction of lawful code is read back from its two words.
use Rattle.std.proofs.Common.{◌≡◌, ℕ, ◌+◌, ◌-◌, ◌*◌, ◌/◌, ◌%◌, ◌^◌, ◌<◌, ◌≤◌, Bool, true, false, ◌==◌, if◌then◌else◌, List, [], ◌∷◌, length, Option}
use Rattle.std.proofs.Common.{Some, None, ℤ, refl, sym, ap, subst, ◌∙◌, arith, eqb-true, get_or}
use Rattle.std.specs.Prelude.{⊤, option_to_list, Contains, slice_get}
use Rattle.std.proofs.lemmas.Option.{slice_get_within, get_or_from_slice_get}
use Rattle.tags.specs.declared.token.Port.{Port}
use Rattle.tags.specs.declared.token.Port.TheVariants.{Left, Right}
use Rattle.tags.specs.declared.value.Origin.{Origin}
use Rattle.tags.specs.declared.value.Origin.TheVariants.{Untold, At}
use Rattle.operators.specs.declared.Unary.TheVariants.{Neg, Not}
use Rattle.operators.specs.declared.Binary.{Binary}
use Rattle.semantics.specs.declared.program.Dest.{Dest}
use Rattle.semantics.specs.declared.program.Op.{Op}
use Rattle.semantics.specs.declared.program.Op.TheVariants.{Apply1, Apply2, Apply2Right, Apply2Left, Lit, Copy, Sync, Switch, Fetch, Store, Frame}
use Rattle.semantics.specs.declared.program.Op.TheVariants.{Link, Send, Return, Ask, Open, Take, Give, Drain, Release}
use Rattle.semantics.specs.Program.{Instr, CodeBlock, Code}
use Rattle.semantics.specs.Bytes.{number_from, head_of, dest_word, port_bit, origin_code, HasOperand, IsOrigin, IsCodeBlock, IsCode}
use Rattle.semantics.specs.declared.version.Version.{Version}
use Rattle.semantics.specs.declared.version.Version.TheVariants.{One, Two}
use Rattle.semantics.specs.declared.opcode.Opcode.{Opcode}
use Rattle.semantics.proofs.OperatorWords.{binary_back, binary_few}
use Rattle.semantics.specs.Opcodes as Opcodes
use Rattle.semantics.specs.Opcodes.{binary_code, opcode_for}
use Rattle.object_view.specs.Fields.{opcode_in, slot_in, first_half, second_half, dest_of, port_of, operand_in, origin_number, origin_of}
use Rattle.semantics.specs.Opcodes.{binary_of, opcode_from, opcode_of, with, makes_faults}
use Rattle.object_view.specs.Reading.{shown, version_in, instr_as, literal_or_zero}
use Rattle.object_view.proofs.Lawful.{same_fault}
use Rattle.object_view.proofs.Numbers.{number_most}

pub opcode_back : (ls : List ℤ) (op : Op) → opcode_of (head_of ls op).opcode (head_of ls op).flag ≡ Some (opcode_for op)
unfolding opcode_of
opcode_back ls (Apply1 Neg) = refl
opcode_back ls (Apply1 Not) = refl
opcode_back ls (Apply2 op) = ap (λ (m : Option Binary). opcode_from m (binary_code op) 0) (binary_back op)
opcode_back ls (Apply2Right op z) = ap (λ (m : Option Binary). opcode_from m (binary_code op) 1) (binary_back op)
opcode_back ls (Apply2Left op z) = ap (λ (m : Option Binary). opcode_from m (binary_code op) 2) (binary_back op)
opcode_back ls (Lit z) = refl
opcode_back ls Copy = refl
opcode_back ls Sync = refl
opcode_back ls Switch = refl
opcode_back ls (Fetch a) = refl
opcode_back ls (Store a) = refl
opcode_back ls Frame = refl
opcode_back ls (Link b) = refl
opcode_back ls (Send b e) = refl
opcode_back ls (Return o) = refl
opcode_back ls (Ask o) = refl
opcode_back ls (Open k) = refl
opcode_back ls (Take k) = refl
opcode_back ls (Give k) = refl
opcode_back ls (Drain k) = refl
opcode_back ls (Release o) = refl

pub opcode_few : (ls : List ℤ) (op : Op) → (head_of ls op).opcode < 2 ^ 8
opcode_few ls (Apply1 Neg) = omega arith
opcode_few ls (Apply1 Not) = omega arith
opcode_few ls (Apply2 op) = binary_few op
opcode_few ls (Apply2Right op z) = binary_few op
opcode_few ls (Apply2Left op z) = binary_few op
opcode_few ls (Lit z) = omega arith
opcode_few ls Copy = omega arith
opcode_few ls Sync = omega arith
opcode_few ls Switch = omega arith
opcode_few ls (Fetch a) = omega arith
opcode_few ls (Store a) = omega arith
opcode_few ls Frame = omega arith
opcode_few ls (Link b) = omega arith
opcode_few ls (Send b e) = omega arith
opcode_few ls (Return o) = omega arith
opcode_few ls (Ask o) = omega arith
opcode_few ls (Open k) = omega arith
opcode_few ls (Take k) = omega arith
opcode_few ls (Give k) = omega arith
opcode_few ls (Drain k) = omega arith
opcode_few ls (Release o) = omega arith

pub flag_few : (ls : List ℤ) (op : Op) → (head_of ls op).flag < 2 ^ 8
flag_few ls (Apply1 Neg) = omega arith
flag_few ls (Apply1 Not) = omega arith
flag_few ls (Apply2 op) = omega arith
flag_few ls (Apply2Right op z) = omega arith
flag_few ls (Apply2Left op z) = omega arith
flag_few ls (Lit z) = omega arith
flag_few ls Copy = omega arith
flag_few ls Sync = omega arith
flag_few ls Switch = omega arith
flag_few ls (Fetch a) = omega arith
flag_few ls (Store a) = omega arith
flag_few ls Frame = omega arith
flag_few ls (Link b) = omega arith
flag_few ls (Send b e) = omega arith
flag_few ls (Return o) = omega arith
flag_few ls (Ask o) = omega arith
flag_few ls (Open k) = omega arith
flag_few ls (Take k) = omega arith
flag_few ls (Give k) = omega arith
flag_few ls (Drain k) = omega arith
flag_few ls (Release o) = omega arith

-- OPERANDS that have room
abbrev pub OpRoom : Op → Type 0
OpRoom (Fetch a) = a < 256
OpRoom (Store a) = a < 256
OpRoom (Link b) = b < 65536
OpRoom (Send b e) = (b < 65536) × (e < 65536)
OpRoom (Return o) = o < 256
OpRoom (Ask o) = o < 256
OpRoom (Open k) = k < 256
OpRoom (Take k) = k < 256
OpRoom (Give k) = k < 256
OpRoom (Drain k) = k < 256
OpRoom (Release o) = o < 256
OpRoom op = ⊤

few_inputs : (v : ℕ) (c : Code) (b : ℕ) (x : CodeBlock) → IsCode v c → slice_get c.program.blocks b ≡ Some x → x.inputs ≤ 16
few_inputs v c b x is at =
    let lt = slice_get_within c.program.blocks b x at in
    let ok : IsCodeBlock v c (get_or c.program.blocks b x) = is.blocks b x lt in
    let same = get_or_from_slice_get c.program.blocks b x x at in
    let few = subst (λ (y : CodeBlock). IsCodeBlock v c y) same ok in
    few.inputs.1

pub operand_room : (v : ℕ) (c : Code) (op : Op) → IsCode v c → HasOperand c op → OpRoom op
operand_room v c (Apply1 op) is h = tt
operand_room v c (Apply2 op) is h = tt
operand_room v c (Apply2Right op z) is h = tt
operand_room v c (Apply2Left op z) is h = tt
operand_room v c (Lit z) is h = tt
operand_room v c Copy is h = tt
operand_room v c Sync is h = tt
operand_room v c Switch is h = tt
operand_room v c (Fetch a) is h = omega (arith, h, is.few_arrays)
operand_room v c (Store a) is h = omega (arith, h, is.few_arrays)
operand_room v c Frame is h = tt
operand_room v c (Link b) is h = omega (arith, h, is.some_block.1)
operand_room v c (Send b e) is h = (
  omega (arith, slice_get_within c.program.blocks b h.0 h.1, is.some_block.1),
  omega
      (arith, few_inputs v c b h.0 is h.1, h.2),
)
operand_room v c (Return o) is h = omega (arith, h)
operand_room v c (Ask o) is h = omega (arith, h)
operand_room v c (Open k) is h = omega (arith, h.1)
operand_room v c (Take k) is h = omega (arith, h.1)
operand_room v c (Give k) is h = omega (arith, h.1)
operand_room v c (Drain k) is h = omega (arith, h.1)
operand_room v c (Release o) is h = omega (arith, h)

pub operand_few : (ls : List ℤ) (op : Op) → length ls ≤ 65536 → OpRoom op → (head_of ls op).operand < 2 ^ 32
operand_few ls (Apply1 Neg) n h = omega arith
operand_few ls (Apply1 Not) n h = omega arith
operand_few ls (Apply2 op) n h = omega arith
operand_few ls (Apply2Right op z) n h = omega (arith, number_most 0 z ls, n)
operand_few ls (Apply2Left op z) n h = omega (arith, number_most 0 z ls, n)
operand_few ls (Lit z) n h = omega (arith, number_most 0 z ls, n)
operand_few ls Copy n h = omega arith
operand_few ls Sync n h = omega arith
operand_few ls Switch n h = omega arith
operand_few ls (Fetch a) n h = omega (arith, h)
operand_few ls (Store a) n h = omega (arith, h)
operand_few ls Frame n h = omega arith
operand_few ls (Link b) n h = omega (arith, h)
operand_few ls (Send b e) n h = omega (arith, h.0, h.1)
operand_few ls (Return o) n h = omega (arith, h)
operand_few ls (Ask o) n h = omega (arith, h)
operand_few ls (Open k) n h = omega (arith, h)
operand_few ls (Take k) n h = omega (arith, h)
operand_few ls (Give k) n h = omega (arith, h)
operand_few ls (Drain k) n h = omega (arith, h)
operand_few ls (Release o) n h = omega (arith, h)

-- the table of literals has what the numbers say
abbrev pub IsLooked : (ℕ → ℕ) → List ℤ → Type 0
IsLooked w ls = (z : ℤ) → Contains ls z → literal_or_zero w (number_from 0 z ls) ≡ z

pub with_back : (w : ℕ → ℕ) (c : Code) (op : Op) → IsLooked w c.literals → HasOperand c op → OpRoom op
    → with (opcode_for op) (head_of c.literals op).operand (literal_or_zero w (head_of c.literals op).operand) ≡ op
with_back w c (Apply1 Neg) look h r = refl
with_back w c (Apply1 Not) look h r = refl
with_back w c (Apply2 op) look h r = refl
with_back w c (Apply2Right op z) look h r = ap (λ (x : ℤ). Apply2Right op x) (look z h)
with_back w c (Apply2Left op z) look h r = ap (λ (x : ℤ). Apply2Left op x) (look z h)
with_back w c (Lit z) look h r = ap (λ (x : ℤ). Lit x) (look z h)
with_back w c Copy look h r = refl
with_back w c Sync look h r = refl
with_back w c Switch look h r = refl
with_back w c (Fetch a) look h r = let e : a % 256 ≡ a = omega (arith, r) in ap (λ (x : ℕ). Fetch x) e
with_back w c (Store a) look h r = let e : a % 256 ≡ a = omega (arith, r) in ap (λ (x : ℕ). Store x) e
with_back w c Frame look h r = refl
with_back w c (Link b) look h r = let e : b % 65536 ≡ b = omega (arith, r) in ap (λ (x : ℕ). Link x) e
with_back w c (Send b e) look h r =
    let one : (e + 2 ^ 16 * b) / 65536 % 65536 ≡ b = omega (arith, r.0, r.1) in
    let two : (e + 2 ^ 16 * b) % 65536 ≡ e = omega (arith, r.0, r.1) in
    ap (λ (x : ℕ). Send x ((e + 2 ^ 16 * b) % 65536)) one ∙ ap (λ (x : ℕ). Send b x) two
with_back w c (Return o) look h r = let e : o % 256 ≡ o = omega (arith, r) in ap (λ (x : ℕ). Return x) e
with_back w c (Ask o) look h r = let e : o % 256 ≡ o = omega (arith, r) in ap (λ (x : ℕ). Ask x) e
with_back w c (Open k) look h r = let e : k % 256 ≡ k = omega (arith, r) in ap (λ (x : ℕ). Open x) e
with_back w c (Take k) look h r = let e : k % 256 ≡ k = omega (arith, r) in ap (λ (x : ℕ). Take x) e
with_back w c (Give k) look h r = let e : k % 256 ≡ k = omega (arith, r) in ap (λ (x : ℕ). Give x) e
with_back w c (Drain k) look h r = let e : k % 256 ≡ k = omega (arith, r) in ap (λ (x : ℕ). Drain x) e
with_back w c (Release o) look h r = let e : o % 256 ≡ o = omega (arith, r) in ap (λ (x : ℕ). Release x) e

-- ORIGINS
origin_back : (o : Origin) → ((b n : ℕ) → o ≡ At b n → (b < 256) × (n < 1024)) → origin_of (origin_code o) ≡ o
origin_back Untold h = refl
origin_back (At b n) h =
    let few = h b n refl in
    let t : (1 + 1024 * b + n == 0) ≡ false = above (1 + 1024 * b + n) (omega arith) in
    let one : (1 + 1024 * b + n - 1) / 1024 % 256 ≡ b = omega (arith, few.0, few.1) in
    let two : (1 + 1024 * b + n - 1) % 1024 ≡ n = omega (arith, few.0, few.1) in
    ap (λ (s : Bool). if s then Untold else At ((1 + 1024 * b + n - 1) / 1024 % 256) ((1 + 1024 * b + n - 1) % 1024)) t
    ∙ ap (λ (x : ℕ). At x ((1 + 1024 * b + n - 1) % 1024)) one ∙ ap (λ (x : ℕ). At b x) two
  where
    above : (m : ℕ) → 0 < m → (m == 0) ≡ false
    above m lt = go (m == 0) refl
      where
        go : (s : Bool) → (m == 0) ≡ s → s ≡ false
        go true e = absurd (omega (arith, eqb-true m 0 e, lt))
        go false e = refl

-- the second word: the operand and the origin
pub second_back : (v : ℕ) (version : Version) (k : ℕ) (op : Op) (o : Opcode) (origin : Origin) → version_in v ≡ version → k < 2 ^ 32
    → Opcodes.may_fault op ≡ makes_faults o → IsOrigin v op origin
    → (operand_in version o (k + 2 ^ 32 * origin_code origin) ≡ k) × (origin_of (origin_number version o (k + 2 ^ 32 * origin_code origin)) ≡ origin)
second_back v One k op o Untold e few same is = (omega arith, refl)
second_back v One k op o (At b n) e few same is =
    let two : version_in v ≡ Two = ap version_in is.0 in
    absurd (differ (sym e ∙ two))
  where
    differ : One ≡ Two → ⊥
    differ q = cc
second_back v Two k op o Untold e few same is = go (makes_faults o)
  where
    go : (t : Bool) → ((if t then (k + 2 ^ 32 * 0) % 2 ^ 32 else k + 2 ^ 32 * 0) ≡ k) × (origin_of (if t then (k + 2 ^ 32 * 0) / 2 ^ 32 else 0) ≡ Untold)
    go true =
        let z : (k + 2 ^ 32 * 0) / 2 ^ 32 ≡ 0 = omega (arith, few) in
        (omega (arith, few), ap origin_of z)
    go false = (omega arith, refl)
second_back v Two k op o (At b n) e few same is = go (makes_faults o) (sym same ∙ is.1)
  where
    y : ℕ
    y = k + 2 ^ 32 * origin_code (At b n)

    limits : (a m : ℕ) → At b n ≡ At a m → (a < 256) × (m < 1024)
    limits a m q =
        let first : b ≡ a = cc in
        let second : n ≡ m = cc in
        (omega (arith, first, is.2), omega (arith, second, is.3))

    go : (t : Bool) → t ≡ true → ((if t then (k + 2 ^ 32 * origin_code (At b n)) % 2 ^ 32 else k + 2 ^ 32 * origin_code (At b n)) ≡ k)
        × (origin_of (if t then (k + 2 ^ 32 * origin_code (At b n)) / 2 ^ 32 else 0) ≡ At b n)
    go true q =
        let z : (k + 2 ^ 32 * origin_code (At b n)) / 2 ^ 32 ≡ origin_code (At b n) = omega (arith, few) in
        (omega (arith, few), ap origin_of z ∙ origin_back (At b n) limits)
    go false q = absurd cc

-- DESTINATIONS
abbrev pub HasHalf : List Dest → Type 0
HasHalf [] = ⊤
HasHalf (d ∷ ds) = (0 < d.ahead) × (d.ahead < 32768) × (ds ≡ [])

pub half_few : (ds : List Dest) → HasHalf ds → dest_word ds < 2 ^ 16
half_few [] h = omega arith
half_few (d ∷ ds) h = go d.port
  where
    go : (p : Port) → d.ahead + 2 ^ 15 * port_bit p < 2 ^ 16
    go Left = omega (arith, h.1)
    go Right = omega (arith, h.1)

port_back : (a : ℕ) (p : Port) → a < 32768 → port_of ((a + 2 ^ 15 * port_bit p) / 2 ^ 15) ≡ p
port_back a Left few = let z : (a + 2 ^ 15 * 0) / 2 ^ 15 ≡ 0 = omega (arith, few) in ap port_of z
port_back a Right few = let z : (a + 2 ^ 15 * 1) / 2 ^ 15 ≡ 1 = omega (arith, few) in ap port_of z

pub not_zero : (m : ℕ) → 0 < m → (m == 0) ≡ false
not_zero m lt = go (m == 0) refl
  where
    go : (s : Bool) → (m == 0) ≡ s → s ≡ false
    go true e = absurd (omega (arith, eqb-true m 0 e, lt))
    go false e = refl

pub dest_back : (d : Dest) → 0 < d.ahead → d.ahead < 32768 → dest_of (d.ahead + 2 ^ 15 * port_bit d.port) ≡ Some d
dest_back d some few =
    let h : ℕ = d.ahead + 2 ^ 15 * port_bit d.port in
    let low : (d.ahead + 2 ^ 15 * port_bit d.port) % 2 ^ 15 ≡ d.ahead = omega (arith, few) in
    let t : ((d.ahead + 2 ^ 15 * port_bit d.port) % 2 ^ 15 == 0) ≡ false = ap (λ (m : ℕ). m == 0) low ∙ not_zero d.ahead some in
    let made : ℕ → Port → Option Dest = λ a p. Some record { ahead = a; port = p } in
    ap (λ (s : Bool). if s then None else made (h % 2 ^ 15) (port_of (h / 2 ^ 15))) t
    ∙ ap (λ (a : ℕ). made a (port_of (h / 2 ^ 15))) low
    ∙ ap (λ (p : Port). made d.ahead p) (port_back d.ahead d.port few)

pub dests_back : (ds : List Dest) → HasHalf ds → option_to_list (dest_of (dest_word ds)) ≡ ds
dests_back [] h = refl
dests_back (d ∷ ds) h = ap (λ (m : Option Dest). option_to_list m) (dest_back d h.0 h.1) ∙ ap (λ (l : List Dest). d ∷ l) (sym h.2)

-- THE FIRST WORD
abbrev pub first_word_of : ℕ → ℕ → ℕ → ℕ → ℕ → ℕ
first_word_of c f s d e = c + 2 ^ 8 * f + 2 ^ 16 * s + 2 ^ 32 * d + 2 ^ 48 * e

pub first_parts : (c f s d e : ℕ) → c < 2 ^ 8 → f < 2 ^ 8 → s < 2 ^ 16 → d < 2 ^ 16 → e < 2 ^ 16
    → (first_word_of c f s d e % 2 ^ 8 ≡ c) × (first_word_of c f s d e / 2 ^ 8 % 2 ^ 8 ≡ f) × (slot_in (first_word_of c f s d e) ≡ s)
    × (first_half (first_word_of c f s d e) ≡ d) × (second_half (first_word_of c f s d e) ≡ e) × (first_word_of c f s d e < 2 ^ 64)
first_parts c f s d e p q r t u = (
  omega (arith, p),
  omega (arith, p, q),
  omega (arith, p, q, r),
  omega (arith, p, q, r, t),
  omega
      (arith, p, q, r, t),
  omega (arith, p, q, r, t, u),
)

-- AN INSTRUCTION that has room in its words
pub record HasPlace (v : ℕ) (c : Code) (i : Instr) : Type 0 where
  pub operand : HasOperand c i.op
  pub room : OpRoom i.op
  pub origin : IsOrigin v i.op i.origin
  pub slot : i.slot < 65536
  pub firsts : HasHalf i.firsts
  pub seconds : HasHalf i.seconds

abbrev pub word_one : Code → Instr → ℕ
word_one c i = first_word_of (head_of c.literals i.op).opcode (head_of c.literals i.op).flag i.slot (dest_word i.firsts) (dest_word i.seconds)

abbrev pub word_two : Code → Instr → ℕ
word_two c i = (head_of c.literals i.op).operand + 2 ^ 32 * origin_code i.origin

pub opcode_parsed : (v : ℕ) (c : Code) (i : Instr) → HasPlace v c i → opcode_in (word_one c i) ≡ Some (opcode_for i.op)
opcode_parsed v c i p =
    let ls = c.literals in
    let parts = first_parts (head_of ls i.op).opcode (head_of ls i.op).flag i.slot (dest_word i.firsts) (dest_word i.seconds) (opcode_few ls i.op)
    (flag_few ls i.op) p.slot (half_few i.firsts p.firsts) (half_few i.seconds p.seconds) in
    ap (λ (x : ℕ). opcode_of x (word_one c i / 2 ^ 8 % 2 ^ 8)) parts.0 ∙ ap (λ (x : ℕ). opcode_of (head_of ls i.op).opcode x) parts.1 ∙ opcode_back ls i.op

abbrev made : Op → Origin → ℕ → List Dest → List Dest → Instr
made op origin slot firsts seconds = record { op = op; origin = origin; slot = slot; firsts = firsts; seconds = seconds }

fault_named : (w : ℕ → ℕ) (c : Code) (op : Op) → IsLooked w c.literals → HasOperand c op → OpRoom op → Opcodes.may_fault op ≡ makes_faults (opcode_for op)
fault_named w c op look h r =
    let k = (head_of c.literals op).operand in
    ap Opcodes.may_fault (sym (with_back w c op look h r)) ∙ same_fault (opcode_for op) k (literal_or_zero w k)

pub second_parsed : (w : ℕ → ℕ) (v : ℕ) (c : Code) (i : Instr) → w 1 ≡ v → length c.literals ≤ 65536 → IsLooked w c.literals → HasPlace v c i
    → (operand_in (version_in (w 1)) (opcode_for i.op) (word_two c i) ≡ (head_of c.literals i.op).operand)
    × (origin_of (origin_number (version_in (w 1)) (opcode_for i.op) (word_two c i)) ≡ i.origin)
second_parsed w v c i e few look p =
    second_back v (version_in (w 1)) (head_of c.literals i.op).operand i.op (opcode_for i.op) i.origin (ap version_in (sym e))
    (operand_few c.literals i.op few p.room) (fault_named w c i.op look p.operand p.room) p.origin

pub instr_back : (w : ℕ → ℕ) (v : ℕ) (c : Code) (i : Instr) → w 1 ≡ v → length c.literals ≤ 65536 → IsLooked w c.literals → HasPlace v c i
    → shown (instr_as w (opcode_for i.op) (word_one c i) (word_two c i)) ≡ i
instr_back w v c i e few look p =
    let ls = c.literals in
    let o = opcode_for i.op in
    let x = word_one c i in
    let y = word_two c i in
    let second = second_parsed w v c i e few look p in
    let parts = first_parts (head_of ls i.op).opcode (head_of ls i.op).flag i.slot (dest_word i.firsts) (dest_word i.seconds) (opcode_few ls i.op)
    (flag_few ls i.op) p.slot (half_few i.firsts p.firsts) (half_few i.seconds p.seconds) in
    let k = operand_in (version_in (w 1)) o y in
    let op : with o k (literal_or_zero w k) ≡ i.op = ap (λ (m : ℕ). with o m (literal_or_zero w m)) second.0 ∙ with_back w c i.op look p.operand p.room in
    let firsts : option_to_list (dest_of (first_half x)) ≡ i.firsts = ap (λ (h : ℕ). option_to_list (dest_of h)) parts.3 ∙ dests_back i.firsts p.firsts in
    let seconds : option_to_list (dest_of (second_half x)) ≡ i.seconds = ap (λ (h : ℕ). option_to_list (dest_of h)) parts.4 ∙ dests_back i.seconds p.seconds in
    ap (λ (a : Op). made a (origin_of (origin_number (version_in (w 1)) o y)) (slot_in x) (option_to_list (dest_of (first_half x)))
    (option_to_list (dest_of (second_half x)))) op
    ∙ ap (λ (a : Origin). made i.op a (slot_in x) (option_to_list (dest_of (first_half x))) (option_to_list (dest_of (second_half x)))) second.1
    ∙ ap (λ (a : ℕ). made i.op i.origin a (option_to_list (dest_of (first_half x))) (option_to_list (dest_of (second_half x)))) parts.2
    ∙ ap (λ (a : List Dest). made i.op i.origin i.slot a (option_to_list (dest_of (second_half x)))) firsts
    ∙ ap (λ (a : List Dest). made i.op i.origin i.slot i.firsts a) seconds
