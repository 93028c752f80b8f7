-- The object file: the one spelling of a code in each version, and which codes have one.
use Rattle.std.specs.Prelude.{◌≡◌, ℕ, ◌+◌, ◌*◌, ◌^◌, ◌<◌, ◌≤◌, Bool, true, false, ◌⊎◌, ℤ, List, [], ◌∷◌, ◌++◌, map, length, sum, Option, Some, None}
use Rattle.std.specs.Prelude.{slice_get, if◌then◌else◌, int_lt, flat_map, Contains, All, FitsSigned, codes, ⊤}
use Rattle.std.specs.Int.{w64, cast_unsigned, to_le_bytes}
use Rattle.tags.specs.declared.token.Port.{Port}
use Rattle.tags.specs.declared.token.Port.TheVariants.{Left, Right}
use Rattle.tags.specs.declared.value.Origin.{Origin}
use Rattle.tags.specs.declared.value.Origin.TheVariants.{Untold, At}
use Rattle.semantics.specs.declared.program.Dest.{Dest}
use Rattle.semantics.specs.declared.program.Op.{Op}
use Rattle.semantics.specs.declared.program.Op.TheVariants.{Apply1, Apply2, Apply2Right, Apply2Left, Lit, Copy, Sync, Switch, Fetch, Store, Frame}
use Rattle.semantics.specs.declared.program.Op.TheVariants.{Link, Send, Return, Ask, Open, Take, Give, Drain, Release}
use Rattle.semantics.specs.Program.{Instr, CodeBlock, Code}
use Rattle.semantics.specs.Rule.{slot_of}
use Rattle.semantics.specs.Plan.{is_credit}
use Rattle.semantics.specs.Opcodes.{opcode_for, code_number, flag_number, may_fault}

-- where a literal is: the first place from n on
abbrev pub number_from : ℕ → ℤ → List ℤ → ℕ
number_from n z [] = n
number_from n z (x ∷ xs) = if int_lt x z then number_from (n + 1) z xs else n

-- opcode, flag and operand
pub record Head : Type 0 where
  pub opcode : ℕ
  pub flag : ℕ
  pub operand : ℕ

abbrev pub head : ℕ → ℕ → ℕ → Head
head c f o = record { opcode = c; flag = f; operand = o }

-- a literal's number, or what the operation names
abbrev pub operand_number : List ℤ → Op → ℕ
operand_number ls (Apply2Right op z) = number_from 0 z ls
operand_number ls (Apply2Left op z) = number_from 0 z ls
operand_number ls (Lit z) = number_from 0 z ls
operand_number ls (Fetch a) = a
operand_number ls (Store a) = a
operand_number ls (Link b) = b
operand_number ls (Send b e) = e + 2 ^ 16 * b
operand_number ls (Return o) = o
operand_number ls (Ask o) = o
operand_number ls (Open k) = k
operand_number ls (Take k) = k
operand_number ls (Give k) = k
operand_number ls (Drain k) = k
operand_number ls (Release o) = o
operand_number ls op = 0

abbrev pub head_of : List ℤ → Op → Head
head_of ls op = head (code_number (opcode_for op)) (flag_number (opcode_for op)) (operand_number ls op)

abbrev pub port_bit : Port → ℕ
port_bit Left = 0
port_bit Right = 1

abbrev pub dest_word : List Dest → ℕ
dest_word [] = 0
dest_word (d ∷ ds) = d.ahead + 2 ^ 15 * port_bit d.port

abbrev pub origin_code : Origin → ℕ
origin_code Untold = 0
origin_code (At b n) = 1 + 1024 * b + n

abbrev pub instr_words : List ℤ → Instr → List ℕ
instr_words ls i = ((head_of ls i.op).opcode + 2 ^ 8 * (head_of ls i.op).flag + 2 ^ 16 * i.slot + 2 ^ 32 * dest_word i.firsts + 2 ^ 48 * dest_word i.seconds)
    ∷ ((head_of ls i.op).operand + 2 ^ 32 * origin_code i.origin) ∷ []

abbrev pub block_word : CodeBlock → ℕ
block_word c = length c.instrs + 2 ^ 32 * c.inputs + 2 ^ 40 * c.outputs + 2 ^ 48 * c.slots

abbrev pub words_of : ℕ → Code → List ℕ
words_of version c = version ∷ length c.program.blocks ∷ length c.literals ∷ length c.program.arrays ∷ c.program.main
    ∷ (map block_word c.program.blocks ++ (flat_map (λ (b : CodeBlock). flat_map (instr_words c.literals) b.instrs) c.program.blocks
    ++ (map (cast_unsigned w64) c.literals ++ c.program.arrays)))

abbrev pub bytes_of : ℕ → Code → List ℕ
bytes_of version c = codes "ETSOBJCT" ++ flat_map (to_le_bytes w64) (words_of version c)

-- WHICH CODES HAVE BYTES
abbrev pub is_dyadic : Option Instr → Bool
is_dyadic None = false
is_dyadic (Some i) = elim (slot_of i i.op) as (λ x. Bool) [ None ↦ false | Some r ↦ if is_credit i.op then false else true ]

pub record IsDest (c : CodeBlock) (n : ℕ) (d : Dest) : Type 0 where
  pub later : 0 < d.ahead
  pub inside : n + d.ahead < length c.instrs
  pub right : d.port ≡ Right → is_dyadic (slice_get c.instrs (n + d.ahead)) ≡ true

-- how many destinations of each kind, and what the operand may be
abbrev pub HasOperand : Code → Op → Type 0
HasOperand c (Apply2Right op z) = Contains c.literals z
HasOperand c (Apply2Left op z) = Contains c.literals z
HasOperand c (Lit z) = Contains c.literals z
HasOperand c (Fetch a) = a < length c.program.arrays
HasOperand c (Store a) = a < length c.program.arrays
HasOperand c (Link b) = b < length c.program.blocks
HasOperand c (Send b e) = (x : CodeBlock) × (slice_get c.program.blocks b ≡ Some x) × (e ≤ x.inputs)
HasOperand c (Return o) = o ≤ 255
HasOperand c (Ask o) = o ≤ 255
HasOperand c (Release o) = o ≤ 255
HasOperand c (Open k) = (2 ≤ k) × (k ≤ 64)
HasOperand c (Take k) = (2 ≤ k) × (k ≤ 64)
HasOperand c (Give k) = (2 ≤ k) × (k ≤ 64)
HasOperand c (Drain k) = (2 ≤ k) × (k ≤ 64)
HasOperand c op = ⊤

abbrev pub HasDests : Op → List Dest → List Dest → Type 0
HasDests (Fetch a) ds es = (length ds ≡ 1) × (length es ≡ 0)
HasDests (Store a) ds es = (length ds ≡ 1) × (length es ≡ 0)
HasDests Frame ds es = (length ds ≡ 1) × (length es ≡ 0)
HasDests (Ask o) ds es = (length ds ≡ 1) × (length es ≡ 0)
HasDests (Link b) ds es = (length ds ≡ 1) × All (λ (d : Dest). d.port ≡ Left) ds × (length es ≤ 1)
HasDests (Take k) ds es = (length ds ≡ 0) × (length es ≡ 0)
HasDests (Release o) ds es = (length ds ≡ 0) × (length es ≡ 0)
HasDests (Give k) ds es = (length ds ≤ 1) × (length es ≡ 0)
HasDests (Drain k) ds es = (length ds ≤ 1) × (length es ≡ 0)
HasDests Switch ds es = (length ds ≤ 1) × (length es ≤ 1)
HasDests op ds es = (length ds ≤ 1) × (length es ≤ length ds)

-- where an origin may be
abbrev pub IsOrigin : ℕ → Op → Origin → Type 0
IsOrigin version op Untold = ⊤
IsOrigin version op (At b n) = (version ≡ 2) × (may_fault op ≡ true) × (b < 256) × (n < 1024)

abbrev pub IsSlot : CodeBlock → Instr → Option ℕ → Type 0
IsSlot c i None = i.slot ≡ 0
IsSlot c i (Some r) = r < c.slots

pub record IsInstr (version : ℕ) (c : Code) (b : CodeBlock) (n : ℕ) (i : Instr) : Type 0 where
  pub operand : HasOperand c i.op
  pub origin : IsOrigin version i.op i.origin
  pub slot : IsSlot b i (slot_of i i.op)
  pub dests : HasDests i.op i.firsts i.seconds
  pub firsts : All (IsDest b n) i.firsts
  pub seconds : All (IsDest b n) i.seconds

pub record IsCodeBlock (version : ℕ) (c : Code) (b : CodeBlock) : Type 0 where
  pub inputs : (1 ≤ b.inputs) × (b.inputs ≤ 16)
  pub outputs : (1 ≤ b.outputs) × (b.outputs ≤ 16)
  pub size : (b.inputs + 1 ≤ length b.instrs) × (length b.instrs ≤ 32768)
  pub slots : b.slots ≤ 512
  pub instrs : (n : ℕ) (i : Instr) → slice_get b.instrs n ≡ Some i → IsInstr version c b n i

pub record IsCode (version : ℕ) (c : Code) : Type 0 where
  pub version_known : (version ≡ 1) ⊎ (version ≡ 2)
  pub some_block : (1 ≤ length c.program.blocks) × (length c.program.blocks ≤ 512)
  pub main : c.program.main < length c.program.blocks
  pub few_literals : length c.literals ≤ 65536
  pub literals : All (λ (z : ℤ). FitsSigned w64 z) c.literals
  pub ascend : (k : ℕ) (y z : ℤ) → slice_get c.literals k ≡ Some y → slice_get c.literals (k + 1) ≡ Some z → int_lt y z ≡ true
  pub few_arrays : length c.program.arrays ≤ 64
  pub arrays : All (λ n. (1 ≤ n) × (n ≤ 65536)) c.program.arrays
  pub cells : sum c.program.arrays ≤ 65536
  pub blocks : All (IsCodeBlock version c) c.program.blocks

-- These bytes are this code
abbrev pub IsObject : List ℕ → ℕ → Code → Type 0
IsObject bytes version c = (bytes ≡ bytes_of version c) × IsCode version c
