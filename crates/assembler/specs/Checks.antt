-- WHICH CODES HAVE AN OBJECT: the first refusal of a code that was read. Looked at in turn: the version and the counts; the
-- blocks, each with its instructions; the arrays; the table of literals. At an instruction: its operand, its slot, its
-- destinations, its origin. Each refusal is of one line: lines with words are numbered from 0.
use Rattle.std.specs.Prelude.{◌≡◌, ◌≤◌, ℕ, ◌+◌, ◌==◌, ◌&&◌, ◌||◌, not, nat_le, nat_lt, Bool, true, false, ℤ, int_lt, List, [], ◌∷◌, length, sum}
use Rattle.std.specs.Prelude.{map, take, Option, Some, None, slice_get, Result, Ok, Err, ⊤, if◌then◌else◌}
use Rattle.std.specs.BTreeSet.{BTreeSet, contains_by}
use Rattle.std.specs.List.{list_any, list_all}
use Rattle.std.specs.Ordering.{int_cmp}
use Rattle.tags.specs.declared.token.Port.TheVariants.{Left, Right}
use Rattle.tags.specs.declared.value.Origin.{Origin}
use Rattle.tags.specs.declared.value.Origin.TheVariants.{Untold, At}
use Rattle.operators.specs.declared.Binary.{Binary}
use Rattle.operators.specs.declared.Binary.TheVariants.{Div, Rem}
use Rattle.semantics.specs.declared.program.Dest.{Dest}
use Rattle.semantics.specs.declared.program.Op.{Op}
use Rattle.semantics.specs.declared.program.Op.TheVariants.{Apply2, Apply2Right, Apply2Left, Lit, Sync, Switch, Fetch, Store, Frame, Link, Send}
use Rattle.semantics.specs.declared.program.Op.TheVariants.{Return, Ask, Open, Take, Give, Drain, Release}
use Rattle.semantics.specs.Program.{Instr, CodeBlock, Code}
use Rattle.semantics.specs.Rule.{slot_of}
use Rattle.semantics.specs.Bytes.{is_dyadic}
use Rattle.semantics.specs.Opcodes.{may_fault}
use Rattle.graph_file.specs.Giving.{◌>>=◌}
use Rattle.assembler.specs.declared.cause.Unfit.{Unfit}
use Rattle.assembler.specs.declared.cause.Unfit.TheVariants.{BadVersion, BadCounts, ManyLiterals, BadBlock, BadArray, LiteralOrder, NoLiteral}
use Rattle.assembler.specs.declared.cause.Unfit.TheVariants.{BadOperand, BadSlot, BadDestination, BadOrigin}
use Rattle.assembler.specs.declared.checks.Refusal.{Refusal}

abbrev pub Checked : Type 0
Checked = Result ⊤ Refusal

abbrev pub unless : Bool → Unfit → ℕ → Checked
unless fits unfit index = if fits then Ok tt else Err record { unfit = unfit; index = index }

-- a check of each, numbered from n on
abbrev pub each : {X : Type 0} → (ℕ → X → Checked) → ℕ → List X → Checked
each check n [] = Ok tt
each check n (x ∷ xs) = check n x >>= λ _. each check (n + 1) xs

-- AN INSTRUCTION
abbrev pub is_same : ℤ → ℤ → Bool
is_same z y = not (int_lt y z) && not (int_lt z y)

abbrev pub has_literal : List ℤ → ℤ → Bool
has_literal table z = list_any (is_same z) table

-- a set with the literals of the table
abbrev pub IsSetOf : BTreeSet ℤ → List ℤ → Type 0
IsSetOf set table = (z : ℤ) → contains_by (int_cmp z) set ≡ has_literal table z

abbrev pub is_bound : ℕ → Bool
is_bound k = nat_le 2 k && nat_le k 64

abbrev pub enters : Option CodeBlock → ℕ → Bool
enters None e = false
enters (Some b) e = nat_le e b.inputs

-- which operand: the literal is in the table, or what it names exists
abbrev pub literal_fits : Code → Op → Bool
literal_fits c (Apply2Right op z) = has_literal c.literals z
literal_fits c (Apply2Left op z) = has_literal c.literals z
literal_fits c (Lit z) = has_literal c.literals z
literal_fits c op = true

abbrev pub operand_fits : Code → Op → Bool
operand_fits c (Fetch a) = nat_lt a (length c.program.arrays)
operand_fits c (Store a) = nat_lt a (length c.program.arrays)
operand_fits c (Link b) = nat_lt b (length c.program.blocks)
operand_fits c (Send b e) = enters (slice_get c.program.blocks b) e
operand_fits c (Return o) = nat_le o 255
operand_fits c (Ask o) = nat_le o 255
operand_fits c (Release o) = nat_le o 255
operand_fits c (Open k) = is_bound k
operand_fits c (Take k) = is_bound k
operand_fits c (Give k) = is_bound k
operand_fits c (Drain k) = is_bound k
operand_fits c op = true

abbrev pub slot_fits : ℕ → Option ℕ → ℕ → Bool
slot_fits slots None slot = slot == 0
slot_fits slots (Some r) slot = nat_lt r slots

abbrev pub is_left : Dest → Bool
is_left d = elim d.port as (λ _. Bool) [ Left ↦ true | Right ↦ false ]

-- how many destinations of each kind
abbrev pub shape_fits : Op → List Dest → List Dest → Bool
shape_fits (Fetch a) ds es = length ds == 1 && length es == 0
shape_fits (Store a) ds es = length ds == 1 && length es == 0
shape_fits Frame ds es = length ds == 1 && length es == 0
shape_fits (Ask o) ds es = length ds == 1 && length es == 0
shape_fits (Link b) ds es = length ds == 1 && list_all is_left ds && nat_le (length es) 1
shape_fits (Take k) ds es = length ds == 0 && length es == 0
shape_fits (Release o) ds es = length ds == 0 && length es == 0
shape_fits (Give k) ds es = nat_le (length ds) 1 && length es == 0
shape_fits (Drain k) ds es = nat_le (length ds) 1 && length es == 0
shape_fits Switch ds es = nat_le (length ds) 1 && nat_le (length es) 1
shape_fits op ds es = nat_le (length ds) 1 && nat_le (length es) (length ds)

-- a later instruction of the block, and a right port only where it takes two tokens
abbrev pub dest_fits : List Instr → ℕ → Dest → Bool
dest_fits is n d = nat_lt 0 d.ahead && nat_lt (n + d.ahead) (length is) && (is_left d || is_dyadic (slice_get is (n + d.ahead)))

abbrev pub dests_fit : CodeBlock → ℕ → Instr → Bool
dests_fit b n i = shape_fits i.op i.firsts i.seconds && list_all (dest_fits b.instrs n) i.firsts && list_all (dest_fits b.instrs n) i.seconds

abbrev pub origin_fits : ℕ → Op → Origin → Bool
origin_fits version op Untold = true
origin_fits version op (At b n) = version == 2 && may_fault op && nat_lt b 256 && nat_lt n 1024

unfoldable pub instr_checked : ℕ → Code → CodeBlock → ℕ → ℕ → Instr → Checked
instr_checked version c b index n i = do
  literal ← unless (literal_fits c i.op) NoLiteral (index + n)
  operand ← unless (operand_fits c i.op) BadOperand (index + n)
  slot ← unless (slot_fits b.slots (slot_of i i.op) i.slot) BadSlot (index + n)
  dests ← unless (dests_fit b n i) BadDestination (index + n)
  unless (origin_fits version i.op i.origin) BadOrigin (index + n)

-- A BLOCK, whose line has that index
abbrev pub entry_fits : CodeBlock → Bool
entry_fits b = nat_le 1 b.inputs && nat_le b.inputs 16 && nat_le 1 b.outputs && nat_le b.outputs 16
    && nat_le (b.inputs + 1) (length b.instrs) && nat_le (length b.instrs) 32768 && nat_le b.slots 512

unfoldable pub block_checked : ℕ → Code → ℕ → CodeBlock → Checked
block_checked version c index b = do
  entry ← unless (entry_fits b) BadBlock index
  each (instr_checked version c b (index + 1)) 0 b.instrs

-- how many lines are before the block of that number, or after the last one
abbrev pub lines_before : List CodeBlock → ℕ → ℕ
lines_before bs n = 1 + sum (map (λ (b : CodeBlock). 1 + length b.instrs) (take n bs))

-- what is said of the blocks, and if they fit, how many lines there are
abbrev pub Counts : Result ℕ Refusal → Checked → ℕ → Type 0
Counts (Ok n) spec lines = (spec ≡ Ok tt) × (n ≡ lines) × (n ≤ 16777729)
Counts (Err e) spec lines = spec ≡ Err e

-- THE ARRAYS, and the cells of those before
abbrev pub arrays_checked : ℕ → ℕ → List ℕ → Checked
arrays_checked index cells [] = Ok tt
arrays_checked index cells (n ∷ ns) = unless (nat_le 1 n && nat_le n 65536 && nat_le (cells + n) 65536) BadArray index >>= λ _. arrays_checked
    (index + 1) (cells + n) ns

-- THE LITERALS
abbrev pub literals_checked : ℕ → List ℤ → Checked
literals_checked index [] = Ok tt
literals_checked index (y ∷ []) = Ok tt
literals_checked index (y ∷ z ∷ zs) = unless (int_lt y z) LiteralOrder (index + 1) >>= λ _. literals_checked (index + 1) (z ∷ zs)

-- THE COUNTS
abbrev pub counts_fit : Code → Bool
counts_fit c = nat_le 1 (length c.program.blocks) && nat_le (length c.program.blocks) 512 && nat_lt c.program.main (length c.program.blocks)
    && nat_le (length c.program.arrays) 64

unfoldable pub head_checked : ℕ → Code → Checked
head_checked version c = do
  known ← unless (version == 1 || version == 2) BadVersion 0
  counts ← unless (counts_fit c) BadCounts 0
  unless (nat_le (length c.literals) 65536) ManyLiterals 0

unfoldable pub blocks_checked : ℕ → Code → Checked
blocks_checked version c = each (λ n b. block_checked version c (lines_before c.program.blocks n) b) 0 c.program.blocks

unfoldable pub code_checked : ℕ → Code → Checked
code_checked version c = do
  head ← head_checked version c
  blocks ← blocks_checked version c
  arrays ← arrays_checked (lines_before c.program.blocks (length c.program.blocks)) 0 c.program.arrays
  literals_checked (lines_before c.program.blocks (length c.program.blocks) + length c.program.arrays) c.literals
