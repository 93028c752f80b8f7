-- A code that has an object is not refused.
use Rattle.std.proofs.Common.{◌≡◌, ℕ, zero, suc, ◌+◌, ◌<◌, ◌≤◌, ◌&&◌, ◌||◌, eqb, ltb, leb, Bool, true, false, List, [], ◌∷◌, length, get_or, All}
use Rattle.std.proofs.Common.{Option, Some, None, Ok, ℤ, pos, negsuc, refl, ap, ◌∙◌, arith, inl, inr}
use Rattle.std.specs.Prelude.{◌⊎◌, ⊤, slice_get, int_lt, sum}
use Rattle.std.specs.List.{list_all}
use Rattle.std.proofs.lemmas.Bool.{lt-ltb, le-leb, le-ltb, eq-eqb, and_from, or_left, or_right}
use Rattle.std.proofs.lemmas.List.Elements.{All-head, All-tail, All-weaker}
use Rattle.std.proofs.lemmas.List.Sums.{list_all-from_AllPass, sum_by-cons}
use Rattle.lemmas.proofs.Alls.{all_at}
use Rattle.tags.specs.declared.token.Port.{Port}
use Rattle.tags.specs.declared.token.Port.TheVariants.{Left, Right}
use Rattle.tags.specs.declared.value.Origin.{Origin}
use Rattle.tags.specs.declared.value.Origin.TheVariants.{Untold, At}
use Rattle.semantics.specs.declared.program.Dest.{Dest}
use Rattle.semantics.specs.declared.program.Op.{Op}
use Rattle.semantics.specs.declared.program.Op.TheVariants.{Apply1, Apply2, Apply2Right, Apply2Left, Lit, Copy, Sync, Switch, Fetch, Store, Frame}
use Rattle.semantics.specs.declared.program.Op.TheVariants.{Link, Send, Return, Ask, Open, Take, Give, Drain, Release}
use Rattle.semantics.specs.Program.{Instr, CodeBlock, Code}
use Rattle.semantics.specs.Rule.{slot_of}
use Rattle.semantics.specs.Bytes.{is_dyadic, IsDest, HasOperand, HasDests, IsOrigin, IsSlot, IsInstr, IsCodeBlock, IsCode}
use Rattle.semantics.specs.Opcodes.{may_fault}
use Rattle.graph_file.specs.Giving.{◌>>=◌}
use Rattle.assembler.specs.declared.cause.Unfit.{Unfit}
use Rattle.assembler.specs.declared.cause.Unfit.TheVariants.{BadVersion, BadCounts, ManyLiterals, BadBlock, BadArray, LiteralOrder}
use Rattle.assembler.specs.Checks.{Checked, unless, each, is_same, has_literal, is_bound, enters, literal_fits, operand_fits, slot_fits, is_left}
use Rattle.assembler.specs.Checks.{shape_fits, dest_fits, origin_fits, instr_checked, entry_fits, block_checked, lines_before, arrays_checked}
use Rattle.assembler.specs.Checks.{literals_checked, counts_fit, head_checked, blocks_checked, code_checked}

-- one check that is passed, and those after it
passes : (b : Bool) (unfit : Unfit) (n : ℕ) → b ≡ true → unless b unfit n ≡ Ok tt
passes b unfit n e = ap (λ (t : Bool). unless t unfit n) e

then_passes : (first : Checked) (next : ⊤ → Checked) → first ≡ Ok tt → next tt ≡ Ok tt → (first >>= next) ≡ Ok tt
then_passes first next e h = ap (λ (r : Checked). r >>= next) e ∙ h

-- ---- operands
same_nat : (a : ℕ) → ltb a a ≡ false
same_nat a = le-ltb a a (omega arith)

same_int : (z : ℤ) → is_same z z ≡ true
same_int (pos a) = rw (same_nat a) refl
same_int (negsuc a) = rw (same_nat a) refl

any_from : (z : ℤ) (zs : List ℤ) (k : ℕ) → k < length zs → get_or zs k z ≡ z → has_literal zs z ≡ true
any_from z [] k lt at = absurd (omega arith)
any_from z (y ∷ ys) zero lt at = or_left (is_same z y) (has_literal ys z) (ap (λ (x : ℤ). is_same z x) at ∙ same_int z)
any_from z (y ∷ ys) (suc k) lt at = or_right (is_same z y) (has_literal ys z) (any_from z ys k (omega arith) at)

literal_there : (c : Code) (op : Op) → HasOperand c op → literal_fits c op ≡ true
literal_there c (Apply1 op) h = refl
literal_there c (Apply2 op) h = refl
literal_there c (Apply2Right op z) h = any_from z c.literals h.0 h.1 h.2
literal_there c (Apply2Left op z) h = any_from z c.literals h.0 h.1 h.2
literal_there c (Lit z) h = any_from z c.literals h.0 h.1 h.2
literal_there c Copy h = refl
literal_there c Sync h = refl
literal_there c Switch h = refl
literal_there c (Fetch a) h = refl
literal_there c (Store a) h = refl
literal_there c Frame h = refl
literal_there c (Link b) h = refl
literal_there c (Send b e) h = refl
literal_there c (Return n) h = refl
literal_there c (Ask n) h = refl
literal_there c (Open k) h = refl
literal_there c (Take k) h = refl
literal_there c (Give k) h = refl
literal_there c (Drain k) h = refl
literal_there c (Release n) h = refl

bound_fits : (k : ℕ) → (2 ≤ k) × (k ≤ 64) → is_bound k ≡ true
bound_fits k h = and_from (leb 2 k) (leb k 64) (le-leb 2 k h.0) (le-leb k 64 h.1)

operand_there : (c : Code) (op : Op) → HasOperand c op → operand_fits c op ≡ true
operand_there c (Apply1 op) h = refl
operand_there c (Apply2 op) h = refl
operand_there c (Apply2Right op z) h = refl
operand_there c (Apply2Left op z) h = refl
operand_there c (Lit z) h = refl
operand_there c Copy h = refl
operand_there c Sync h = refl
operand_there c Switch h = refl
operand_there c (Fetch a) h = lt-ltb a (length c.program.arrays) h
operand_there c (Store a) h = lt-ltb a (length c.program.arrays) h
operand_there c Frame h = refl
operand_there c (Link b) h = lt-ltb b (length c.program.blocks) h
operand_there c (Send b e) h = ap (λ (o : Option CodeBlock). enters o e) h.1 ∙ le-leb e h.0.inputs h.2
operand_there c (Return n) h = le-leb n 255 h
operand_there c (Ask n) h = le-leb n 255 h
operand_there c (Open k) h = bound_fits k h
operand_there c (Take k) h = bound_fits k h
operand_there c (Give k) h = bound_fits k h
operand_there c (Drain k) h = bound_fits k h
operand_there c (Release n) h = le-leb n 255 h

-- ---- slots
slot_there : (b : CodeBlock) (i : Instr) (o : Option ℕ) → IsSlot b i o → slot_fits b.slots o i.slot ≡ true
slot_there b i None h = eq-eqb i.slot 0 h
slot_there b i (Some r) h = lt-ltb r b.slots h

-- ---- destinations
both_sizes : (m n a b : ℕ) → (m ≡ a) × (n ≡ b) → (eqb m a && eqb n b) ≡ true
both_sizes m n a b h = and_from (eqb m a) (eqb n b) (eq-eqb m a h.0) (eq-eqb n b h.1)

most_sizes : (m n a b : ℕ) → (m ≤ a) × (n ≤ b) → (leb m a && leb n b) ≡ true
most_sizes m n a b h = and_from (leb m a) (leb n b) (le-leb m a h.0) (le-leb n b h.1)

most_and_none : (m n a b : ℕ) → (m ≤ a) × (n ≡ b) → (leb m a && eqb n b) ≡ true
most_and_none m n a b h = and_from (leb m a) (eqb n b) (le-leb m a h.0) (eq-eqb n b h.1)

left_there : (d : Dest) → d.port ≡ Left → is_left d ≡ true
left_there d e = rw e refl

all_left : (ds : List Dest) → All (λ (d : Dest). d.port ≡ Left) ds → list_all is_left ds ≡ true
all_left ds h = list_all-from_AllPass is_left ds (All-weaker (λ (d : Dest). d.port ≡ Left) (λ d. is_left d ≡ true) left_there ds h)

shape_there : (op : Op) (ds es : List Dest) → HasDests op ds es → shape_fits op ds es ≡ true
shape_there (Apply1 op) ds es h = most_sizes (length ds) (length es) 1 (length ds) h
shape_there (Apply2 op) ds es h = most_sizes (length ds) (length es) 1 (length ds) h
shape_there (Apply2Right op z) ds es h = most_sizes (length ds) (length es) 1 (length ds) h
shape_there (Apply2Left op z) ds es h = most_sizes (length ds) (length es) 1 (length ds) h
shape_there (Lit z) ds es h = most_sizes (length ds) (length es) 1 (length ds) h
shape_there Copy ds es h = most_sizes (length ds) (length es) 1 (length ds) h
shape_there Sync ds es h = most_sizes (length ds) (length es) 1 (length ds) h
shape_there Switch ds es h = most_sizes (length ds) (length es) 1 1 h
shape_there (Fetch a) ds es h = both_sizes (length ds) (length es) 1 0 h
shape_there (Store a) ds es h = both_sizes (length ds) (length es) 1 0 h
shape_there Frame ds es h = both_sizes (length ds) (length es) 1 0 h
shape_there (Link b) ds es h = and_from (eqb (length ds) 1 && list_all is_left ds) (leb (length es) 1)
    (and_from (eqb (length ds) 1) (list_all is_left ds) (eq-eqb (length ds) 1 h.0) (all_left ds h.1)) (le-leb (length es) 1 h.2)
shape_there (Send b x) ds es h = most_sizes (length ds) (length es) 1 (length ds) h
shape_there (Return o) ds es h = most_sizes (length ds) (length es) 1 (length ds) h
shape_there (Ask o) ds es h = both_sizes (length ds) (length es) 1 0 h
shape_there (Open k) ds es h = most_sizes (length ds) (length es) 1 (length ds) h
shape_there (Take k) ds es h = both_sizes (length ds) (length es) 0 0 h
shape_there (Give k) ds es h = most_and_none (length ds) (length es) 1 0 h
shape_there (Drain k) ds es h = most_and_none (length ds) (length es) 1 0 h
shape_there (Release o) ds es h = both_sizes (length ds) (length es) 0 0 h

right_there : (b : CodeBlock) (n : ℕ) (d : Dest) → IsDest b n d → (is_left d || is_dyadic (slice_get b.instrs (n + d.ahead))) ≡ true
right_there b n d h = go d.port refl
  where
    go : (p : Port) → d.port ≡ p → (is_left d || is_dyadic (slice_get b.instrs (n + d.ahead))) ≡ true
    go Left e = or_left (is_left d) (is_dyadic (slice_get b.instrs (n + d.ahead))) (left_there d e)
    go Right e = or_right (is_left d) (is_dyadic (slice_get b.instrs (n + d.ahead))) (h.right e)

dest_there : (b : CodeBlock) (n : ℕ) (d : Dest) → IsDest b n d → dest_fits b.instrs n d ≡ true
dest_there b n d h =
    and_from (ltb 0 d.ahead && ltb (n + d.ahead) (length b.instrs)) (is_left d || is_dyadic (slice_get b.instrs (n + d.ahead)))
    (and_from (ltb 0 d.ahead) (ltb (n + d.ahead) (length b.instrs)) (lt-ltb 0 d.ahead h.later) (lt-ltb (n + d.ahead) (length b.instrs) h.inside))
    (right_there b n d h)

all_there : (b : CodeBlock) (n : ℕ) (ds : List Dest) → All (IsDest b n) ds → list_all (dest_fits b.instrs n) ds ≡ true
all_there b n ds h = list_all-from_AllPass (dest_fits b.instrs n) ds (All-weaker (IsDest b n) (λ d. dest_fits b.instrs n d ≡ true) (dest_there b n) ds h)

-- ---- origins
origin_there : (version : ℕ) (op : Op) (o : Origin) → IsOrigin version op o → origin_fits version op o ≡ true
origin_there version op Untold h = refl
origin_there version op (At b n) h =
    and_from (eqb version 2 && may_fault op && ltb b 256) (ltb n 1024)
    (and_from (eqb version 2 && may_fault op) (ltb b 256) (and_from (eqb version 2) (may_fault op) (eq-eqb version 2 h.0) h.1) (lt-ltb b 256 h.2))
    (lt-ltb n 1024 h.3)

-- ---- an instruction
instr_passes : (version : ℕ) (c : Code) (b : CodeBlock) (index n : ℕ) (i : Instr) → IsInstr version c b n i → instr_checked version c b index n i ≡ Ok tt
unfolding instr_checked
instr_passes version c b index n i h =
    let dests = and_from (shape_fits i.op i.firsts i.seconds && list_all (dest_fits b.instrs n) i.firsts) (list_all (dest_fits b.instrs n) i.seconds)
    (and_from (shape_fits i.op i.firsts i.seconds) (list_all (dest_fits b.instrs n) i.firsts) (shape_there i.op i.firsts i.seconds h.dests)
    (all_there b n i.firsts h.firsts)) (all_there b n i.seconds h.seconds) in
    rw (
      literal_there c i.op h.operand,
      operand_there c i.op h.operand,
      slot_there b i (slot_of i i.op) h.slot,
      dests,
      origin_there version i.op
          i.origin h.origin,
    ) refl

-- ---- each of them
each_passes : {X : Type 0} (check : ℕ → X → Checked) (n : ℕ) (xs : List X) → ((k : ℕ) (x : X) → slice_get xs k ≡ Some x → check (n + k) x ≡ Ok tt)
    → each check n xs ≡ Ok tt
each_passes check n [] h = refl
each_passes check n (x ∷ xs) h =
    let z : n ≡ n + 0 = omega arith in
    then_passes (check n x) (λ _. each check (n + 1) xs) (ap (λ (m : ℕ). check m x) z ∙ h 0 x refl)
    (each_passes check (n + 1) xs (λ k y at. let e : n + 1 + k ≡ n + suc k = omega arith in ap (λ (m : ℕ). check m y) e ∙ h (suc k) y at))

from_zero : {X : Type 0} (check : ℕ → X → Checked) (xs : List X) → ((k : ℕ) (x : X) → slice_get xs k ≡ Some x → check k x ≡ Ok tt) → each check 0 xs ≡ Ok tt
from_zero check xs h = each_passes check 0 xs (λ k x at. let e : 0 + k ≡ k = omega arith in ap (λ (m : ℕ). check m x) e ∙ h k x at)

-- ---- a block
entry_there : (version : ℕ) (c : Code) (b : CodeBlock) → IsCodeBlock version c b → entry_fits b ≡ true
entry_there version c b h =
    and_from _ _ (and_from _ _ (and_from _ _ (and_from _ _ (and_from _ _ (and_from _ _
    (le-leb 1 b.inputs h.inputs.0) (le-leb b.inputs 16 h.inputs.1)) (le-leb 1 b.outputs h.outputs.0)) (le-leb b.outputs 16 h.outputs.1))
    (le-leb (b.inputs + 1) (length b.instrs) h.size.0)) (le-leb (length b.instrs) 32768 h.size.1)) (le-leb b.slots 512 h.slots)

block_passes : (version : ℕ) (c : Code) (index : ℕ) (b : CodeBlock) → IsCodeBlock version c b → block_checked version c index b ≡ Ok tt
unfolding block_checked
block_passes version c index b h =
    then_passes (unless (entry_fits b) BadBlock index) (λ _. each (instr_checked version c b (index + 1)) 0 b.instrs)
    (passes (entry_fits b) BadBlock index (entry_there version c b h))
    (from_zero (instr_checked version c b (index + 1)) b.instrs (λ n i at. instr_passes version c b (index + 1) n i (h.instrs n i at)))

-- ---- arrays and literals
abbrev IsArray : ℕ → Type 0
IsArray n = (1 ≤ n) × (n ≤ 65536)

arrays_pass : (index cells : ℕ) (ns : List ℕ) → All IsArray ns → cells + sum ns ≤ 65536 → arrays_checked index cells ns ≡ Ok tt
arrays_pass index cells [] all few = refl
arrays_pass index cells (n ∷ ns) all few =
    let one = All-head IsArray n ns all in
    let total = sum_by-cons (λ (x : ℕ). x) n ns in
    let fits = leb 1 n && leb n 65536 && leb (cells + n) 65536 in
    then_passes (unless fits BadArray index) (λ _. arrays_checked (index + 1) (cells + n) ns)
    (passes fits BadArray index (and_from _ _ (and_from _ _ (le-leb 1 n one.0) (le-leb n 65536 one.1)) (le-leb (cells + n) 65536 (omega (arith, total)))))
    (arrays_pass (index + 1) (cells + n) ns (All-tail IsArray n ns all) (omega (arith, total)))

literals_pass : (index : ℕ) (zs : List ℤ) → ((k : ℕ) (y z : ℤ) → slice_get zs k ≡ Some y → slice_get zs (k + 1) ≡ Some z → int_lt y z ≡ true)
    → literals_checked index zs ≡ Ok tt
literals_pass index [] h = refl
literals_pass index (y ∷ []) h = refl
literals_pass index (y ∷ z ∷ zs) h =
    then_passes (unless (int_lt y z) LiteralOrder (index + 1)) (λ _. literals_checked (index + 1) (z ∷ zs))
    (passes (int_lt y z) LiteralOrder (index + 1) (h 0 y z refl refl))
    (literals_pass (index + 1) (z ∷ zs) (λ k a b at next. let e : suc k + 1 ≡ suc (k + 1) = omega arith
    in h (suc k) a b at (ap (slice_get (y ∷ z ∷ zs)) e ∙ next)))

-- ---- the whole
known : (version : ℕ) → (version ≡ 1) ⊎ (version ≡ 2) → (eqb version 1 || eqb version 2) ≡ true
known version (inl e) = or_left (eqb version 1) (eqb version 2) (eq-eqb version 1 e)
known version (inr e) = or_right (eqb version 1) (eqb version 2) (eq-eqb version 2 e)

head_passes : (version : ℕ) (c : Code) → IsCode version c → head_checked version c ≡ Ok tt
unfolding head_checked
head_passes version c h =
    let counts = and_from _ _ (and_from _ _ (and_from _ _ (le-leb 1 (length c.program.blocks) h.some_block.0)
    (le-leb (length c.program.blocks) 512 h.some_block.1)) (lt-ltb c.program.main (length c.program.blocks) h.main))
    (le-leb (length c.program.arrays) 64 h.few_arrays) in
    then_passes (unless (eqb version 1 || eqb version 2) BadVersion 0) (λ _. unless (counts_fit c) BadCounts 0 >>= λ _. unless
    (leb (length c.literals) 65536) ManyLiterals 0) (passes (eqb version 1 || eqb version 2) BadVersion 0 (known version h.version_known))
    (then_passes (unless (counts_fit c) BadCounts 0) (λ _. unless (leb (length c.literals) 65536) ManyLiterals 0) (passes (counts_fit c) BadCounts 0 counts)
    (passes (leb (length c.literals) 65536) ManyLiterals 0 (le-leb (length c.literals) 65536 h.few_literals)))

blocks_pass : (version : ℕ) (c : Code) → IsCode version c → blocks_checked version c ≡ Ok tt
unfolding blocks_checked
blocks_pass version c h = from_zero (λ n b. block_checked version c (lines_before c.program.blocks n) b) c.program.blocks
    (λ k b at. block_passes version c (lines_before c.program.blocks k) b (all_at (IsCodeBlock version c) c.program.blocks k b h.blocks at))

pub lawful_passes : (version : ℕ) (c : Code) → IsCode version c → code_checked version c ≡ Ok tt
unfolding code_checked
lawful_passes version c h =
    let index = lines_before c.program.blocks (length c.program.blocks) in
    then_passes (head_checked version c) (λ _. blocks_checked version c >>= λ _. arrays_checked index 0 c.program.arrays >>= λ _. literals_checked
    (index + length c.program.arrays) c.literals) (head_passes version c h)
    (then_passes (blocks_checked version c) (λ _. arrays_checked index 0 c.program.arrays >>= λ _. literals_checked (index + length c.program.arrays)
    c.literals) (blocks_pass version c h)
    (then_passes (arrays_checked index 0 c.program.arrays) (λ _. literals_checked (index + length c.program.arrays) c.literals)
    (arrays_pass index 0 c.program.arrays h.arrays (let few = h.cells in omega arith))
    (literals_pass (index + length c.program.arrays) c.literals h.ascend)))
