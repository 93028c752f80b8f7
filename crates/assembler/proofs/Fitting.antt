-- A code that is not refused has an object.
use Rattle.std.proofs.Common.{◌≡◌, ℕ, zero, suc, ◌+◌, ◌≤◌, ◌&&◌, ◌||◌, not, eqb, ltb, leb, Bool, true, false, List, [], ◌∷◌, length, get_or, All}
use Rattle.std.proofs.Common.{Contains, Option, Some, None, Ok, ℤ, pos, negsuc, refl, sym, ap, subst, ◌∙◌, arith, inl, inr}
use Rattle.std.specs.Prelude.{◌⊎◌, ⊤, slice_get, int_lt, sum, FitsSigned}
use Rattle.std.specs.Int.{w64}
use Rattle.std.specs.List.{list_all}
use Rattle.std.proofs.lemmas.Bool.{ltb-true, leb-true, eqb-true, and_parts, or_cases}
use Rattle.std.proofs.lemmas.List.Elements.{All-nil, All-cons}
use Rattle.std.proofs.lemmas.List.Sums.{AllPass-from_list_all, sum_by-cons}
use Rattle.std.proofs.lemmas.Map.Views.{Contains-from_any}
use Rattle.tags.specs.declared.token.Port.{Port}
use Rattle.tags.specs.declared.token.Port.TheVariants.{Left, Right}
use Rattle.tags.specs.declared.value.Origin.{Origin}
use Rattle.tags.specs.declared.value.Origin.TheVariants.{Untold, At}
use Rattle.semantics.specs.declared.program.Dest.{Dest}
use Rattle.semantics.specs.declared.program.Op.{Op}
use Rattle.semantics.specs.declared.program.Op.TheVariants.{Apply1, Apply2, Apply2Right, Apply2Left, Lit, Copy, Sync, Switch, Fetch, Store, Frame}
use Rattle.semantics.specs.declared.program.Op.TheVariants.{Link, Send, Return, Ask, Open, Take, Give, Drain, Release}
use Rattle.semantics.specs.Program.{Instr, CodeBlock, Code}
use Rattle.semantics.specs.Rule.{slot_of}
use Rattle.semantics.specs.Bytes.{is_dyadic, IsDest, HasOperand, HasDests, IsOrigin, IsSlot, IsInstr, IsCodeBlock, IsCode}
use Rattle.semantics.specs.Opcodes.{may_fault}
use Rattle.graph_file.specs.Giving.{◌>>=◌}
use Rattle.graph_file.proofs.Binds.{bind_ok}
use Rattle.assembler.specs.declared.cause.Unfit.{Unfit}
use Rattle.assembler.specs.declared.cause.Unfit.TheVariants.{BadVersion, BadCounts, ManyLiterals, BadBlock, BadArray, LiteralOrder, NoLiteral}
use Rattle.assembler.specs.declared.cause.Unfit.TheVariants.{BadOperand, BadSlot, BadDestination, BadOrigin}
use Rattle.assembler.specs.Checks.{Checked, unless, each, is_same, has_literal, is_bound, enters, literal_fits, operand_fits, slot_fits, is_left}
use Rattle.assembler.specs.Checks.{shape_fits, dest_fits, dests_fit, origin_fits, instr_checked, entry_fits, block_checked, lines_before}
use Rattle.assembler.specs.Checks.{arrays_checked, literals_checked, counts_fit, head_checked, blocks_checked, code_checked}

unless_ok : (b : Bool) (unfit : Unfit) (n : ℕ) (x : ⊤) → unless b unfit n ≡ Ok x → b ≡ true
unless_ok true unfit n x e = refl
unless_ok false unfit n x e = absurd cc

-- one check of several, and those after it
then_ok : (b : Bool) (unfit : Unfit) (n : ℕ) (next : ⊤ → Checked) (x : ⊤) → (unless b unfit n >>= next) ≡ Ok x → (b ≡ true) × (next tt ≡ Ok x)
then_ok true unfit n next x e = (refl, e)
then_ok false unfit n next x e = absurd cc

-- ---- operands
pub same_int : (z y : ℤ) → is_same z y ≡ true → z ≡ y
same_int (pos a) (pos b) e =
    let p = and_parts (not (ltb b a)) (not (ltb a b)) e in
    ap pos (grind (arith, p.0, p.1))
same_int (pos a) (negsuc b) e = absurd cc
same_int (negsuc a) (pos b) e = absurd cc
same_int (negsuc a) (negsuc b) e =
    let p = and_parts (not (ltb a b)) (not (ltb b a)) e in
    ap negsuc (grind (arith, p.0, p.1))

literal_has : (c : Code) (z : ℤ) → has_literal c.literals z ≡ true → Contains c.literals z
literal_has c z e = Contains-from_any {eq = is_same} same_int z c.literals e

bound_is : (k : ℕ) → is_bound k ≡ true → (2 ≤ k) × (k ≤ 64)
bound_is k e = let p = and_parts (leb 2 k) (leb k 64) e in (leb-true 2 k p.0, leb-true k 64 p.1)

entry_is : (c : Code) (b e : ℕ) (o : Option CodeBlock) → slice_get c.program.blocks b ≡ o → enters o e ≡ true → (x : CodeBlock)
    × (slice_get c.program.blocks b ≡ Some x) × (e ≤ x.inputs)
entry_is c b e None k h = absurd cc
entry_is c b e (Some x) k h = (x, k, leb-true e x.inputs h)

has_operand : (c : Code) (op : Op) → literal_fits c op ≡ true → operand_fits c op ≡ true → HasOperand c op
has_operand c (Apply1 op) l o = tt
has_operand c (Apply2 op) l o = tt
has_operand c (Apply2Right op z) l o = literal_has c z l
has_operand c (Apply2Left op z) l o = literal_has c z l
has_operand c (Lit z) l o = literal_has c z l
has_operand c Copy l o = tt
has_operand c Sync l o = tt
has_operand c Switch l o = tt
has_operand c (Fetch a) l o = ltb-true a (length c.program.arrays) o
has_operand c (Store a) l o = ltb-true a (length c.program.arrays) o
has_operand c Frame l o = tt
has_operand c (Link b) l o = ltb-true b (length c.program.blocks) o
has_operand c (Send b e) l o = entry_is c b e (slice_get c.program.blocks b) refl o
has_operand c (Return n) l o = leb-true n 255 o
has_operand c (Ask n) l o = leb-true n 255 o
has_operand c (Open k) l o = bound_is k o
has_operand c (Take k) l o = bound_is k o
has_operand c (Give k) l o = bound_is k o
has_operand c (Drain k) l o = bound_is k o
has_operand c (Release n) l o = leb-true n 255 o

-- ---- slots
is_slot : (b : CodeBlock) (i : Instr) (o : Option ℕ) → slot_fits b.slots o i.slot ≡ true → IsSlot b i o
is_slot b i None e = eqb-true i.slot 0 e
is_slot b i (Some r) e = ltb-true r b.slots e

-- ---- destinations
left_is : (d : Dest) → is_left d ≡ true → d.port ≡ Left
left_is d e = go d.port refl e
  where
    go : (p : Port) → d.port ≡ p → (elim p as (λ _. Bool) [ Left ↦ true | Right ↦ false ]) ≡ true → d.port ≡ Left
    go Left k h = k
    go Right k h = absurd cc

right_not_left : (d : Dest) → d.port ≡ Right → is_left d ≡ false
right_not_left d e = rw e refl

both_sizes : (m n a b : ℕ) → (eqb m a && eqb n b) ≡ true → (m ≡ a) × (n ≡ b)
both_sizes m n a b e = let p = and_parts (eqb m a) (eqb n b) e in (eqb-true m a p.0, eqb-true n b p.1)

most_sizes : (m n a b : ℕ) → (leb m a && leb n b) ≡ true → (m ≤ a) × (n ≤ b)
most_sizes m n a b e = let p = and_parts (leb m a) (leb n b) e in (leb-true m a p.0, leb-true n b p.1)

most_and_none : (m n a b : ℕ) → (leb m a && eqb n b) ≡ true → (m ≤ a) × (n ≡ b)
most_and_none m n a b e = let p = and_parts (leb m a) (eqb n b) e in (leb-true m a p.0, eqb-true n b p.1)

all_left : (ds : List Dest) → list_all is_left ds ≡ true → All (λ (d : Dest). d.port ≡ Left) ds
all_left ds e = λ k d lt. left_is (get_or ds k d) (AllPass-from_list_all is_left ds e k d lt)

has_dests : (op : Op) (ds es : List Dest) → shape_fits op ds es ≡ true → HasDests op ds es
has_dests (Apply1 op) ds es e = most_sizes (length ds) (length es) 1 (length ds) e
has_dests (Apply2 op) ds es e = most_sizes (length ds) (length es) 1 (length ds) e
has_dests (Apply2Right op z) ds es e = most_sizes (length ds) (length es) 1 (length ds) e
has_dests (Apply2Left op z) ds es e = most_sizes (length ds) (length es) 1 (length ds) e
has_dests (Lit z) ds es e = most_sizes (length ds) (length es) 1 (length ds) e
has_dests Copy ds es e = most_sizes (length ds) (length es) 1 (length ds) e
has_dests Sync ds es e = most_sizes (length ds) (length es) 1 (length ds) e
has_dests Switch ds es e = most_sizes (length ds) (length es) 1 1 e
has_dests (Fetch a) ds es e = both_sizes (length ds) (length es) 1 0 e
has_dests (Store a) ds es e = both_sizes (length ds) (length es) 1 0 e
has_dests Frame ds es e = both_sizes (length ds) (length es) 1 0 e
has_dests (Link b) ds es e =
    let p = and_parts (eqb (length ds) 1 && list_all is_left ds) (leb (length es) 1) e in
    let q = and_parts (eqb (length ds) 1) (list_all is_left ds) p.0 in
    (eqb-true (length ds) 1 q.0, all_left ds q.1, leb-true (length es) 1 p.1)
has_dests (Send b x) ds es e = most_sizes (length ds) (length es) 1 (length ds) e
has_dests (Return o) ds es e = most_sizes (length ds) (length es) 1 (length ds) e
has_dests (Ask o) ds es e = both_sizes (length ds) (length es) 1 0 e
has_dests (Open k) ds es e = most_sizes (length ds) (length es) 1 (length ds) e
has_dests (Take k) ds es e = both_sizes (length ds) (length es) 0 0 e
has_dests (Give k) ds es e = most_and_none (length ds) (length es) 1 0 e
has_dests (Drain k) ds es e = most_and_none (length ds) (length es) 1 0 e
has_dests (Release o) ds es e = both_sizes (length ds) (length es) 0 0 e

or_second : (a b : Bool) → a ≡ false → (a || b) ≡ true → b ≡ true
or_second true b n e = absurd cc
or_second false b n e = e

is_dest : (b : CodeBlock) (n : ℕ) (d : Dest) → dest_fits b.instrs n d ≡ true → IsDest b n d
is_dest b n d e =
    let right = is_left d || is_dyadic (slice_get b.instrs (n + d.ahead)) in
    let p = and_parts (ltb 0 d.ahead && ltb (n + d.ahead) (length b.instrs)) right e in
    let q = and_parts (ltb 0 d.ahead) (ltb (n + d.ahead) (length b.instrs)) p.0 in
    record {
      later = ltb-true 0 d.ahead q.0;
      inside = ltb-true (n + d.ahead) (length b.instrs) q.1;
      right = λ r. or_second (is_left d) (is_dyadic (slice_get b.instrs (n + d.ahead))) (right_not_left d r) p.1;
    }

are_dests : (b : CodeBlock) (n : ℕ) (ds : List Dest) → list_all (dest_fits b.instrs n) ds ≡ true → All (IsDest b n) ds
are_dests b n ds e = λ k d lt. is_dest b n (get_or ds k d) (AllPass-from_list_all (dest_fits b.instrs n) ds e k d lt)

-- ---- origins
is_origin : (version : ℕ) (op : Op) (o : Origin) → origin_fits version op o ≡ true → IsOrigin version op o
is_origin version op Untold e = tt
is_origin version op (At b n) e =
    let p = and_parts (eqb version 2 && may_fault op && ltb b 256) (ltb n 1024) e in
    let q = and_parts (eqb version 2 && may_fault op) (ltb b 256) p.0 in
    let r = and_parts (eqb version 2) (may_fault op) q.0 in
    (eqb-true version 2 r.0, r.1, ltb-true b 256 q.1, ltb-true n 1024 p.1)

-- ---- an instruction
is_instr : (version : ℕ) (c : Code) (b : CodeBlock) (index n : ℕ) (i : Instr) (x : ⊤) → instr_checked version c b index n i ≡ Ok x → IsInstr version c b n i
unfolding instr_checked
is_instr version c b index n i x e =
    let l = then_ok (literal_fits c i.op) NoLiteral (index + n) (λ _. unless (operand_fits c i.op) BadOperand (index + n) >>= λ _. unless
    (slot_fits b.slots (slot_of i i.op) i.slot) BadSlot (index + n) >>= λ _. unless (dests_fit b n i) BadDestination (index + n) >>= λ _. unless
    (origin_fits version i.op i.origin) BadOrigin (index + n)) x e in
    let o = then_ok (operand_fits c i.op) BadOperand (index + n) (λ _. unless (slot_fits b.slots (slot_of i i.op) i.slot) BadSlot (index + n) >>= λ _.
    unless (dests_fit b n i) BadDestination (index + n) >>= λ _. unless (origin_fits version i.op i.origin) BadOrigin (index + n)) x l.1 in
    let s = then_ok (slot_fits b.slots (slot_of i i.op) i.slot) BadSlot (index + n) (λ _. unless (dests_fit b n i) BadDestination (index + n) >>= λ _.
    unless (origin_fits version i.op i.origin) BadOrigin (index + n)) x o.1 in
    let d = then_ok (dests_fit b n i) BadDestination (index + n) (λ _. unless (origin_fits version i.op i.origin) BadOrigin (index + n)) x s.1 in
    let g = unless_ok (origin_fits version i.op i.origin) BadOrigin (index + n) x d.1 in
    let p = and_parts (shape_fits i.op i.firsts i.seconds && list_all (dest_fits b.instrs n) i.firsts) (list_all (dest_fits b.instrs n) i.seconds) d.0 in
    let q = and_parts (shape_fits i.op i.firsts i.seconds) (list_all (dest_fits b.instrs n) i.firsts) p.0 in
    record {
      operand = has_operand c i.op l.0 o.0;
      origin = is_origin version i.op i.origin g;
      slot = is_slot b i (slot_of i i.op) s.0;
      dests = has_dests i.op i.firsts i.seconds q.0;
      firsts = are_dests b n i.firsts q.1;
      seconds = are_dests b n i.seconds p.1;
    }

-- ---- each of them
each_at : {X : Type 0} (check : ℕ → X → Checked) (n : ℕ) (xs : List X) (k : ℕ) (x : X) (t : ⊤) → each check n xs ≡ Ok t → slice_get xs k ≡ Some x
    → check (n + k) x ≡ Ok tt
each_at check n [] k x t e h = absurd cc
each_at check n (y ∷ ys) zero x t e h =
    let b = bind_ok (check n y) (λ _. each check (n + 1) ys) t e in
    let same : y ≡ x = cc (h) in
    let here : n ≡ n + 0 = omega arith in
    subst (λ (m : ℕ). check m x ≡ Ok tt) here (subst (λ (z : _). check n z ≡ Ok tt) same b.1)
each_at check n (y ∷ ys) (suc k) x t e h =
    let b = bind_ok (check n y) (λ _. each check (n + 1) ys) t e in
    let next : n + 1 + k ≡ n + suc k = omega arith in
    subst (λ (m : ℕ). check m x ≡ Ok tt) next (each_at check (n + 1) ys k x t b.2 h)

each_all : {X : Type 0} (P : X → Type 0) (check : ℕ → X → Checked) (n : ℕ) (xs : List X) (t : ⊤) → ((m : ℕ) (x : X) → check m x ≡ Ok tt → P x)
    → each check n xs ≡ Ok t → All P xs
each_all P check n [] t f e = All-nil P
each_all P check n (y ∷ ys) t f e =
    let b = bind_ok (check n y) (λ _. each check (n + 1) ys) t e in
    All-cons P y ys (f n y b.1) (each_all P check (n + 1) ys t f b.2)

-- ---- a block
is_block : (version : ℕ) (c : Code) (index : ℕ) (b : CodeBlock) → block_checked version c index b ≡ Ok tt → IsCodeBlock version c b
unfolding block_checked
is_block version c index b e =
    let h = then_ok (entry_fits b) BadBlock index (λ _. each (instr_checked version c b (index + 1)) 0 b.instrs) tt e in
    let a = and_parts (leb 1 b.inputs && leb b.inputs 16 && leb 1 b.outputs && leb b.outputs 16 && leb (b.inputs + 1) (length b.instrs)
    && leb (length b.instrs) 32768) (leb b.slots 512) h.0 in
    let d = and_parts (leb 1 b.inputs && leb b.inputs 16 && leb 1 b.outputs && leb b.outputs 16 && leb (b.inputs + 1) (length b.instrs))
    (leb (length b.instrs) 32768) a.0 in
    let f = and_parts (leb 1 b.inputs && leb b.inputs 16 && leb 1 b.outputs && leb b.outputs 16) (leb (b.inputs + 1) (length b.instrs)) d.0 in
    let g = and_parts (leb 1 b.inputs && leb b.inputs 16 && leb 1 b.outputs) (leb b.outputs 16) f.0 in
    let i = and_parts (leb 1 b.inputs && leb b.inputs 16) (leb 1 b.outputs) g.0 in
    let j = and_parts (leb 1 b.inputs) (leb b.inputs 16) i.0 in
    record {
      inputs = (leb-true 1 b.inputs j.0, leb-true b.inputs 16 j.1);
      outputs = (leb-true 1 b.outputs i.1, leb-true b.outputs 16 g.1);
      size = (leb-true (b.inputs + 1) (length b.instrs) f.1, leb-true (length b.instrs) 32768 d.1);
      slots = leb-true b.slots 512 a.1;
      instrs = λ n x at. is_instr version c b (index + 1) n x tt (let zero-is : 0 + n ≡ n = omega arith
          in subst (λ (m : ℕ). instr_checked version c b (index + 1) m x ≡ Ok tt) zero-is (each_at (instr_checked version c b (index + 1)) 0 b.instrs
          n x tt h.1 at));
    }

-- ---- arrays and literals
abbrev IsArray : ℕ → Type 0
IsArray n = (1 ≤ n) × (n ≤ 65536)

sum-cons : (n : ℕ) (ns : List ℕ) → sum (n ∷ ns) ≡ n + sum ns
sum-cons n ns = sum_by-cons (λ (x : ℕ). x) n ns

arrays_fit : (index cells : ℕ) (ns : List ℕ) (t : ⊤) → cells ≤ 65536 → arrays_checked index cells ns ≡ Ok t → All IsArray ns × (cells + sum ns ≤ 65536)
arrays_fit index cells [] t few e = (All-nil IsArray, omega arith)
arrays_fit index cells (n ∷ ns) t few e =
    let fits = leb 1 n && leb n 65536 && leb (cells + n) 65536 in
    let h = then_ok fits BadArray index (λ _. arrays_checked (index + 1) (cells + n) ns) t e in
    let p = and_parts (leb 1 n && leb n 65536) (leb (cells + n) 65536) h.0 in
    let q = and_parts (leb 1 n) (leb n 65536) p.0 in
    let rest = arrays_fit (index + 1) (cells + n) ns t (leb-true (cells + n) 65536 p.1) h.1 in
    (All-cons IsArray n ns (leb-true 1 n q.0, leb-true n 65536 q.1) rest.0, omega (arith, rest.1, sum-cons n ns))

ascend : (index : ℕ) (ls : List ℤ) (t : ⊤) → literals_checked index ls ≡ Ok t → (k : ℕ) (y z : ℤ) → slice_get ls k ≡ Some y → slice_get ls (k + 1)
    ≡ Some z → int_lt y z ≡ true
ascend index [] t e k y z a b = absurd cc
ascend index (x ∷ []) t e zero y z a b = absurd cc
ascend index (x ∷ []) t e (suc k) y z a b = absurd cc
ascend index (x ∷ w ∷ ws) t e zero y z a b =
    let h = then_ok (int_lt x w) LiteralOrder (index + 1) (λ _. literals_checked (index + 1) (w ∷ ws)) t e in
    let first : x ≡ y = cc (a) in
    let second : w ≡ z = cc (b) in
    subst (λ (v : ℤ). int_lt v z ≡ true) first (subst (λ (v : ℤ). int_lt x v ≡ true) second h.0)
ascend index (x ∷ w ∷ ws) t e (suc k) y z a b =
    let h = then_ok (int_lt x w) LiteralOrder (index + 1) (λ _. literals_checked (index + 1) (w ∷ ws)) t e in
    let next : suc k + 1 ≡ suc (k + 1) = omega arith in
    let later : slice_get (w ∷ ws) (k + 1) ≡ Some z = sym (ap (slice_get (x ∷ w ∷ ws)) next) ∙ b in
    ascend (index + 1) (w ∷ ws) t h.1 k y z a later

-- ---- the whole
known : (version : ℕ) → (eqb version 1 || eqb version 2) ≡ true → (version ≡ 1) ⊎ (version ≡ 2)
known version e = elim (or_cases (eqb version 1) (eqb version 2) e) as (λ _. (version ≡ 1) ⊎ (version ≡ 2)) [
  | inl h ↦ inl (eqb-true version 1 h)
  | inr h ↦ inr (eqb-true version 2 h)
]

abbrev before_arrays : Code → ℕ
before_arrays c = lines_before c.program.blocks (length c.program.blocks)

pub has_object : (version : ℕ) (c : Code) → All (λ (z : ℤ). FitsSigned w64 z) c.literals → code_checked version c ≡ Ok tt → IsCode version c
unfolding code_checked head_checked blocks_checked
has_object version c fit e =
    let h = bind_ok (head_checked version c) (λ _. blocks_checked version c >>= λ _. arrays_checked (before_arrays c) 0 c.program.arrays >>= λ _.
    literals_checked (before_arrays c + length c.program.arrays) c.literals) tt e in
    let b = bind_ok (blocks_checked version c) (λ _. arrays_checked (before_arrays c) 0 c.program.arrays >>= λ _. literals_checked
    (before_arrays c + length c.program.arrays) c.literals) tt h.2 in
    let a = bind_ok (arrays_checked (before_arrays c) 0 c.program.arrays) (λ _. literals_checked (before_arrays c + length c.program.arrays)
    c.literals) tt b.2 in
    let v = then_ok (eqb version 1 || eqb version 2) BadVersion 0 (λ _. unless (counts_fit c) BadCounts 0 >>= λ _. unless
    (leb (length c.literals) 65536) ManyLiterals 0) h.0 h.1 in
    let n = then_ok (counts_fit c) BadCounts 0 (λ _. unless (leb (length c.literals) 65536) ManyLiterals 0) h.0 v.1 in
    let l = unless_ok (leb (length c.literals) 65536) ManyLiterals 0 h.0 n.1 in
    let p = and_parts (leb 1 (length c.program.blocks) && leb (length c.program.blocks) 512 && ltb c.program.main (length c.program.blocks))
    (leb (length c.program.arrays) 64) n.0 in
    let q = and_parts (leb 1 (length c.program.blocks) && leb (length c.program.blocks) 512) (ltb c.program.main (length c.program.blocks)) p.0 in
    let r = and_parts (leb 1 (length c.program.blocks)) (leb (length c.program.blocks) 512) q.0 in
    let arrays = arrays_fit (before_arrays c) 0 c.program.arrays a.0 (omega arith) a.1 in
    record {
      version_known = known version v.0;
      some_block = (leb-true 1 (length c.program.blocks) r.0, leb-true (length c.program.blocks) 512 r.1);
      main = ltb-true c.program.main (length c.program.blocks) q.1;
      few_literals = leb-true (length c.literals) 65536 l;
      literals = fit;
      ascend = ascend (before_arrays c + length c.program.arrays) c.literals tt a.2;
      few_arrays = leb-true (length c.program.arrays) 64 p.1;
      arrays = arrays.0;
      cells = omega (arith, arrays.1);
      blocks = each_all (IsCodeBlock version c) (λ m x. block_checked version c (lines_before c.program.blocks m) x) 0 c.program.blocks b.0
          (λ m x k. is_block version c (lines_before c.program.blocks m) x k) b.1;
    }
