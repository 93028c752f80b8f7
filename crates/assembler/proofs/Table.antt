-- The table that the instructions of a code determine: with it the program has an object, too; and where each literal of the
-- code's own table is an operand, the two are the same.
use Rattle.std.proofs.Common.{◌≡◌, ℕ, zero, suc, ◌≤◌, List, [], ◌∷◌, Option, Some, None, ℤ, refl, sym, ap, subst, ◌∙◌, arith, inl, inr}
use Rattle.std.specs.Prelude.{◌⊎◌, slice_get, Contains}
use Rattle.std.specs.Int.{w64}
use Rattle.std.specs.Int.RustNames.{FitsSigned}
use Rattle.std.proofs.lemmas.Option.{get_or_from_slice_get}
use Rattle.std.proofs.lemmas.List.Elements.{All-contains}
use Rattle.lemmas.proofs.Alls.{all_at, all_from}
use Rattle.semantics.specs.declared.program.Op.{Op}
use Rattle.semantics.specs.declared.program.Op.TheVariants.{Apply1, Apply2, Apply2Right, Apply2Left, Lit, Copy, Sync, Switch, Fetch, Store, Frame}
use Rattle.semantics.specs.declared.program.Op.TheVariants.{Link, Send, Return, Ask, Open, Take, Give, Drain, Release}
use Rattle.semantics.specs.Program.{Instr, CodeBlock, Code}
use Rattle.semantics.specs.Bytes.{HasOperand, IsInstr, IsCodeBlock, IsCode}
use Rattle.disassembler.specs.Listing.{literal_of}
use Rattle.assembler.specs.Grammar.{with_literal, used_by, used_in, table_of, IsOperand, AllOperands, with_operands}
use Rattle.assembler.proofs.Ascents.{In, Ascends, ascends_from, steps_up, same_members, no_more, ascends_put, put_has, put_new, put_old, in_from}
use Rattle.assembler.proofs.Ascents.{in_at, place_of}

-- ---- which literals instructions have
abbrev UsedBy : ℤ → List Instr → Type 0
UsedBy z [] = ⊥
UsedBy z (i ∷ is) = (literal_of i.op ≡ Some z) ⊎ UsedBy z is

abbrev UsedIn : ℤ → List CodeBlock → Type 0
UsedIn z [] = ⊥
UsedIn z (b ∷ bs) = UsedBy z b.instrs ⊎ UsedIn z bs

ascends_with : (o : Option ℤ) (t : List ℤ) → Ascends t → Ascends (with_literal o t)
ascends_with None t h = h
ascends_with (Some z) t h = ascends_put z t h

with_has : (z : ℤ) (o : Option ℤ) (t : List ℤ) → In z (with_literal o t) → (o ≡ Some z) ⊎ In z t
with_has z None t i = inr i
with_has z (Some k) t i = go (put_has z k t i)
  where
    go : (k ≡ z) ⊎ In z t → (Some k ≡ Some z) ⊎ In z t
    go (inl e) = inl (ap (λ (w : ℤ). Some w) e)
    go (inr j) = inr j

with_old : (z : ℤ) (o : Option ℤ) (t : List ℤ) → In z t → In z (with_literal o t)
with_old z None t i = i
with_old z (Some k) t i = put_old z k t i

with_new : (z : ℤ) (o : Option ℤ) (t : List ℤ) → o ≡ Some z → In z (with_literal o t)
with_new z o t e = subst (λ (p : Option ℤ). In z (with_literal p t)) (sym e) (put_new z t)

ascends_by : (is : List Instr) (t : List ℤ) → Ascends t → Ascends (used_by is t)
unfolding used_by
ascends_by [] t h = h
ascends_by (i ∷ is) t h = ascends_by is (with_literal (literal_of i.op) t) (ascends_with (literal_of i.op) t h)

ascends_in : (bs : List CodeBlock) (t : List ℤ) → Ascends t → Ascends (used_in bs t)
unfolding used_in
ascends_in [] t h = h
ascends_in (b ∷ bs) t h = ascends_in bs (used_by b.instrs t) (ascends_by b.instrs t h)

by_has : (z : ℤ) (is : List Instr) (t : List ℤ) → In z (used_by is t) → UsedBy z is ⊎ In z t
unfolding used_by
by_has z [] t i = inr i
by_has z (j ∷ js) t i = go (by_has z js (with_literal (literal_of j.op) t) i)
  where
    more : (literal_of j.op ≡ Some z) ⊎ In z t → UsedBy z (j ∷ js) ⊎ In z t
    more (inl e) = inl (inl e)
    more (inr m) = inr m

    go : UsedBy z js ⊎ In z (with_literal (literal_of j.op) t) → UsedBy z (j ∷ js) ⊎ In z t
    go (inl u) = inl (inr u)
    go (inr m) = more (with_has z (literal_of j.op) t m)

by_old : (z : ℤ) (is : List Instr) (t : List ℤ) → In z t → In z (used_by is t)
unfolding used_by
by_old z [] t i = i
by_old z (j ∷ js) t i = by_old z js (with_literal (literal_of j.op) t) (with_old z (literal_of j.op) t i)

by_new : (z : ℤ) (is : List Instr) (t : List ℤ) → UsedBy z is → In z (used_by is t)
unfolding used_by
by_new z [] t u = absurd u
by_new z (j ∷ js) t (inl e) = by_old z js (with_literal (literal_of j.op) t) (with_new z (literal_of j.op) t e)
by_new z (j ∷ js) t (inr u) = by_new z js (with_literal (literal_of j.op) t) u

in_has : (z : ℤ) (bs : List CodeBlock) (t : List ℤ) → In z (used_in bs t) → UsedIn z bs ⊎ In z t
unfolding used_in
in_has z [] t i = inr i
in_has z (b ∷ bs) t i = go (in_has z bs (used_by b.instrs t) i)
  where
    more : UsedBy z b.instrs ⊎ In z t → UsedIn z (b ∷ bs) ⊎ In z t
    more (inl u) = inl (inl u)
    more (inr m) = inr m

    go : UsedIn z bs ⊎ In z (used_by b.instrs t) → UsedIn z (b ∷ bs) ⊎ In z t
    go (inl u) = inl (inr u)
    go (inr m) = more (by_has z b.instrs t m)

in_old : (z : ℤ) (bs : List CodeBlock) (t : List ℤ) → In z t → In z (used_in bs t)
unfolding used_in
in_old z [] t i = i
in_old z (b ∷ bs) t i = in_old z bs (used_by b.instrs t) (by_old z b.instrs t i)

in_new : (z : ℤ) (bs : List CodeBlock) (t : List ℤ) → UsedIn z bs → In z (used_in bs t)
unfolding used_in
in_new z [] t u = absurd u
in_new z (b ∷ bs) t (inl u) = in_old z bs (used_by b.instrs t) (by_new z b.instrs t u)
in_new z (b ∷ bs) t (inr u) = in_new z bs (used_by b.instrs t) u

-- ---- what the instructions have is in the table
operand_is : (c : Code) (op : Op) (z : ℤ) → literal_of op ≡ Some z → HasOperand c op → Contains c.literals z
operand_is c (Apply1 op) z e h = absurd cc
operand_is c (Apply2 op) z e h = absurd cc
operand_is c (Apply2Right op y) z e h = let k : y ≡ z = cc in subst (λ (x : ℤ). Contains c.literals x) k h
operand_is c (Apply2Left op y) z e h = let k : y ≡ z = cc in subst (λ (x : ℤ). Contains c.literals x) k h
operand_is c (Lit y) z e h = let k : y ≡ z = cc in subst (λ (x : ℤ). Contains c.literals x) k h
operand_is c Copy z e h = absurd cc
operand_is c Sync z e h = absurd cc
operand_is c Switch z e h = absurd cc
operand_is c (Fetch a) z e h = absurd cc
operand_is c (Store a) z e h = absurd cc
operand_is c Frame z e h = absurd cc
operand_is c (Link b) z e h = absurd cc
operand_is c (Send b x) z e h = absurd cc
operand_is c (Return o) z e h = absurd cc
operand_is c (Ask o) z e h = absurd cc
operand_is c (Open k) z e h = absurd cc
operand_is c (Take k) z e h = absurd cc
operand_is c (Give k) z e h = absurd cc
operand_is c (Drain k) z e h = absurd cc
operand_is c (Release o) z e h = absurd cc

instr_of : (z : ℤ) (is : List Instr) → UsedBy z is → (k : ℕ) × (i : Instr) × (slice_get is k ≡ Some i) × (literal_of i.op ≡ Some z)
instr_of z [] u = absurd u
instr_of z (j ∷ js) (inl e) = (0, j, refl, e)
instr_of z (j ∷ js) (inr u) = let r = instr_of z js u in (suc r.0, r.1, r.2, r.3)

block_of : (z : ℤ) (bs : List CodeBlock) → UsedIn z bs → (k : ℕ) × (b : CodeBlock) × (slice_get bs k ≡ Some b) × UsedBy z b.instrs
block_of z [] u = absurd u
block_of z (b ∷ bs) (inl u) = (0, b, refl, u)
block_of z (b ∷ bs) (inr u) = let r = block_of z bs u in (suc r.0, r.1, r.2, r.3)

used_contained : (v : ℕ) (c : Code) (z : ℤ) → IsCode v c → UsedIn z c.program.blocks → Contains c.literals z
used_contained v c z is u =
    let b = block_of z c.program.blocks u in
    let i = instr_of z b.1.instrs b.3 in
    let block = all_at (IsCodeBlock v c) c.program.blocks b.0 b.1 is.blocks b.2 in
    let it = block.instrs i.0 i.1 i.2 in
    operand_is c i.1.op z i.3 it.operand

-- ---- what is in the table the instructions have
by_instr : (z : ℤ) (is : List Instr) (n : ℕ) (i : Instr) → slice_get is n ≡ Some i → literal_of i.op ≡ Some z → UsedBy z is
by_instr z [] n i at e = absurd cc
by_instr z (j ∷ js) zero i at e = let k : j ≡ i = cc (at) in inl (ap (λ (x : Instr). literal_of x.op) k ∙ e)
by_instr z (j ∷ js) (suc n) i at e = inr (by_instr z js n i at e)

by_block : (z : ℤ) (bs : List CodeBlock) (k : ℕ) (b : CodeBlock) → slice_get bs k ≡ Some b → UsedBy z b.instrs → UsedIn z bs
by_block z [] k b at u = absurd cc
by_block z (x ∷ xs) zero b at u = let same : x ≡ b = cc (at) in inl (subst (λ (y : CodeBlock). UsedBy z y.instrs) (sym same) u)
by_block z (x ∷ xs) (suc k) b at u = inr (by_block z xs k b at u)

used_from : (z : ℤ) (bs : List CodeBlock) → IsOperand bs z → UsedIn z bs
used_from z bs o = by_block z bs o.0 o.1 o.2 (by_instr z o.1.instrs o.3.0 o.3.1 o.3.2 o.3.3)

operand_from : (z : ℤ) (bs : List CodeBlock) → UsedIn z bs → IsOperand bs z
operand_from z bs u = let b = block_of z bs u in (b.0, b.1, b.2, instr_of z b.1.instrs b.3)

-- ---- the table that the instructions determine
reread_used : (z : ℤ) (bs : List CodeBlock) → In z (table_of bs) → UsedIn z bs
reread_used z bs i = go (in_has z bs [] i)
  where
    go : UsedIn z bs ⊎ In z [] → UsedIn z bs
    go (inl u) = u
    go (inr j) = absurd j

reread_contained : (v : ℕ) (c : Code) (z : ℤ) → IsCode v c → In z (table_of c.program.blocks) → Contains c.literals z
reread_contained v c z is i = used_contained v c z is (reread_used z c.program.blocks i)

reread_in : (v : ℕ) (c : Code) (z : ℤ) → IsCode v c → In z (table_of c.program.blocks) → In z c.literals
reread_in v c z is i = let h = reread_contained v c z is i in in_from z c.literals h.0 h.1 h.2

reread_ascends : (c : Code) → Ascends (table_of c.program.blocks)
reread_ascends c = ascends_in c.program.blocks [] tt

pub table_reread : (v : ℕ) (c : Code) → IsCode v c → AllOperands c → c.literals ≡ table_of c.program.blocks
table_reread v c is reread =
    same_members c.literals (table_of c.program.blocks) (ascends_from c.literals is.ascend) (reread_ascends c)
    (λ z i. let p = place_of z c.literals i in in_new z c.program.blocks []
    (used_from z c.program.blocks (all_at (IsOperand c.program.blocks) c.literals p.0 z reread p.2)))
    (λ z i. reread_in v c z is i)

pub reread_itself : (c : Code) → AllOperands (with_operands c)
reread_itself c = all_from (IsOperand c.program.blocks) (table_of c.program.blocks)
    (λ k z at. operand_from z c.program.blocks (reread_used z c.program.blocks (in_at z (table_of c.program.blocks) k at)))

-- ---- with that table a program has an object, too
contains_from : (z : ℤ) (zs : List ℤ) → In z zs → Contains zs z
contains_from z zs i = let p = place_of z zs i in (p.0, p.1, get_or_from_slice_get zs p.0 z z p.2)

operand_reread : (c : Code) (op : Op) → ((z : ℤ) → literal_of op ≡ Some z → Contains (table_of c.program.blocks) z) → HasOperand c op
    → HasOperand (with_operands c) op
operand_reread c (Apply1 op) u h = tt
operand_reread c (Apply2 op) u h = tt
operand_reread c (Apply2Right op z) u h = u z refl
operand_reread c (Apply2Left op z) u h = u z refl
operand_reread c (Lit z) u h = u z refl
operand_reread c Copy u h = tt
operand_reread c Sync u h = tt
operand_reread c Switch u h = tt
operand_reread c (Fetch a) u h = h
operand_reread c (Store a) u h = h
operand_reread c Frame u h = tt
operand_reread c (Link b) u h = h
operand_reread c (Send b x) u h = h
operand_reread c (Return o) u h = h
operand_reread c (Ask o) u h = h
operand_reread c (Open k) u h = h
operand_reread c (Take k) u h = h
operand_reread c (Give k) u h = h
operand_reread c (Drain k) u h = h
operand_reread c (Release o) u h = h

instr_reread : (v : ℕ) (c : Code) (k : ℕ) (b : CodeBlock) (n : ℕ) (i : Instr) → slice_get c.program.blocks k ≡ Some b → slice_get b.instrs n ≡ Some i
    → IsInstr v c b n i → IsInstr v (with_operands c) b n i
instr_reread v c k b n i at here is = record {
  operand = operand_reread c i.op (λ z e. contains_from z (table_of c.program.blocks)
      (in_new z c.program.blocks [] (by_block z c.program.blocks k b at (by_instr z b.instrs n i here e)))) is.operand;
  origin = is.origin;
  slot = is.slot;
  dests = is.dests;
  firsts = is.firsts;
  seconds = is.seconds;
}

block_reread : (v : ℕ) (c : Code) (k : ℕ) (b : CodeBlock) → slice_get c.program.blocks k ≡ Some b → IsCodeBlock v c b → IsCodeBlock v (with_operands c) b
block_reread v c k b at is = record {
  inputs = is.inputs;
  outputs = is.outputs;
  size = is.size;
  slots = is.slots;
  instrs = λ n i here. instr_reread v c k b n i at here (is.instrs n i here);
}

pub code_reread : (v : ℕ) (c : Code) → IsCode v c → IsCode v (with_operands c)
code_reread v c is =
    let table = table_of c.program.blocks in
    let few = no_more c.literals table (reread_ascends c) (ascends_from c.literals is.ascend) (λ z i. reread_in v c z is i) in
    record {
      version_known = is.version_known;
      some_block = is.some_block;
      main = is.main;
      few_literals = (let most = is.few_literals in omega (arith, few, most));
      literals = all_from (λ (z : ℤ). FitsSigned w64 z) table (λ k z at. All-contains (λ (y : ℤ). FitsSigned w64 y) c.literals z is.literals
          (reread_contained v c z is (in_at z table k at)));
      ascend = steps_up table (reread_ascends c);
      few_arrays = is.few_arrays;
      arrays = is.arrays;
      cells = is.cells;
      blocks = all_from (IsCodeBlock v (with_operands c)) c.program.blocks
          (λ k b at. block_reread v c k b at (all_at (IsCodeBlock v c) c.program.blocks k b is.blocks at));
    }
