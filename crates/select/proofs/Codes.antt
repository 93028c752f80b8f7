-- Where a plan with slots can be emitted and nothing goes too far, its code has a spelling.
use Rattle.std.proofs.Common.{◌≡◌, ℕ, zero, suc, ◌≤◌, ℤ, Some, None, List, [], ◌∷◌, length, refl, ap, sym, subst, All, Contains, arith, ◌⊎◌}
use Rattle.std.specs.Prelude.{slice_get, FitsSigned}
use Rattle.std.specs.Int.{w64}
use Rattle.lemmas.proofs.Alls.{all_at, all_left, all_right}
use Rattle.semantics.specs.Program.{Instr, CodeBlock, Code}
use Rattle.semantics.specs.Plan.{Plan}
use Rattle.semantics.specs.Placed.{placed}
use Rattle.semantics.specs.Bytes.{IsDest, IsInstr, IsCodeBlock, IsCode}
use Rattle.semantics.specs.Opcodes.{may_fault}
use Rattle.select.specs.Emitted.{emitted_program}
use Rattle.semantics.specs.Opcodes.{has_sides}
use Rattle.select.specs.Literals.{literal_of, as_list, used_by, used_in, table_of, too_far, IsAscending}
use Rattle.select.specs.Emittable.{IsEmittableInstr, IsEmittableBlock, IsEmittable, with_table}
use Rattle.select.proofs.Tables.{near, table_has}
use Rattle.select.proofs.Spelling.{coded, put, each_block, block_count, block_there, needed_low, instr_there, instr_count, dest_there, firsts_all}
use Rattle.select.proofs.Spelling.{seconds_all, origin_kept, slot_there, operand_there}

used_at : (P : ℤ → Type 0) (is : List Instr) (n : ℕ) (i : Instr) → All P (used_by is) → slice_get is n ≡ Some i → All P (as_list (literal_of i.op))
used_at P [] n i a h = cc
used_at P (j ∷ is) zero i a h = let same : j ≡ i = cc in subst (λ (x : Instr). All P (as_list (literal_of x.op))) same
    (all_left P (as_list (literal_of j.op)) (used_by is) a)
used_at P (j ∷ is) (suc n) i a h = used_at P is n i (all_right P (as_list (literal_of j.op)) (used_by is) a) h

used_of : (P : ℤ → Type 0) (cs : List CodeBlock) (n : ℕ) (c : CodeBlock) → All P (used_in cs) → slice_get cs n ≡ Some c → All P (used_by c.instrs)
used_of P [] n c a h = cc
used_of P (d ∷ cs) zero c a h = let same : d ≡ c = cc in subst (λ (x : CodeBlock). All P (used_by x.instrs)) same (all_left P (used_by d.instrs) (used_in cs) a)
used_of P (d ∷ cs) (suc n) c a h = used_of P cs n c (all_right P (used_by d.instrs) (used_in cs) a) h

abbrev whole : ℕ → Plan → List (List ℕ) → List ℤ → Code
whole v p slots ls = with_table (emitted_program v (placed p slots)) ls

instr_spelt : (v : ℕ) (p : Plan) (slots : List (List ℕ)) (ls : List ℤ) (c : CodeBlock) (ss : List ℕ) (n : ℕ) (i : Instr) → length slots
    ≡ length p.program.blocks
    → All (Contains ls) (as_list (literal_of i.op)) → IsEmittableInstr p.program c ss n i → IsInstr v (whole v p slots ls) (coded v ss c) n (put v ss i)
instr_spelt v p slots ls c ss n i same used e =
    let firsts : All (IsDest (coded v ss c) n) i.firsts = (λ k d lt. dest_there v ss c n _ (e.firsts k d lt)) in
    let seconds : All (IsDest (coded v ss c) n) i.seconds = (λ k d lt. dest_there v ss c n _ (e.seconds k d lt)) in
    record {
      operand = operand_there p.program (emitted_program v (placed p slots)) ls i.op refl (block_count v slots p.program.blocks same)
          (λ b x h. block_there v slots p.program.blocks b x same h) used e.operand;
      origin = origin_kept v i.op (may_fault i.op) i.origin refl e.origin;
      slot = slot_there ss (coded v ss c) i (put v ss i) i.op refl refl e.holder;
      dests = e.dests;
      firsts = firsts_all (IsDest (coded v ss c) n) (has_sides i.op) i.firsts i.seconds firsts seconds;
      seconds = seconds_all (IsDest (coded v ss c) n) (has_sides i.op) i.firsts i.seconds firsts seconds;
    }

block_spelt : (v : ℕ) (p : Plan) (slots : List (List ℕ)) (ls : List ℤ) (c : CodeBlock) (ss : List ℕ) → length slots ≡ length p.program.blocks
    → All (Contains ls) (used_by c.instrs) → length c.instrs ≤ 32768 → IsEmittableBlock p.program c ss → IsCodeBlock v (whole v p slots ls) (coded v ss c)
block_spelt v p slots ls c ss same used short e = record {
  inputs = e.inputs;
  outputs = e.outputs;
  size = let count = instr_count v ss c.instrs in let big = e.size in (omega arith, omega arith);
  slots = needed_low ss e.low;
  instrs = λ n x h. let t = instr_there v ss c.instrs n x h in
      subst (IsInstr v (whole v p slots ls) (coded v ss c) n) t.2
      (instr_spelt v p slots ls c ss n t.0 same (used_at (Contains ls) c.instrs n t.0 used t.1) (e.instrs n t.0 t.1));
}

code_spelt : (v : ℕ) (p : Plan) (slots : List (List ℕ)) (ls : List ℤ) → (v ≡ 1) ⊎ (v ≡ 2) → ls ≡ table_of p.program.blocks → too_far p.program.blocks ≡ None
    → IsAscending ls → All (λ (z : ℤ). FitsSigned w64 z) ls → IsEmittable p slots → IsCode v (whole v p slots ls)
code_spelt v p slots ls known table near_all ascend fit e =
    let bs = p.program.blocks in
    let short = near bs 0 [] (omega arith) near_all in
    let used : All (Contains ls) (used_in bs) = subst (λ zs. All (Contains zs) (used_in bs)) (sym table) (table_has bs) in
    let count = block_count v slots bs e.all in
    let some = e.some_block in
    let low = e.main in
    record {
      version_known = known;
      some_block = (omega (arith, some.0), omega (arith, some.1));
      main = omega arith;
      few_literals = subst (λ zs. length zs ≤ 65536) (sym table) short.1;
      literals = fit;
      ascend = ascend.steps;
      few_arrays = e.few_arrays;
      arrays = e.arrays;
      cells = e.cells;
      blocks = each_block (IsCodeBlock v (whole v p slots ls)) v slots bs e.all
          (λ n c ss here there. block_spelt v p slots ls c ss e.all (used_of (Contains ls) bs n c used here)
          (all_at (λ (x : CodeBlock). length x.instrs ≤ 32768) bs n c short.0 here) (e.blocks n c ss here there));
    }

pub is_code : (v : ℕ) (p : Plan) (slots : List (List ℕ)) (c : Code) → (v ≡ 1) ⊎ (v ≡ 2) → c.program ≡ emitted_program v (placed p slots) → c.literals
    ≡ table_of p.program.blocks
    → too_far p.program.blocks ≡ None → IsAscending c.literals → All (λ (z : ℤ). FitsSigned w64 z) c.literals → IsEmittable p slots → IsCode v c
is_code v p slots c known program table near_all ascend fit e =
    let whole_is : whole v p slots c.literals ≡ c = ap (λ q. with_table q c.literals) (sym program) in
    subst (IsCode v) whole_is (code_spelt v p slots c.literals known table near_all ascend fit e)
