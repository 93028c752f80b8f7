-- Where the instructions of a block are.
use Rattle.std.proofs.Common.{arith, ◌≡◌, ℕ, zero, suc, ◌+◌, ◌-◌, ◌<◌, ◌≤◌, List, [], ◌∷◌, length, take, map, Some, ap, ◌∙◌, nat_lt, true, false}
use Rattle.std.proofs.lemmas.Grind.{common_steps}
use Rattle.std.proofs.lemmas.List.{take_all}
use Rattle.std.specs.Prelude.{slice_get, sum}
use Rattle.semantics.specs.Program.{CodeBlock, Program, first_of, instr_from, instr_at}

-- how many instructions some blocks have
abbrev pub count : List CodeBlock → ℕ
count bs = sum (map (λ (x : CodeBlock). length x.instrs) bs)

pub here_from : (bs : List CodeBlock) (k : ℕ) (b : CodeBlock) (n : ℕ) → slice_get bs k ≡ Some b → n < length b.instrs
    → instr_from bs (count (take k bs) + n) ≡ slice_get b.instrs n
here_from [] zero b n e lt = absurd cc
here_from [] (suc k) b n e lt = absurd cc
here_from (x ∷ xs) zero b n e lt =
    let same : x ≡ b = cc (e) in
    let below : nat_lt n (length x.instrs) ≡ true = grind (arith, common_steps, lt, same) in
    let start : 0 + n ≡ n = omega (arith) in
    let found : instr_from (x ∷ xs) n ≡ slice_get b.instrs n = rw below (ap (λ (y : CodeBlock). slice_get y.instrs n) same) in
    ap (instr_from (x ∷ xs)) start ∙ found
here_from (x ∷ xs) (suc k) b n e lt =
    let m : ℕ = length x.instrs in
    let r : ℕ = count (take k xs) + n in
    let start : count (take (suc k) (x ∷ xs)) + n ≡ m + r = grind (arith, common_steps) in
    let past : nat_lt (m + r) (length x.instrs) ≡ false = grind (arith, common_steps) in
    let left : m + r - length x.instrs ≡ r = omega (arith) in
    let found : instr_from (x ∷ xs) (m + r) ≡ slice_get b.instrs n = rw past (ap (instr_from xs) left ∙ here_from xs k b n e lt) in
    ap (instr_from (x ∷ xs)) start ∙ found

-- the instruction of that number in a block
pub here : (p : Program) (k : ℕ) (b : CodeBlock) (n : ℕ) → slice_get p.blocks k ≡ Some b → n < length b.instrs → instr_at p (first_of p k + n)
    ≡ slice_get b.instrs n
here p k b n e lt = here_from p.blocks k b n e lt

pub within_from : (bs : List CodeBlock) (k : ℕ) (b : CodeBlock) → slice_get bs k ≡ Some b → count (take k bs) + length b.instrs ≤ count bs
within_from [] zero b e = absurd cc
within_from [] (suc k) b e = absurd cc
within_from (x ∷ xs) zero b e =
    let same : x ≡ b = cc (e) in
    grind (arith, common_steps, same)
within_from (x ∷ xs) (suc k) b e =
    let below = within_from xs k b e in
    grind (arith, common_steps, below)

-- no block goes past the last instruction
pub within : (p : Program) (k : ℕ) (b : CodeBlock) → slice_get p.blocks k ≡ Some b → first_of p k + length b.instrs ≤ first_of p (length p.blocks)
within p k b e =
    let below = within_from p.blocks k b e in
    let whole : first_of p (length p.blocks) ≡ count p.blocks = ap count (take_all (length p.blocks) p.blocks (omega (arith))) in
    omega (arith, below, whole)
