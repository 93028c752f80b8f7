-- What a function gives for consecutive numbers, and the instructions of consecutive blocks.
use Rattle.std.proofs.Common.{◌≡◌, ℕ, zero, suc, ◌+◌, ◌-◌, ◌<◌, ◌≤◌, Bool, true, false, nat_lt, if◌then◌else◌, List, length, map, take, Some, None}
use Rattle.std.proofs.Common.{sum, refl, ap, ◌∙◌, arith}
use Rattle.std.specs.Prelude.{slice_get}
use Rattle.std.proofs.lemmas.Bool.{ltb-true, ltb-false}
use Rattle.std.proofs.lemmas.List.Sums.{sum-map, sum_by-cons}
use Rattle.std.specs.Prelude.{sum_by}
use Rattle.semantics.specs.Program.{Instr, CodeBlock, Program, first_of, instr_from}
use Rattle.object_view.specs.Fields.{count_in}
use Rattle.object_view.proofs.Each.{below_rises}
use Rattle.object_view.specs.Reading.{tabulated, shown, instr_in, instrs_below, block_in}

pub length_tabulated : {X : Type 0} (f : ℕ → X) (i n : ℕ) → length (tabulated f i n) ≡ n
length_tabulated f i zero = refl
length_tabulated f i (suc n) = ap (λ k. suc k) (length_tabulated f (i + 1) n)

pub get_tabulated : {X : Type 0} (f : ℕ → X) (i n k j : ℕ) → k < n → i + k ≡ j → slice_get (tabulated f i n) k ≡ Some (f j)
get_tabulated f i zero k j h e = absurd (omega arith)
get_tabulated f i (suc n) zero j h e =
    let s : i ≡ j = omega arith in
    ap (λ x. Some (f x)) s
get_tabulated f i (suc n) (suc k) j h e = get_tabulated f (i + 1) n k j (omega arith) (omega arith)

pub past_tabulated : {X : Type 0} (f : ℕ → X) (i n k : ℕ) → n ≤ k → slice_get (tabulated f i n) k ≡ None
past_tabulated f i zero k h = refl
past_tabulated f i (suc n) zero h = absurd (omega arith)
past_tabulated f i (suc n) (suc k) h = past_tabulated f (i + 1) n k (omega arith)

-- THE INSTRUCTIONS BEFORE A BLOCK
counts_taken : (w : ℕ → ℕ) (i n b : ℕ) → b ≤ n → instrs_below w i + sum_by (λ (x : CodeBlock). length x.instrs) (take b (tabulated (block_in w) i n))
    ≡ instrs_below w (i + b)
counts_taken w i n zero h =
    let same : i + zero ≡ i = omega arith in
    rw same (omega arith)
counts_taken w i zero (suc b) h = absurd (omega arith)
counts_taken w i (suc n) (suc b) h =
    let rest = counts_taken w (i + 1) n b (omega arith) in
    let len = length_tabulated (λ n. shown (instr_in w n)) (instrs_below w i) (count_in (w (6 + i))) in
    let one : i + 1 ≡ suc i = omega arith in
    let all : (i + 1) + b ≡ i + suc b = omega arith in
    let cons = sum_by-cons (λ (x : CodeBlock). length x.instrs) (block_in w i) (take b (tabulated (block_in w) (i + 1) n)) in
    omega (arith, rest, len, cons, ap (instrs_below w) one, ap (instrs_below w) all)

pub first_of_tabulated : (w : ℕ → ℕ) (p : Program) (n b : ℕ) → p.blocks ≡ tabulated (block_in w) 0 n → b ≤ n → first_of p b ≡ instrs_below w b
first_of_tabulated w p n b e h =
    let s = counts_taken w 0 n b h in
    let z : 0 + b ≡ b = omega arith in
    let s' : sum_by (λ (x : CodeBlock). length x.instrs) (take b (tabulated (block_in w) 0 n)) ≡ instrs_below w b = omega (arith, s, ap (instrs_below w) z) in
    let m = sum-map (λ (x : CodeBlock). length x.instrs) (take b (tabulated (block_in w) 0 n)) in
    ap (λ bs. sum (map (λ (x : CodeBlock). length x.instrs) (take b bs))) e ∙ m ∙ s'

-- AN INSTRUCTION BY ITS NUMBER
pub instr_there : (w : ℕ → ℕ) (b k j ip : ℕ) → instrs_below w b + j ≡ ip → ip < instrs_below w (b + k) → instr_from (tabulated (block_in w) b k) j
    ≡ Some (shown (instr_in w ip))
instr_there w b zero j ip e h =
    let same : b + zero ≡ b = omega arith in
    absurd (omega (arith, ap (instrs_below w) same))
instr_there w b (suc k) j ip e h = go (instr_there w (b + 1) k) (nat_lt j (length here)) refl
  where
    here : List Instr
    here = tabulated (λ n. shown (instr_in w n)) (instrs_below w b) (count_in (w (6 + b)))

    go : ((i jp : ℕ) → instrs_below w (b + 1) + i ≡ jp → jp < instrs_below w ((b + 1) + k) → instr_from (tabulated (block_in w) (b + 1) k) i
        ≡ Some (shown (instr_in w jp))) → (t : Bool) → nat_lt j (length here) ≡ t
        → (if t then slice_get here j else instr_from (tabulated (block_in w) (b + 1) k) (j - length here)) ≡ Some (shown (instr_in w ip))
    go later true q = get_tabulated (λ n. shown (instr_in w n)) (instrs_below w b) (count_in (w (6 + b))) j ip
        (omega (arith, ltb-true _ _ q, length_tabulated (λ n. shown (instr_in w n)) (instrs_below w b) (count_in (w (6 + b))))) e
    go later false q =
        let len = length_tabulated (λ n. shown (instr_in w n)) (instrs_below w b) (count_in (w (6 + b))) in
        let one : b + 1 ≡ suc b = omega arith in
        let all : b + suc k ≡ (b + 1) + k = omega arith in
        later (j - length here) ip (omega (arith, ltb-false _ _ q, len, ap (instrs_below w) one)) (omega (arith, ap (instrs_below w) all))

pub instr_not_there : (w : ℕ → ℕ) (b k j : ℕ) → instrs_below w (b + k) ≤ instrs_below w b + j → instr_from (tabulated (block_in w) b k) j ≡ None
instr_not_there w b zero j h = refl
instr_not_there w b (suc k) j h = go (instr_not_there w (b + 1) k) (nat_lt j (length here)) refl
  where
    here : List Instr
    here = tabulated (λ n. shown (instr_in w n)) (instrs_below w b) (count_in (w (6 + b)))

    go : ((i : ℕ) → instrs_below w ((b + 1) + k) ≤ instrs_below w (b + 1) + i → instr_from (tabulated (block_in w) (b + 1) k) i ≡ None) → (t : Bool)
        → nat_lt j (length here) ≡ t → (if t then slice_get here j else instr_from (tabulated (block_in w) (b + 1) k) (j - length here)) ≡ None
    go later true q =
        let len = length_tabulated (λ n. shown (instr_in w n)) (instrs_below w b) (count_in (w (6 + b))) in
        let one : b + 1 ≡ suc b = omega arith in
        let all : b + suc k ≡ (b + 1) + k = omega arith in
        absurd (omega (arith, ltb-true _ _ q, len, ap (instrs_below w) one, ap (instrs_below w) all, below_rises w (b + 1) k))
    go later false q =
        let len = length_tabulated (λ n. shown (instr_in w n)) (instrs_below w b) (count_in (w (6 + b))) in
        let one : b + 1 ≡ suc b = omega arith in
        let all : b + suc k ≡ (b + 1) + k = omega arith in
        later (j - length here) (omega (arith, ltb-false _ _ q, len, ap (instrs_below w) one, ap (instrs_below w) all))
