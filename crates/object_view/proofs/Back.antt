-- The bytes of lawful code are read as this code.
use Rattle.std.proofs.Common.{◌≡◌, ℕ, zero, suc, ◌+◌, ◌<◌, ◌≤◌, Bool, true, nat_lt, if◌then◌else◌, List, ◌∷◌, length, Option, Some, ℤ, pos, sym, ap}
use Rattle.std.proofs.Common.{◌∙◌, arith, get_or}
use Rattle.std.specs.Prelude.{slice_get, FitsSigned, unwrap_or, int_lt}
use Rattle.std.specs.Int.{w64, cast_signed}
use Rattle.std.proofs.lemmas.Bool.{lt-ltb}
use Rattle.std.proofs.lemmas.Int.{to_z-of_z}
use Rattle.std.proofs.lemmas.Option.{slice_get-get_or}
use Rattle.lemmas.proofs.Alls.{all_at}
use Rattle.lemmas.proofs.Integers.{int_lt_itself}
use Rattle.semantics.specs.Program.{Instr, CodeBlock, Code}
use Rattle.semantics.specs.Bytes.{number_from, words_of, bytes_of, IsCode}
use Rattle.semantics.specs.declared.opcode.Opcode.{Opcode}
use Rattle.semantics.specs.declared.opcode.Opcode.TheVariants.{Copy}
use Rattle.semantics.specs.Versions.{version_number}
use Rattle.object_view.specs.Fields.{word_at, count_in, inputs_in, outputs_in, slots_in, opcode_in}
use Rattle.object_view.specs.Reading.{opened, tabulated, shown, version_in, instrs_below, instr_place, literal_in, literal_or_zero, array_in}
use Rattle.object_view.specs.Reading.{instr_as, instr_in, block_in, code_in}
use Rattle.object_view.specs.Checks.{MAGIC}
use Rattle.object_view.specs.Sending.{IsAscending}
use Rattle.object_view.proofs.Numbers.{number_stops, number_goes}
use Rattle.object_view.proofs.Sound.{version_parsed}
use Rattle.object_view.proofs.BackWords.{object_back}
use Rattle.object_view.proofs.BackInstr.{HasPlace, IsLooked, word_one, word_two, opcode_parsed, instr_back}
use Rattle.object_view.proofs.BackLists.{tabulated_same, IsRead, is_read, all_words_fit, block_there, place_there, entry_back}

-- LITERALS
pub number_there : (z : ℤ) (ls : List ℤ) (k : ℕ) → IsAscending ls → k < length ls → get_or ls k z ≡ z → number_from 0 z ls ≡ k
number_there z ls k up lt at =
    let stop = number_stops 0 z ls k z lt (ap (λ (a : ℤ). int_lt a z) at ∙ int_lt_itself z) in
    omega (arith, stop, least k lt at)
  where
    least : (k : ℕ) → k < length ls → get_or ls k z ≡ z → k ≤ number_from 0 z ls
    least zero lt at = omega arith
    least (suc m) lt at =
        let one : m + 1 ≡ suc m = omega arith in
        let first = slice_get-get_or ls m z (omega (arith, lt)) in
        let second : slice_get ls (m + 1) ≡ Some z = ap (slice_get ls) one ∙ slice_get-get_or ls (suc m) z lt ∙ ap (λ (a : ℤ). Some a) at in
        let goes = number_goes 0 z ls m z up (omega (arith, lt)) (up.steps m (get_or ls m z) z first second) in
        omega (arith, goes)

pub literal_back : (v : ℕ) (c : Code) (w : ℕ → ℕ) (j : ℕ) → IsCode v c → IsRead v c w j → (k : ℕ) (z : ℤ) → slice_get c.literals k ≡ Some z → literal_in w k ≡ z
literal_back v c w j is r k z at = ap (cast_signed w64) (r.literal k z at)
    ∙ to_z-of_z w64 z (all_at (λ (x : ℤ). FitsSigned w64 x) c.literals k z is.literals at)

pub looked : (v : ℕ) (c : Code) (w : ℕ → ℕ) (j : ℕ) → IsCode v c → IsRead v c w j → IsLooked w c.literals
looked v c w j is r = λ z there.
    let k = there.0 in
    let num = number_there z c.literals k (record { steps = is.ascend }) there.1 there.2 in
    let at : slice_get c.literals k ≡ Some z = slice_get-get_or c.literals k z there.1 ∙ ap (λ (a : ℤ). Some a) there.2 in
    let in_table : nat_lt k (w 3) ≡ true = lt-ltb k (w 3) (omega (arith, there.1, r.literals)) in
    ap (literal_or_zero w) num ∙ ap (λ (t : Bool). if t then literal_in w k else pos 0) in_table ∙ literal_back v c w j is r k z at

-- INSTRUCTIONS
pub instr_in_back : (v : ℕ) (c : Code) (w : ℕ → ℕ) (j : ℕ) → IsCode v c → IsRead v c w j → (i : Instr) (ip : ℕ) → HasPlace v c i
    → w (instr_place w ip) ≡ word_one c i → w (instr_place w ip + 1) ≡ word_two c i → shown (instr_in w ip) ≡ i
unfolding instr_in
instr_in_back v c w j is r i ip p one two =
    ap (λ (x : ℕ). shown (instr_as w (unwrap_or (opcode_in x) Copy) x (w (instr_place w ip + 1)))) one
    ∙ ap (λ (y : ℕ). shown (instr_as w (unwrap_or (opcode_in (word_one c i)) Copy) (word_one c i) y)) two
    ∙ ap (λ (m : Option Opcode). shown (instr_as w (unwrap_or m Copy) (word_one c i) (word_two c i))) (opcode_parsed v c i p)
    ∙ instr_back w v c i r.version is.few_literals (looked v c w j is r) p

-- BLOCKS
abbrev block_made : ℕ → ℕ → ℕ → List Instr → CodeBlock
block_made inputs outputs slots instrs = record { inputs = inputs; outputs = outputs; slots = slots; instrs = instrs }

pub block_back : (v : ℕ) (c : Code) (w : ℕ → ℕ) (j : ℕ) → IsCode v c → IsRead v c w j → (k : ℕ) (b : CodeBlock) → slice_get c.program.blocks k
    ≡ Some b → block_in w k ≡ b
block_back v c w j is r k b at =
    let x = w (6 + k) in
    let f = λ (ip : ℕ). shown (instr_in w ip) in
    let ok = block_there v c k b is at in
    let e = r.entry k b at in
    let p = entry_back v c b ok in
    let inputs : inputs_in x ≡ b.inputs = ap inputs_in e ∙ p.inputs in
    let outputs : outputs_in x ≡ b.outputs = ap outputs_in e ∙ p.outputs in
    let slots : slots_in x ≡ b.slots = ap slots_in e ∙ p.slots in
    let count : count_in x ≡ length b.instrs = ap count_in e ∙ p.count in
    let instrs : tabulated f (instrs_below w k) (count_in x) ≡ b.instrs =
    ap (λ (n : ℕ). tabulated f (instrs_below w k) n) count
    ∙ tabulated_same f (instrs_below w k) b.instrs (λ n i there. let rd = r.instr k b at n i there
    in instr_in_back v c w j is r i (instrs_below w k + n) (place_there v c b n i is ok there) rd.0 rd.1) in
    let read : List Instr = tabulated f (instrs_below w k) (count_in x) in
    ap (λ (a : ℕ). block_made a (outputs_in x) (slots_in x) read) inputs
    ∙ ap (λ (a : ℕ). block_made b.inputs a (slots_in x) read) outputs
    ∙ ap (λ (a : ℕ). block_made b.inputs b.outputs a read) slots
    ∙ ap (λ (a : List Instr). block_made b.inputs b.outputs b.slots a) instrs

-- THE WHOLE
abbrev code_made : List CodeBlock → List ℕ → ℕ → List ℤ → Code
code_made blocks arrays main literals = record { program = record { blocks = blocks; arrays = arrays; main = main }; literals = literals }

pub all_tabulated_back : {X : Type 0} (f : ℕ → X) (n : ℕ) (xs : List X) → n ≡ length xs → ((k : ℕ) (x : X) → slice_get xs k ≡ Some x → f k ≡ x)
    → tabulated f 0 n ≡ xs
all_tabulated_back f n xs e h = ap (tabulated f 0) e ∙ tabulated_same f 0 xs (λ k x at. let z : 0 + k ≡ k = omega arith in ap f z ∙ h k x at)

pub code_back : (v : ℕ) (c : Code) (w : ℕ → ℕ) (j : ℕ) → IsCode v c → IsRead v c w j → code_in w ≡ c
unfolding code_in
code_back v c w j is r =
    let blocks = all_tabulated_back (block_in w) (w 2) c.program.blocks r.blocks (block_back v c w j is r) in
    let arrays = all_tabulated_back (array_in w) (w 4) c.program.arrays r.arrays r.array in
    let literals = all_tabulated_back (literal_in w) (w 3) c.literals r.literals (literal_back v c w j is r) in
    ap (λ (a : List CodeBlock). code_made a (tabulated (array_in w) 0 (w 4)) (w 5) (tabulated (literal_in w) 0 (w 3))) blocks
    ∙ ap (λ (a : List ℕ). code_made c.program.blocks a (w 5) (tabulated (literal_in w) 0 (w 3))) arrays
    ∙ ap (λ (a : ℕ). code_made c.program.blocks c.program.arrays a (tabulated (literal_in w) 0 (w 3))) r.main
    ∙ ap (λ (a : List ℤ). code_made c.program.blocks c.program.arrays c.program.main a) literals

pub object_read : (v : ℕ) (c : Code) → IsCode v c → IsRead v c (word_at (bytes_of v c)) (0 + length (MAGIC ∷ words_of v c))
object_read v c is = is_read v c (word_at (bytes_of v c)) (0 + length (MAGIC ∷ words_of v c)) is (object_back v c (all_words_fit v c is))

-- the version and the code are read back from the bytes that they have
pub reads_back : (v : ℕ) (c : Code) → IsCode v c → ((opened (bytes_of v c)).version ≡ v) × ((opened (bytes_of v c)).code ≡ c)
unfolding opened
reads_back v c is =
    let w = word_at (bytes_of v c) in
    let j = 0 + length (MAGIC ∷ words_of v c) in
    let r = object_read v c is in
    (ap (λ (n : ℕ). version_number (version_in n)) r.version ∙ sym (version_parsed v is.version_known), code_back v c w j is r)
