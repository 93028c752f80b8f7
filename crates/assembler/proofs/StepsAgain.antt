-- The lines of a code, read one after the other, are this code.
use Rattle.std.proofs.Common.{◌≡◌, ℕ, ◌+◌, ◌^◌, ◌<◌, ◌≤◌, eqb, Bool, true, false, List, [], ◌∷◌, ◌++◌, length, Result, Ok, ℤ, refl, sym, ap, ◌∙◌}
use Rattle.std.proofs.Common.{append_assoc, arith, All}
use Rattle.std.specs.Prelude.{codes}
use Rattle.std.specs.Int.{w64}
use Rattle.std.specs.Int.RustNames.{FitsSigned}
use Rattle.std.specs.Fmt.{decimal}
use Rattle.std.specs.Str.{bytes_eq}
use Rattle.std.proofs.lemmas.Bool.{ne_eqb, and_left}
use Rattle.std.proofs.lemmas.Fmt.{decimal_nonempty}
use Rattle.std.proofs.lemmas.List.{append-nil, length-append}
use Rattle.std.proofs.lemmas.List.Elements.{All-head, All-tail}
use Rattle.semantics.specs.Program.{Instr, CodeBlock}
use Rattle.semantics.specs.Text.{literal}
use Rattle.disassembler.specs.Listing.{literal_of}
use Rattle.graph_file.specs.Giving.{◌>>=◌}
use Rattle.graph_file.specs.Fields.{is_numeral}
use Rattle.graph_file.proofs.Numbers.{is_numeral_means}
use Rattle.graph_file.proofs.Marks.{decimal_is_numeral}
use Rattle.assembler.specs.declared.fault.AsmFaultKind.{AsmFaultKind}
use Rattle.assembler.specs.declared.fault.AsmFaultKind.TheVariants.{BadLine}
use Rattle.assembler.specs.declared.found.Part.{Part}
use Rattle.assembler.specs.declared.found.Part.TheVariants.{Head, Start, Blocks, Arrays, Literals}
use Rattle.assembler.specs.Words.{Word}
use Rattle.assembler.specs.Giving.{must}
use Rattle.assembler.specs.Grammar.{head_words, block_words, instr_words, array_words, literal_words, numbered_lines, block_lines, with_literal, used_by}
use Rattle.assembler.specs.Found.{Found}
use Rattle.assembler.specs.Lines.{head_from, block_from, array_from, literal_from, instr_from}
use Rattle.assembler.specs.Reading.{all_blocks, with_instr, head_line, first_block, next_block, array_line, literal_line, instr_line, takes_array}
use Rattle.assembler.specs.Reading.{takes_literal, block_line, other_line, step}
use Rattle.assembler.proofs.Steps.{steps}
use Rattle.assembler.proofs.Prefixes.{Lines, step_is}
use Rattle.assembler.proofs.LinesAgain.{then_gives, head_gives, empty_block, behind_block, block_gives, array_gives, literal_gives, HasLine, instr_gives}

abbrev State : Type 0
State = Found × Part

pub goes_on : (f : Found) (p : Part) (ws : List Word) (wss : Lines) (s : State) → step f p ws ≡ Ok s → steps f p (ws ∷ wss) ≡ steps s.0 s.1 wss
goes_on f p ws wss s e = ap (λ (t : Result State AsmFaultKind). t >>= λ s. steps s.0 s.1 wss) e

-- ---- the first line
abbrev pub begun : ℕ → ℕ → Found → Found
begun v m f = record f { version = v; main = m }

pub head_step : (f : Found) (v m : ℕ) → v < 2 ^ 32 → m < 2 ^ 32 → step f Head (head_words v m) ≡ Ok (begun v m f, Start)
unfolding other_line head_line
head_step f v m h k =
    step_is f Head (codes "ets") (decimal v ∷ codes "main" ∷ decimal m ∷ [])
    ∙ then_gives (head_from (head_words v m)) (v, m) (λ x. Ok (begun x.0 x.1 f, Start)) (Ok (begun v m f, Start)) (head_gives v m h k) refl

-- ---- a line of a block
-- the numbers of a block have lines
pub record HasNumbers (b : CodeBlock) : Type 0 where
  pub inputs : b.inputs < 2 ^ 32
  pub outputs : b.outputs < 2 ^ 32
  pub slots : b.slots < 2 ^ 32

abbrev pub bare : CodeBlock → CodeBlock
bare b = empty_block b.inputs b.outputs b.slots

pub first_step : (f : Found) (b : CodeBlock) → HasNumbers b → step f Start (block_words 0 b) ≡ Ok (record f { last = bare b }, Blocks)
unfolding block_line first_block
first_step f b h =
    step_is f Start (codes "block") (behind_block 0 b.inputs b.outputs b.slots)
    ∙ then_gives (block_from 0 (behind_block 0 b.inputs b.outputs b.slots)) (bare b) (λ x. Ok (record f { last = x }, Blocks))
    (Ok (record f { last = bare b }, Blocks)) (block_gives 0 b.inputs b.outputs b.slots (omega arith) h.inputs h.outputs h.slots) refl

abbrev opened : Found → CodeBlock → Found
opened f b = record f { blocks = all_blocks f; last = b }

next_step : (f : Found) (n : ℕ) (b : CodeBlock) → n ≡ length f.blocks + 1 → n < 2 ^ 32 → HasNumbers b → step f Blocks (block_words n b)
    ≡ Ok (opened f (bare b), Blocks)
unfolding block_line next_block
next_step f n b is few h =
    step_is f Blocks (codes "block") (behind_block n b.inputs b.outputs b.slots)
    ∙ ap (λ (k : ℕ). block_from k (behind_block n b.inputs b.outputs b.slots) >>= λ x. Ok (opened f x, Blocks)) (sym is)
    ∙ then_gives (block_from n (behind_block n b.inputs b.outputs b.slots)) (bare b) (λ x. Ok (opened f x, Blocks)) (Ok (opened f (bare b), Blocks))
    (block_gives n b.inputs b.outputs b.slots few h.inputs h.outputs h.slots) refl

-- ---- a line of an instruction: it begins with a number
no_key_at : (ds : List ℕ) (n c : ℕ) (cs : List ℕ) → ds ≡ decimal n → n < 2 ^ 32 → 58 ≤ c → bytes_eq ds (c ∷ cs) ≡ false
no_key_at [] n c cs e h k = absurd (let z = ap (λ (xs : List ℕ). length xs) e in omega (arith, z, decimal_nonempty n (omega arith)))
no_key_at (d ∷ ds) n c cs e h k =
    let num : is_numeral (d ∷ ds) ≡ true = ap is_numeral e ∙ decimal_is_numeral n (omega arith) in
    let first = (is_numeral_means (d ∷ ds) num).first in
    and_left (eqb d c) (bytes_eq ds cs) (ne_eqb d c (λ z. absurd (omega (arith, first))))

no_key : (n c : ℕ) (cs : List ℕ) → n < 2 ^ 32 → 58 ≤ c → bytes_eq (decimal n) (c ∷ cs) ≡ false
no_key n c cs h k = no_key_at (decimal n) n c cs refl h k

other_word : (f : Found) (p : Part) (n : ℕ) (ws : List Word) → n < 2 ^ 32 → step f p (decimal n ∷ ws) ≡ other_line f p (decimal n ∷ ws)
other_word f p n ws h =
    let block : bytes_eq (decimal n) (codes "block") ≡ false = no_key n 98 (codes "lock") h (omega arith) in
    let array : bytes_eq (decimal n) (codes "array") ≡ false = no_key n 97 (codes "rray") h (omega arith) in
    let table : bytes_eq (decimal n) (codes "literal") ≡ false = no_key n 108 (codes "iteral") h (omega arith) in
    step_is f p (decimal n) ws ∙ rw (block, array, table) refl

abbrev put : Found → Instr → Found
put f i = record f { last = with_instr f.last i; used = with_literal (literal_of i.op) f.used }

instr_step : (f : Found) (b : CodeBlock) (n : ℕ) (i : Instr) → n ≡ length f.last.instrs → n < 2 ^ 32 → HasLine b i → step f Blocks (instr_words n i)
    ≡ Ok (put f i, Blocks)
unfolding other_line instr_line
instr_step f b n i is few h =
    other_word f Blocks n _ few
    ∙ ap (λ (k : ℕ). instr_from k (instr_words n i) >>= λ x. Ok (put f x, Blocks)) (sym is)
    ∙ then_gives (instr_from n (instr_words n i)) i (λ x. Ok (put f x, Blocks)) (Ok (put f i, Blocks)) (instr_gives b n i few h) refl

-- the instructions of a block after those that were read
abbrev with_instrs : CodeBlock → List Instr → CodeBlock
with_instrs b is = record b { instrs = b.instrs ++ is }

abbrev put_all : Found → List Instr → Found
put_all f is = record f { last = with_instrs f.last is; used = used_by is f.used }

put_none : (f : Found) → f ≡ put_all f []
unfolding used_by
put_none f = ap (λ (is : List Instr). record f { last = record f.last { instrs = is } }) (sym (append-nil f.last.instrs))

put_next : (f : Found) (i : Instr) (is : List Instr) → put_all (put f i) is ≡ put_all f (i ∷ is)
unfolding used_by
put_next f i is = ap (λ (js : List Instr). record f {
  last = record f.last { instrs = js };
  used = used_by is (with_literal (literal_of i.op) f.used);
}) (append_assoc f.last.instrs (i ∷ []) is)

pub instrs_step : (f : Found) (b : CodeBlock) (n : ℕ) (is : List Instr) (wss : Lines) → n ≡ length f.last.instrs → n + length is < 2 ^ 32 → All (HasLine b) is
    → steps f Blocks (numbered_lines instr_words n is ++ wss) ≡ steps (put_all f is) Blocks wss
unfolding numbered_lines
instrs_step f b n [] wss is few h = ap (λ (g : Found). steps g Blocks wss) (put_none f)
instrs_step f b n (i ∷ is) wss at few h =
    goes_on f Blocks (instr_words n i) (numbered_lines instr_words (n + 1) is ++ wss) (put f i, Blocks)
    (instr_step f b n i at (omega arith) (All-head (HasLine b) i is h))
    ∙ instrs_step (put f i) b (n + 1) is wss (omega (arith, at, length-append f.last.instrs (i ∷ []))) (omega arith) (All-tail (HasLine b) i is h)
    ∙ ap (λ (g : Found). steps g Blocks wss) (put_next f i is)

-- ---- all blocks
pub record HasLines (b : CodeBlock) : Type 0 where
  pub numbers : HasNumbers b
  pub few : length b.instrs < 2 ^ 32
  pub instrs : All (HasLine b) b.instrs

-- what was read, and after it these blocks
abbrev pub blocks_read : Found → List CodeBlock → Found
blocks_read f [] = f
blocks_read f (b ∷ bs) = blocks_read (record f { blocks = all_blocks f; last = b; used = used_by b.instrs f.used }) bs

pub blocks_step : (f : Found) (n : ℕ) (bs : List CodeBlock) (wss : Lines) → n ≡ length f.blocks + 1 → n + length bs < 2 ^ 32 → All HasLines bs
    → steps f Blocks (block_lines n bs ++ wss) ≡ steps (blocks_read f bs) Blocks wss
unfolding block_lines
blocks_step f n [] wss at few h = refl
blocks_step f n (b ∷ bs) wss at few h =
    let one = All-head HasLines b bs h in
    let g : Found = opened f (bare b) in
    goes_on f Blocks (block_words n b) _ (g, Blocks) (next_step f n b at (omega arith) one.numbers)
    ∙ ap (λ (ls : Lines). steps g Blocks ls) (append_assoc (numbered_lines instr_words 0 b.instrs) (block_lines (n + 1) bs) wss)
    ∙ instrs_step g b 0 b.instrs (block_lines (n + 1) bs ++ wss) refl (let few-ones = one.few in omega arith) one.instrs
    ∙ blocks_step (put_all g b.instrs) (n + 1) bs wss (omega (arith, at, length-append f.blocks (f.last ∷ []))) (omega arith) (All-tail HasLines b bs h)

-- ---- arrays and literals
abbrev pub behind_arrays : Part → List ℕ → Part
behind_arrays p [] = p
behind_arrays p (n ∷ ns) = Arrays

same_arrays : (ns : List ℕ) → behind_arrays Arrays ns ≡ Arrays
same_arrays [] = refl
same_arrays (n ∷ ns) = refl

abbrev pub with_arrays : Found → List ℕ → Found
with_arrays f ns = record f { arrays = f.arrays ++ ns }

array_step : (f : Found) (p : Part) (n len : ℕ) → takes_array p ≡ true → n ≡ length f.arrays → n < 2 ^ 32 → len < 2 ^ 32
    → step f p (array_words n len) ≡ Ok (with_arrays f (len ∷ []), Arrays)
unfolding array_line
array_step f p n len may at few h =
    step_is f p (codes "array") (decimal n ∷ decimal len ∷ [])
    ∙ ap (λ (b : Bool). must b BadLine >>= λ yes. array_line f (decimal n ∷ decimal len ∷ [])) may
    ∙ ap (λ (k : ℕ). array_from k (decimal n ∷ decimal len ∷ []) >>= λ x. Ok (with_arrays f (x ∷ []), Arrays)) (sym at)
    ∙ then_gives (array_from n (decimal n ∷ decimal len ∷ [])) len (λ x. Ok (with_arrays f (x ∷ []), Arrays)) (Ok (with_arrays f (len ∷ []), Arrays))
    (array_gives n len few h) refl

pub arrays_step : (f : Found) (p : Part) (n : ℕ) (ns : List ℕ) (wss : Lines) → takes_array p ≡ true → n ≡ length f.arrays → n + length ns < 2 ^ 32
    → All (λ k. k < 2 ^ 32) ns
    → steps f p (numbered_lines array_words n ns ++ wss) ≡ steps (with_arrays f ns) (behind_arrays p ns) wss
unfolding numbered_lines
arrays_step f p n [] wss may at few h = ap (λ (ms : List ℕ). steps (record f { arrays = ms }) p wss) (sym (append-nil f.arrays))
arrays_step f p n (k ∷ ks) wss may at few h =
    let g : Found = with_arrays f (k ∷ []) in
    goes_on f p (array_words n k) (numbered_lines array_words (n + 1) ks ++ wss) (g, Arrays)
    (array_step f p n k may at (omega arith) (All-head (λ k. k < 2 ^ 32) k ks h))
    ∙ arrays_step g Arrays (n + 1) ks wss refl (omega (arith, at, length-append f.arrays (k ∷ []))) (omega arith) (All-tail (λ k. k < 2 ^ 32) k ks h)
    ∙ ap (λ (q : Part). steps (with_arrays g ks) q wss) (same_arrays ks)
    ∙ ap (λ (ms : List ℕ). steps (record f { arrays = ms }) Arrays wss) (append_assoc f.arrays (k ∷ []) ks)

abbrev pub behind_literals : Part → List ℤ → Part
behind_literals p [] = p
behind_literals p (z ∷ zs) = Literals

same_literals : (zs : List ℤ) → behind_literals Literals zs ≡ Literals
same_literals [] = refl
same_literals (z ∷ zs) = refl

abbrev pub with_literals : Found → List ℤ → Found
with_literals f zs = record f { literals = f.literals ++ zs }

literal_step : (f : Found) (p : Part) (n : ℕ) (z : ℤ) → takes_literal p ≡ true → n ≡ length f.literals → n < 2 ^ 32 → FitsSigned w64 z
    → step f p (literal_words n z) ≡ Ok (with_literals f (z ∷ []), Literals)
unfolding literal_line
literal_step f p n z may at few h =
    step_is f p (codes "literal") (decimal n ∷ literal z ∷ [])
    ∙ ap (λ (b : Bool). must b BadLine >>= λ yes. literal_line f (decimal n ∷ literal z ∷ [])) may
    ∙ ap (λ (k : ℕ). literal_from k (decimal n ∷ literal z ∷ []) >>= λ x. Ok (with_literals f (x ∷ []), Literals)) (sym at)
    ∙ then_gives (literal_from n (decimal n ∷ literal z ∷ [])) z (λ x. Ok (with_literals f (x ∷ []), Literals))
    (Ok (with_literals f (z ∷ []), Literals)) (literal_gives n z few h) refl

pub literals_step : (f : Found) (p : Part) (n : ℕ) (zs : List ℤ) (wss : Lines) → takes_literal p ≡ true → n ≡ length f.literals
    → n + length zs < 2 ^ 32 → All (λ (z : ℤ). FitsSigned w64 z) zs
    → steps f p (numbered_lines literal_words n zs ++ wss) ≡ steps (with_literals f zs) (behind_literals p zs) wss
unfolding numbered_lines
literals_step f p n [] wss may at few h = ap (λ (ys : List ℤ). steps (record f { literals = ys }) p wss) (sym (append-nil f.literals))
literals_step f p n (z ∷ zs) wss may at few h =
    let g : Found = with_literals f (z ∷ []) in
    goes_on f p (literal_words n z) (numbered_lines literal_words (n + 1) zs ++ wss) (g, Literals)
    (literal_step f p n z may at (omega arith) (All-head (λ (z : ℤ). FitsSigned w64 z) z zs h))
    ∙ literals_step g Literals (n + 1) zs wss refl (omega (arith, at, length-append f.literals (z ∷ []))) (omega arith)
    (All-tail (λ (z : ℤ). FitsSigned w64 z) z zs h)
    ∙ ap (λ (q : Part). steps (with_literals g zs) q wss) (same_literals zs)
    ∙ ap (λ (ys : List ℤ). steps (record f { literals = ys }) Literals wss) (append_assoc f.literals (z ∷ []) zs)
