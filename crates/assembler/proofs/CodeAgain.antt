-- The lines of a code that has an object, read from the first one to the last one.
use Rattle.std.proofs.Common.{◌≡◌, ℕ, ◌+◌, ◌^◌, ◌<◌, Bool, true, false, List, [], ◌∷◌, ◌++◌, length, Result, Ok, ℤ, refl, sym, ap, subst, ◌∙◌}
use Rattle.std.proofs.Common.{append_assoc, arith, All, inl, inr}
use Rattle.std.specs.Prelude.{◌⊎◌}
use Rattle.std.proofs.lemmas.List.{append-nil}
use Rattle.std.proofs.lemmas.List.Elements.{All-head, All-tail}
use Rattle.semantics.specs.Program.{CodeBlock, Code}
use Rattle.semantics.specs.Bytes.{IsCode}
use Rattle.assembler.specs.declared.fault.AsmFaultKind.{AsmFaultKind}
use Rattle.assembler.specs.declared.found.Part.{Part}
use Rattle.assembler.specs.declared.found.Part.TheVariants.{Head, Start, Blocks}
use Rattle.assembler.specs.Words.{lines_in}
use Rattle.assembler.specs.Grammar.{head_words, block_words, instr_words, array_words, literal_words, numbered_lines, block_lines, table_lines}
use Rattle.assembler.specs.Grammar.{code_lines, used_by, used_in, table_of, IsListingOf}
use Rattle.assembler.specs.Found.{Found}
use Rattle.assembler.specs.Reading.{all_blocks, nothing, takes_literal, code_with, end_from}
use Rattle.assembler.proofs.Steps.{steps}
use Rattle.assembler.proofs.Prefixes.{Lines}
use Rattle.assembler.proofs.StepsAgain.{goes_on, begun, head_step, bare, first_step, instrs_step, HasLines, blocks_read, blocks_step, with_arrays}
use Rattle.assembler.proofs.StepsAgain.{behind_arrays, arrays_step, with_literals, behind_literals, literals_step}
use Rattle.assembler.proofs.Room.{all_lines, all_lengths}

-- ---- what was read, once all blocks were
read_version : (f : Found) (bs : List CodeBlock) → (blocks_read f bs).version ≡ f.version
read_version f [] = refl
read_version f (b ∷ bs) = read_version (record f { blocks = all_blocks f; last = b; used = used_by b.instrs f.used }) bs

read_main : (f : Found) (bs : List CodeBlock) → (blocks_read f bs).main ≡ f.main
read_main f [] = refl
read_main f (b ∷ bs) = read_main (record f { blocks = all_blocks f; last = b; used = used_by b.instrs f.used }) bs

read_arrays : (f : Found) (bs : List CodeBlock) → (blocks_read f bs).arrays ≡ f.arrays
read_arrays f [] = refl
read_arrays f (b ∷ bs) = read_arrays (record f { blocks = all_blocks f; last = b; used = used_by b.instrs f.used }) bs

read_literals : (f : Found) (bs : List CodeBlock) → (blocks_read f bs).literals ≡ f.literals
read_literals f [] = refl
read_literals f (b ∷ bs) = read_literals (record f { blocks = all_blocks f; last = b; used = used_by b.instrs f.used }) bs

read_used : (f : Found) (bs : List CodeBlock) → (blocks_read f bs).used ≡ used_in bs f.used
unfolding used_in
read_used f [] = refl
read_used f (b ∷ bs) = read_used (record f { blocks = all_blocks f; last = b; used = used_by b.instrs f.used }) bs

read_blocks : (f : Found) (bs : List CodeBlock) → all_blocks (blocks_read f bs) ≡ all_blocks f ++ bs
read_blocks f [] = sym (append-nil (all_blocks f))
read_blocks f (b ∷ bs) = read_blocks (record f { blocks = all_blocks f; last = b; used = used_by b.instrs f.used }) bs ∙ append_assoc (all_blocks f) (b ∷ []) bs

-- once the first block was
abbrev first_read : ℕ → ℕ → CodeBlock → Found
first_read v m b = record nothing { version = v; main = m; last = b; used = used_by b.instrs [] }

all_read : ℕ → ℕ → CodeBlock → List CodeBlock → Found
all_read v m b bs = blocks_read (first_read v m b) bs

first_lines : (v m : ℕ) (b : CodeBlock) (bs : List CodeBlock) (wss : Lines) → v < 2 ^ 32 → m < 2 ^ 32 → 1 + length bs < 2 ^ 32 → All HasLines (b ∷ bs)
    → steps nothing Head (head_words v m ∷ (block_lines 0 (b ∷ bs) ++ wss)) ≡ steps (all_read v m b bs) Blocks wss
unfolding block_lines all_read
first_lines v m b bs wss vf mf few h =
    let one = All-head HasLines b bs h in
    let f : Found = begun v m nothing in
    let g : Found = record f { last = bare b } in
    let instrs : Lines = numbered_lines instr_words 0 b.instrs in
    goes_on nothing Head (head_words v m) (block_lines 0 (b ∷ bs) ++ wss) (f, Start) (head_step nothing v m vf mf)
    ∙ goes_on f Start (block_words 0 b) ((instrs ++ block_lines 1 bs) ++ wss) (g, Blocks) (first_step f b one.numbers)
    ∙ ap (λ (ls : Lines). steps g Blocks ls) (append_assoc instrs (block_lines 1 bs) wss)
    ∙ instrs_step g b 0 b.instrs (block_lines 1 bs ++ wss) refl (let few-ones = one.few in omega arith) one.instrs
    ∙ blocks_step (first_read v m b) 1 bs wss refl few (All-tail HasLines b bs h)

-- ---- the end
abbrev made : ℕ → ℕ → List CodeBlock → List ℕ → List ℤ → ℕ × Code
made v m bs ns zs = (v, record { program = record { blocks = bs; arrays = ns; main = m }; literals = zs })

same_code : (f : Found) (table : List ℤ) (v m : ℕ) (bs : List CodeBlock) (ns : List ℕ) (zs : List ℤ) → f.version ≡ v → f.main ≡ m → all_blocks f ≡ bs
    → f.arrays ≡ ns → table ≡ zs → code_with f table ≡ made v m bs ns zs
same_code f table v m bs ns zs a b c d e =
    ap (λ (x : ℕ). made x f.main (all_blocks f) f.arrays table) a ∙ ap (λ (x : ℕ). made v x (all_blocks f) f.arrays table) b
    ∙ ap (λ (x : List CodeBlock). made v m x f.arrays table) c ∙ ap (λ (x : List ℕ). made v m bs x table) d ∙ ap (λ (x : List ℤ). made v m bs ns x) e

abbrev Read : Type 0
Read = Result (ℕ × Code) AsmFaultKind

end_used : (f : Found) (ns : List ℕ) → end_from f (behind_arrays Blocks ns) ≡ Ok (code_with f f.used)
unfolding end_from
end_used f [] = refl
end_used f (n ∷ ns) = refl

end_table : (f : Found) (p : Part) (zs : List ℤ) → 0 < length zs → end_from f (behind_literals p zs) ≡ Ok (code_with f f.literals)
unfolding end_from
end_table f p [] h = absurd (omega arith)
end_table f p (z ∷ zs) h = refl

may_array : (ns : List ℕ) → takes_literal (behind_arrays Blocks ns) ≡ true
may_array [] = refl
may_array (n ∷ ns) = refl

no_lines : (p : Part) (f : Found) → steps f p ([]) ≡ end_from f p
no_lines p f = refl

abbrev body_lines : Bool → Code → Lines
body_lines reread c = numbered_lines array_words 0 c.program.arrays ++ table_lines reread c.literals

-- once the blocks were read
reread_rest : (v : ℕ) (c : Code) (f : Found) → IsCode v c → f.version ≡ v → f.main ≡ c.program.main → all_blocks f ≡ c.program.blocks → f.arrays ≡ []
    → f.literals ≡ [] → 0 < length c.literals
    → steps f Blocks (body_lines true c) ≡ Ok (v, c)
reread_rest v c f is a b e g h some =
    let few : 0 + length c.program.arrays < 2 ^ 32 = let k = is.few_arrays in omega arith in
    let few_ones : 0 + length c.literals < 2 ^ 32 = let k = is.few_literals in omega arith in
    let table : Lines = numbered_lines literal_words 0 c.literals in
    let p = behind_arrays Blocks c.program.arrays in
    let x : Found = with_arrays f c.program.arrays in
    let y : Found = with_literals x c.literals in
    arrays_step f Blocks 0 c.program.arrays table refl (sym (ap (λ (ns : List ℕ). length ns) g)) few (all_lengths v c is)
    ∙ ap (λ (ls : Lines). steps x p ls) (sym (append-nil table))
    ∙ literals_step x p 0 c.literals [] (may_array c.program.arrays) (sym (ap (λ (zs : List ℤ). length zs) h)) few_ones is.literals
    ∙ end_table y p c.literals some
    ∙ ap (λ (r : ℕ × Code). Ok r) (same_code y y.literals v c.program.main c.program.blocks c.program.arrays c.literals a b e
    (ap (λ (ns : List ℕ). ns ++ c.program.arrays) g) (ap (λ (zs : List ℤ). zs ++ c.literals) h))

used_rest : (v : ℕ) (c : Code) (f : Found) → IsCode v c → f.version ≡ v → f.main ≡ c.program.main → all_blocks f ≡ c.program.blocks → f.arrays ≡ []
    → f.used ≡ c.literals
    → steps f Blocks (body_lines false c) ≡ Ok (v, c)
used_rest v c f is a b e g h =
    let few : 0 + length c.program.arrays < 2 ^ 32 = let k = is.few_arrays in omega arith in
    let x : Found = with_arrays f c.program.arrays in
    arrays_step f Blocks 0 c.program.arrays [] refl (sym (ap (λ (ns : List ℕ). length ns) g)) few (all_lengths v c is)
    ∙ end_used x c.program.arrays
    ∙ ap (λ (r : ℕ × Code). Ok r) (same_code x x.used v c.program.main c.program.blocks c.program.arrays c.literals a b e
    (ap (λ (ns : List ℕ). ns ++ c.program.arrays) g) h)

-- ---- the whole
abbrev Fits : Bool → Code → Type 0
Fits true c = 0 < length c.literals
Fits false c = c.literals ≡ table_of c.program.blocks

pub version_few : (v : ℕ) → (v ≡ 1) ⊎ (v ≡ 2) → v < 2 ^ 32
version_few v (inl e) = omega (arith, e)
version_few v (inr e) = omega (arith, e)

rest : (reread : Bool) (v : ℕ) (c : Code) (b : CodeBlock) (bs : List CodeBlock) → IsCode v c → c.program.blocks ≡ b ∷ bs → Fits reread c
    → steps (all_read v c.program.main b bs) Blocks (body_lines reread c) ≡ Ok (v, c)
unfolding all_read
rest true v c b bs is at fits =
    let f = first_read v c.program.main b in
    reread_rest v c (blocks_read f bs) is (read_version f bs) (read_main f bs) (read_blocks f bs ∙ sym at) (read_arrays f bs) (read_literals f bs) fits
rest false v c b bs is at fits =
    let f = first_read v c.program.main b in
    let used : used_in bs (used_by b.instrs []) ≡ c.literals = (unfold used_in in sym (fits ∙ ap (λ (cs : List CodeBlock). used_in cs []) at)) in
    used_rest v c (blocks_read f bs) is (read_version f bs) (read_main f bs) (read_blocks f bs ∙ sym at) (read_arrays f bs) (read_used f bs ∙ used)

code_again : (reread : Bool) (v : ℕ) (c : Code) (bs : List CodeBlock) → IsCode v c → c.program.blocks ≡ bs → Fits reread c
    → steps nothing Head (code_lines reread v c) ≡ Ok (v, c)
code_again reread v c [] is at fits = absurd (let some = is.some_block.0 in let e = ap (λ (cs : List CodeBlock). length cs) at in omega (arith, e))
code_again reread v c (b ∷ bs) is at fits =
    let size : length c.program.blocks ≡ 1 + length bs = ap (λ (cs : List CodeBlock). length cs) at ∙ omega arith in
    let main-few : c.program.main < 2 ^ 32 = let h = is.main in let k = is.some_block.1 in omega arith in
    let few : 1 + length bs < 2 ^ 32 = let k = is.some_block.1 in omega (arith, size) in
    ap (λ (cs : List CodeBlock). steps nothing Head (head_words v c.program.main ∷ (block_lines 0 cs ++ body_lines reread c))) at
    ∙ first_lines v c.program.main b bs (body_lines reread c) (version_few v is.version_known) main-few few
    (subst (λ (cs : List CodeBlock). All HasLines cs) at (all_lines v c is))
    ∙ rest reread v c b bs is at fits

pub listing_again : (text : List ℕ) (v : ℕ) (c : Code) → IsListingOf text v c → IsCode v c → steps nothing Head (lines_in text) ≡ Ok (v, c)
listing_again text v c (inl h) is = ap (steps nothing Head) h.1 ∙ code_again true v c c.program.blocks is refl h.0
listing_again text v c (inr h) is = ap (steps nothing Head) h.1 ∙ code_again false v c c.program.blocks is refl h.0
