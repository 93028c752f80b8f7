-- What was read so far is written so: each line that is read makes it longer by exactly that line.
use Rattle.std.proofs.Common.{◌≡◌, ℕ, ◌+◌, ◌<◌, Bool, true, false, cond, List, [], ◌∷◌, ◌++◌, length, Result, Ok, ℤ, refl, sym, ap, subst, ◌∙◌}
use Rattle.std.proofs.Common.{append_assoc, arith, inl, inr}
use Rattle.std.specs.Prelude.{codes}
use Rattle.std.specs.Str.{bytes_eq}
use Rattle.std.proofs.lemmas.List.{append-nil, length-append}
use Rattle.std.proofs.lemmas.Slice.Eq.{bytes_eq-Decides}
use Rattle.lemmas.proofs.Bools.{cond_cases}
use Rattle.semantics.specs.Program.{Instr, CodeBlock, Code}
use Rattle.disassembler.specs.Listing.{literal_of}
use Rattle.graph_file.specs.Giving.{◌>>=◌}
use Rattle.graph_file.proofs.Binds.{bind_ok}
use Rattle.assembler.specs.declared.fault.AsmFaultKind.{AsmFaultKind}
use Rattle.assembler.specs.declared.fault.AsmFaultKind.TheVariants.{BadLine}
use Rattle.assembler.specs.declared.found.Part.{Part}
use Rattle.assembler.specs.declared.found.Part.TheVariants.{Head, Start, Blocks, Arrays, Literals}
use Rattle.assembler.specs.Words.{Word}
use Rattle.assembler.specs.Giving.{must}
use Rattle.assembler.specs.Grammar.{head_words, block_words, instr_words, array_words, literal_words, numbered_lines, block_lines, code_lines}
use Rattle.assembler.specs.Grammar.{with_literal, used_by, used_in, table_of}
use Rattle.assembler.specs.Found.{Found}
use Rattle.assembler.specs.Lines.{word_from, head_from, block_from, array_from, literal_from, instr_from}
use Rattle.assembler.specs.Reading.{all_blocks, with_instr, head_line, first_block, next_block, array_line, literal_line, instr_line, takes_array}
use Rattle.assembler.specs.Reading.{takes_literal, block_line, other_line, step, code_with, end_from}
use Rattle.assembler.proofs.Taken.{ok_is, head_takes, block_takes, array_takes, literal_takes, instr_takes}
use Rattle.assembler.proofs.Steps.{steps}

abbrev pub Lines : Type 0
Lines = List (List Word)

-- ---- one more at the end
pub numbered_push : {X : Type 0} (words : ℕ → X → List Word) (n : ℕ) (xs : List X) (x : X) → numbered_lines words n (xs ++ x ∷ [])
    ≡ numbered_lines words n xs ++ words (n + length xs) x ∷ []
unfolding numbered_lines
numbered_push words n [] x = let e : n ≡ n + 0 = omega arith in ap (λ (k : ℕ). words k x ∷ []) e
numbered_push words n (y ∷ ys) x =
    let e : n + 1 + length ys ≡ n + length (y ∷ ys) = omega arith in
    ap (λ (ls : Lines). words n y ∷ ls) (numbered_push words (n + 1) ys x ∙ ap (λ (k : ℕ). numbered_lines words (n + 1) ys ++ words k x ∷ []) e)

abbrev pub of_block : ℕ → CodeBlock → Lines
of_block n b = block_words n b ∷ numbered_lines instr_words 0 b.instrs

pub blocks_push : (n : ℕ) (bs : List CodeBlock) (b : CodeBlock) → block_lines n (bs ++ b ∷ []) ≡ block_lines n bs ++ of_block (n + length bs) b
unfolding block_lines
blocks_push n [] b =
    let e : n ≡ n + 0 = omega arith in
    append-nil (of_block n b) ∙ ap (λ (k : ℕ). of_block k b) e
blocks_push n (c ∷ cs) b =
    let e : n + 1 + length cs ≡ n + length (c ∷ cs) = omega arith in
    ap (λ (ls : Lines). of_block n c ++ ls) (blocks_push (n + 1) cs b ∙ ap (λ (k : ℕ). block_lines (n + 1) cs ++ of_block k b) e)
    ∙ sym (append_assoc (of_block n c) (block_lines (n + 1) cs) (of_block (n + length (c ∷ cs)) b))

pub used_by_push : (is : List Instr) (i : Instr) (t : List ℤ) → used_by (is ++ i ∷ []) t ≡ with_literal (literal_of i.op) (used_by is t)
unfolding used_by
used_by_push [] i t = refl
used_by_push (j ∷ js) i t = used_by_push js i (with_literal (literal_of j.op) t)

pub used_in_push : (bs : List CodeBlock) (b : CodeBlock) (t : List ℤ) → used_in (bs ++ b ∷ []) t ≡ used_by b.instrs (used_in bs t)
unfolding used_in
used_in_push [] b t = refl
used_in_push (c ∷ cs) b t = used_in_push cs b (used_by c.instrs t)

-- ---- what was said
abbrev pub body : Found → Lines
body f = head_words f.version f.main ∷ (block_lines 0 (all_blocks f) ++ (numbered_lines array_words 0 f.arrays ++ numbered_lines literal_words 0 f.literals))

abbrev pub said : Found → Part → Lines
said f Head = []
said f Start = head_words f.version f.main ∷ []
said f Blocks = body f
said f Arrays = body f
said f Literals = body f

abbrev pub IsEmpty : Found → Type 0
IsEmpty f = (f.blocks ≡ []) × (f.arrays ≡ []) × (f.literals ≡ []) × (f.used ≡ [])

abbrev pub IsReread : Found → Type 0
IsReread f = f.used ≡ table_of (all_blocks f)

abbrev pub IsState : Found → Part → Type 0
IsState f Head = IsEmpty f
IsState f Start = IsEmpty f
IsState f Blocks = IsReread f × (f.arrays ≡ []) × (f.literals ≡ [])
IsState f Arrays = IsReread f × (f.literals ≡ [])
IsState f Literals = IsReread f × (0 < length f.literals)

abbrev Leads : Lines → List Word → Found × Part → Type 0
Leads before ws s = IsState s.0 s.1 × (said s.0 s.1 ≡ before ++ ws ∷ [])

nothing_numbered : {X : Type 0} (words : ℕ → X → List Word) (xs : List X) → xs ≡ [] → numbered_lines words 0 xs ≡ []
nothing_numbered words xs e = ap (numbered_lines words 0) e ∙ (unfold numbered_lines in refl)

-- the lines of blocks alone
abbrev bare : Found → Lines
bare f = head_words f.version f.main ∷ block_lines 0 (all_blocks f)

body_bare : (f : Found) → f.arrays ≡ [] → f.literals ≡ [] → body f ≡ bare f
body_bare f a l =
    let e : numbered_lines array_words 0 f.arrays ++ numbered_lines literal_words 0 f.literals
    ≡ [] = ap (λ (ls : Lines). ls ++ numbered_lines literal_words 0 f.literals) (nothing_numbered array_words f.arrays a)
    ∙ nothing_numbered literal_words f.literals l in
    ap (λ (ls : Lines). head_words f.version f.main ∷ (block_lines 0 (all_blocks f) ++ ls)) e ∙ ap (λ (ls : Lines). head_words f.version f.main ∷ ls)
    (append-nil (block_lines 0 (all_blocks f)))

head_leads : (f : Found) (ws : List Word) (s : Found × Part) → head_line f ws ≡ Ok s → IsEmpty f → Leads [] ws s
unfolding head_line
head_leads f ws s e h =
    let b = bind_ok (head_from ws) (λ h. Ok (record f { version = h.0; main = h.1 }, Start)) s e in
    let made : Leads [] ws (record f { version = b.0.0; main = b.0.1 }, Start) = (h, ap (λ (l : List Word). l ∷ []) (sym (head_takes ws b.0 b.1))) in
    subst (Leads [] ws) (ok_is (record f { version = b.0.0; main = b.0.1 }, Start) s b.2) made

no_instrs : (n : ℕ) (b : CodeBlock) → b.instrs ≡ [] → of_block n b ≡ block_words n b ∷ []
no_instrs n b e = ap (λ (ls : Lines). block_words n b ∷ ls) (nothing_numbered instr_words b.instrs e)

nothing_used : (b : CodeBlock) (t : List ℤ) → b.instrs ≡ [] → used_by b.instrs t ≡ t
nothing_used b t e = ap (λ (is : List Instr). used_by is t) e ∙ (unfold used_by in refl)

no_blocks : (bs : List CodeBlock) → bs ≡ [] → block_lines 0 bs ≡ []
no_blocks bs e = ap (block_lines 0) e ∙ (unfold block_lines in refl)

none_used : (bs : List CodeBlock) → bs ≡ [] → used_in bs [] ≡ []
none_used bs e = ap (λ (cs : List CodeBlock). used_in cs []) e ∙ (unfold used_in in refl)

first_leads : (f : Found) (ws : List Word) (s : Found × Part) → first_block f ws ≡ Ok s → IsEmpty f → Leads (said f Start) (codes "block" ∷ ws) s
unfolding first_block
first_leads f ws s e h =
    let b = bind_ok (block_from 0 ws) (λ b. Ok (record f { last = b }, Blocks)) s e in
    let t = block_takes 0 ws b.0 b.1 in
    let g : Found = record f { last = b.0 } in
    let zero-is : 0 + length f.blocks ≡ 0 = let k = ap (λ (bs : List CodeBlock). length bs) h.0 in omega (arith, k) in
    let lines : block_lines 0 (all_blocks g) ≡ block_words 0 b.0 ∷ [] = blocks_push 0 f.blocks b.0
    ∙ ap (λ (ls : Lines). ls ++ of_block (0 + length f.blocks) b.0) (no_blocks f.blocks h.0) ∙ ap (λ (k : ℕ). of_block k b.0) zero-is
    ∙ no_instrs 0 b.0 t.1 in
    let reread : IsReread g = h.3 ∙ sym (used_in_push f.blocks b.0 [] ∙ nothing_used b.0 (used_in f.blocks []) t.1 ∙ none_used f.blocks h.0) in
    let made : Leads (said f Start) (codes "block" ∷ ws) (g, Blocks) = (
      (reread, h.1, h.2),
      body_bare g h.1 h.2
          ∙ ap (λ (ls : Lines). head_words f.version f.main ∷ ls) (lines ∙ ap (λ (l : List Word). l ∷ []) (sym t.0)),
    ) in
    subst (Leads (said f Start) (codes "block" ∷ ws)) (ok_is (g, Blocks) s b.2) made

next_leads : (f : Found) (ws : List Word) (s : Found × Part) → next_block f ws ≡ Ok s → IsState f Blocks → Leads (body f) (codes "block" ∷ ws) s
unfolding next_block
next_leads f ws s e h =
    let b = bind_ok (block_from (length f.blocks + 1) ws) (λ b. Ok (record f { blocks = all_blocks f; last = b }, Blocks)) s e in
    let t = block_takes (length f.blocks + 1) ws b.0 b.1 in
    let g : Found = record f { blocks = all_blocks f; last = b.0 } in
    let count : 0 + length (all_blocks f) ≡ length f.blocks + 1 = omega (arith, length-append f.blocks (f.last ∷ [])) in
    let lines : block_lines 0 (all_blocks g) ≡ block_lines 0 (all_blocks f) ++ block_words (length f.blocks + 1) b.0
    ∷ [] = blocks_push 0 (all_blocks f) b.0 ∙ ap (λ (k : ℕ). block_lines 0 (all_blocks f) ++ of_block k b.0) count
    ∙ ap (λ (ls : Lines). block_lines 0 (all_blocks f) ++ ls) (no_instrs (length f.blocks + 1) b.0 t.1) in
    let reread : IsReread g = h.0 ∙ sym (used_in_push (all_blocks f) b.0 [] ∙ nothing_used b.0 (table_of (all_blocks f)) t.1) in
    let text : bare g ≡ bare f ++ (codes "block" ∷ ws) ∷ [] = ap (λ (ls : Lines). head_words f.version f.main ∷ ls)
    (lines ∙ ap (λ (l : List Word). block_lines 0 (all_blocks f) ++ l ∷ []) (sym t.0)) in
    let made : Leads (body f) (codes "block" ∷ ws) (g, Blocks) = (
      (reread, h.1, h.2),
      body_bare g h.1 h.2 ∙ text
          ∙ ap (λ (ls : Lines). ls ++ (codes "block" ∷ ws) ∷ []) (sym (body_bare f h.1 h.2)),
    ) in
    subst (Leads (body f) (codes "block" ∷ ws)) (ok_is (g, Blocks) s b.2) made

instr_leads : (f : Found) (ws : List Word) (s : Found × Part) → instr_line f ws ≡ Ok s → IsState f Blocks → Leads (body f) ws s
unfolding instr_line
instr_leads f ws s e h =
    let b = bind_ok (instr_from (length f.last.instrs) ws)
    (λ i. Ok (record f { last = with_instr f.last i; used = with_literal (literal_of i.op) f.used }, Blocks)) s e in
    let i = b.0 in
    let t = instr_takes (length f.last.instrs) ws i b.1 in
    let g : Found = record f { last = with_instr f.last i; used = with_literal (literal_of i.op) f.used } in
    let n = 0 + length f.blocks in
    let zero-is : 0 + length f.last.instrs ≡ length f.last.instrs = omega arith in
    let more : of_block n (with_instr f.last i) ≡ of_block n f.last ++ ws ∷ [] = ap (λ (ls : Lines). block_words n f.last ∷ ls)
    (numbered_push instr_words 0 f.last.instrs i ∙ ap (λ (k : ℕ). numbered_lines instr_words 0 f.last.instrs ++ instr_words k i ∷ []) zero-is
    ∙ ap (λ (l : List Word). numbered_lines instr_words 0 f.last.instrs ++ l ∷ []) (sym t)) in
    let lines : block_lines 0 (all_blocks g) ≡ block_lines 0 (all_blocks f) ++ ws ∷ [] = blocks_push 0 f.blocks (with_instr f.last i)
    ∙ ap (λ (ls : Lines). block_lines 0 f.blocks ++ ls) more ∙ sym (append_assoc (block_lines 0 f.blocks) (of_block n f.last) (ws ∷ []))
    ∙ ap (λ (ls : Lines). ls ++ ws ∷ []) (sym (blocks_push 0 f.blocks f.last)) in
    let reread : IsReread g = ap (λ (t : List ℤ). with_literal (literal_of i.op) t) (h.0 ∙ used_in_push f.blocks f.last [])
    ∙ sym (used_by_push f.last.instrs i (used_in f.blocks [])) ∙ sym (used_in_push f.blocks (with_instr f.last i) []) in
    let made : Leads (body f) ws (g, Blocks) = (
      (reread, h.1, h.2),
      body_bare g h.1 h.2 ∙ ap (λ (ls : Lines). head_words f.version f.main ∷ ls) lines
          ∙ ap (λ (ls : Lines). ls ++ ws ∷ []) (sym (body_bare f h.1 h.2)),
    ) in
    subst (Leads (body f) ws) (ok_is (g, Blocks) s b.2) made

three : (b a l : Lines) (w : List Word) → b ++ (a ++ (l ++ w ∷ [])) ≡ (b ++ (a ++ l)) ++ w ∷ []
three b a l w = ap (λ (ls : Lines). b ++ ls) (sym (append_assoc a l (w ∷ []))) ∙ sym (append_assoc b (a ++ l) (w ∷ []))

array_leads : (f : Found) (ws : List Word) (s : Found × Part) → array_line f ws ≡ Ok s → IsReread f → f.literals ≡ [] → Leads (body f) (codes "array" ∷ ws) s
unfolding array_line
array_leads f ws s e reread none =
    let b = bind_ok (array_from (length f.arrays) ws) (λ len. Ok (record f { arrays = f.arrays ++ len ∷ [] }, Arrays)) s e in
    let t = array_takes (length f.arrays) ws b.0 b.1 in
    let g : Found = record f { arrays = f.arrays ++ b.0 ∷ [] } in
    let bl = block_lines 0 (all_blocks f) in
    let al = numbered_lines array_words 0 f.arrays in
    let w : List Word = codes "array" ∷ ws in
    let zero-is : 0 + length f.arrays ≡ length f.arrays = omega arith in
    let more : numbered_lines array_words 0 g.arrays ≡ al ++ w ∷ [] = numbered_push array_words 0 f.arrays b.0
    ∙ ap (λ (k : ℕ). al ++ array_words k b.0 ∷ []) zero-is ∙ ap (λ (l : List Word). al ++ l ∷ []) (sym t) in
    let no_table : numbered_lines literal_words 0 f.literals ≡ [] = nothing_numbered literal_words f.literals none in
    let left : bl ++ (numbered_lines array_words 0 g.arrays ++ numbered_lines literal_words 0 f.literals) ≡ bl
    ++ (al ++ w ∷ []) = ap (λ (ls : Lines). bl ++ (numbered_lines array_words 0 g.arrays ++ ls)) no_table
    ∙ ap (λ (ls : Lines). bl ++ ls) (append-nil (numbered_lines array_words 0 g.arrays) ∙ more) in
    let right : bl ++ (al ++ w ∷ []) ≡ (bl ++ (al ++ numbered_lines literal_words 0 f.literals)) ++ w ∷ [] = three bl al [] w
    ∙ ap (λ (ls : Lines). (bl ++ (al ++ ls)) ++ w ∷ []) (sym no_table) in
    let made : Leads (body f) w (g, Arrays) = ((reread, none), ap (λ (ls : Lines). head_words f.version f.main ∷ ls) (left ∙ right)) in
    subst (Leads (body f) w) (ok_is (g, Arrays) s b.2) made

literal_leads : (f : Found) (ws : List Word) (s : Found × Part) → literal_line f ws ≡ Ok s → IsReread f → Leads (body f) (codes "literal" ∷ ws) s
unfolding literal_line
literal_leads f ws s e reread =
    let b = bind_ok (literal_from (length f.literals) ws) (λ z. Ok (record f { literals = f.literals ++ z ∷ [] }, Literals)) s e in
    let t = literal_takes (length f.literals) ws b.0 b.1 in
    let g : Found = record f { literals = f.literals ++ b.0 ∷ [] } in
    let bl = block_lines 0 (all_blocks f) in
    let al = numbered_lines array_words 0 f.arrays in
    let ll = numbered_lines literal_words 0 f.literals in
    let w : List Word = codes "literal" ∷ ws in
    let zero-is : 0 + length f.literals ≡ length f.literals = omega arith in
    let more : numbered_lines literal_words 0 g.literals ≡ ll ++ w ∷ [] = numbered_push literal_words 0 f.literals b.0
    ∙ ap (λ (k : ℕ). ll ++ literal_words k b.0 ∷ []) zero-is ∙ ap (λ (l : List Word). ll ++ l ∷ []) (sym t) in
    let made : Leads (body f) w (g, Literals) = (
      (reread, omega (arith, length-append f.literals (b.0 ∷ []))),
      ap
          (λ (ls : Lines). head_words f.version f.main ∷ (bl ++ (al ++ ls))) more ∙ ap (λ (ls : Lines). head_words f.version f.main ∷ ls) (three bl al ll w),
    ) in
    subst (Leads (body f) w) (ok_is (g, Literals) s b.2) made

-- ---- any line
block_leads : (f : Found) (p : Part) (ws : List Word) (s : Found × Part) → block_line f p ws ≡ Ok s → IsState f p → Leads (said f p) (codes "block" ∷ ws) s
unfolding block_line
block_leads f Head ws s e h = absurd cc
block_leads f Start ws s e h = first_leads f ws s e h
block_leads f Blocks ws s e h = next_leads f ws s e h
block_leads f Arrays ws s e h = absurd cc
block_leads f Literals ws s e h = absurd cc

other_leads : (f : Found) (p : Part) (ws : List Word) (s : Found × Part) → other_line f p ws ≡ Ok s → IsState f p → Leads (said f p) ws s
unfolding other_line
other_leads f Head ws s e h = head_leads f ws s e h
other_leads f Start ws s e h = absurd cc
other_leads f Blocks ws s e h = instr_leads f ws s e h
other_leads f Arrays ws s e h = absurd cc
other_leads f Literals ws s e h = absurd cc

arrays_lead : (f : Found) (p : Part) (ws : List Word) (s : Found × Part) → (must (takes_array p) BadLine >>= λ may. array_line f ws) ≡ Ok s
    → IsState f p → Leads (said f p) (codes "array" ∷ ws) s
arrays_lead f Head ws s e h = absurd cc
arrays_lead f Start ws s e h = absurd cc
arrays_lead f Blocks ws s e h = array_leads f ws s e h.0 h.2
arrays_lead f Arrays ws s e h = array_leads f ws s e h.0 h.1
arrays_lead f Literals ws s e h = absurd cc

literals_lead : (f : Found) (p : Part) (ws : List Word) (s : Found × Part) → (must (takes_literal p) BadLine >>= λ may. literal_line f ws) ≡ Ok s
    → IsState f p → Leads (said f p) (codes "literal" ∷ ws) s
literals_lead f Head ws s e h = absurd cc
literals_lead f Start ws s e h = absurd cc
literals_lead f Blocks ws s e h = literal_leads f ws s e h.0
literals_lead f Arrays ws s e h = literal_leads f ws s e h.0
literals_lead f Literals ws s e h = literal_leads f ws s e h.0

abbrev pub by_word : Found → Part → Word → List Word → Result (Found × Part) AsmFaultKind
by_word f p w ws = cond (bytes_eq w (codes "block")) (block_line f p ws)
    (cond (bytes_eq w (codes "array")) (must (takes_array p) BadLine >>= λ may. array_line f ws)
    (cond (bytes_eq w (codes "literal")) (must (takes_literal p) BadLine >>= λ may. literal_line f ws) (other_line f p (w ∷ ws))))

pub step_is : (f : Found) (p : Part) (w : Word) (ws : List Word) → step f p (w ∷ ws) ≡ by_word f p w ws
unfolding step word_from
step_is f p w ws = refl

named : (before : Lines) (w key : Word) (ws : List Word) (s : Found × Part) → bytes_eq w key ≡ true → Leads before (key ∷ ws) s → Leads before (w ∷ ws) s
named before w key ws s e h = subst (λ (v : Word). Leads before (v ∷ ws) s) (sym ((bytes_eq-Decides w key).0 e)) h

step_leads : (f : Found) (p : Part) (w : Word) (ws : List Word) (s : Found × Part) → by_word f p w ws ≡ Ok s → IsState f p → Leads (said f p) (w ∷ ws) s
step_leads f p w ws s e h =
    let array = must (takes_array p) BadLine >>= λ may. array_line f ws in
    let table = must (takes_literal p) BadLine >>= λ may. literal_line f ws in
    let rest = cond (bytes_eq w (codes "literal")) table (other_line f p (w ∷ ws)) in
    elim (cond_cases (bytes_eq w (codes "block")) (block_line f p ws) (cond (bytes_eq w (codes "array")) array rest) (Ok s) e) as
    (λ _. Leads (said f p) (w ∷ ws) s) [
      | inl k ↦ named (said f p) w (codes "block") ws s k.0 (block_leads f p ws s k.1 h)
      | inr k ↦ elim (cond_cases (bytes_eq w (codes "array")) array rest (Ok s) k.1) as (λ _. Leads (said f p) (w ∷ ws) s) [
        | inl j ↦ named (said f p) w (codes "array") ws s j.0 (arrays_lead f p ws s j.1 h)
        | inr j ↦ elim (cond_cases (bytes_eq w (codes "literal")) table (other_line f p (w ∷ ws)) (Ok s) j.1) as (λ _. Leads (said f p) (w ∷ ws) s) [
          | inl i ↦ named (said f p) w (codes "literal") ws s i.0 (literals_lead f p ws s i.1 h)
          | inr i ↦ other_leads f p (w ∷ ws) s i.1 h
        ]
      ]
    ]

pub no_step : (f : Found) (p : Part) (s : Found × Part) → step f p [] ≡ Ok s → ⊥
unfolding step word_from
no_step f p s e = cc

pub any_leads : (f : Found) (p : Part) (ws : List Word) (s : Found × Part) → step f p ws ≡ Ok s → IsState f p → Leads (said f p) ws s
any_leads f p [] s e h = absurd (no_step f p s e)
any_leads f p (w ∷ ws) s e h = step_leads f p w ws s (sym (step_is f p w ws) ∙ e) h

-- ---- the whole
abbrev pub Fits : Bool → Code → Type 0
Fits true c = 0 < length c.literals
Fits false c = c.literals ≡ table_of c.program.blocks

abbrev pub Says : Lines → ℕ × Code → Type 0
Says wss r = (reread : Bool) × Fits reread r.1 × (wss ≡ code_lines reread r.0 r.1)

with_used : (f : Found) → IsReread f → f.literals ≡ [] → Says (body f) (code_with f f.used)
with_used f reread none = (
  false,
  reread,
  ap (λ (ls : Lines). head_words f.version f.main
      ∷ (block_lines 0 (all_blocks f) ++ (numbered_lines array_words 0 f.arrays ++ ls))) (nothing_numbered literal_words f.literals none),
)

end_says : (f : Found) (p : Part) (r : ℕ × Code) → end_from f p ≡ Ok r → IsState f p → Says (said f p) r
unfolding end_from
end_says f Head r e h = absurd cc
end_says f Start r e h = absurd cc
end_says f Blocks r e h = subst (Says (body f)) (ok_is (code_with f f.used) r e) (with_used f h.0 h.2)
end_says f Arrays r e h = subst (Says (body f)) (ok_is (code_with f f.used) r e) (with_used f h.0 h.1)
end_says f Literals r e h = let made : Says (body f) (code_with f f.literals) = (true, h.1, refl)
    in subst (Says (body f)) (ok_is (code_with f f.literals) r e) made

pub steps_say : (f : Found) (p : Part) (wss : Lines) (r : ℕ × Code) → steps f p wss ≡ Ok r → IsState f p → Says (said f p ++ wss) r
steps_say f p [] r e h = subst (λ (ls : Lines). Says ls r) (sym (append-nil (said f p))) (end_says f p r e h)
steps_say f p (ws ∷ wss) r e h =
    let b = bind_ok (step f p ws) (λ s. steps s.0 s.1 wss) r e in
    let l = any_leads f p ws b.0 b.1 h in
    let rest = steps_say b.0.0 b.0.1 wss r b.2 l.0 in
    subst (λ (ls : Lines). Says ls r) (ap (λ (ls : Lines). ls ++ wss) l.1 ∙ append_assoc (said f p) (ws ∷ []) wss) rest
