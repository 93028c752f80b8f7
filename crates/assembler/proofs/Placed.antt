-- Lines of a text, one at a time.
use Rattle.std.proofs.Common.{◌≡◌, ℕ, ◌+◌, ◌-◌, ◌≤◌, eqb, true, false, cond, List, [], ◌∷◌, length, Result, Ok, Err, refl, sym, ap, ◌∙◌, arith, inl}
use Rattle.std.proofs.Common.{inr, ◌<◌, ℤ}
use Rattle.std.specs.Prelude.{◌⊎◌}
use Rattle.semantics.specs.Program.{Code}
use Rattle.graph_file.specs.Giving.{◌>>=◌}
use Rattle.assembler.specs.declared.fault.AsmFault.{AsmFault}
use Rattle.assembler.specs.declared.fault.AsmFaultKind.{AsmFaultKind}
use Rattle.assembler.specs.declared.fault.AsmFaultKind.TheVariants.{Memory}
use Rattle.assembler.specs.declared.found.Part.{Part}
use Rattle.assembler.specs.Words.{words_of, has_words}
use Rattle.assembler.specs.Found.{Found}
use Rattle.assembler.specs.Reading.{line_from, end_from, at_line, lines_from, text_from}
use Rattle.assembler.specs.Assembling.{line_at, IsFirstFault, refused, unless_refused, assembled}
use Rattle.assembler.specs.Checks.{code_checked, literals_checked}
use Rattle.assembler.specs.declared.checks.Refusal.{Refusal}

-- ---- the number of a line

at_once : (n index : ℕ) (line : List ℕ) (lines : List (List ℕ)) → line_at n index (line ∷ lines)
    ≡ cond (has_words (words_of line)) (cond (eqb index 0) (n + 1) (line_at (n + 1) (index - 1) lines)) (line_at (n + 1) index lines)
unfolding line_at
at_once n index line lines = refl

pub at_none : (n index all : ℕ) (ls : List (List ℕ)) → ls ≡ [] → line_at n index ls ≡ all → n ≡ all
unfolding line_at
at_none n index all [] e h = h
at_none n index all (l ∷ ls) e h = absurd cc

pub at_blank : (n index all : ℕ) (ls lines : List (List ℕ)) (line : List ℕ) → ls ≡ line ∷ lines → has_words (words_of line) ≡ false
    → line_at n index ls ≡ all → line_at (n + 1) index lines ≡ all
at_blank n index all ls lines line e t h =
    let k : line_at n index (line ∷ lines) ≡ all = ap (line_at n index) (sym e) ∙ h in
    let j : line_at n index (line ∷ lines) ≡ line_at (n + 1) index lines = at_once n index line lines ∙ rw t refl in
    sym j ∙ k

pub at_here : (n index all : ℕ) (ls lines : List (List ℕ)) (line : List ℕ) → ls ≡ line ∷ lines → has_words (words_of line) ≡ true → eqb index 0 ≡ true
    → line_at n index ls ≡ all → n + 1 ≡ all
at_here n index all ls lines line e t z h =
    let k : line_at n index (line ∷ lines) ≡ all = ap (line_at n index) (sym e) ∙ h in
    let j : line_at n index (line ∷ lines) ≡ n + 1 = at_once n index line lines ∙ rw (t, z) refl in
    sym j ∙ k

pub at_later : (n index all : ℕ) (ls lines : List (List ℕ)) (line : List ℕ) → ls ≡ line ∷ lines → has_words (words_of line) ≡ true → eqb index 0
    ≡ false → line_at n index ls ≡ all → line_at (n + 1) (index - 1) lines ≡ all
at_later n index all ls lines line e t z h =
    let k : line_at n index (line ∷ lines) ≡ all = ap (line_at n index) (sym e) ∙ h in
    let j : line_at n index (line ∷ lines) ≡ line_at (n + 1) (index - 1) lines = at_once n index line lines ∙ rw (t, z) refl in
    sym j ∙ k

pub fewer : (n : ℕ) (ls lines : List (List ℕ)) (line : List ℕ) (limit : ℕ) → ls ≡ line ∷ lines → n + length ls ≤ limit → n + 1 + length lines ≤ limit
fewer n ls lines line limit e h = let k = ap (λ (xs : List (List ℕ)). length xs) e in omega (arith, k, h)

-- ---- reading lines
abbrev Total : Type 0
Total = Result (ℕ × Code) AsmFault

pub reads_on : (n : ℕ) (f : Found) (p : Part) (ls lines : List (List ℕ)) (line : List ℕ) (s : Found × Part) (all : Total) → ls ≡ line ∷ lines
    → line_from f p (words_of line) ≡ Ok s → lines_from n f p ls ≡ all → lines_from (n + 1) s.0 s.1 lines ≡ all
unfolding lines_from
reads_on n f p ls lines line s all e ok h =
    let k : lines_from n f p (line ∷ lines) ≡ all = ap (lines_from n f p) (sym e) ∙ h in
    sym (ap (λ (r : Result (Found × Part) AsmFaultKind). at_line (n + 1) r >>= λ t. lines_from (n + 1) t.0 t.1 lines) ok) ∙ k

pub reads_badly : (n : ℕ) (f : Found) (p : Part) (ls lines : List (List ℕ)) (line : List ℕ) (kind : AsmFaultKind) (all : Total) → ls ≡ line ∷ lines
    → line_from f p (words_of line) ≡ Err kind → lines_from n f p ls ≡ all → all ≡ Err record { kind = kind; line = n + 1 }
unfolding lines_from
reads_badly n f p ls lines line kind all e bad h =
    let k : lines_from n f p (line ∷ lines) ≡ all = ap (lines_from n f p) (sym e) ∙ h in
    sym k ∙ ap (λ (r : Result (Found × Part) AsmFaultKind). at_line (n + 1) r >>= λ t. lines_from (n + 1) t.0 t.1 lines) bad

pub reads_to_end : (n : ℕ) (f : Found) (p : Part) (ls : List (List ℕ)) (all : Total) → ls ≡ [] → lines_from n f p ls ≡ all → all ≡ at_line n (end_from f p)
unfolding lines_from
reads_to_end n f p [] all e h = sym h
reads_to_end n f p (l ∷ ls) all e h = absurd cc

pub ended_well : (n : ℕ) (r : Result (ℕ × Code) AsmFaultKind) (all : Total) (x : ℕ × Code) → all ≡ at_line n r → r ≡ Ok x → all ≡ Ok x
ended_well n r all x h e = h ∙ ap (at_line n) e

pub ended_badly : (n : ℕ) (r : Result (ℕ × Code) AsmFaultKind) (all : Total) (kind : AsmFaultKind) → all ≡ at_line n r
    → (kind ≡ Memory) ⊎ (r ≡ Err kind) → IsFirstFault record { kind = kind; line = n } all
ended_badly n r all kind h (inl m) = inl m
ended_badly n r all kind h (inr e) = inr (h ∙ ap (at_line n) e)

pub stopped : (n : ℕ) (f : Found) (p : Part) (ls lines : List (List ℕ)) (line : List ℕ) (kind : AsmFaultKind) (all : Total) → ls ≡ line ∷ lines
    → (kind ≡ Memory) ⊎ (line_from f p (words_of line) ≡ Err kind) → lines_from n f p ls ≡ all → IsFirstFault record { kind = kind; line = n + 1 } all
stopped n f p ls lines line kind all e (inl m) h = inl m
stopped n f p ls lines line kind all e (inr b) h = inr (reads_badly n f p ls lines line kind all e b h)

-- ---- the whole
pub refused_text : (text : List ℕ) (fault : AsmFault) → IsFirstFault fault (text_from text) → IsFirstFault fault (assembled text)
unfolding assembled
refused_text text fault (inl m) = inl m
refused_text text fault (inr e) = inr (ap (λ (t : Total). t >>= λ r. unless_refused text r (code_checked r.0 r.1)) e)

pub given : (text : List ℕ) (r : ℕ × Code) → text_from text ≡ Ok r → code_checked r.0 r.1 ≡ Ok tt → assembled text ≡ Ok r
unfolding assembled
given text r e k = ap (λ (t : Total). t >>= λ s. unless_refused text s (code_checked s.0 s.1)) e ∙ ap (unless_refused text r) k

pub unfit : (text : List ℕ) (r : ℕ × Code) (f : Refusal) → text_from text ≡ Ok r → code_checked r.0 r.1 ≡ Err f → assembled text ≡ Err (refused text f)
unfolding assembled
unfit text r f e k = ap (λ (t : Total). t >>= λ s. unless_refused text s (code_checked s.0 s.1)) e ∙ ap (unless_refused text r) k

pub few_literals : (n : ℕ) (ls : List ℤ) → length ls < 2 → literals_checked n ls ≡ Ok tt
few_literals n [] h = refl
few_literals n (y ∷ []) h = refl
few_literals n (y ∷ z ∷ zs) h = absurd (omega arith)
