-- Reading a text is reading its lines that have words.
use Rattle.std.proofs.Common.{◌≡◌, ℕ, ◌+◌, List, [], ◌∷◌, map, Result, Ok, Err, refl, sym, ap, ◌∙◌}
use Rattle.semantics.specs.Program.{Code}
use Rattle.graph_file.specs.Giving.{◌>>=◌}
use Rattle.graph_file.specs.Lines.{parts}
use Rattle.graph_file.proofs.Binds.{bind_ok}
use Rattle.assembler.specs.declared.fault.AsmFaultKind.{AsmFaultKind}
use Rattle.assembler.specs.declared.found.Part.{Part}
use Rattle.assembler.specs.declared.found.Part.TheVariants.{Head}
use Rattle.assembler.specs.Words.{Word, words_of, filled, lines_in}
use Rattle.assembler.specs.Found.{Found}
use Rattle.assembler.specs.Reading.{nothing, step, line_from, end_from, at_line, lines_from, text_from}

-- the lines of words, one after the other
abbrev pub steps : Found → Part → List (List Word) → Result (ℕ × Code) AsmFaultKind
steps f p [] = end_from f p
steps f p (ws ∷ wss) = step f p ws >>= λ s. steps s.0 s.1 wss

abbrev State : Type 0
State = Found × Part

at_ok : {A : Type 0} (n : ℕ) (r : Result A AsmFaultKind) (x : A) → at_line n r ≡ Ok x → r ≡ Ok x
at_ok n (Ok y) x e = cc
at_ok n (Err k) x e = absurd cc

filled_nil : filled [] ≡ []
unfolding filled
filled_nil = refl

none_first : (wss : List (List Word)) → filled ([] ∷ wss) ≡ filled wss
unfolding filled
none_first wss = refl

some_first : (w : Word) (ws : List Word) (wss : List (List Word)) → filled ((w ∷ ws) ∷ wss) ≡ (w ∷ ws) ∷ filled wss
unfolding filled
some_first w ws wss = refl

filled_none : (l : List ℕ) (ls : List (List ℕ)) → words_of l ≡ [] → filled (map words_of (l ∷ ls)) ≡ filled (map words_of ls)
filled_none l ls e = ap (λ (ws : List Word). filled (ws ∷ map words_of ls)) e ∙ none_first (map words_of ls)

filled_some : (l : List ℕ) (ls : List (List ℕ)) (w : Word) (ws : List Word) → words_of l ≡ w ∷ ws → filled (map words_of (l ∷ ls)) ≡ (w ∷ ws)
    ∷ filled (map words_of ls)
filled_some l ls w ws e = ap (λ (vs : List Word). filled (vs ∷ map words_of ls)) e ∙ some_first w ws (map words_of ls)

line_none : (f : Found) (p : Part) (l : List ℕ) → words_of l ≡ [] → line_from f p (words_of l) ≡ Ok (f, p)
line_none f p l e = ap (line_from f p) e ∙ (unfold line_from in refl)

line_some : (f : Found) (p : Part) (l : List ℕ) (w : Word) (ws : List Word) → words_of l ≡ w ∷ ws → line_from f p (words_of l) ≡ step f p (w ∷ ws)
line_some f p l w ws e = ap (line_from f p) e ∙ (unfold line_from in refl)

lines_once : (n : ℕ) (f : Found) (p : Part) (l : List ℕ) (ls : List (List ℕ)) → lines_from n f p (l ∷ ls)
    ≡ (at_line (n + 1) (line_from f p (words_of l)) >>= λ s. lines_from (n + 1) s.0 s.1 ls)
unfolding lines_from
lines_once n f p l ls = refl

lines_end : (n : ℕ) (f : Found) (p : Part) → lines_from n f p [] ≡ at_line n (end_from f p)
unfolding lines_from
lines_end n f p = refl

pub stripped : (n : ℕ) (f : Found) (p : Part) (ls : List (List ℕ)) (r : ℕ × Code) → lines_from n f p ls ≡ Ok r → steps f p (filled (map words_of ls)) ≡ Ok r
stripped n f p [] r e = ap (steps f p) filled_nil ∙ at_ok n (end_from f p) r (sym (lines_end n f p) ∙ e)
stripped n f p (l ∷ ls) r e = go (words_of l) refl (λ s. stripped (n + 1) s.0 s.1 ls r)
  where
    go : (ws : List Word) → words_of l ≡ ws → ((s : State) → lines_from (n + 1) s.0 s.1 ls ≡ Ok r → steps s.0 s.1 (filled (map words_of ls)) ≡ Ok r)
        → steps f p (filled (map words_of (l ∷ ls))) ≡ Ok r
    go [] k ih =
        let h : lines_from (n + 1) f p ls ≡ Ok r = sym
        (ap (λ (t : Result State AsmFaultKind). at_line (n + 1) t >>= λ s. lines_from (n + 1) s.0 s.1 ls) (line_none f p l k))
        ∙ sym (lines_once n f p l ls) ∙ e in
        ap (steps f p) (filled_none l ls k) ∙ ih (f, p) h
    go (w ∷ ws) k ih =
        let h : (at_line (n + 1) (step f p (w ∷ ws)) >>= λ s. lines_from (n + 1) s.0 s.1 ls)
        ≡ Ok r = sym (ap (λ (t : Result State AsmFaultKind). at_line (n + 1) t >>= λ s. lines_from (n + 1) s.0 s.1 ls) (line_some f p l w ws k))
        ∙ sym (lines_once n f p l ls) ∙ e in
        let b = bind_ok (at_line (n + 1) (step f p (w ∷ ws))) (λ s. lines_from (n + 1) s.0 s.1 ls) r h in
        let s = at_ok (n + 1) (step f p (w ∷ ws)) b.0 b.1 in
        ap (steps f p) (filled_some l ls w ws k) ∙ ap (λ (t : Result State AsmFaultKind). t >>= λ s. steps s.0 s.1 (filled (map words_of ls))) s ∙ ih b.0 b.2

pub restored : (n : ℕ) (f : Found) (p : Part) (ls : List (List ℕ)) (r : ℕ × Code) → steps f p (filled (map words_of ls)) ≡ Ok r → lines_from n f p ls ≡ Ok r
restored n f p [] r e = lines_end n f p ∙ ap (at_line n) (sym (ap (steps f p) filled_nil) ∙ e)
restored n f p (l ∷ ls) r e = go (words_of l) refl (λ s. restored (n + 1) s.0 s.1 ls r)
  where
    go : (ws : List Word) → words_of l ≡ ws → ((s : State) → steps s.0 s.1 (filled (map words_of ls)) ≡ Ok r → lines_from (n + 1) s.0 s.1 ls ≡ Ok r)
        → lines_from n f p (l ∷ ls) ≡ Ok r
    go [] k ih =
        let h : steps f p (filled (map words_of ls)) ≡ Ok r = sym (ap (steps f p) (filled_none l ls k)) ∙ e in
        lines_once n f p l ls ∙ ap (λ (t : Result State AsmFaultKind). at_line (n + 1) t >>= λ s. lines_from (n + 1) s.0 s.1 ls) (line_none f p l k)
        ∙ ih (f, p) h
    go (w ∷ ws) k ih =
        let h : (step f p (w ∷ ws) >>= λ s. steps s.0 s.1 (filled (map words_of ls))) ≡ Ok r = sym (ap (steps f p) (filled_some l ls w ws k)) ∙ e in
        let b = bind_ok (step f p (w ∷ ws)) (λ s. steps s.0 s.1 (filled (map words_of ls))) r h in
        lines_once n f p l ls ∙ ap (λ (t : Result State AsmFaultKind). at_line (n + 1) t >>= λ s. lines_from (n + 1) s.0 s.1 ls)
        (line_some f p l w ws k ∙ b.1) ∙ ih b.0 b.2

pub text_stripped : (text : List ℕ) (r : ℕ × Code) → text_from text ≡ Ok r → steps nothing Head (lines_in text) ≡ Ok r
unfolding text_from
text_stripped text r e = stripped 0 nothing Head (parts 10 text) r e

pub text_restored : (text : List ℕ) (r : ℕ × Code) → steps nothing Head (lines_in text) ≡ Ok r → text_from text ≡ Ok r
unfolding text_from
text_restored text r e = restored 0 nothing Head (parts 10 text) r e
