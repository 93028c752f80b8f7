-- Integers that are written one a line are read again.
use Rattle.std.proofs.Common.{◌≡◌, ℕ, ◌+◌, ◌-◌, eqb, Bool, true, false, cond, ℤ, FitsSigned, w64, length, take, map, All, List, [], ◌∷◌, ◌++◌}
use Rattle.std.proofs.Common.{Option, Some, Result, Ok, refl, sym, ap, ◌∙◌, append_assoc, length-append, arith}
use Rattle.std.specs.List.{join_with_byte}
use Rattle.std.proofs.lemmas.Bool.{ne_eqb}
use Rattle.std.proofs.lemmas.List.{append-nil}
use Rattle.std.proofs.lemmas.List.Elements.{All-head, All-tail}
use Rattle.std.proofs.lemmas.List.Splits.{slice_split_none, slice_split_at}
use Rattle.lemmas.proofs.Lists.{front_of, last_of}
use Rattle.semantics.specs.Text.{line, literal}
use Rattle.graph_file.specs.Lines.{parts}
use Rattle.graph_file.proofs.Marks.{literal_again, literal_field}
use Rattle.graph_file.proofs.Spacing.{is_spaced, no_line_feed}
use Rattle.commands.specs.Input.{without_end, input_lines, with_first, integers_from, integers_of}
use Rattle.commands.specs.Piped.{integer_lines}
use Rattle.commands.proofs.InputLines.{no_lines}

-- the lines, and line feeds between them
abbrev between_feeds : List ℤ → List ℕ
between_feeds zs = join_with_byte 10 (map literal zs)

one_more_feed : (z : ℤ) (zs : List ℤ) → integer_lines (z ∷ zs) ≡ between_feeds (z ∷ zs) ++ 10 ∷ []
one_more_feed z [] = append-nil (line (literal z))
one_more_feed z (y ∷ ys) =
    ap (λ (xs : List ℕ). line (literal z) ++ xs) (one_more_feed y ys) ∙ append_assoc (literal z) (10 ∷ []) (between_feeds (y ∷ ys) ++ 10 ∷ [])
    ∙ sym (append_assoc (literal z) (10 ∷ between_feeds (y ∷ ys)) (10 ∷ []))

literal_feeds : (z : ℤ) → FitsSigned w64 z → All (λ b. eqb b 10 ≡ false) (literal z)
literal_feeds z fits = no_line_feed true (literal z) (is_spaced (literal z) [] (literal_field z fits, tt))

literals_are_parts : (z : ℤ) (zs : List ℤ) → All (FitsSigned w64) (z ∷ zs) → parts 10 (between_feeds (z ∷ zs)) ≡ map literal (z ∷ zs)
literals_are_parts z [] h = slice_split_none (λ b. eqb b 10) (literal z) (literal_feeds z (All-head (FitsSigned w64) z [] h))
literals_are_parts z (y ∷ ys) h =
    slice_split_at (λ b. eqb b 10) (literal z) 10 (between_feeds (y ∷ ys)) (literal_feeds z (All-head (FitsSigned w64) z (y ∷ ys) h)) refl
    ∙ ap (λ (ls : List (List ℕ)). literal z ∷ ls) (literals_are_parts y ys (All-tail (FitsSigned w64) z (y ∷ ys) h))

-- the last line feed ends the last line
without_last_feed : (front : List ℕ) → without_end (front ++ 10 ∷ []) ≡ front
without_last_feed front =
    let bytes : List ℕ = front ++ 10 ∷ [] in
    ap (λ (b : ℕ). cond (eqb b 10) (take (length bytes - 1) bytes) bytes) (last_of front 10) ∙ front_of front 10

lines_are_parts : (front : List ℕ) → input_lines (front ++ 10 ∷ []) ≡ parts 10 front
lines_are_parts front =
    let bytes : List ℕ = front ++ 10 ∷ [] in
    let none : List (List ℕ) = [] in
    let long = length-append front (10 ∷ []) in
    let some : eqb (length bytes) 0 ≡ false = ne_eqb (length bytes) 0 (λ e. absurd (omega (arith, e, long))) in
    ap (λ (t : Bool). cond t none (parts 10 (without_end bytes))) some ∙ ap (parts 10) (without_last_feed front)

integers_again : (n : ℕ) (zs : List ℤ) → All (FitsSigned w64) zs → integers_from n (map literal zs) ≡ Ok zs
unfolding integers_from
integers_again n [] h = refl
integers_again n (z ∷ zs) h =
    ap (λ (o : Option ℤ). with_first o n (integers_from (n + 1) (map literal zs))) (literal_again z (All-head (FitsSigned w64) z zs h))
    ∙ ap (λ (r : Result (List ℤ) ℕ). with_first (Some z) n r) (integers_again (n + 1) zs (All-tail (FitsSigned w64) z zs h))

pub integers_are_read : (zs : List ℤ) → All (FitsSigned w64) zs → integers_of (integer_lines zs) ≡ Ok zs
integers_are_read [] h = no_lines [] refl
integers_are_read (z ∷ zs) h =
    ap integers_of (one_more_feed z zs) ∙ ap (integers_from 1) (lines_are_parts (between_feeds (z ∷ zs)) ∙ literals_are_parts z zs h)
    ∙ integers_again 1 (z ∷ zs) h
