-- Going over bytes, line and column count what was passed.
use Rattle.std.specs.Prelude.{◌≡◌, ℕ, ◌+◌, ◌<◌, ◌≤◌, Bool, List, length, drop, fold, slice_index_or, if◌then◌else◌}
use Rattle.std.proofs.Common.{sym, ◌∙◌, ap, eq-eqb, ne_eqb}
use Rattle.std.proofs.lemmas.List.{at_drop_more, at_drop_all}
use Rattle.source.specs.Tokens.{Position, passed}

abbrev pub at_place : ℕ → ℕ → Position
at_place line column = record { line = line; column = column }

passed_newline : (line column b : ℕ) → b ≡ 10 → passed (at_place line column) b ≡ at_place (line + 1) 1
passed_newline line column b h = ap (λ (t : Bool). if t then at_place (line + 1) 1 else at_place line (column + 1)) (eq-eqb b 10 h)

passed_other : (line column b : ℕ) → (b ≡ 10 → ⊥) → passed (at_place line column) b ≡ at_place line (column + 1)
passed_other line column b h = ap (λ (t : Bool). if t then at_place (line + 1) 1 else at_place line (column + 1)) (ne_eqb b 10 h)

-- one byte more
stepped : (xs : List ℕ) (i : ℕ) (p r q : Position) → i < length xs → passed p (slice_index_or xs i 0) ≡ r → fold passed p (drop i xs) ≡ q
    → fold passed r (drop (i + 1) xs) ≡ q
stepped xs i p r q h e f = ap (λ x. fold passed x (drop (i + 1) xs)) (sym e) ∙ sym (at_drop_more (λ ys. fold passed p ys) xs i 0 h) ∙ f

pub newline_stepped : (xs : List ℕ) (i line column l c : ℕ) (q : Position) → i < length xs → slice_index_or xs i 0 ≡ 10 → l ≡ line + 1 → c ≡ 1
    → fold passed (at_place line column) (drop i xs) ≡ q → fold passed (at_place l c) (drop (i + 1) xs) ≡ q
newline_stepped xs i line column l c q h b e d f =
    stepped xs i (at_place line column) (at_place l c) q h (passed_newline line column (slice_index_or xs i 0) b ∙ ap (λ x. at_place x 1) (sym e)
    ∙ ap (λ x. at_place l x) (sym d)) f

pub other_stepped : (xs : List ℕ) (i line column l c : ℕ) (q : Position) → i < length xs → (slice_index_or xs i 0 ≡ 10 → ⊥) → l ≡ line → c ≡ column + 1
    → fold passed (at_place line column) (drop i xs) ≡ q → fold passed (at_place l c) (drop (i + 1) xs) ≡ q
other_stepped xs i line column l c q h b e d f =
    stepped xs i (at_place line column) (at_place l c) q h (passed_other line column (slice_index_or xs i 0) b
    ∙ ap (λ x. at_place x (column + 1)) (sym e) ∙ ap (λ x. at_place l x) (sym d)) f

pub all_passed : (xs : List ℕ) (i : ℕ) (p q : Position) → length xs ≤ i → fold passed p (drop i xs) ≡ q → p ≡ q
all_passed xs i p q h f = sym (at_drop_all (λ ys. fold passed p ys) xs i h) ∙ f
