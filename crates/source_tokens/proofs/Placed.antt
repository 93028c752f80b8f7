-- A PLACE, with its line and its column: there are at most as many of both as bytes before it, and one.
use Rattle.std.specs.Prelude.{◌≡◌, ◌==◌, ℕ, ◌+◌, ◌<◌, ◌≤◌, Bool, List, length, slice_index_or, if◌then◌else◌}
use Rattle.std.proofs.Common.{true, false, zero, suc, sym, ap₂, subst, arith}
use Rattle.std.proofs.lemmas.List.Sums.{fold_more}
use Rattle.source.specs.Tokens.{Position, passed, position}
use Rattle.source_tokens.specs.Placing.{IsReached}

abbrev at_place : ℕ → ℕ → Position
at_place line column = record { line = line; column = column }

next : (text : List ℕ) (i : ℕ) → i < length text → position text (i + 1) ≡ passed (position text i) (slice_index_or text i 0)
next text i h = fold_more passed (at_place 1 1) text i 0 h

record IsSmall (p : Position) (n : ℕ) : Type 0 where
  pub line : p.line ≤ n
  pub column : p.column ≤ n

passed_small : (p : Position) (b n : ℕ) → IsSmall p n → IsSmall (passed p b) (n + 1)
passed_small p b n h = go (b == 10)
  where
    go : (t : Bool) → IsSmall (if t then at_place (p.line + 1) 1 else at_place p.line (p.column + 1)) (n + 1)
    go true = record { line = omega (arith, h.line); column = omega arith }
    go false = record { line = omega (arith, h.line); column = omega (arith, h.column) }

small : (text : List ℕ) (i : ℕ) → i ≤ length text → IsSmall (position text i) (i + 1)
small text zero h = record { line = omega arith; column = omega arith }
small text (suc i) h =
    let e : i + 1 ≡ suc i = omega arith in
    let before : IsSmall (position text i) (i + 1) = small text i (omega (arith, h)) in
    let after : IsSmall (position text (i + 1)) (i + 1 + 1) =
    subst (λ p. IsSmall p (i + 1 + 1)) (sym (next text i (omega (arith, h)))) (passed_small (position text i) (slice_index_or text i 0) (i + 1) before) in
    subst (λ n. IsSmall (position text n) (n + 1)) e after

few_lines : (text : List ℕ) (i : ℕ) → i ≤ length text → (position text i).line ≤ i + 1
few_lines text i h = (small text i h).line

few_columns : (text : List ℕ) (i : ℕ) → i ≤ length text → (position text i).column ≤ i + 1
few_columns text i h = (small text i h).column

-- a place with its line and its column was reached
pub reached : (text : List ℕ) (at line column : ℕ) → at ≤ length text → line ≡ (position text at).line → column ≡ (position text at).column
    → IsReached text (record { at = at; line = line; column = column })
reached text at line column h e f = record {
  within = h;
  position = ap₂ at_place e f;
  few_lines = omega (arith, e, few_lines text at h);
  few_columns = omega (arith, f, few_columns text at h);
}
