-- Reading one integer after the other, as a loop does.
use Rattle.std.proofs.Common.{◌≡◌, ℕ, ◌+◌, ◌==◌, true, ℤ, length, List, [], ◌∷◌, ◌++◌, Option, Some, None, Result, Ok, Err, refl, sym, ap, ◌∙◌}
use Rattle.std.proofs.Common.{append_assoc, length-append, subst}
use Rattle.std.proofs.lemmas.List.{append-nil}
use Rattle.graph_file.specs.Fields.{literal_of}
use Rattle.commands.specs.Input.{with_first, integers_from, integers_of}

-- what was read before, and what is still read
abbrev pub with_front : List ℤ → Result (List ℤ) ℕ → Result (List ℤ) ℕ
with_front front (Ok zs) = Ok (front ++ zs)
with_front front (Err n) = Err n

regroup : (front : List ℤ) (z : ℤ) (n : ℕ) (later : Result (List ℤ) ℕ) → with_front front (with_first (Some z) n later) ≡ with_front (front ++ z ∷ []) later
regroup front z n (Ok zs) = ap (λ (xs : List ℤ). Ok xs) (simp append_assoc)
regroup front z n (Err k) = refl

pub goes_on : (front : List ℤ) (lines : List (List ℕ)) (l : List ℕ) (ls : List (List ℕ)) (z : ℤ) (total : Result (List ℤ) ℕ)
    → lines ≡ l ∷ ls → literal_of l ≡ Some z → with_front front (integers_from (length front + 1) lines) ≡ total
    → with_front (front ++ z ∷ []) (integers_from (length (front ++ z ∷ []) + 1) ls) ≡ total
unfolding integers_from
goes_on front lines l ls z total e h so_far =
    let one : with_front front (integers_from (length front + 1) lines) ≡ with_front (front ++ z ∷ []) (integers_from (length front + 1 + 1) ls) = rw
    (e, h) (regroup front z (length front + 1) (integers_from (length front + 1 + 1) ls)) in
    let longer : length (front ++ z ∷ []) ≡ length front + 1 = length-append front (z ∷ []) in
    subst (λ (n : ℕ). with_front (front ++ z ∷ []) (integers_from (n + 1) ls) ≡ total) (sym longer) (sym one ∙ so_far)

pub fails : (front : List ℤ) (lines : List (List ℕ)) (l : List ℕ) (ls : List (List ℕ)) (total : Result (List ℤ) ℕ)
    → lines ≡ l ∷ ls → literal_of l ≡ None → with_front front (integers_from (length front + 1) lines) ≡ total → total ≡ Err (length front + 1)
unfolding integers_from
fails front lines l ls total e h so_far =
    let one : with_front front (integers_from (length front + 1) lines) ≡ Err (length front + 1) = rw (e, h) refl in
    sym so_far ∙ one

pub is_done : (front : List ℤ) (lines : List (List ℕ)) (total : Result (List ℤ) ℕ) → lines ≡ []
    → with_front front (integers_from (length front + 1) lines) ≡ total → total ≡ Ok front
unfolding integers_from
is_done front lines total e so_far =
    let one : with_front front (integers_from (length front + 1) lines) ≡ Ok front = rw e (ap (λ (xs : List ℤ). Ok xs) (append-nil front)) in
    sym so_far ∙ one

pub starts : (read total : Result (List ℤ) ℕ) → read ≡ total → with_front [] read ≡ total
starts (Ok zs) total e = e
starts (Err n) total e = e

pub no_lines : (bytes : List ℕ) → (length bytes == 0) ≡ true → integers_of bytes ≡ Ok []
unfolding integers_from
no_lines bytes e = rw e refl
