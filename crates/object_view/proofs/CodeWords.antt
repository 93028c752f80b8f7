-- The words of the instructions, counted from the first one.
use Rattle.std.proofs.Common.{◌≡◌, ℕ, ◌+◌, ◌*◌, List, drop, ap, ◌∙◌, arith}
use Rattle.std.proofs.lemmas.List.{drop-drop}
use Rattle.byteorder.specs.Endian.{little_number}
use Rattle.object_view.specs.Fields.{word_at}

pub word_after : (bytes code : List ℕ) (k i place : ℕ) → code ≡ drop (8 * k) bytes → k + i ≡ place → word_at code i ≡ word_at bytes place
unfolding word_at
word_after bytes code k i place follows at =
    let same : 8 * k + 8 * i ≡ 8 * place = omega (arith, at) in
    ap (λ (xs : List ℕ). little_number 8 (drop (8 * i) xs)) follows
    ∙ ap (little_number 8) (drop-drop (8 * i) (8 * k) bytes ∙ ap (λ (n : ℕ). drop n bytes) same)
