-- The program is a beginning of its text.
use Rattle.std.proofs.Common.{◌≡◌, ℕ, ◌==◌, ◌&&◌, Bool, true, false, List, [], ◌∷◌, length, take, if◌then◌else◌, refl, ap, codes}
use Rattle.std.specs.Prelude.{bytes_eq}
use Rattle.source.specs.Tokens.{line_from, lines_before_inputs, program_of}

one_byte : (ended : Bool) (b : ℕ) (bytes front : List ℕ) → take (length front) bytes ≡ front
    → take (length (if ended then [] else b ∷ front)) (b ∷ bytes) ≡ (if ended then [] else b ∷ front)
one_byte true b bytes front e = refl
one_byte false b bytes front e = ap (λ (xs : List ℕ). b ∷ xs) e

begins_so : (fresh : Bool) (text : List ℕ) → take (length (lines_before_inputs fresh text)) text ≡ lines_before_inputs fresh text
begins_so fresh [] = refl
begins_so fresh (b ∷ bytes) =
    one_byte (fresh && bytes_eq (line_from (b ∷ bytes)) (codes "inputs")) b bytes (lines_before_inputs (b == 10) bytes) (begins_so (b == 10) bytes)

pub program_begins : (text : List ℕ) → take (length (program_of text)) text ≡ program_of text
program_begins text = begins_so true text
