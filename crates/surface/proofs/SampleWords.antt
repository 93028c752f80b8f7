-- The words of some samples.
use Rattle.std.specs.Prelude.{◌≡◌, [], ◌∷◌, codes, refl}
use Rattle.operators.specs.declared.Binary.TheVariants.{Mul, Lt}
use Rattle.source.specs.declared.word.InfixSign.TheVariants.{Direct}
use Rattle.source.specs.declared.word.Word.TheVariants as core_word
use Rattle.surface.specs.declared.word.Word.TheVariants as word
use Rattle.surface.specs.Words.{program_words, of_core}
use Rattle.surface.specs.Samples.{counting, both, cube}

-- fn main(n) { for i in 0..n { i * 2 } }
counting_words : program_words counting ≡
    of_core (core_word.Function 3 (codes "main")) ∷ of_core (core_word.Parameter 8 (codes "n")) ∷ of_core (core_word.Body 11) ∷ of_core core_word.List ∷ word.For 13 ∷
    word.Counter 17 (codes "i") ∷ of_core (core_word.Number 22 0) ∷ word.Range ∷ of_core (core_word.Name 25 (codes "n")) ∷ word.EndRange ∷ word.Turns ∷
    of_core core_word.List ∷ of_core (core_word.Name 29 (codes "i")) ∷ of_core core_word.Left ∷ of_core (core_word.Number 33 2) ∷ of_core (core_word.Infix 31 (Direct Mul)) ∷
    of_core core_word.Part ∷ of_core core_word.Give ∷ word.EndFor 13 ∷ of_core core_word.Part ∷ of_core core_word.Give ∷ of_core core_word.EndFunction ∷ []
counting_words = refl

-- fn main(a, b) { a and b and a < b }
both_words : program_words both ≡
    of_core (core_word.Function 3 (codes "main")) ∷ of_core (core_word.Parameter 8 (codes "a")) ∷ of_core (core_word.Parameter 11 (codes "b")) ∷ of_core (core_word.Body 14) ∷
    of_core core_word.List ∷ of_core (core_word.Name 16 (codes "a")) ∷ word.AndThen ∷ of_core (core_word.Name 22 (codes "b")) ∷ word.EndAnd 18 ∷ word.AndThen ∷
    of_core (core_word.Name 28 (codes "a")) ∷ of_core core_word.Left ∷ of_core (core_word.Name 32 (codes "b")) ∷ of_core (core_word.Infix 30 (Direct Lt)) ∷ word.EndAnd 24 ∷
    of_core core_word.Part ∷ of_core core_word.Give ∷ of_core core_word.EndFunction ∷ []
both_words = refl

-- array A[2, 3, 4]; fn main(i, j) { A[i, j, 1] }
cube_words : program_words cube ≡
    of_core (core_word.Array 6 (codes "A")) ∷ of_core core_word.List ∷ of_core (core_word.Number 8 2) ∷ of_core core_word.Part ∷ of_core (core_word.Number 11 3) ∷ of_core core_word.Part ∷
    of_core (core_word.Number 14 4) ∷ of_core core_word.Part ∷ word.EndArray ∷ of_core (core_word.Function 21 (codes "main")) ∷ of_core (core_word.Parameter 26 (codes "i")) ∷
    of_core (core_word.Parameter 29 (codes "j")) ∷ of_core (core_word.Body 32) ∷ of_core core_word.List ∷ of_core (core_word.Cell 34 (codes "A")) ∷
    of_core (core_word.Name 36 (codes "i")) ∷ word.NextIndex ∷ of_core (core_word.Name 39 (codes "j")) ∷ word.NextIndex ∷ of_core (core_word.Number 42 1) ∷
    of_core (core_word.Fetch 34 (codes "A")) ∷ of_core core_word.Part ∷ of_core core_word.Give ∷ of_core core_word.EndFunction ∷ []
cube_words = refl
