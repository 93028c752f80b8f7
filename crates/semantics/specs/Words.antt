-- Which operator has a word.
use Rattle.std.specs.Prelude.{ℕ, List, [], ◌∷◌, map, Option, None, Some, if◌then◌else◌}
use Rattle.std.specs.Str.{bytes_eq}
use Rattle.operators.specs.declared.Unary.TheVariants.{Neg, Not}
use Rattle.operators.specs.Values.{binaries}
use Rattle.semantics.specs.declared.words.Operator.{Operator}
use Rattle.semantics.specs.declared.words.Operator.TheVariants.{One, Two}
use Rattle.semantics.specs.Text.{unary_word, binary_word}

abbrev pub operator_word : Operator → List ℕ
operator_word (One op) = unary_word op
operator_word (Two op) = binary_word op

abbrev pub operators : List Operator
operators = One Neg ∷ One Not ∷ map Two binaries

abbrev pub operator_in : List Operator → List ℕ → Option Operator
operator_in [] bytes = None
operator_in (o ∷ os) bytes = if bytes_eq bytes (operator_word o) then Some o else operator_in os bytes

-- the operator that the bytes are the word of
unfoldable pub operator_of : List ℕ → Option Operator
operator_of bytes = operator_in operators bytes
