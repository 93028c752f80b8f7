-- The words of node lines, and what follows each.
use Rattle.std.specs.Prelude.{ℕ, ◌==◌, ◌+◌, nat_le, nat_lt, Bool, List, [], ◌∷◌, Option, Some, None, option_map, codes, if◌then◌else◌}
use Rattle.std.specs.Str.{bytes_eq}
use Rattle.semantics.specs.declared.words.Operator.{Operator}
use Rattle.semantics.specs.declared.words.Operator.TheVariants as operators
use Rattle.semantics.specs.Words as Spelled
use Rattle.semantics.specs.declared.version.Version.{Version}
use Rattle.semantics.specs.declared.version.Version.TheVariants.{One, Two}
use Rattle.graph_file.specs.declared.words.Word.{Word}
use Rattle.graph_file.specs.declared.words.Word.TheVariants.{Lit, Apply1, Apply2, Cond, Enter, Merge, Fetch, Store, Call, StrictCall, Loop}

abbrev pub common_words : List (List ℕ × Word)
common_words = (codes "lit", Lit) ∷ (codes "cond", Cond) ∷ (codes "enter", Enter) ∷ (codes "merge", Merge) ∷ (codes "fetch", Fetch) ∷ (codes "store", Store)
    ∷ (codes "call", Call) ∷ (codes "loop", Loop) ∷ []

-- what the bytes are in a list of words, or else what is given
abbrev pub word_in : List (List ℕ × Word) → Option Word → List ℕ → Option Word
word_in [] otherwise bytes = otherwise
word_in (w ∷ ws) otherwise bytes = if bytes_eq bytes w.0 then Some w.1 else word_in ws otherwise bytes

abbrev pub word_for : Operator → Word
word_for (operators.One op) = Apply1 op
word_for (operators.Two op) = Apply2 op

-- the words of operators
unfoldable pub operator_of : List ℕ → Option Word
operator_of bytes = option_map word_for (Spelled.operator_of bytes)

-- the words of both versions
unfoldable pub common_of : List ℕ → Option Word
common_of bytes = word_in common_words (operator_of bytes) bytes

-- only the second version has strict calls
unfoldable pub word_of : Version → List ℕ → Option Word
word_of One bytes = common_of bytes
word_of Two bytes = word_in ((codes "scall", StrictCall) ∷ []) (common_of bytes) bytes

-- how many fields are between the word and the sources
abbrev pub operand_count : Word → ℕ
operand_count Lit = 1
operand_count (Apply1 op) = 0
operand_count (Apply2 op) = 0
operand_count Cond = 0
operand_count Enter = 0
operand_count Merge = 1
operand_count Fetch = 1
operand_count Store = 1
operand_count Call = 1
operand_count StrictCall = 1
operand_count Loop = 2

-- how many sources there are, where the word says it
abbrev pub source_count : Word → Option ℕ
source_count Lit = Some 1
source_count (Apply1 op) = Some 1
source_count (Apply2 op) = Some 2
source_count Cond = Some 1
source_count Enter = Some 1
source_count Merge = Some 2
source_count Fetch = Some 1
source_count Store = Some 2
source_count Call = None
source_count StrictCall = None
source_count Loop = None

abbrev pub is_count : Option ℕ → ℕ → ℕ → Bool
is_count (Some k) before n = n == before + k
is_count None before n = nat_le before n

-- a line may have n fields after the word
unfoldable pub has_form : Word → ℕ → Bool
has_form w n = is_count (source_count w) (operand_count w) n

-- at most 16 of them are sources
unfoldable pub has_room : Word → ℕ → Bool
has_room w n = nat_lt n (operand_count w + 16 + 1)
