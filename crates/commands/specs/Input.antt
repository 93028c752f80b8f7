-- Standard input: a graph's text, and then integers, one a line.
use Rattle.std.specs.Prelude.{◌≡◌, ℕ, ◌==◌, ◌+◌, ◌-◌, Bool, ℤ, List, [], ◌∷◌, length, take, Option, None, Some, Result, Ok, Err, slice_index, codes}
use Rattle.std.specs.Prelude.{if◌then◌else◌, ⊤}
use Rattle.std.specs.Str.{bytes_eq}
use Rattle.graph_file.specs.Fields.{literal_of}
use Rattle.graph_file.specs.Lines.{parts}
use Rattle.commands.specs.declared.input.LinesFault.{LinesFault}

-- WHERE THE GRAPH'S TEXT ENDS: after the line feed of the first line that begins with `main `. Where there is no such line
-- feed, all is the graph's text.
abbrev pub begins_main : List ℕ → Bool
begins_main bytes = bytes_eq (take 5 bytes) (codes "main ")

-- how many of these bytes belong to it; `is_main` says whether the line that they end began with `main `
unfoldable pub graph_bytes : Bool → List ℕ → ℕ
graph_bytes is_main [] = 0
graph_bytes is_main (b ∷ bs) = if b == 10 then (if is_main then 1 else graph_bytes (begins_main bs) bs + 1) else graph_bytes is_main bs + 1

abbrev pub graph_length : List ℕ → ℕ
graph_length input = graph_bytes (begins_main input) input

-- THE INTEGERS OF THE LINES. The last line may have no end.
abbrev pub without_end : List ℕ → List ℕ
without_end bytes = if slice_index bytes (length bytes - 1) == 10 then take (length bytes - 1) bytes else bytes

abbrev pub input_lines : List ℕ → List (List ℕ)
input_lines bytes = if length bytes == 0 then [] else parts 10 (without_end bytes)

-- the integer of line n, followed by those of the later lines; the first line that has none is reported
abbrev pub with_first : Option ℤ → ℕ → Result (List ℤ) ℕ → Result (List ℤ) ℕ
with_first None n later = Err n
with_first (Some z) n (Ok zs) = Ok (z ∷ zs)
with_first (Some z) n (Err k) = Err k

-- each line is written like a literal; the lines are numbered from n on
unfoldable pub integers_from : ℕ → List (List ℕ) → Result (List ℤ) ℕ
integers_from n [] = Ok []
integers_from n (l ∷ ls) = with_first (literal_of l) n (integers_from (n + 1) ls)

abbrev pub integers_of : List ℕ → Result (List ℤ) ℕ
integers_of bytes = integers_from 1 (input_lines bytes)

-- why they are not inputs: the first bad line, or memory
abbrev pub IsBadInput : List ℕ → LinesFault → Type 0
IsBadInput bytes (LinesFault.BadLine n) = integers_of bytes ≡ Err n
IsBadInput bytes LinesFault.Memory = ⊤
