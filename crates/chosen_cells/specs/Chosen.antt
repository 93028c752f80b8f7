-- WHICH CELLS OF A REPORT ARE PRINTED, AND HOW: what `--cells` and `--grid` make of a report's text.
use Rattle.std.specs.Prelude.{ℕ, zero, suc, ◌+◌, ◌-◌, ◌*◌, ◌/◌, ◌%◌, ◌==◌, ◌&&◌, ◌||◌, Bool, true, false, not, nat_le, List, [], ◌∷◌, ◌++◌, length, take, drop}
use Rattle.std.specs.Prelude.{if◌then◌else◌, Option, Some, None, option_map, option_and_then, codes, decimal}
use Rattle.std.specs.List.{position}
use Rattle.std.specs.Str.{bytes_eq}
use Rattle.semantics.specs.Text.{field, line}
use Rattle.command_line.specs.Words.{Text, parts_at}
use Rattle.command_line.specs.Files.{row_length}
use Rattle.graph_file.specs.Fields.{number_of}
use Rattle.graph_file.specs.Lines.{parts}

-- A CELL'S LINE is `cell ARRAY INDEX VALUE`. A value has a word or more.
pub record Cell : Type 0 where
  pub name : Text
  pub index : ℕ
  pub value : Text

abbrev pub cell : Text → ℕ → Text → Cell
cell name index value = record { name = name; index = index; value = value }

-- what is before the first space (32), and what is after it
abbrev pub cut : Text → Option (Text × Text)
cut text = option_map (λ i. (take i text, drop (i + 1) text)) (position (λ b. b == 32) text)

abbrev pub numbered_cell : Text → Text × Text → Option Cell
numbered_cell name p = option_map (λ n. cell name n p.1) (number_of p.0)

abbrev pub named_cell : Text × Text → Option Cell
named_cell p = option_and_then (numbered_cell p.0) (cut p.1)

abbrev pub cell_of : Text → Option Cell
cell_of text = if bytes_eq (take 5 text) (codes "cell ") then option_and_then named_cell (cut (drop 5 text)) else None

-- `--cells`: names with commas (44) between, or `none`. Without it all cells are printed.
abbrev pub more_names : Text → Option Text → (Text → Bool) → Bool
more_names name None go = false
more_names name (Some text) go = go text

unfoldable pub is_listed : ℕ → Text → Text → Bool
is_listed zero name text = false
is_listed (suc room) name text = bytes_eq (parts_at 44 text).0 name || more_names name (parts_at 44 text).1 (λ more. is_listed room name more)

-- of the first 1,024 names
abbrev pub is_chosen : Option Text → Text → Bool
is_chosen None name = true
is_chosen (Some list) name = not (bytes_eq list (codes "none")) && is_listed 1024 name list

-- `--grid`: how many cells a row of the array has, if its cells are printed in rows
abbrev pub more_rows : Option Text → (Text → Option ℕ) → Option ℕ
more_rows None go = None
more_rows (Some text) go = go text

abbrev pub or_later : Option ℕ → Option ℕ → Option ℕ
or_later None later = later
or_later (Some n) later = Some n

abbrev pub own_length : Text → Text × Option Text → Option ℕ
own_length name p = if bytes_eq p.0 name then row_length p.1 else None

unfoldable pub length_in : ℕ → Text → Text → Option ℕ
length_in zero name text = None
length_in (suc room) name text =
    or_later (own_length name (parts_at 61 (parts_at 44 text).0)) (more_rows (parts_at 44 text).1 (λ more. length_in room name more))

abbrev pub row_of : Option Text → Text → Option ℕ
row_of None name = None
row_of (Some grid) name = length_in 64 name grid

-- THE ROW THAT IS OPEN: of an array, the index of its first cell, and how many of its cells are printed
pub record Row : Type 0 where
  pub name : Text
  pub first : ℕ
  pub printed : ℕ

abbrev pub closing : Option Row → Text
closing None = []
closing (Some r) = 10 ∷ []

-- the index of the first cell of a cell's row, where rows have n cells
abbrev pub first_of : ℕ → ℕ → ℕ
first_of index n = index - index % n

abbrev pub goes_on : Option Row → Text → ℕ → ℕ → Bool
goes_on None name index n = false
goes_on (Some r) name index n = bytes_eq r.name name && r.first == first_of index n && nat_le r.printed (index % n)

-- an empty cell is ` -` (32, 45)
unfoldable pub empty_cells : ℕ → Text
empty_cells zero = []
empty_cells (suc n) = 32 ∷ 45 ∷ empty_cells n

-- a value after empty cells
abbrev pub value_after : ℕ → Text → Text
value_after k value = empty_cells k ++ field value

abbrev pub printed_of : Option Row → ℕ
printed_of None = 0
printed_of (Some r) = r.printed

-- the beginning of a row with this cell: `cells ARRAY INDEX`, where INDEX is that of the row's first cell
abbrev pub beginning : Text → ℕ → ℕ → Text
beginning name index n = codes "cells " ++ (name ++ field (decimal (first_of index n)))

-- A cell in a row of n: after the cells of the row before it, empty ones as `-`; or in a row that begins.
abbrev pub row_text : Option Row → Text → ℕ → Text → ℕ → Text
row_text row name index value n =
    if goes_on row name index n then value_after (index % n - printed_of row) value
    else (closing row ++ beginning name index n) ++ value_after (index % n) value

abbrev pub row_after : Text → ℕ → ℕ → Row
row_after name index n = record { name = name; first = first_of index n; printed = index % n + 1 }

-- A LINE of a report: what is printed of it, after the row that is open
abbrev pub in_row_text : Option Row → Text → Cell → Option ℕ → Text
in_row_text row text c None = closing row ++ line text
in_row_text row text c (Some n) = row_text row c.name c.index c.value n

abbrev pub cell_text : Option Text → Option Text → Option Row → Text → Option Cell → Text
cell_text cells grid row text None = closing row ++ line text
cell_text cells grid row text (Some c) = if is_chosen cells c.name then in_row_text row text c (row_of grid c.name) else []

abbrev pub line_text : Option Text → Option Text → Option Row → Text → Text
line_text cells grid row text = cell_text cells grid row text (cell_of text)

-- and the row that is open after it
abbrev pub row_of_cell : Option Text → Option Text → Option Row → Option Cell → Option Row
row_of_cell cells grid row None = None
row_of_cell cells grid row (Some c) = if is_chosen cells c.name then option_map (row_after c.name c.index) (row_of grid c.name) else row

abbrev pub row_of_line : Option Text → Option Text → Option Row → Text → Option Row
row_of_line cells grid row text = row_of_cell cells grid row (cell_of text)

-- ALL LINES; after the last line feed nothing is left
unfoldable pub lines_text : Option Text → Option Text → Option Row → List Text → Text
lines_text cells grid row [] = closing row
lines_text cells grid row (text ∷ more) =
    if length more == 0 then closing row ++ text
    else line_text cells grid row text ++ lines_text cells grid (row_of_line cells grid row text) more

-- what is printed of a report with this text
abbrev pub chosen : Option Text → Option Text → Text → Text
chosen cells grid text = lines_text cells grid None (parts 10 text)
