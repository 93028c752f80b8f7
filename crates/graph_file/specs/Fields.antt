-- What a field says: a number, a literal, a name, a source, a region.
use Rattle.std.specs.Prelude.{ℕ, ◌==◌, ◌&&◌, ◌||◌, ◌-◌, ◌^◌, not, nat_le, nat_lt, Bool, true, false, ℤ, pos, neg_ℤ, List, [], ◌∷◌, length, take}
use Rattle.std.specs.Prelude.{slice_index, Option, None, Some, Result, Ok, Err, ok_or, codes, if◌then◌else◌}
use Rattle.std.specs.List.{list_all}
use Rattle.std.specs.Str.{bytes_eq}
use Rattle.std.specs.Char.{is_ascii_digit}
use Rattle.std.specs.Str.Parse.{digits_value}
use Rattle.semantics.specs.declared.graph.Region.{Region}
use Rattle.semantics.specs.declared.graph.Region.TheVariants.{Root, Arm}
use Rattle.semantics.specs.declared.graph.Source.{Source}
use Rattle.graph_file.specs.declared.fault.ReadFaultKind.{ReadFaultKind}
use Rattle.graph_file.specs.declared.fault.ReadFaultKind.TheVariants.{BadLine, BadNumber, BadName}
use Rattle.graph_file.specs.Giving.{◌>>=◌}
use Rattle.graph_file.specs.Lines.{parts}

-- digits, without leading zeros
unfoldable pub is_numeral : List ℕ → Bool
is_numeral [] = false
is_numeral (d ∷ ds) = list_all is_ascii_digit (d ∷ ds) && (not (d == 48) || length ds == 0)

-- a number below 2 ^ 32
unfoldable pub number_of : List ℕ → Option ℕ
number_of ds = if is_numeral ds && nat_lt (digits_value 10 ds) (2 ^ 32) then Some (digits_value 10 ds) else None

-- a number, or `-` and a number other than 0
unfoldable pub is_literal : List ℕ → Bool
is_literal [] = false
is_literal (c ∷ cs) = if c == 45 then is_numeral cs && not (bytes_eq cs (codes "0")) else is_numeral (c ∷ cs)

abbrev pub literal_in : Bool → ℤ → Option ℤ
literal_in fits z = if fits then Some z else None

abbrev pub literal_value : List ℕ → Option ℤ
literal_value [] = None
literal_value (c ∷ cs) = if c == 45 then literal_in (nat_le (digits_value 10 cs) (2 ^ 63)) (neg_ℤ (pos (digits_value 10 cs))) else literal_in
    (nat_lt (digits_value 10 (c ∷ cs)) (2 ^ 63)) (pos (digits_value 10 (c ∷ cs)))

-- within 64 bits with a sign
unfoldable pub literal_of : List ℕ → Option ℤ
literal_of bytes = if is_literal bytes then literal_value bytes else None

abbrev pub is_letter : ℕ → Bool
is_letter c = (nat_le 65 c && nat_le c 90) || (nat_le 97 c && nat_le c 122)

abbrev pub is_name_rest : ℕ → Bool
is_name_rest c = is_letter c || (nat_le 48 c && nat_le c 57) || (c == 95)

-- a letter and then letters, digits and `_`, at most 32 bytes
unfoldable pub is_name : List ℕ → Bool
is_name [] = false
is_name (c ∷ cs) = is_letter c && list_all is_name_rest cs && nat_lt (length cs) 32

abbrev pub pair_of : Option ℕ → Option ℕ → Option Source
pair_of None p = None
pair_of (Some n) None = None
pair_of (Some n) (Some p) = Some record { node = n; port = p }

abbrev pub source_parts : List (List ℕ) → Option Source
source_parts [] = None
source_parts (n ∷ []) = None
source_parts (n ∷ p ∷ []) = pair_of (number_of n) (number_of p)
source_parts (n ∷ p ∷ q ∷ ps) = None

-- a node's number and a port's, with a dot between
unfoldable pub source_of : List ℕ → Option Source
source_of bytes = source_parts (parts 46 bytes)

abbrev pub arm_of : Bool → Option ℕ → Option Region
arm_of side None = None
arm_of side (Some k) = Some (Arm k side)

-- what is before the last byte, and the last byte
abbrev pub region_parts : List ℕ → ℕ → Option Region
region_parts front last = if last == 43 then arm_of true (number_of front) else if last == 45 then arm_of false (number_of front) else None

-- `-`, or a number and `+` or `-`
unfoldable pub region_of : List ℕ → Option Region
region_of bytes = if bytes_eq bytes (codes "-") then Some Root else region_parts (take (length bytes - 1) bytes) (slice_index bytes (length bytes - 1))

-- THE FIELDS OF A LINE, FROM LEFT TO RIGHT: what the first one says, and the others
unfoldable pub field_from : List (List ℕ) → Result (List ℕ × List (List ℕ)) ReadFaultKind
field_from [] = Err BadLine
field_from (f ∷ fs) = Ok (f, fs)

unfoldable pub number_from : List (List ℕ) → Result (ℕ × List (List ℕ)) ReadFaultKind
number_from fs = do
  f ← field_from fs
  n ← ok_or (number_of f.0) BadNumber
  Ok (n, f.1)

unfoldable pub literal_from : List (List ℕ) → Result (ℤ × List (List ℕ)) ReadFaultKind
literal_from fs = do
  f ← field_from fs
  z ← ok_or (literal_of f.0) BadNumber
  Ok (z, f.1)

unfoldable pub name_from : List (List ℕ) → Result (List ℕ × List (List ℕ)) ReadFaultKind
name_from fs = do
  f ← field_from fs
  if is_name f.0 then Ok (f.0, f.1) else Err BadName

-- all of them are sources
unfoldable pub sources_from : List (List ℕ) → Result (List Source) ReadFaultKind
sources_from [] = Ok []
sources_from (f ∷ fs) = do
  s ← ok_or (source_of f) BadNumber
  ss ← sources_from fs
  Ok (s ∷ ss)
