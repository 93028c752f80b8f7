-- Which holders of a block may share a slot, as a table of rows.
use Rattle.std.specs.Prelude.{ℕ, zero, suc, ◌≡◌, ◌+◌, ◌*◌, ◌/◌, ◌%◌, ◌^◌, ◌<◌, Bool, true, false, not, ◌&&◌, ◌||◌, ◌==◌, List, [], ◌∷◌, ◌++◌}
use Rattle.std.specs.Prelude.{length, drop, slice_set, slice_index_or, bit_and, bit_or, if◌then◌else◌}
use Rattle.std.specs.List.{list_any}
use Rattle.semantics.specs.declared.program.Mark.{Mark}
use Rattle.semantics.specs.Program.{CodeBlock}
use Rattle.semantics.specs.Plan.{Plan}
use Rattle.slot_alloc.specs.declared.choices.Choice.TheVariants.{Ends, Sides}
use Rattle.slot_alloc.specs.Passes.{same_mark, is_marked}
use Rattle.slot_alloc.specs.Words.{row_of}

-- the holders on the two sides of the switches of 64 marks, a lane for each mark
pub record Split : Type 0 where
  pub yes : List ℕ
  pub no : List ℕ

-- `after`: for each 64 holders a row that says which holders are after them, a lane for each
pub record Table : Type 0 where
  pub after : List (List ℕ)
  pub splits : List Split

-- how many groups of 64 are needed for n items
abbrev pub groups : ℕ → ℕ
groups n = (n + 63) / 64

abbrev pub after_rows : Plan → List Mark → CodeBlock → ℕ → List (List ℕ)
after_rows p ms c zero = []
after_rows p ms c (suc k) = after_rows p ms c k ++ row_of p (Ends (k * 64)) [] ms c ∷ []

abbrev pub split_of : Plan → List Mark → CodeBlock → List Mark → Split
split_of p ms c known = record { yes = row_of p (Sides true) known ms c; no = row_of p (Sides false) known ms c }

-- the first groups of such marks
abbrev pub splits_of : Plan → List Mark → CodeBlock → List Mark → ℕ → List Split
splits_of p ms c known zero = []
splits_of p ms c known (suc k) = splits_of p ms c known k ++ split_of p ms c (drop (k * 64) known) ∷ []

-- each mark once, in order
abbrev pub with_mark : List Mark → Mark → List Mark
with_mark seen m = if is_marked m && not (list_any (same_mark m) seen) then seen ++ m ∷ [] else seen

abbrev pub distinct : List Mark → List Mark → List Mark
distinct seen [] = seen
distinct seen (m ∷ ms) = distinct (with_mark seen m) ms

abbrev pub table_of : Plan → List Mark → CodeBlock → Table
table_of p ms c = record { after = after_rows p ms c (groups c.slots); splits = splits_of p ms c (distinct [] ms) (groups (length (distinct [] ms))) }

abbrev pub word : List ℕ → ℕ → ℕ
word row g = slice_index_or row g 0

-- after which ones of a group holder g is
abbrev pub after_word : List (List ℕ) → ℕ → ℕ → ℕ
after_word rows g k = word (slice_index_or rows k []) g

-- whether holder g is after holder h
abbrev pub comes_after : List (List ℕ) → ℕ → ℕ → Bool
comes_after rows g h = bit_and (word (slice_index_or rows (h / 64) []) g / 2 ^ (h % 64)) 1 == 1

abbrev pub is_apart : ℕ → ℕ → Split → Bool
is_apart g h s = not (bit_or (bit_and (word s.yes g) (word s.no h)) (bit_and (word s.no g) (word s.yes h)) == 0)

-- whether a holder is on a side
abbrev pub is_sided : ℕ → Split → Bool
is_sided g s = not (bit_or (word s.yes g) (word s.no g) == 0)

abbrev pub may_share : Table → ℕ → ℕ → Bool
may_share t g h = comes_after t.after g h || comes_after t.after h g || list_any (is_apart g h) t.splits

-- the slots so far admit holder g in slot s
abbrev pub Admits : Table → List ℕ → ℕ → ℕ → Type 0
Admits t ss g s = (h : ℕ) → h < g → slice_index_or ss h 0 ≡ s → may_share t h g ≡ true

abbrev pub AdmitsAll : Table → List ℕ → Type 0
AdmitsAll t ss = (g : ℕ) → g < length ss → (slice_index_or ss g 0 < 512) × Admits t ss g (slice_index_or ss g 0)

-- the slots at which a holder is blocked by an earlier one
abbrev pub blocked_by : Table → ℕ → List Bool → ℕ → List ℕ → List Bool
blocked_by t g blocked h [] = blocked
blocked_by t g blocked h (s ∷ ss) = blocked_by t g (if may_share t h g then blocked else slice_set blocked s true) (h + 1) ss

-- the same for the next holder, from holder h on
abbrev pub blocked_from : Table → List ℕ → List Bool → ℕ → List Bool
blocked_from t ss blocked h = blocked_by t (length ss) blocked h (drop h ss)

-- some earlier holder in that slot may not share with holder h
abbrev pub IsClosedAt : Table → List ℕ → ℕ → ℕ → Type 0
IsClosedAt t ss h s = (g : ℕ) × (g < h) × (g < length ss) × (slice_index_or ss g 0 ≡ s) × (may_share t g h ≡ false)

-- the least slot that admits the next holder
abbrev pub IsLeastOpen : Table → List ℕ → ℕ → Type 0
IsLeastOpen t ss s = (s < 512) × Admits t ss (length ss) s × ((r : ℕ) → r < s → IsClosedAt t ss (length ss) r)

-- each holder has the least slot that is not closed to it
abbrev pub AreLeastOpen : Table → List ℕ → Type 0
AreLeastOpen t ss = (h : ℕ) → h < length ss → (r : ℕ) → r < slice_index_or ss h 0 → IsClosedAt t ss h r

pub record IsFilled (t : Table) (ss : List ℕ) : Type 0 where
  pub admitted : AdmitsAll t ss
  pub least : AreLeastOpen t ss

-- no slot is left for the holder after these
pub record IsFull (t : Table) (holders : ℕ) (ss : List ℕ) : Type 0 where
  pub left : length ss < holders
  pub filled : IsFilled t ss
  pub closed : (s : ℕ) → s < 512 → IsClosedAt t ss (length ss) s
