-- The text of a report: what a run reported, and what the meaning of a graph gave.
use Rattle.std.specs.Prelude.{ℕ, ◌+◌, ◌-◌, Option, Some, None, List, [], ◌∷◌, ◌++◌, flat_map, decimal, codes, nat_lt, slice_get, if◌then◌else◌}
use Rattle.tags.specs.declared.value.FaultKind.{FaultKind}
use Rattle.tags.specs.declared.value.FaultKind.TheVariants.{Zero, Range}
use Rattle.tags.specs.declared.value.Origin.{Origin}
use Rattle.tags.specs.declared.value.Origin.TheVariants.{Untold, At}
use Rattle.tags.specs.declared.value.Value.{Value}
use Rattle.tags.specs.declared.value.Value.TheVariants.{Int, Fault}
use Rattle.semantics.specs.declared.report.End.{End}
use Rattle.oracle.specs.declared.report.MeanEnd.{MeanEnd}
use Rattle.oracle.specs.declared.report.Full.{Full}
use Rattle.semantics.specs.Report.{Report}
use Rattle.semantics.specs.Text.{field, line, literal}
use Rattle.sink.specs.Numbered.{numbered}

-- VALUES
abbrev pub kind_word : FaultKind → List ℕ
kind_word Zero = codes "zero"
kind_word Range = codes "range"

-- where a fault was made, if that is known
abbrev pub origin_text : Origin → List ℕ
origin_text Untold = []
origin_text (At b n) = codes " at" ++ field (decimal b) ++ field (decimal n)

abbrev pub value_text : Value → List ℕ
value_text (Int z) = literal z
value_text (Fault k o) = codes "fault" ++ field (kind_word k) ++ origin_text o

-- OUTPUTS
abbrev pub found_text : Option Value → List ℕ
found_text None = codes "-"
found_text (Some v) = value_text v

abbrev pub output_line : ℕ → Option Value → List ℕ
output_line port v = line (codes "output" ++ field (decimal port) ++ field (found_text v))

-- in the order of the ports, which are numbered from 0
abbrev pub outputs_text : List (Option Value) → List ℕ
outputs_text outputs = numbered output_line 0 outputs

-- CELLS
-- the arrays of a graph are pairs: a name and how many cells the array has
abbrev pub Arrays : Type 0
Arrays = List (List ℕ × ℕ)

abbrev pub name_of : Option (List ℕ × ℕ) → List ℕ
name_of None = []
name_of (Some a) = a.0

-- the name of the array with this number
abbrev pub name_at : Arrays → ℕ → List ℕ
name_at arrays place = name_of (slice_get arrays place)

-- Cells are numbered through all arrays: the name of the array in which a cell lies, and its index there.
abbrev pub place_in : Arrays → ℕ → Option (List ℕ × ℕ)
place_in [] cell = None
place_in (a ∷ arrays) cell = if nat_lt cell a.1 then Some (a.0, cell) else place_in arrays (cell - a.1)

-- nothing for a cell past the last array
abbrev pub place_text : Option (List ℕ × ℕ) → List ℕ
place_text None = []
place_text (Some p) = p.0 ++ field (decimal p.1)

abbrev pub cell_text : List ℕ → Value → List ℕ
cell_text place v = line (codes "cell " ++ place ++ field (value_text v))

-- a full cell of a run, by its number over all arrays
abbrev pub cell_line : Arrays → ℕ × Value → List ℕ
cell_line arrays c = cell_text (place_text (place_in arrays c.0)) c.1

-- a full cell of the meaning, by its array's place and its index there
abbrev pub full_line : Arrays → Full → List ℕ
full_line arrays f = cell_text (name_at arrays f.array ++ field (decimal f.index)) f.value

-- WHAT WAITS
abbrev pub counts : Report → List ℕ
counts r = line (codes "deferred" ++ field (decimal r.deferred))
    ++ line (codes "waiting" ++ field (decimal r.waiting_frames) ++ field (decimal r.waiting_credits))
    ++ line (codes "frames" ++ field (decimal r.frames_out))

-- THE END
abbrev pub clash_line : Arrays → ℕ → ℕ → List ℕ
clash_line arrays a i = line (codes "end Clash " ++ name_at arrays a ++ field (decimal i))

abbrev pub end_line : Arrays → End → List ℕ
end_line arrays End.Rest = line (codes "end Rest")
end_line arrays End.Starved = line (codes "end Starved")
end_line arrays (End.Clash a i) = clash_line arrays a i
end_line arrays End.Steps = line (codes "end Steps")
end_line arrays (End.Stuck rule) = line (codes "end Stuck" ++ field (decimal rule))
end_line arrays End.Memory = line (codes "end Memory")
end_line arrays End.Stop = line (codes "end Stop")

abbrev pub meaning_end : Arrays → MeanEnd → List ℕ
meaning_end arrays MeanEnd.Rest = line (codes "end Rest")
meaning_end arrays (MeanEnd.Clash a i) = clash_line arrays a i
meaning_end arrays MeanEnd.Steps = line (codes "end Steps")

-- THE WHOLE
abbrev pub report_text : Arrays → Report → List ℕ
report_text arrays r = outputs_text r.outputs ++ flat_map (cell_line arrays) r.cells ++ counts r ++ end_line arrays r.end

abbrev pub meaning_text : Arrays → List (Option Value) → List Full → MeanEnd → List ℕ
meaning_text arrays outputs cells end = outputs_text outputs ++ flat_map (full_line arrays) cells ++ meaning_end arrays end

-- THE REPORT OF AN OBJECT'S RUN. Its arrays have no names: their numbers, from n on, take their place.
unfoldable pub named_by_number : ℕ → List ℕ → Arrays
named_by_number n [] = []
named_by_number n (len ∷ lens) = (decimal n, len) ∷ named_by_number (n + 1) lens

abbrev pub object_report_text : List ℕ → Report → List ℕ
object_report_text lens r = report_text (named_by_number 0 lens) r
