-- The lines of a profile.
use Rattle.std.specs.Prelude.{ℕ, zero, suc, ◌+◌, ◌*◌, ◌/◌, ◌%◌, Option, Some, None, List, [], ◌∷◌, ◌++◌, length, flat_map, decimal, codes, slice_get, ◌==◌, if◌then◌else◌}
use Rattle.semantics.specs.Text.{field, line}
use Rattle.sink.specs.Numbered.{numbered}
use Rattle.semantics.specs.declared.report.End.{End}
use Rattle.oracle.specs.declared.report.MeanEnd.{MeanEnd}
use Rattle.oracle.specs.Waves.{work}
use Rattle.profile_text.specs.declared.lines.MachineRow.{MachineRow}
use Rattle.profile_text.specs.declared.sufficient.Sufficient.{Sufficient}

-- pieces in a row
abbrev pub together : List (List ℕ) → List ℕ
together [] = []
together (t ∷ ts) = t ++ together ts

-- WORK AND SPAN. The parallelism is the work over the span, with two decimals, rounded down; without waves it is 0.
abbrev pub whole_of : ℕ → ℕ → ℕ
whole_of w zero = 0
whole_of w (suc s) = w / suc s

-- from 0 to 99
abbrev pub hundredths_of : ℕ → ℕ → ℕ
hundredths_of w zero = 0
hundredths_of w (suc s) = w % suc s * 100 / suc s

abbrev pub totals_text : ℕ → ℕ → List ℕ
totals_text w s =
    together (
    codes "work " ∷ decimal w ∷ codes "\nspan " ∷ decimal s ∷ codes "\nparallelism " ∷ decimal (whole_of w s) ∷ codes "."
    ∷ decimal (hundredths_of w s / 10) ∷ decimal (hundredths_of w s % 10) ∷ codes "\n" ∷ []
    )

-- THE WAVES, from number 1 on, each with how many activities it has
abbrev pub wave_line : ℕ → ℕ → List ℕ
wave_line k n = line (codes "wave" ++ field (decimal (k + 1)) ++ field (decimal n))

abbrev pub waves_text : List ℕ → List ℕ
waves_text counts = numbered wave_line 0 counts

-- the name of an array, and none where there is no array
abbrev pub name_of : Option (List ℕ × ℕ) → List ℕ
name_of None = []
name_of (Some a) = a.0

-- THE MACHINE, for each number of elements
abbrev pub taken_text : MachineRow → List ℕ
taken_text r =
    together (
    codes "elements " ∷ decimal r.elements ∷ codes " rounds " ∷ decimal r.rounds ∷ codes " tokens " ∷ decimal r.tokens ∷ codes " slots "
    ∷ decimal r.slots ∷ codes " frames " ∷ decimal r.frames ∷ []
    )

-- how its run ended, where that is not at rest, in the words of the last line of the run's report; and the end of the line
abbrev pub row_end : List (List ℕ × ℕ) → End → List ℕ
row_end arrays End.Rest = line []
row_end arrays End.Starved = line (codes " end Starved")
row_end arrays (End.Clash a i) = line (codes " end Clash " ++ name_of (slice_get arrays a) ++ field (decimal i))
row_end arrays End.Steps = line (codes " end Steps")
row_end arrays (End.Stuck rule) = line (codes " end Stuck" ++ field (decimal rule))
row_end arrays End.Memory = line (codes " end Memory")
row_end arrays End.Stop = line (codes " end Stop")

abbrev pub row_line : List (List ℕ × ℕ) → MachineRow → List ℕ
row_line arrays r = taken_text r ++ row_end arrays r.end

-- THE END of the waves, as that of a meaning is reported
abbrev pub end_line : List (List ℕ × ℕ) → MeanEnd → List ℕ
end_line arrays MeanEnd.Rest = line (codes "end Rest")
end_line arrays (MeanEnd.Clash a i) = line (codes "end Clash " ++ name_of (slice_get arrays a) ++ field (decimal i))
end_line arrays MeanEnd.Steps = line (codes "end Steps")

-- WHAT SUFFICES, in every order: frames of all elements together, and a limit of steps for each element. Where loops have iterations, each loop's bound
-- has to be at least their number.
abbrev pub plain_line : List ℕ → ℕ → List ℕ
plain_line what n = together (what ∷ codes " that suffice in every order: " ∷ decimal n ∷ codes "\n" ∷ [])

abbrev pub bounded_line : List ℕ → ℕ → ℕ → List ℕ
bounded_line what iterations n =
    together (
    what ∷ codes " that suffice in every order where " ∷ codes "each loop's bound is at least " ∷ decimal iterations ∷ codes ": " ∷ decimal n ∷ codes "\n" ∷ []
    )

abbrev pub sufficient_line : List ℕ → ℕ → ℕ → List ℕ
sufficient_line what iterations n = if iterations == 0 then plain_line what n else bounded_line what iterations n

abbrev pub both_lines : Sufficient → List ℕ
both_lines s = sufficient_line (codes "frames") s.iterations s.frames ++ sufficient_line (codes "steps") s.iterations s.steps

abbrev pub sufficient_text : Option Sufficient → List ℕ
sufficient_text None = []
sufficient_text (Some s) = both_lines s

-- THE WHOLE
abbrev pub last_text : List (List ℕ × ℕ) → Option Sufficient → MeanEnd → List ℕ
last_text arrays enough end = sufficient_text enough ++ end_line arrays end

abbrev pub profile_text : List (List ℕ × ℕ) → List ℕ → List MachineRow → Option Sufficient → MeanEnd → List ℕ
profile_text arrays counts rows enough end = totals_text (work counts) (length counts) ++ waves_text counts ++ flat_map (row_line arrays) rows
    ++ last_text arrays enough end
