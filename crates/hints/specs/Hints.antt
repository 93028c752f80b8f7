-- What a hint on standard error looks like, and where there is none.
use Rattle.std.specs.Prelude.{ℕ, ◌≤◌, ◌==◌, Bool, true, false, not, List, [], ◌∷◌, ◌++◌, Option, None, Some, codes, is_some, nat_lt, if◌then◌else◌}
use Rattle.semantics.specs.declared.report.End.{End}
use Rattle.oracle.specs.declared.report.MeanEnd.{MeanEnd}
use Rattle.outcomes.specs.declared.outcome.Ending.{Ending}
use Rattle.outcomes.specs.declared.outcome.FailedRow.{FailedRow}
use Rattle.outcomes.specs.declared.outcome.MadeFault.{MadeFault}
use Rattle.outcomes.specs.declared.outcome.Outcome.{Outcome}
use Rattle.outcomes.specs.Outcomes.{exit_status, meaning_status}

-- A LINE: `hint: `, printed bytes, and a line feed
abbrev pub IsPrinted : ℕ → Type 0
IsPrinted b = (32 ≤ b) × (b ≤ 126)

abbrev pub hint_line : List ℕ → List ℕ
hint_line text = codes "hint: " ++ text ++ 10 ∷ []

-- one line or two: where the cause is, if that is known, and the cause
abbrev pub hint_text : Option (List ℕ) → List ℕ → List ℕ
hint_text None cause = hint_line cause
hint_text (Some place) cause = hint_line place ++ hint_line cause

-- at rest some readers wait
abbrev pub rests_waiting : End → ℕ → Bool
rests_waiting End.Rest readers = nat_lt 0 readers
rests_waiting End.Starved readers = false
rests_waiting (End.Clash a i) readers = false
rests_waiting End.Steps readers = false
rests_waiting (End.Stuck r) readers = false
rests_waiting End.Memory readers = false
rests_waiting End.Stop readers = false

-- of the end of a run: where its exit status is not 0, and at rest where readers wait
abbrev pub run_wants : End → ℕ → Bool
run_wants end readers = if exit_status end == 0 then rests_waiting end readers else true

-- at rest an output or a cell has a fault
abbrev pub rests_faulty : End → Option MadeFault → Bool
rests_faulty End.Rest fault = is_some fault
rests_faulty End.Starved fault = false
rests_faulty (End.Clash a i) fault = false
rests_faulty End.Steps fault = false
rests_faulty (End.Stuck r) fault = false
rests_faulty End.Memory fault = false
rests_faulty End.Stop fault = false

abbrev pub ends_faulty : Ending → Bool
ends_faulty (Ending.Run end frames credits readers fault) = rests_faulty end fault
ends_faulty (Ending.Meaning end) = false

-- of its end, whatever its outputs and cells have
abbrev pub end_wants : Ending → Bool
end_wants (Ending.Run end frames credits readers fault) = run_wants end readers
end_wants (Ending.Meaning end) = not (meaning_status end == 0)

abbrev pub ending_wants : Ending → Bool
ending_wants e = if ends_faulty e then true else end_wants e

-- of a row of a profile whose run did not end at rest
abbrev pub row_wants : Option FailedRow → Bool
row_wants None = false
row_wants (Some row) = not (exit_status row.end == 0)

-- of a profile: of its meaning, and else of a row
abbrev pub profile_wants : MeanEnd → Option FailedRow → Bool
profile_wants end failed = if meaning_status end == 0 then row_wants failed else true

-- WHERE A HINT IS WANTED: where a write failed, of a refusal, and of a mistake in the command line; of a report of which the exit status is
-- not 0, or in which readers wait at rest, or an output or a cell has a fault; of a profile whose meaning, or a row of which, did not end at rest; of orders that differ, and of a page of many
-- events. A picture and events as data do not tell how a run ended.
abbrev pub wants_hint : Option Outcome → Bool
wants_hint None = true
wants_hint (Some Outcome.Done) = false
wants_hint (Some Outcome.Mistake) = true
wants_hint (Some (Outcome.Refused f)) = true
wants_hint (Some (Outcome.Reported e)) = ending_wants e
wants_hint (Some (Outcome.Profiled end failed)) = profile_wants end failed
wants_hint (Some (Outcome.Drawn e)) = false
wants_hint (Some (Outcome.Paged e events)) = nat_lt 1000000 events
wants_hint (Some Outcome.Differed) = true
