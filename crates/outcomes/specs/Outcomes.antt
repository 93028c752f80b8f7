-- Exit statuses, each a function of a command's outcome.
use Rattle.std.specs.Prelude.{ℕ, List, [], ◌∷◌, if◌then◌else◌, is_some, Option, Some, None}
use Rattle.tags.specs.Packed.{origin_code}
use Rattle.tags.specs.declared.value.Value.{Value}
use Rattle.semantics.specs.Report.{Report}
use Rattle.semantics.specs.declared.report.End.{End}
use Rattle.oracle.specs.declared.report.MeanEnd.{MeanEnd}
use Rattle.outcomes.specs.declared.outcome.Ending.{Ending}
use Rattle.outcomes.specs.declared.outcome.MadeFault.{MadeFault}
use Rattle.outcomes.specs.declared.outcome.Outcome.{Outcome}

-- the exit status for the end of a run
abbrev pub exit_status : End → ℕ
exit_status End.Rest = 0
exit_status End.Starved = 2
exit_status (End.Clash a i) = 3
exit_status End.Steps = 4
exit_status (End.Stuck r) = 5
exit_status End.Memory = 6
exit_status End.Stop = 0

-- the exit status for the end of a run of the meaning
abbrev pub meaning_status : MeanEnd → ℕ
meaning_status MeanEnd.Rest = 0
meaning_status (MeanEnd.Clash a i) = 3
meaning_status MeanEnd.Steps = 4

abbrev pub ending_status : Ending → ℕ
ending_status (Ending.Run end frames credits readers fault) = exit_status end
ending_status (Ending.Meaning end) = meaning_status end

-- the exit status for a command's outcome
abbrev pub outcome_status : Outcome → ℕ
outcome_status Outcome.Done = 0
outcome_status Outcome.Mistake = 1
outcome_status (Outcome.Refused f) = 1
outcome_status (Outcome.Reported e) = ending_status e
outcome_status (Outcome.Profiled end failed) = meaning_status end
outcome_status (Outcome.Drawn e) = ending_status e
outcome_status (Outcome.Paged e events) = ending_status e
outcome_status Outcome.Differed = 1

-- the first of two, if there is one, or else the second
abbrev pub or_else : Option MadeFault → Option MadeFault → Option MadeFault
or_else (Some fault) other = Some fault
or_else None other = other

-- the fault that this is, if it is one
abbrev pub fault_in : Option Value → Option MadeFault
fault_in None = None
fault_in (Some (Value.Int z)) = None
fault_in (Some (Value.Fault kind origin)) = Some (record { kind = kind; origin = origin_code origin })

-- the fault of the first of these outputs, or of these cells, that has one
abbrev pub first_fault : List (Option Value) → Option MadeFault
first_fault [] = None
first_fault (output ∷ rest) = if is_some (fault_in output) then fault_in output else first_fault rest

abbrev pub first_cell_fault : List (ℕ × Value) → Option MadeFault
first_cell_fault [] = None
first_cell_fault (cell ∷ rest) = if is_some (fault_in (Some cell.1)) then fault_in (Some cell.1) else first_cell_fault rest

abbrev pub fault_of : Report → Option MadeFault
fault_of r = or_else (first_fault r.outputs) (first_cell_fault r.cells)

-- how the run with this report ended
abbrev pub ending_of : Report → Ending
ending_of r = Ending.Run r.end r.waiting_frames r.waiting_credits r.deferred (fault_of r)
