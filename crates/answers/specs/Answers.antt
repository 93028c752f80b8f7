-- What an export says in numbers.
use Rattle.std.specs.Prelude.{ℕ, Option, Some, None, nat_lt, if◌then◌else◌}
use Rattle.graph_file.specs.Causes as ReadCauses
use Rattle.graph_check.specs.Causes as CheckCauses
use Rattle.assembler.specs.Causes as AsmCauses
use Rattle.outcomes.specs.declared.refusal.Refusal.{Refusal}
use Rattle.outcomes.specs.declared.outcome.Outcome.{Outcome}
use Rattle.outcomes.specs.Outcomes.{outcome_status}
use Rattle.answers.specs.declared.result.Place.{Place}
use Rattle.answers.specs.declared.result.EtsResult.{EtsResult}

-- a number that is not there
abbrev pub none : ℕ
none = 18446744073709551615

abbrev pub or_none : Option ℕ → ℕ
or_none (Some n) = n
or_none None = none

-- at what work there was a refusal
abbrev pub stage_of : Refusal → ℕ
stage_of Refusal.Input = 3
stage_of (Refusal.Program r) = 4
stage_of (Refusal.Read r) = 5
stage_of (Refusal.Check r) = 6
stage_of (Refusal.TooManySlots b) = 7
stage_of (Refusal.TooFar b) = 8
stage_of (Refusal.Object f) = 9
stage_of (Refusal.Asm r) = 10
stage_of (Refusal.Start f) = 11
stage_of (Refusal.InputLine n) = 12
stage_of (Refusal.TooManyFrames n) = 13
stage_of Refusal.NotAtRest = 13
stage_of Refusal.Memory = 2

abbrev pub nowhere : Place
nowhere = record { line = none; column = none; block = none; node = none }

abbrev pub at_line : ℕ → Place
at_line n = record { line = n; column = none; block = none; node = none }

abbrev pub in_block : Option ℕ → Option ℕ → Place
in_block b n = record { line = none; column = none; block = or_none b; node = or_none n }

-- where
abbrev pub place_of : Refusal → Place
place_of Refusal.Input = nowhere
place_of (Refusal.Program r) = record { line = r.fault.line; column = r.fault.column; block = none; node = none }
place_of (Refusal.Read r) = at_line (ReadCauses.fault_of r).line
place_of (Refusal.Check r) = in_block (CheckCauses.fault_of r).block (CheckCauses.fault_of r).node
place_of (Refusal.TooManySlots b) = in_block (Some b) None
place_of (Refusal.TooFar b) = in_block (Some b) None
place_of (Refusal.Object f) = nowhere
place_of (Refusal.Asm r) = at_line (AsmCauses.fault_of r).line
place_of (Refusal.Start f) = nowhere
place_of (Refusal.InputLine n) = at_line n
place_of (Refusal.TooManyFrames n) = nowhere
place_of Refusal.NotAtRest = nowhere
place_of Refusal.Memory = nowhere

abbrev pub stage_in : Outcome → ℕ
stage_in (Outcome.Refused f) = stage_of f
stage_in o = 0

abbrev pub place_in : Outcome → Place
place_in (Outcome.Refused f) = place_of f
place_in o = nowhere

-- what is said of this outcome, for which there are `needed` bytes, and room for so many
abbrev pub result_of : Outcome → ℕ → ℕ → EtsResult
result_of o needed room = record {
  status = if nat_lt room needed then 1 else stage_in o;
  exit = outcome_status o;
  place = place_in o;
  needed = needed;
}
