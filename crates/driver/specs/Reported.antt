-- The fault that is reported where a pass or a part gives one of its own: lack of memory as such, and another fault as it is.
use Rattle.std.specs.Prelude.{◌≡◌, ◌≢◌, ◌⊎◌}
use Rattle.graph_file.specs.declared.cause.ReadRefusal.{ReadRefusal}
use Rattle.graph_file.specs.Causes as ReadCauses
use Rattle.graph_file.specs.declared.fault.ReadFaultKind.TheVariants as ReadFaultKind
use Rattle.graph_check.specs.declared.causes.CheckRefusal.{CheckRefusal}
use Rattle.graph_check.specs.Causes as CheckCauses
use Rattle.graph_check.specs.declared.faults.CheckFaultKind.TheVariants as CheckFaultKind
use Rattle.slot_alloc.specs.declared.faults.AssignFault.{AssignFault}
use Rattle.select.specs.declared.fault.EmitFault.{EmitFault}
use Rattle.oracle.specs.declared.report.MeanFault.{MeanFault}
use Rattle.schedule.specs.declared.config.StartFault.{StartFault}
use Rattle.driver.specs.declared.fault.Fault.{Fault}

-- of a text that is not read
abbrev pub IsUnread : ReadRefusal → Fault → Type 0
IsUnread r reported =
    (((ReadCauses.fault_of r).kind ≡ ReadFaultKind.Memory) × (reported ≡ Fault.Memory))
    ⊎ (((ReadCauses.fault_of r).kind ≢ ReadFaultKind.Memory) × (reported ≡ Fault.Read r))

-- of a graph that is not well formed
abbrev pub IsUnchecked : CheckRefusal → Fault → Type 0
IsUnchecked r reported =
    (((CheckCauses.fault_of r).kind ≡ CheckFaultKind.Memory) × (reported ≡ Fault.Memory))
    ⊎ (((CheckCauses.fault_of r).kind ≢ CheckFaultKind.Memory) × (reported ≡ Fault.Check r))

-- of a plan without slots
abbrev pub unassigned_as : AssignFault → Fault
unassigned_as (AssignFault.TooManySlots b) = Fault.TooManySlots b
unassigned_as AssignFault.Memory = Fault.Memory

-- of a plan without code
abbrev pub unemitted_as : EmitFault → Fault
unemitted_as (EmitFault.TooFar b) = Fault.TooFar b
unemitted_as EmitFault.Memory = Fault.Memory

-- of a meaning that is not run
abbrev pub unmeant_as : MeanFault → Fault
unmeant_as MeanFault.WrongInputs = Fault.Start StartFault.WrongInputs
unmeant_as MeanFault.Memory = Fault.Memory
