-- Why a text is no listing of an object: the fault alone is what assembling says.
use Rattle.assembler.specs.declared.fault.AsmFault.{AsmFault}
use Rattle.assembler.specs.declared.fault.AsmFaultKind.{AsmFaultKind}
use Rattle.assembler.specs.declared.fault.AsmFaultKind.TheVariants as kinds
use Rattle.assembler.specs.declared.cause.Unfit.{Unfit}
use Rattle.assembler.specs.declared.cause.Unfit.TheVariants as unfits
use Rattle.assembler.specs.declared.cause.AsmCause.{AsmCause}
use Rattle.assembler.specs.declared.cause.AsmCause.TheVariants as causes
use Rattle.assembler.specs.declared.cause.AsmRefusal.{AsmRefusal}

-- of a code that has no object
abbrev pub unfit_kind : Unfit → AsmFaultKind
unfit_kind unfits.BadVersion = kinds.BadVersion
unfit_kind unfits.BadCounts = kinds.BadTable
unfit_kind unfits.ManyLiterals = kinds.BadLiteral
unfit_kind unfits.BadBlock = kinds.BadTable
unfit_kind unfits.BadArray = kinds.BadTable
unfit_kind unfits.LiteralOrder = kinds.BadLiteral
unfit_kind unfits.NoLiteral = kinds.BadLiteral
unfit_kind unfits.BadOperand = kinds.BadOperand
unfit_kind unfits.BadSlot = kinds.BadSlot
unfit_kind unfits.BadDestination = kinds.BadDestination
unfit_kind unfits.BadOrigin = kinds.BadOrigin

abbrev pub fault_kind : AsmCause → AsmFaultKind
fault_kind (causes.BadLine cause) = kinds.BadLine
fault_kind (causes.BadNumber cause) = kinds.BadNumber
fault_kind causes.BadName = kinds.BadName
fault_kind (causes.BadSlot cause) = kinds.BadSlot
fault_kind (causes.BadDestination word) = kinds.BadDestination
fault_kind causes.BadOperand = kinds.BadOperand
fault_kind causes.BadOrigin = kinds.BadOrigin
fault_kind causes.Unended = kinds.Unended
fault_kind (causes.Unfit unfit) = unfit_kind unfit
fault_kind causes.Memory = kinds.Memory

abbrev pub fault_of : AsmRefusal → AsmFault
fault_of r = record { kind = fault_kind r.cause; line = r.line }
