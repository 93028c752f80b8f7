-- Why a text is refused: the fault alone is what reading says.
use Rattle.graph_file.specs.declared.fault.ReadFault.{ReadFault}
use Rattle.graph_file.specs.declared.fault.ReadFaultKind.{ReadFaultKind}
use Rattle.graph_file.specs.declared.fault.ReadFaultKind.TheVariants as kinds
use Rattle.graph_file.specs.declared.cause.ReadCause.{ReadCause}
use Rattle.graph_file.specs.declared.cause.ReadCause.TheVariants.{NoHeader, BadLine, BadNumber, BadName, Unended, NoMain, TooMany, TrailingText, Memory}
use Rattle.graph_file.specs.declared.cause.ReadRefusal.{ReadRefusal}

abbrev pub fault_kind : ReadCause → ReadFaultKind
fault_kind NoHeader = kinds.NoHeader
fault_kind (BadLine cause) = kinds.BadLine
fault_kind (BadNumber cause) = kinds.BadNumber
fault_kind (BadName place) = kinds.BadName
fault_kind (Unended cause) = kinds.Unended
fault_kind NoMain = kinds.NoMain
fault_kind (TooMany limit) = kinds.TooMany
fault_kind TrailingText = kinds.TrailingText
fault_kind Memory = kinds.Memory

abbrev pub fault_of : ReadRefusal → ReadFault
fault_of r = record { kind = fault_kind r.cause; line = r.line }
