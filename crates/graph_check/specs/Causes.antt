-- Why a graph is refused: the fault alone is what the checks say.
use Rattle.std.specs.Prelude.{Option, Some, None, Result, Ok, Err}
use Rattle.graph_check.specs.declared.faults.CheckFault.{CheckFault}
use Rattle.graph_check.specs.declared.faults.CheckFaultKind.{CheckFaultKind}
use Rattle.graph_check.specs.declared.faults.CheckFaultKind.TheVariants as kinds
use Rattle.graph_check.specs.declared.causes.CheckCause.{CheckCause}
use Rattle.graph_check.specs.declared.causes.CheckCause.TheVariants.{SameName, NoSuchName, Arity, SourceNotEarlier, NoSuchPort, BadRegion}
use Rattle.graph_check.specs.declared.causes.CheckCause.TheVariants.{CrossesRegion, BadBound, OutNotRoot, NoInput, NoOutput, Memory}
use Rattle.graph_check.specs.declared.causes.CheckRefusal.{CheckRefusal}
use Rattle.graph_check.specs.declared.causes.Taker.{Taker}
use Rattle.graph_check.specs.declared.causes.Taker.TheVariants as takers

abbrev pub fault_kind : CheckCause → CheckFaultKind
fault_kind (SameName place) = kinds.SameName
fault_kind (NoSuchName name) = kinds.NoSuchName
fault_kind (Arity cause) = kinds.Arity
fault_kind (SourceNotEarlier source) = kinds.SourceNotEarlier
fault_kind (NoSuchPort source ports) = kinds.NoSuchPort
fault_kind (BadRegion cause) = kinds.BadRegion
fault_kind (CrossesRegion source lies wanted) = kinds.CrossesRegion
fault_kind (BadBound bound) = kinds.BadBound
fault_kind (OutNotRoot source lies) = kinds.OutNotRoot
fault_kind NoInput = kinds.NoInput
fault_kind NoOutput = kinds.NoOutput
fault_kind Memory = kinds.Memory

abbrev pub fault_of : CheckRefusal → CheckFault
fault_of r = record { kind = fault_kind r.cause; block = r.block; node = r.node }

-- the kind of fault of an answer
abbrev pub kind_in : {T : Type 0} → Result T CheckCause → Option CheckFaultKind
kind_in (Ok x) = None
kind_in (Err cause) = Some (fault_kind cause)

-- the fault of an answer
abbrev pub fault_in : {T : Type 0} → Result T CheckRefusal → Option CheckFault
fault_in (Ok x) = None
fault_in (Err r) = Some (fault_of r)

-- the kind of fault where a source lies in another region
abbrev pub crossing_kind : Taker → CheckFaultKind
crossing_kind takers.Node = kinds.CrossesRegion
crossing_kind takers.Outputs = kinds.OutNotRoot
