-- What was found wrong with bytes: the fault alone is what the checks say.
use Rattle.std.specs.Prelude.{Result, Ok, Err}
use Rattle.object_view.specs.declared.fault.ObjectFault.{ObjectFault}
use Rattle.object_view.specs.declared.fault.Flaw.{Flaw}

abbrev pub fault_of : {X : Type 0} → Result X Flaw → Result X ObjectFault
fault_of (Ok x) = Ok x
fault_of (Err flaw) = Err flaw.fault
