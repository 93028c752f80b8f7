-- When what a function returned is what a definition gives.
use Rattle.std.specs.Prelude.{◌≡◌, ◌⊎◌, Bool, true, false, Result, Ok, Err, ⊤}
use Rattle.assembler.specs.declared.fault.AsmFaultKind.{AsmFaultKind}
use Rattle.assembler.specs.declared.fault.AsmFaultKind.TheVariants.{Memory}
use Rattle.assembler.specs.declared.cause.AsmCause.{AsmCause}
use Rattle.assembler.specs.Causes.{fault_kind}

-- What a function returned, as contracts see it, is what the definition gives, unless memory ran out.
abbrev pub Gives : {X Y : Type 0} → (X → Y) → Result X AsmCause → Result Y AsmFaultKind → Type 0
Gives view (Ok x) spec = spec ≡ Ok (view x)
Gives view (Err cause) spec = (fault_kind cause ≡ Memory) ⊎ (spec ≡ Err (fault_kind cause))

abbrev pub must : Bool → AsmFaultKind → Result ⊤ AsmFaultKind
must true kind = Ok tt
must false kind = Err kind
