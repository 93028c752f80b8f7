-- What the lexer refuses.
use Rattle.std.specs.Prelude.{◌≡◌, ◌⊎◌, List, Result, Err}
use Rattle.source.specs.declared.fault.FaultKind.TheVariants as core_fault
use Rattle.surface.specs.declared.fault.Fault.{Fault}
use Rattle.surface.specs.declared.fault.FaultKind.TheVariants.{Core}
use Rattle.surface.specs.declared.token.Token.{Token}

-- the fault in place of the tokens, or a refused growth
abbrev pub IsFirstFault : Fault → Result (List Token) Fault → Type 0
IsFirstFault fault tokens = (fault.kind ≡ Core core_fault.Memory) ⊎ (tokens ≡ Err fault)
