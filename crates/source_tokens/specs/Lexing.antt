-- What the lexer refuses.
use Rattle.std.specs.Prelude.{◌≡◌, ◌⊎◌, List, Result, Err}
use Rattle.source.specs.declared.fault.Fault.{Fault}
use Rattle.source.specs.declared.fault.FaultKind.TheVariants.{Memory}
use Rattle.source.specs.declared.token.Token.{Token}

-- the fault in place of the tokens, or a refused growth
abbrev pub IsFirstFault : Fault → Result (List Token) Fault → Type 0
IsFirstFault fault tokens = (fault.kind ≡ Memory) ⊎ (tokens ≡ Err fault)
