-- The fault that is reported where a part gives one of its own: lack of memory as such, and another fault as it is.
use Rattle.std.specs.Prelude.{◌≡◌, ◌≢◌, ◌⊎◌, ℕ, List}
use Rattle.source.specs.declared.fault.Fault.{Fault}
use Rattle.source.specs.declared.fault.ProgramFault.{ProgramFault}
use Rattle.source.specs.Tokens.{position}
use Rattle.source.specs.declared.fault.FaultKind.TheVariants as FaultKind
use Rattle.lowered_text.specs.declared.fault.LowerFault.{LowerFault}

-- a fault with its line and its column in the program's text
abbrev pub placed : List ℕ → Fault → ProgramFault
placed program fault = record { kind = fault.kind; line = (position program fault.at).line; column = (position program fault.at).column }

-- that it is of a program's fault
abbrev pub IsOfProgram : ProgramFault → LowerFault → Type 0
IsOfProgram f (LowerFault.Program refusal) = refusal.fault ≡ f
IsOfProgram f LowerFault.Memory = ⊥

-- of a program
abbrev pub IsUntold : ProgramFault → LowerFault → Type 0
IsUntold f reported = ((f.kind ≡ FaultKind.Memory) × (reported ≡ LowerFault.Memory)) ⊎ ((f.kind ≢ FaultKind.Memory) × IsOfProgram f reported)
