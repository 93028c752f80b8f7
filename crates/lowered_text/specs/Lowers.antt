-- WHAT A TEXT'S PROGRAM IS LOWERED TO, or why it is not.
use Rattle.std.specs.Prelude.{◌≡◌, ◌≢◌, ℕ, List, length, Ok, Err, ⊤}
use Rattle.semantics.specs.Graph.{Graph}
use Rattle.semantics.specs.WellFormed.{WellFormed}
use Rattle.source.specs.declared.fault.Fault.{Fault}
use Rattle.source.specs.declared.fault.FaultKind.TheVariants.{Memory}
use Rattle.source.specs.declared.token.Token.{Token}
use Rattle.source.specs.Tokens.{program_of, lexed}
use Rattle.source.specs.Tree.{Program}
use Rattle.source.specs.Parses.{Parses}
use Rattle.source.specs.Rules.{checked}
use Rattle.source.specs.Lowered.{lowered}
use Rattle.source_text.specs.Reading.{IsFirst}
use Rattle.lowered_text.specs.declared.fault.LowerFault.{LowerFault}
use Rattle.lowered_text.specs.Reported.{placed}

-- the program that the text has before its line `inputs`
pub record IsProgramOf (text : List ℕ) (p : Program) : Type 0 where
  pub tokens : List Token
  pub lexed : lexed (program_of text) ≡ Ok tokens
  pub parses : Parses (program_of text) tokens p

-- and it keeps the static rules
pub record IsGoodProgramOf (text : List ℕ) (p : Program) : Type 0 where
  pub program : IsProgramOf text p
  pub checked : checked (length (program_of text)) p ≡ Ok tt

-- the graph that it is lowered to
pub record IsLoweredTo (text : List ℕ) (p : Program) (g : Graph) : Type 0 where
  pub good : IsGoodProgramOf text p
  pub lowered : lowered p ≡ Ok g

-- and which is well formed
pub record Lowers (text : List ℕ) (p : Program) (g : Graph) : Type 0 where
  pub lowered : IsLoweredTo text p g
  pub well_formed : WellFormed g

-- The first fault of a text's program: of its bytes or its tokens, else of the rules, else of the sizes.
pub data IsFirstFault (text : List ℕ) (fault : Fault) : Type 0 where
  of_text : IsFirst (program_of text) fault → IsFirstFault text fault
  of_rules : (p : Program) → IsProgramOf text p → checked (length (program_of text)) p ≡ Err fault → IsFirstFault text fault
  of_sizes : (p : Program) → IsGoodProgramOf text p → lowered p ≡ Err fault → IsFirstFault text fault

-- WHY NO GRAPH IS GIVEN. `Memory` may be the refusal of any text: no definition says when an allocator refuses a growth.
abbrev pub IsRefusedProgram : List ℕ → LowerFault → Type 0
IsRefusedProgram text (LowerFault.Program f) = (fault : Fault) × IsFirstFault text fault × (fault.kind ≢ Memory) × (f.fault ≡ placed (program_of text) fault)
IsRefusedProgram text LowerFault.Memory = ⊤
