-- What the compiler makes of a graph, and why it makes nothing.
use Rattle.std.specs.Prelude.{◌≡◌, ℕ, List, Option, None, Some, slice_get, ⊤}
use Rattle.semantics.specs.Graph.{Graph, Block, Flow, flow_of}
use Rattle.semantics.specs.Program.{Code}
use Rattle.semantics.specs.Bytes.{IsCode, IsObject}
use Rattle.semantics.specs.Cause.{HasBounds}
use Rattle.semantics.specs.Faithful.{inputs_of}
use Rattle.semantics.specs.Machine.{outputs_of}
use Rattle.law_compiler.specs.Graphs.{KeepsPromises}
use Rattle.slot_alloc.specs.Assigned.{IsAssigned, IsFirstCrowded}
use Rattle.semantics.specs.declared.version.Version.{Version}
use Rattle.semantics.specs.Versions.{version_number}
use Rattle.select.specs.Emitted.{code_of}
use Rattle.select.specs.Literals.{table_of, too_far}
use Rattle.schedule.specs.Setting.{inputs_of as inputs_in_code}
use Rattle.law_compiler.specs.Objects.{plan_of}
use Rattle.driver.specs.declared.fault.Fault.{Fault}

-- how many outputs main has
abbrev pub outputs_in : Option (Block ℕ) → ℕ
outputs_in None = 0
outputs_in (Some b) = b.outputs

abbrev pub flow_outputs : Flow → ℕ
flow_outputs fl = outputs_in (slice_get fl.blocks fl.main)

-- The code is the plan's with slots, each the least that is open to its holder, and with the table of the plan's literals. It has an
-- object in the version of the graph's text, main's inputs and outputs, the graph's arrays, and the bounds of its loops; it is
-- faithful to the graph, and uses frames and slots again as is promised.
pub record IsCodeFor (g : Graph) (code : Code) : Type 0 where
  pub slots : List (List ℕ)
  pub assigned : IsAssigned (plan_of g) slots
  pub version : Version
  pub version_is : version_number version ≡ g.version
  pub program : code.program ≡ code_of version (plan_of g) slots
  pub literals : code.literals ≡ table_of (plan_of g).program.blocks
  pub lawful : IsCode g.version code
  pub inputs : inputs_in_code code.program ≡ inputs_of (flow_of g)
  pub outputs : outputs_of code.program ≡ flow_outputs (flow_of g)
  pub arrays : code.program.arrays ≡ (flow_of g).arrays
  pub bounds : HasBounds (flow_of g) code.program
  pub promises : KeepsPromises g slots version

-- the bytes are the only object of that code
pub record IsObjectOf (g : Graph) (bytes : List ℕ) : Type 0 where
  pub code : Code
  pub made : IsCodeFor g code
  pub object : IsObject bytes g.version code

-- Why there is no code: the first block that has too few slots; or, where all have slots, the first that goes too far. `Memory` may be answered of any
-- graph: no definition says when an allocator refuses a growth.
abbrev pub IsTooLarge : Graph → Fault → Type 0
IsTooLarge g (Fault.TooManySlots b) = IsFirstCrowded (plan_of g) b
IsTooLarge g (Fault.TooFar b) = ((slots : List (List ℕ)) × IsAssigned (plan_of g) slots) × (too_far (plan_of g).program.blocks ≡ Some b)
IsTooLarge g Fault.Memory = ⊤
IsTooLarge g fault = ⊥
