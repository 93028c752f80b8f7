-- Why a text or an object has no report: each refusal with its cause.
use Rattle.std.specs.Prelude.{◌≡◌, ◌≢◌, ℕ, ◌<◌, ℤ, List, length, Some, Err, ⊤}
use Rattle.semantics.specs.Graph.{Graph}
use Rattle.semantics.specs.Text.{IsText}
use Rattle.semantics.specs.WellFormed.{WellFormed}
use Rattle.semantics.specs.Program.{Code}
use Rattle.semantics.specs.Bytes.{IsObject}
use Rattle.graph_file.specs.declared.fault.ReadFaultKind.TheVariants as ReadFaultKind
use Rattle.graph_file.specs.Causes as ReadCauses
use Rattle.graph_file.specs.Reading.{text_from}
use Rattle.graph_check.specs.declared.faults.CheckFaultKind.TheVariants as CheckFaultKind
use Rattle.graph_check.specs.Causes as CheckCauses
use Rattle.graph_check.specs.FirstFault.{first_fault}
use Rattle.schedule.specs.declared.config.Config.{Config}
use Rattle.schedule.specs.declared.config.StartFault.{StartFault}
use Rattle.schedule.specs.Starts.{IsGood, IsCause}
use Rattle.schedule.specs.Setting.{inputs_of}
use Rattle.object_view.specs.Checks.{first_refusal}
use Rattle.oracle.specs.Lines.{inputs_at}
use Rattle.oracle.specs.Running.{main_place}
use Rattle.driver.specs.Compiled.{IsObjectOf, IsTooLarge}
use Rattle.driver.specs.declared.fault.Fault.{Fault}

-- `g` is the graph of the text, and it is well formed
pub record IsGoodText (text : List ℕ) (g : Graph) : Type 0 where
  pub is_text : IsText text g
  pub well_formed : WellFormed g

-- the bytes are the object of the text's graph
pub record IsCompiled (text : List ℕ) (g : Graph) (bytes : List ℕ) : Type 0 where
  pub good : IsGoodText text g
  pub object : IsObjectOf g bytes

-- a run of the text's graph can start
pub record IsReady (text : List ℕ) (inputs : List ℤ) (config : Config) : Type 0 where
  pub graph : Graph
  pub bytes : List ℕ
  pub compiled : IsCompiled text graph bytes
  pub inputs_fit : length inputs ≡ inputs_of compiled.object.code.program
  pub some_frame : 0 < config.frames
  pub good : IsGood config

-- a run of the object can start
pub record IsReadyObject (bytes : List ℕ) (inputs : List ℤ) (config : Config) : Type 0 where
  pub version : ℕ
  pub code : Code
  pub object : IsObject bytes version code
  -- the bytes are an object of no other code
  pub only : (v : ℕ) (c : Code) → IsObject bytes v c → code ≡ c
  pub inputs_fit : length inputs ≡ inputs_of code.program
  pub some_frame : 0 < config.frames
  pub good : IsGood config

-- Why a text has no well-formed graph: it has no graph at all, or one that is not well formed. `Memory` may be answered of any text: no definition
-- says when an allocator refuses a growth.
abbrev pub IsBadText : List ℕ → Fault → Type 0
IsBadText text (Fault.Read r) = (text_from text ≡ Err (ReadCauses.fault_of r)) × ((ReadCauses.fault_of r).kind ≢ ReadFaultKind.Memory)
    × ((g : Graph) → IsText text g → ⊥)
IsBadText text (Fault.Check r) = (g : Graph) × IsText text g × (first_fault g ≡ Some (CheckCauses.fault_of r))
    × ((CheckCauses.fault_of r).kind ≢ CheckFaultKind.Memory) × (WellFormed g → ⊥)
IsBadText text Fault.Memory = ⊤
IsBadText text fault = ⊥

-- why a text has no object
abbrev pub IsRefusedText : List ℕ → Fault → Type 0
IsRefusedText text (Fault.TooManySlots b) = (g : Graph) × IsGoodText text g × IsTooLarge g (Fault.TooManySlots b)
IsRefusedText text (Fault.TooFar b) = (g : Graph) × IsGoodText text g × IsTooLarge g (Fault.TooFar b)
IsRefusedText text fault = IsBadText text fault

-- why the meaning of a text's graph is not run: main has another number of inputs
abbrev pub IsRefusedMeaning : List ℕ → List ℤ → Fault → Type 0
IsRefusedMeaning text inputs (Fault.Start StartFault.WrongInputs) = (g : Graph) × IsGoodText text g × (length inputs ≢ inputs_at g (main_place g))
IsRefusedMeaning text inputs fault = IsBadText text fault

-- the fault that is reported of a machine that does not start
abbrev pub refusal_of : StartFault → Fault
refusal_of StartFault.WrongInputs = Fault.Start StartFault.WrongInputs
refusal_of StartFault.NoFrames = Fault.Start StartFault.NoFrames
refusal_of StartFault.BadConfig = Fault.Start StartFault.BadConfig
refusal_of StartFault.Memory = Fault.Memory

-- why a run of a text's graph cannot start: the first cause
abbrev pub IsRefused : List ℕ → List ℤ → Config → Fault → Type 0
IsRefused text inputs config (Fault.Start f) = (g : Graph) × (bytes : List ℕ) × (c : IsCompiled text g bytes)
    × IsCause c.object.code.program config inputs f × (f ≢ StartFault.Memory)
IsRefused text inputs config fault = IsRefusedText text fault

-- why bytes are not opened: they are an object of no code, and this is their first fault
abbrev pub IsNoObject : List ℕ → Fault → Type 0
IsNoObject bytes (Fault.Object f) = (first_refusal bytes ≡ Some f) × ((v : ℕ) (c : Code) → IsObject bytes v c → ⊥)
IsNoObject bytes Fault.Memory = ⊤
IsNoObject bytes fault = ⊥

-- why a run of an object cannot start
abbrev pub IsRefusedObject : List ℕ → List ℤ → Config → Fault → Type 0
IsRefusedObject bytes inputs config (Fault.Start f) =
    (version : ℕ) × (c : Code) × IsObject bytes version c × ((v : ℕ) (d : Code) → IsObject bytes v d → c ≡ d) × IsCause c.program config inputs f
    × (f ≢ StartFault.Memory)
IsRefusedObject bytes inputs config fault = IsNoObject bytes fault
