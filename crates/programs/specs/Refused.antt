-- WHY A TEXT'S PROGRAM HAS NO REPORT: each refusal with its cause. That its graph has no text or is not well formed is never one.
use Rattle.std.specs.Prelude.{◌≡◌, ◌≢◌, ◌⊎◌, ℕ, ℤ, List, ⊤}
use Rattle.semantics.specs.Graph.{Graph}
use Rattle.schedule.specs.declared.config.Config.{Config}
use Rattle.schedule.specs.declared.config.StartFault.{StartFault}
use Rattle.schedule.specs.Starts.{IsCause}
use Rattle.source.specs.Tree.{Program}
use Rattle.lowered_text.specs.declared.fault.LowerFault.{LowerFault}
use Rattle.lowered_text.specs.Lowers.{Lowers, IsRefusedProgram}
use Rattle.driver.specs.declared.fault.Fault.{Fault}
use Rattle.driver.specs.Compiled.{IsObjectOf, IsTooLarge}
use Rattle.programs.specs.declared.fault.RunRefusal.{RunRefusal}

-- Why a graph has no object, or a run of its object cannot start: the first cause.
abbrev pub IsNotRun : Graph → List ℤ → Config → Fault → Type 0
IsNotRun g inputs c (Fault.Start f) = (bytes : List ℕ) × (object : IsObjectOf g bytes) × IsCause object.code.program c inputs f × (f ≢ StartFault.Memory)
IsNotRun g inputs c fault = IsTooLarge g fault

-- The text has a program, and `P` holds of the graph that it is lowered to.
abbrev pub OfGraph : List ℕ → (Graph → Type 0) → Type 0
OfGraph text P = (p : Program) × (g : Graph) × Lowers text p g × P g

-- Why there is no object: the program's first fault, as it is reported where it is lowered; else that its graph is too large. `Memory` may be
-- answered of any text: no definition says when an allocator refuses a growth.
abbrev pub IsNotCompiled : List ℕ → RunRefusal → Type 0
IsNotCompiled text (RunRefusal.Program f) = IsRefusedProgram text (LowerFault.Program f)
IsNotCompiled text (RunRefusal.Graph f) = (f ≢ Fault.Memory) × OfGraph text (λ g. IsTooLarge g f)
IsNotCompiled text RunRefusal.Memory = ⊤

-- and why there is no report
abbrev pub IsRefusedRun : List ℕ → List ℤ → Config → RunRefusal → Type 0
IsRefusedRun text inputs c (RunRefusal.Program f) = IsRefusedProgram text (LowerFault.Program f)
IsRefusedRun text inputs c (RunRefusal.Graph f) = (f ≢ Fault.Memory) × OfGraph text (λ g. IsNotRun g inputs c f)
IsRefusedRun text inputs c RunRefusal.Memory = ⊤

-- The fault that is reported where a part gives one of its own: lack of memory as such, and another fault as it is.
abbrev pub unlowered_as : LowerFault → RunRefusal
unlowered_as (LowerFault.Program f) = RunRefusal.Program f
unlowered_as LowerFault.Memory = RunRefusal.Memory

abbrev pub IsUnrun : Fault → RunRefusal → Type 0
IsUnrun f reported = ((f ≡ Fault.Memory) × (reported ≡ RunRefusal.Memory)) ⊎ ((f ≢ Fault.Memory) × (reported ≡ RunRefusal.Graph f))
