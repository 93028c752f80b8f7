-- A machine that has come to rest over faithful code, with no reader waiting, shows the cells and outputs of a settled run.
use Rattle.std.specs.Prelude.{ℤ, List}
use Rattle.semantics.specs.Graph.{Graph, Flow, flow_of}
use Rattle.semantics.specs.WellFormed.{WellFormed}
use Rattle.semantics.specs.Meaning.{State, Activity, Run, start}
use Rattle.semantics.specs.Machine.{Machine}
use Rattle.semantics.specs.Faithful.{IsExact, NoReader}
use Rattle.semantics.specs.Cause.{SameSeen}
use Rattle.law_confluence.specs.Outcome.{AreInputsOf}
use Rattle.law_confluence.specs.EquationsSettled.{Settled}

pub record ShowsSettled (fl : Flow) (inputs : List ℤ) (m : Machine) : Type 0 where
  pub run : List Activity
  pub state : State
  pub is_run : Run fl (start inputs) run state
  pub seen : SameSeen m.store state.memory
  pub settled : Settled fl inputs run state is_run

-- `IsExact` is what faithful code promises of a machine at rest that wants nothing.
abbrev pub MachinesShowEquations : Type 0
MachinesShowEquations = (g : Graph) (inputs : List ℤ) → WellFormed g → AreInputsOf g inputs
    → (m : Machine) → IsExact (flow_of g) inputs m → NoReader m → ShowsSettled (flow_of g) inputs m
