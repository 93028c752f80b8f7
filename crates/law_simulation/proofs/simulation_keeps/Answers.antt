use Rattle.law_simulation.proofs.SimulationSeen.{related_runs_alike}
use Rattle.law_simulation.proofs.SimulationKeeps.{simulation_keeps}
use Rattle.law_simulation.proofs.simulation_keeps.Goals as goal

pub returns-clause-alike : goal.returns-clause-alike
returns-clause-alike c = related_runs_alike

pub returns-clause-keeps : goal.returns-clause-keeps
returns-clause-keeps c = simulation_keeps
