use Rattle.law_confluence.proofs.Equations.{runs_at_rest, machines_show}
use Rattle.law_confluence.proofs.port_values.runs_at_rest_satisfy_equations.Goals as goal

pub returns-clause-equations : goal.returns-clause-equations
returns-clause-equations c = runs_at_rest

pub returns-clause-machines : goal.returns-clause-machines
returns-clause-machines c = machines_show
