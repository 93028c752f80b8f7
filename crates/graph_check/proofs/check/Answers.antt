use Rattle.std.proofs.Common.{sym, subst}
use Rattle.graph_check.specs.FirstFault.{IsRefusal}
use Rattle.graph_check.proofs.check.Goals as goal

pub returns-in-Err-clause-refused : goal.returns-in-Err-clause-refused
returns-in-Err-clause-refused g c = subst (IsRefusal c.args.graph) (sym c.fault.ensures) c.in-Err.ensures.refused
