use Rattle.law_net_refines_meaning.proofs.Firings.{all_meant}
use Rattle.law_net_refines_meaning.proofs.FiringsGraphs.{graphs_have_operands, graphs_are_earlier}
use Rattle.law_net_refines_meaning.proofs.firings_are_meant.Goals as goal

pub returns-clause-all : goal.returns-clause-all
returns-clause-all c = all_meant

pub returns-clause-operands : goal.returns-clause-operands
returns-clause-operands c = graphs_have_operands

pub returns-clause-earlier : goal.returns-clause-earlier
returns-clause-earlier c = graphs_are_earlier
