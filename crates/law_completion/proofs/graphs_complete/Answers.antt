use Rattle.law_completion.proofs.OneRun as One
use Rattle.law_completion.proofs.Graphs as Graphs
use Rattle.law_completion.proofs.graphs_complete.Goals as goal

pub returns-clause-tells : goal.returns-clause-tells
returns-clause-tells c = Graphs.one_run_tells

pub returns-clause-total : goal.returns-clause-total
returns-clause-total c = Graphs.total_graph

pub returns-clause-counts : goal.returns-clause-counts
returns-clause-counts c = One.one_run_counts
