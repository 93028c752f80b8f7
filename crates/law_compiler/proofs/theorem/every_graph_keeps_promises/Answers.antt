use Rattle.law_compiler.proofs.WholeLaw as Law
use Rattle.law_compiler.proofs.theorem.every_graph_keeps_promises.Goals as goal

pub returns : goal.returns
returns c = Law.graphs_keep_promises
