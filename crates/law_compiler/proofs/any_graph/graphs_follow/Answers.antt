use Rattle.law_compiler.proofs.GraphsOrigins.{plans_have_origins}
use Rattle.law_compiler.proofs.Graphs.{expanded_is_tidy, graphs_follow}
use Rattle.law_compiler.proofs.any_graph.graphs_follow.Goals as goal

pub returns-clause-origins : goal.returns-clause-origins
returns-clause-origins c = plans_have_origins

pub returns-clause-follow : goal.returns-clause-follow
returns-clause-follow c = graphs_follow

pub returns-clause-tidy : goal.returns-clause-tidy
returns-clause-tidy c = expanded_is_tidy
