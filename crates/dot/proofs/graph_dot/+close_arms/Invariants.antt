use Rattle.dot.proofs.graph_dot.+close_arms.Given as goal

abbrev pub decreases-close_arms : goal.decreases-close_arms
decreases-close_arms g l = l.depth
