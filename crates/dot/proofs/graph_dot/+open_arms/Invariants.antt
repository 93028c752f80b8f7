use Rattle.dot.proofs.graph_dot.+open_arms.Given as goal

abbrev pub decreases-open_arms : goal.decreases-open_arms
decreases-open_arms g l = l.depth
