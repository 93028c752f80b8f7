use Rattle.machine.specs.Runners.{left_last}
use Rattle.machine.proofs.Committing.{gone_in}
use Rattle.machine.proofs.blocks.commit.Given as goal

-- what it made is last in the queue, or was sent
abbrev pub ghosts-commit_counts : goal.ghosts-commit_counts
ghosts-commit_counts g a = record { spent = gone_in g.L.Log.KEEPS_EVENTS a.runner.now a.spent a.made; made = left_last a.runner.now a.made }
