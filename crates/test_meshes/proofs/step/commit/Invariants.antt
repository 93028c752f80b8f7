use Rattle.test_meshes.proofs.step.commit.Given as goal

-- the tokens of this call
abbrev pub ghosts-commit_counts : goal.ghosts-commit_counts
ghosts-commit_counts g a = record { spent = a.spent.now; made = a.made.now }
