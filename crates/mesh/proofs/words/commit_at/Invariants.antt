use Rattle.mesh.proofs.words.commit_at.Given as goal

-- the tokens of this call
abbrev pub ghosts-commit_as : goal.ghosts-commit_as
ghosts-commit_as g a = record { spent = a.spent.now; made = a.made.now }
