use Rattle.process.proofs.run_explained.Given as goal

abbrev pub ghosts-run_from : goal.ghosts-run_from
ghosts-run_from g a = record { remaining = g.I.Read.remaining a.reader }
