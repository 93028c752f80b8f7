use Rattle.chosen_cells.proofs.choice.+length_in.Given as goal

abbrev pub decreases-length_in : goal.decreases-length_in
decreases-length_in l = l.room
