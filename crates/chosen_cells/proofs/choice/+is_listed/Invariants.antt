use Rattle.chosen_cells.proofs.choice.+is_listed.Given as goal

abbrev pub decreases-is_listed : goal.decreases-is_listed
decreases-is_listed l = l.room
