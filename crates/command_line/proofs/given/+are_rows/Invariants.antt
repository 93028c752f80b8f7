use Rattle.command_line.proofs.given.+are_rows.Given as goal

abbrev pub decreases-are_rows : goal.decreases-are_rows
decreases-are_rows l = l.room
