use Rattle.command_line.proofs.options.+sizes_from.Given as goal

abbrev pub decreases-sizes_from : goal.decreases-sizes_from
decreases-sizes_from l = l.room
