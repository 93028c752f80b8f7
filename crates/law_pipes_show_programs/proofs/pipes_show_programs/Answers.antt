use Rattle.law_pipes_show_programs.proofs.Piped.{commands_show_programs}
use Rattle.law_pipes_show_programs.proofs.pipes_show_programs.Goals as goal

pub returns : goal.returns
returns c = commands_show_programs c.programs_complete_in_order.ensures.rests
