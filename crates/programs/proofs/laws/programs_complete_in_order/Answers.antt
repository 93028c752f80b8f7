use Rattle.programs.proofs.InOrder.{ordered_programs_complete}
use Rattle.programs.proofs.laws.programs_complete_in_order.Goals as goal

pub returns : goal.returns
returns c = ordered_programs_complete c.programs_complete_in_order.ensures.rests
