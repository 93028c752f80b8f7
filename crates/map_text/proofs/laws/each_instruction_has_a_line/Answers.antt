use Rattle.map_text.proofs.EachLine.{each_has_line}
use Rattle.map_text.proofs.laws.each_instruction_has_a_line.Goals as goal

pub returns : goal.returns
returns c = each_has_line
