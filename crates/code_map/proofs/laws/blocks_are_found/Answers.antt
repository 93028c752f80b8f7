use Rattle.code_map.proofs.Codes.{blocks_found}
use Rattle.code_map.proofs.laws.blocks_are_found.Goals as goal

pub returns : goal.returns
returns c = blocks_found
