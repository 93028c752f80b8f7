use Rattle.code_map.proofs.Closing.{joins_have_owners}
use Rattle.code_map.proofs.laws.joins_have_owners.Goals as goal

pub returns : goal.returns
returns c = joins_have_owners
