use Rattle.code_map.proofs.Tails.{tails_have_owners}
use Rattle.code_map.proofs.laws.tails_have_owners.Goals as goal

pub returns : goal.returns
returns c = tails_have_owners
