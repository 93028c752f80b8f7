use Rattle.code_map.proofs.Variant.{variant_has_owners}
use Rattle.code_map.proofs.laws.variant_has_owners.Goals as goal

pub returns : goal.returns
returns c = variant_has_owners
