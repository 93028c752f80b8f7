use Rattle.code_map.proofs.Variant.{variant_is_found}
use Rattle.code_map.proofs.laws.variant_is_found.Goals as goal

pub returns : goal.returns
returns c = variant_is_found
