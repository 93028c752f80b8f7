use Rattle.packed.proofs.TokensBack.{token_packing_exact}
use Rattle.packed.proofs.token.token_packing_is_exact.Goals as goal

pub returns : goal.returns
returns c = token_packing_exact
