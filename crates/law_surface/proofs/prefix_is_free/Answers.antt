use Rattle.law_surface.proofs.PrefixIsFree.{prefix_is_free}
use Rattle.law_surface.proofs.prefix_is_free.Goals as goal

pub returns : goal.returns
returns c = record { law = prefix_is_free }
