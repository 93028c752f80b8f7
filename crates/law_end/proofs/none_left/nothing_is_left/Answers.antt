use Rattle.law_end.proofs.Clean.{all_clean_at_rest}
use Rattle.law_end.proofs.none_left.nothing_is_left.Goals as goal

pub returns : goal.returns
returns c = record { clean = all_clean_at_rest }
