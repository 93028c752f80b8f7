use Rattle.law_end.proofs.OverLast.{releases_last}
use Rattle.law_end.proofs.last_parts.frames_return.Goals as goal

pub returns : goal.returns
returns c = record { release = releases_last }
