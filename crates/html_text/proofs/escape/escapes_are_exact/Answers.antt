use Rattle.html_text.proofs.Escapes.{escapes_inert, escapes_read}
use Rattle.html_text.proofs.escape.escapes_are_exact.Goals as goal

pub returns-clause-inert : goal.returns-clause-inert
returns-clause-inert c = escapes_inert

pub returns-clause-read_back : goal.returns-clause-read_back
returns-clause-read_back c = escapes_read
