use Rattle.surface_check.proofs.KnownHeads.{known_when, refused_when}
use Rattle.surface_check.proofs.heads.read_heads.Goals as goal

pub returns-clause-known : goal.returns-clause-known
returns-clause-known g c = known_when c.args.names.now c.args.words.now c.read.result c.read.ensures

pub returns-clause-refused : goal.returns-clause-refused
returns-clause-refused g c = λ p i. refused_when c.args.names.now c.args.words.now c.read.result c.read.ensures p i
