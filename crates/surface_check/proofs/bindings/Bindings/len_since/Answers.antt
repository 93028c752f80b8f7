use Rattle.std.proofs.Common.{sym}
use Rattle.source_check.proofs.Places.{length_since}
use Rattle.surface_check.proofs.bindings.Bindings.len_since.Goals as goal

pub returns : goal.returns
returns g c = rw (c.saturating_sub.ensures, c.len.ensures) (sym (length_since c.args.start c.args.self.now))
