use Rattle.std.proofs.Common.{refl}
use Rattle.lowering.proofs.machine.Machine.close.Goals as goal

pub returns : goal.returns
returns g c = rw (
  ← c.self.view_is,
  c.nameless.ensures,
  c.replace-inner.ensures.after,
  c.in_ok-empty.ensures,
  c.replace-open.ensures.after,
  c.new-none.ensures,
) refl
