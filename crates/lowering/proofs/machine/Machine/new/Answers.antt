use Rattle.std.proofs.Common.{refl}
use Rattle.lowering.proofs.machine.Machine.new.Goals as goal

pub returns : goal.returns
returns g c = rw (
  c.nameless.ensures,
  c.in_ok-new.ensures,
  c.new-2.ensures.items,
  c.new-3.ensures.items,
  c.new-4.ensures.items,
  c.new-5.ensures,
  c.new-6.ensures.items,
) refl
