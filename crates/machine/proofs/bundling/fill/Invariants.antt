use Rattle.std.proofs.Common.{take}
use Rattle.machine.specs.Runners.{KeepsTokens}
use Rattle.machine.proofs.bundling.fill.Given as goal

abbrev pub invariant-loop-at : goal.invariant-loop-at
invariant-loop-at g l = KeepsTokens l.elements l.fn.unposted.items l.unposted.items (take l.at l.sent)
