use Rattle.std.proofs.Common.{◌≡◌}
use Rattle.source.specs.Lowered.{ports_from}
use Rattle.lowering.proofs.values.ports.Given as goal

abbrev pub invariant-loop : goal.invariant-loop
invariant-loop g l = (l.sources.items ≡ ports_from l.node 0 l.counter) × (l.port ≡ l.counter)
