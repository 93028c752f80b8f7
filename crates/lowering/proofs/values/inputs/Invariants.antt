use Rattle.std.proofs.Common.{◌≡◌, ◌+◌}
use Rattle.source.specs.Lowered.{inputs_from}
use Rattle.lowering.proofs.values.inputs.Given as goal

abbrev pub invariant-loop : goal.invariant-loop
invariant-loop g l = (l.sources.items ≡ inputs_from l.first l.counter) × (l.node ≡ l.first + l.counter)
