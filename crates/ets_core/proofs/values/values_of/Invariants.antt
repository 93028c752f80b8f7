use Rattle.std.proofs.Common.{◌≡◌, map, take}
use Rattle.ets_core.specs.Values.{value_of}
use Rattle.ets_core.proofs.values.values_of.Given as goal

abbrev pub invariant-loop-output : goal.invariant-loop-output
invariant-loop-output l = l.values.items ≡ map value_of (take l.output-index l.outputs)
