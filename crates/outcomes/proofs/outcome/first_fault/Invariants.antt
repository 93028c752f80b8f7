use Rattle.std.proofs.Common.{◌≡◌, drop}
use Rattle.outcomes.specs.Outcomes.{first_fault}
use Rattle.outcomes.proofs.outcome.first_fault.Given as goal

abbrev pub invariant-loop-output : goal.invariant-loop-output
invariant-loop-output l = first_fault l.outputs ≡ first_fault (drop l.output-index l.outputs)
