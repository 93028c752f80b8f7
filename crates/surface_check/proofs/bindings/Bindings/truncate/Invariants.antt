use Rattle.std.proofs.Common.{◌≡◌, length}
use Rattle.source_check.specs.Steps.{back}
use Rattle.surface_check.proofs.bindings.Bindings.truncate.Given as goal

abbrev pub invariant-loop-self : goal.invariant-loop-self
invariant-loop-self g l = back l.len l.self ≡ back l.len l.initial.self

abbrev pub decreases-loop-self : goal.decreases-loop-self
decreases-loop-self g l = length l.self
