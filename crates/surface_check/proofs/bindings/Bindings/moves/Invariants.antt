use Rattle.std.proofs.Common.{◌≡◌, length}
use Rattle.source_check.specs.Steps.{since, back, onto}
use Rattle.surface_check.proofs.bindings.Bindings.moves.Given as goal

abbrev pub invariant-loop-self : goal.invariant-loop-self
invariant-loop-self g l = (back l.start l.self ≡ back l.start l.initial.self) × (onto (since l.start l.self) l.to ≡ onto
    (since l.start l.initial.self) l.initial.to)

abbrev pub decreases-loop-self : goal.decreases-loop-self
decreases-loop-self g l = length l.self
