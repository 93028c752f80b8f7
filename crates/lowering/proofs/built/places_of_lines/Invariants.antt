use Rattle.std.proofs.Common.{◌≡◌, take, map}
use Rattle.source.specs.Lowered as lowered
use Rattle.lowering.proofs.built.places_of_lines.Given as goal

abbrev pub invariant-loop-line : goal.invariant-loop-line
invariant-loop-line g l = l.places.items ≡ map (λ (m : lowered.Made). m.at) (take l.line-index l.made)
