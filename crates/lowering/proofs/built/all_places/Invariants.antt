use Rattle.std.proofs.Common.{◌≡◌, take, map}
use Rattle.source.specs.Tree.{Name}
use Rattle.source.specs.Lowered.{MadeBlock}
use Rattle.lowering.specs.Built.{places_of}
use Rattle.lowering.proofs.built.all_places.Given as goal

abbrev pub invariant-loop-of_function : goal.invariant-loop-of_function
invariant-loop-of_function g l = l.places.items ≡ map (λ (b : Name × MadeBlock). places_of b.1) (take l.of_function-index l.made)
