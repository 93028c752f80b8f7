use Rattle.std.proofs.Common.{◌≡◌}
use Rattle.code_map.specs.Numbered as Numbered
use Rattle.code_map.proofs.carried.places.Given as goal

abbrev pub invariant-loop-place : goal.invariant-loop-place
invariant-loop-place g l = l.marks.items ≡ Numbered.places l.place
