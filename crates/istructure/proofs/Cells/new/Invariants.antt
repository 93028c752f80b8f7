use Rattle.std.proofs.Common.{◌≡◌, map, replicate}
use Rattle.semantics.specs.Machine.{Vacant}
use Rattle.istructure.specs.CellStates.{state_of}
use Rattle.istructure.proofs.Cells.new.Given as goal

abbrev pub invariant-loop : goal.invariant-loop
invariant-loop g l = map state_of l.own.items ≡ replicate l.counter Vacant
