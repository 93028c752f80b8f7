use Rattle.std.proofs.Common.{◌≡◌, map, take}
use Rattle.schemas.specs.Flows.{array_length}
use Rattle.schemas.proofs.flow.array_lengths.Given as goal

abbrev pub invariant-loop-array : goal.invariant-loop-array
invariant-loop-array g l = l.lengths.items ≡ map array_length (take l.array-index l.arrays)
