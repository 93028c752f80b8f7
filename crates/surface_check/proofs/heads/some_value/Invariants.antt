use Rattle.std.proofs.Common.{◌≡◌, drop}
use Rattle.surface.specs.Known.{some_value}
use Rattle.surface_check.proofs.heads.some_value.Given as goal

abbrev pub invariant-loop-rank : goal.invariant-loop-rank
invariant-loop-rank l = some_value (drop l.rank-index l.ranks) ≡ some_value l.ranks
