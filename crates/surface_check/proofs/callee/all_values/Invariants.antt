use Rattle.std.proofs.Common.{◌≡◌, drop}
use Rattle.surface.specs.Known.{all_values}
use Rattle.surface_check.proofs.callee.all_values.Given as goal

abbrev pub invariant-loop-rank : goal.invariant-loop-rank
invariant-loop-rank l = all_values (drop l.rank-index l.ranks) ≡ all_values l.ranks
