use Rattle.std.proofs.Common.{◌≡◌, drop}
use Rattle.commands.specs.Profiled.{first_failed}
use Rattle.commands.proofs.profiling.first_failed.Given as goal

abbrev pub invariant-loop-row : goal.invariant-loop-row
invariant-loop-row l = first_failed l.rows ≡ first_failed (drop l.row-index l.rows)
