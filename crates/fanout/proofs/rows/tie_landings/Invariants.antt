use Rattle.std.proofs.Common.{◌≡◌, drop}
use Rattle.fanout.specs.Rows as of_rows
use Rattle.fanout.proofs.rows.tie_landings.Given as goal

abbrev pub invariant-loop-dest : goal.invariant-loop-dest
invariant-loop-dest l = of_rows.tie_landings l.tied l.from l.size (drop l.dest-index l.dests) ≡ of_rows.tie_landings l.fn.tied l.from l.size l.dests
