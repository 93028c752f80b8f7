use Rattle.std.proofs.Common.{◌≡◌, ◌+◌}
use Rattle.fanout.specs.Rows as of_rows
use Rattle.fanout.proofs.rows.tie.Given as goal

abbrev pub invariant-loop-k : goal.invariant-loop-k
invariant-loop-k l = l.tied ≡ of_rows.tie l.fn.tied (l.from + l.ahead) l.k
