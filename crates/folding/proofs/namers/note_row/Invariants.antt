use Rattle.std.proofs.Common.{◌≡◌, ◌+◌}
use Rattle.folding.specs.Namers as of_namers
use Rattle.folding.proofs.namers.note_row.Given as goal

abbrev pub invariant-loop-k : goal.invariant-loop-k
invariant-loop-k l = l.namers ≡ of_namers.note_row l.fn.namers (l.from + l.ahead) l.k
