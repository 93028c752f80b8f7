use Rattle.std.proofs.Common.{◌≡◌, drop}
use Rattle.folding.specs.Folds as of_folds
use Rattle.folding.proofs.folds.all_closed.Given as goal

abbrev pub invariant-loop-dest : goal.invariant-loop-dest
invariant-loop-dest l = of_folds.all_closed l.folds l.number (drop l.dest-index l.dests) ≡ of_folds.all_closed l.folds l.number l.dests
