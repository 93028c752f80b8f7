use Rattle.std.proofs.Common.{◌≡◌, ◌++◌, drop}
use Rattle.folding.specs.Folds as of_folds
use Rattle.folding.proofs.folds.gone_in.Given as goal

abbrev pub invariant-loop-number : goal.invariant-loop-number
invariant-loop-number g l = l.gone.items ++ of_folds.gone_from l.folds l.number (drop l.number l.instrs) ≡ of_folds.gone_from l.folds 0 l.instrs
