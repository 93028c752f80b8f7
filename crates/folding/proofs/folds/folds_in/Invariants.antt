use Rattle.std.proofs.Common.{◌≡◌, ◌++◌, drop}
use Rattle.folding.specs.Folds as of_folds
use Rattle.folding.proofs.folds.folds_in.Given as goal

abbrev pub invariant-loop-number : goal.invariant-loop-number
invariant-loop-number g l = l.folds.items ++ of_folds.folds_from l.namers l.instrs l.number (drop l.number l.instrs)
    ≡ of_folds.folds_from l.namers l.instrs 0 l.instrs
