use Rattle.std.proofs.Common.{◌≡◌, drop}
use Rattle.desugar.specs.Code.{numbers}
use Rattle.desugar.specs.NumbersDesugar.{begun}
use Rattle.desugar.specs.Passed.{paired}
use Rattle.desugar.specs.Steps.{steps}
use Rattle.desugar.proofs.desugar.Given as goal

-- the words that are left, with their flags, give the result of all words
abbrev pub invariant-loop-index : goal.invariant-loop-index
invariant-loop-index g l = steps (numbers l.table.entries l.names) l.maker (paired (drop l.index l.words) (drop l.index l.flags.items))
    ≡ steps (numbers l.table.entries l.names) begun (paired l.words l.flags.items)
