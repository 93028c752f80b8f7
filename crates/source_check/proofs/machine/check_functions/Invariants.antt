use Rattle.std.proofs.Common.{◌≡◌, drop}
use Rattle.source_check.specs.Steps.{begun, steps}
use Rattle.source_check.specs.Stack.{numbers}
use Rattle.source_check.proofs.machine.check_functions.Given as goal

-- the words that are left give the result of all words
abbrev pub invariant-loop-word : goal.invariant-loop-word
invariant-loop-word g l = steps (numbers l.table) l.machine (drop l.word-index l.words) ≡ steps (numbers l.table) begun l.words
