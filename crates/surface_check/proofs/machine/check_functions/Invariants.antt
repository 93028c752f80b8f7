use Rattle.std.proofs.Common.{◌≡◌, drop}
use Rattle.surface_check.specs.Machine.{ahead, items_in, state_in}
use Rattle.surface_check.specs.Renamed.{numbers_in}
use Rattle.surface_check.specs.Steps.{Plain, begun, steps}
use Rattle.surface_check.proofs.machine.check_functions.Given as goal

-- the words that are left give the result of all words
abbrev pub invariant-loop-index : goal.invariant-loop-index
invariant-loop-index g l = (l.ahead ≡ ahead (drop l.index l.words)) × (steps (numbers_in l.names) (items_in l.table) (state_in l.machine)
    (drop l.index l.words) ≡ steps (numbers_in l.names) (items_in l.table) (Plain begun) l.words)
