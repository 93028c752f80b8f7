use Rattle.std.proofs.Common.{◌≡◌, ◌++◌, ◌-◌, drop, length}
use Rattle.desugar.specs.Forms.{carried_firsts}
use Rattle.desugar.proofs.forms.push_carried_firsts.Given as goal

-- what is left gives the rest of the words
abbrev pub invariant-loop-index : goal.invariant-loop-index
invariant-loop-index g l = l.words.items ++ carried_firsts (drop l.index l.names) (drop l.index l.firsts) ≡ l.initial.words.items ++ carried_firsts l.names l.firsts

abbrev pub decreases-loop-index : goal.decreases-loop-index
decreases-loop-index g l = length l.names - l.index
