use Rattle.std.proofs.Common.{◌≡◌, ◌++◌, drop}
use Rattle.desugar.specs.Forms.{all_bound}
use Rattle.desugar.proofs.forms.push_all_bound.Given as goal

-- the names that are left give the rest of the words
abbrev pub invariant-loop-given : goal.invariant-loop-given
invariant-loop-given g l = l.words.items ++ all_bound l.at (drop l.given-index l.names) ≡ l.initial.words.items ++ all_bound l.at l.names
