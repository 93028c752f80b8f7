use Rattle.std.proofs.Common.{◌≡◌, ◌++◌, drop}
use Rattle.desugar.specs.Forms.{all_given}
use Rattle.desugar.proofs.forms.push_all_given.Given as goal

-- the values that are left give the rest of the words
abbrev pub invariant-loop-first : goal.invariant-loop-first
invariant-loop-first g l = l.words.items ++ all_given (drop l.first-index l.firsts) ≡ l.initial.words.items ++ all_given l.firsts
