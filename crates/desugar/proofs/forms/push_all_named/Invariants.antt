use Rattle.std.proofs.Common.{◌≡◌, ◌++◌, drop}
use Rattle.desugar.specs.Forms.{all_named}
use Rattle.desugar.proofs.forms.push_all_named.Given as goal

-- the names that are left give the rest of the words
abbrev pub invariant-loop-given : goal.invariant-loop-given
invariant-loop-given g l = l.words.items ++ all_named l.at (drop l.given-index l.names) ≡ l.initial.words.items ++ all_named l.at l.names
