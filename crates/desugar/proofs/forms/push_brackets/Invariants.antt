use Rattle.std.proofs.Common.{◌≡◌, ◌++◌, replicate}
use Rattle.source.specs.declared.word.Word.TheVariants as word
use Rattle.desugar.proofs.forms.push_brackets.Given as goal

abbrev pub invariant-loop : goal.invariant-loop
invariant-loop g l = l.words.items ≡ l.initial.words.items ++ replicate l.counter word.Bracket
