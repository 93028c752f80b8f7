use Rattle.std.proofs.Common.{◌≡◌, drop, map}
use Rattle.command_line.specs.Words.{with_inputs}
use Rattle.command_line.proofs.with_inputs.Given as goal

abbrev pub invariant-loop-word : goal.invariant-loop-word
invariant-loop-word g l = with_inputs l.all (drop l.word-index (map g.S.AsStr.text l.words)) ≡ with_inputs l.fn.inputs (map g.S.AsStr.text l.words)
