use Rattle.std.proofs.Common.{◌≡◌, ◌+◌, drop, length}
use Rattle.source.specs.Tokens.{lines_before_inputs, program_of}
use Rattle.source_tokens.proofs.parting.program_len.Given as goal

abbrev pub invariant-loop-at : goal.invariant-loop-at
invariant-loop-at l = l.at + length (lines_before_inputs l.fresh (drop l.at l.text)) ≡ length (program_of l.text)
