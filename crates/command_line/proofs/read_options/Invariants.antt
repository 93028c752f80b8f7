use Rattle.std.proofs.Common.{◌≡◌, None, drop, map}
use Rattle.command_line.specs.Words.{asked_of, no_inputs, nothing}
use Rattle.command_line.proofs.read_options.Given as goal

abbrev pub invariant-loop-i : goal.invariant-loop-i
invariant-loop-i g l =
    asked_of l.command l.collected l.inputs l.waiting (drop l.i (map g.S.AsStr.text l.words)) ≡ asked_of l.command nothing no_inputs None
    (map g.S.AsStr.text l.words)
