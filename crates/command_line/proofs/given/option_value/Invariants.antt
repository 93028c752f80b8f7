use Rattle.std.proofs.Common.{◌≡◌, drop, map}
use Rattle.command_line.specs.Files.{option_value}
use Rattle.command_line.proofs.given.option_value.Given as goal

abbrev pub invariant-loop-i : goal.invariant-loop-i
invariant-loop-i g l =
    option_value l.name (drop l.i (map g.S.AsStr.text l.words)) ≡ option_value l.name (map g.S.AsStr.text l.words)
