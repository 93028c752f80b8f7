use Rattle.std.proofs.Common.{◌≡◌, drop, map}
use Rattle.command_line.specs.Files.{given_of, no_words}
use Rattle.command_line.proofs.given.given_after.Given as goal

abbrev pub invariant-loop-i : goal.invariant-loop-i
invariant-loop-i g l =
    given_of l.command l.walk (drop l.i (map g.S.AsStr.text l.words)) ≡ given_of l.command no_words (map g.S.AsStr.text l.words)
