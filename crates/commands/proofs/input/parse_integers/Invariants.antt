use Rattle.std.proofs.Common.{◌≡◌, ◌+◌, length}
use Rattle.commands.specs.Input.{integers_from, integers_of}
use Rattle.commands.proofs.InputLines.{with_front}
use Rattle.commands.proofs.input.parse_integers.Given as goal

abbrev pub decreases-loop-line : goal.decreases-loop-line
decreases-loop-line g l = length l.rest

abbrev pub invariant-loop-line : goal.invariant-loop-line
invariant-loop-line g l = with_front l.integers.items (integers_from (length l.integers.items + 1) l.rest) ≡ integers_of l.lines
