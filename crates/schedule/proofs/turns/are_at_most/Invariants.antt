use Rattle.std.proofs.Common.{◌≡◌, ◌+◌, drop, length, map}
use Rattle.element.specs.Holding.{held_of}
use Rattle.schedule.specs.State.{tokens_in}
use Rattle.schedule.specs.Turns.{others}
use Rattle.schedule.proofs.turns.are_at_most.Given as goal

abbrev pub invariant-loop-place : goal.invariant-loop-place
invariant-loop-place g l = others (map held_of l.lanes) + l.left ≡ l.most + length (tokens_in (drop l.place (map held_of l.lanes)))
