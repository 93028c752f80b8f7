use Rattle.std.proofs.Common.{◌≡◌, [], length}
use Rattle.source_check.specs.Steps.{since, all_noted}
use Rattle.source_check.specs.Stack.{numbers}
use Rattle.source_check.proofs.machine.note_all.Given as goal

abbrev pub invariant-loop-turn : goal.invariant-loop-turn
invariant-loop-turn g l = all_noted (numbers []) (since l.turn.base l.scope) l.turn.start l.used l.names ≡ all_noted (numbers [])
    (since l.turn.base l.scope) l.turn.start l.initial.used l.initial.names

abbrev pub decreases-loop-turn : goal.decreases-loop-turn
decreases-loop-turn g l = length l.names
