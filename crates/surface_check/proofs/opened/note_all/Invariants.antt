use Rattle.std.proofs.Common.{◌≡◌, [], length}
use Rattle.source_check.specs.Steps.{since}
use Rattle.surface_check.specs.Machine.{is_hidden}
use Rattle.surface_check.specs.Renamed.{numbers_in}
use Rattle.surface_check.specs.Steps.{all_noted}
use Rattle.surface_check.proofs.opened.note_all.Given as goal

abbrev pub invariant-loop-turn : goal.invariant-loop-turn
invariant-loop-turn g l = all_noted (numbers_in []) (is_hidden l.table l.arrays) (since l.turn.base l.scope) l.turn.start l.used l.names ≡ all_noted
    (numbers_in []) (is_hidden l.table l.arrays) (since l.turn.base l.scope) l.turn.start l.initial.used l.initial.names

abbrev pub decreases-loop-turn : goal.decreases-loop-turn
decreases-loop-turn g l = length l.names
