use Rattle.std.proofs.Common.{◌≡◌, ◌*◌, ◌≤◌}
use Rattle.object_view.specs.Fields.{word_at}
use Rattle.object_view.specs.Reading.{instrs_below}
use Rattle.object_view.proofs.tables.Tables.first_of.Given as goal

abbrev pub invariant-loop-earlier : goal.invariant-loop-earlier
invariant-loop-earlier l = record { counted : l.first ≡ instrs_below (word_at l.self.bytes.now) l.earlier; few : l.first ≤ 4294967296 * l.earlier }
