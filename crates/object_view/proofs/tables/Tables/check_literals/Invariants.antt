use Rattle.std.proofs.Common.{◌≡◌, ◌-◌}
use Rattle.object_view.specs.Fields.{word_at}
use Rattle.object_view.specs.Checks.{each, literal_checked}
use Rattle.object_view.proofs.tables.Tables.check_literals.Given as goal

abbrev pub invariant-loop-number : goal.invariant-loop-number
invariant-loop-number l = each (literal_checked (word_at l.self.bytes.now)) l.number (l.pairs - l.number)
    ≡ each (literal_checked (word_at l.self.bytes.now)) 0 l.pairs
