use Rattle.std.proofs.Common.{◌≡◌, ◌*◌, ◌≤◌, ◌-◌}
use Rattle.object_view.specs.Fields.{word_at}
use Rattle.object_view.specs.Checks.{each, array_checked, cells_below}
use Rattle.object_view.proofs.tables.Tables.check_arrays.Given as goal

abbrev pub invariant-loop-number : goal.invariant-loop-number
invariant-loop-number l =
    record {
      passed : each (array_checked (word_at l.self.bytes.now)) l.number (l.self.arrays - l.number)
          ≡ each (array_checked (word_at l.self.bytes.now)) 0 l.self.arrays;
      counted : l.cells ≡ cells_below (word_at l.self.bytes.now) l.number;
      few :
          l.cells ≤ 65536 * l.number;
    }
