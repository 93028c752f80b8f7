use Rattle.std.proofs.Common.{◌≡◌, ◌-◌, ◌+◌}
use Rattle.object_view.specs.Fields.{word_at}
use Rattle.object_view.specs.Checks.{each, instr_checked}
use Rattle.object_view.proofs.tables.Tables.check_block.Given as goal

abbrev pub invariant-loop-ip : goal.invariant-loop-ip
invariant-loop-ip l =
    record {
      passed : each (instr_checked (word_at l.self.bytes.now) l.slots (l.first + l.count)) l.ip (l.end - l.ip)
          ≡ each (instr_checked (word_at l.self.bytes.now) l.slots (l.first + l.count)) l.first l.count;
      ends : l.end ≡ l.first + l.count;
    }
