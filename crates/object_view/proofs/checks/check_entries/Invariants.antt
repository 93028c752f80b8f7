use Rattle.std.proofs.Common.{◌≡◌, ◌*◌, ◌≤◌, ◌-◌}
use Rattle.object_view.specs.Fields.{word_at}
use Rattle.object_view.specs.Reading.{instrs_below}
use Rattle.object_view.specs.Checks.{each, entry_checked}
use Rattle.object_view.proofs.checks.check_entries.Given as goal

abbrev pub invariant-loop-block : goal.invariant-loop-block
invariant-loop-block l =
    record {
      passed : each (entry_checked (word_at l.bytes)) l.block (l.blocks - l.block) ≡ each (entry_checked (word_at l.bytes)) 0 l.blocks;
      counted
          : l.instrs ≡ instrs_below (word_at l.bytes) l.block;
      few : l.instrs ≤ 32768 * l.block;
    }
