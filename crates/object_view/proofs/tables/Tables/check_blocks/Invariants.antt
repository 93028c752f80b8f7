use Rattle.std.proofs.Common.{◌≡◌, ◌-◌}
use Rattle.object_view.specs.Fields.{word_at}
use Rattle.object_view.specs.Reading.{instrs_below}
use Rattle.object_view.specs.Checks.{each, block_checked}
use Rattle.object_view.proofs.tables.Tables.check_blocks.Given as goal

abbrev pub invariant-loop-block : goal.invariant-loop-block
invariant-loop-block l =
    record {
      passed : each (block_checked (word_at l.self.bytes.now)) l.block (l.self.blocks - l.block)
          ≡ each (block_checked (word_at l.self.bytes.now)) 0 l.self.blocks;
      counted : l.first ≡ instrs_below (word_at l.self.bytes.now) l.block;
    }
