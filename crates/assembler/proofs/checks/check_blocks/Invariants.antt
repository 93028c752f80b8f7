use Rattle.std.proofs.Common.{◌≡◌, ◌+◌, ◌*◌, ◌≤◌, drop}
use Rattle.assembler.specs.Checks.{each, block_checked, lines_before, blocks_checked}
use Rattle.assembler.proofs.checks.check_blocks.Given as goal

abbrev pub invariant-loop-block : goal.invariant-loop-block
invariant-loop-block g l = record {
  so_far : each (λ n b. block_checked l.version l.code (lines_before l.code.program.blocks n) b) l.block-index
      (drop l.block-index l.code.program.blocks) ≡ blocks_checked l.version l.code;
  line : l.index ≡ lines_before l.code.program.blocks l.block-index;
  few : l.index ≤ 1 + 32769 * l.block-index;
}
