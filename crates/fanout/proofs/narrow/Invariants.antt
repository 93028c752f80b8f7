use Rattle.std.proofs.Common.{◌≡◌, ◌++◌, drop, map}
use Rattle.fanout.specs.Narrowed.{narrowed_blocks, all_marks}
use Rattle.fanout.proofs.narrow.Given as goal

abbrev pub invariant-loop-number : goal.invariant-loop-number
invariant-loop-number g l = record {
  blocks : l.blocks.items ++ narrowed_blocks l.fn.plan (drop l.number l.fn.plan.program.blocks) ≡ narrowed_blocks l.fn.plan l.fn.plan.program.blocks;
  marks : map (λ v. v.items) l.marks.items ++ all_marks l.fn.plan l.number (drop l.number l.fn.plan.program.blocks)
      ≡ all_marks l.fn.plan 0 l.fn.plan.program.blocks;
}
