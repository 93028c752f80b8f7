use Rattle.std.proofs.Common.{◌≡◌, ◌++◌, drop, []}
use Rattle.fanout.specs.Narrowed as of_blocks
use Rattle.fanout.proofs.blocks.spread_marks.Given as goal

abbrev pub invariant-loop-number : goal.invariant-loop-number
invariant-loop-number g l =
    l.list.items ++ of_blocks.spread_marks l.layout.tied l.marks l.number l.waiting.items (drop l.number l.instrs)
    ≡ of_blocks.spread_marks l.layout.tied l.marks 0 [] l.instrs
