use Rattle.std.proofs.Common.{◌≡◌, ◌++◌, drop}
use Rattle.folding.specs.Folded as of_blocks
use Rattle.folding.proofs.blocks.moved_marks.Given as goal

abbrev pub invariant-loop-number : goal.invariant-loop-number
invariant-loop-number g l = l.list.items ++ of_blocks.marks_from l.layout l.marks l.number (drop l.number l.instrs)
    ≡ of_blocks.marks_from l.layout l.marks 0 l.instrs
