use Rattle.std.proofs.Common.{◌≡◌, ◌++◌, replicate}
use Rattle.semantics.specs.declared.program.Mark.TheVariants.{Unmarked}
use Rattle.fanout.proofs.blocks.push_unmarked.Given as goal

abbrev pub invariant-loop-copy : goal.invariant-loop-copy
invariant-loop-copy g l = l.marks.items ≡ l.fn.marks.items ++ replicate l._copy Unmarked
