use Rattle.std.proofs.Common.{◌≡◌, ◌++◌}
use Rattle.fanout.specs.Trees.{tree}
use Rattle.fanout.proofs.trees.push_tree.Given as goal

abbrev pub invariant-loop-copy : goal.invariant-loop-copy
invariant-loop-copy g l = l.instrs.items ≡ l.fn.instrs.items ++ tree l.layout l.number l.root l.dests l.copy
