use Rattle.std.proofs.Common.{◌≡◌, ◌++◌, drop}
use Rattle.folding.specs.Moved as of_moved
use Rattle.folding.proofs.moved.moved_dests.Given as goal

abbrev pub invariant-loop-dest : goal.invariant-loop-dest
invariant-loop-dest g l = l.list.items ++ of_moved.moved_dests l.layout l.number (drop l.dest-index l.dests) ≡ of_moved.moved_dests l.layout l.number l.dests
