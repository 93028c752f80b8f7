use Rattle.std.proofs.Common.{◌≡◌, ◌++◌, drop, map}
use Rattle.fanout.specs.Trees.{leaf}
use Rattle.fanout.proofs.trees.side.Given as goal

abbrev pub invariant-loop-dest : goal.invariant-loop-dest
invariant-loop-dest g l = l.side.items ++ map (leaf l.layout l.number l.at) (drop l.dest-index l.dests) ≡ map (leaf l.layout l.number l.at) l.dests
