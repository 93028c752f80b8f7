use Rattle.std.proofs.Common.{◌≡◌, ◌++◌, length, map}
use Rattle.source.specs.Lowered as lowered
use Rattle.lowering.proofs.built.nodes_of_lines.Given as goal

abbrev pub invariant-loop-line : goal.invariant-loop-line
invariant-loop-line g l = l.nodes.items ++ map lowered.node_of l.rest.items ≡ map lowered.node_of l.fn.made.items

abbrev pub decreases-loop-line : goal.decreases-loop-line
decreases-loop-line g l = length l.rest.items
