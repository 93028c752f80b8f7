use Rattle.std.proofs.Common.{◌≡◌, ◌+◌, Some, drop}
use Rattle.graph_check.specs.FirstFault.{first_in, fault_at, node_fault, lines_fault}
use Rattle.graph_check.proofs.blocks.check_lines.Given as goal

abbrev pub invariant-loop-i : goal.invariant-loop-i
invariant-loop-i g l =
    lines_fault l.named l.number l.block.1 l.inputs l.nodes
    ≡ first_in (λ i node. fault_at (Some l.number) (Some (l.inputs + i)) (node_fault l.named l.block.1 (l.inputs + i) node)) l.i (drop l.i l.nodes)
