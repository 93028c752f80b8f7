use Rattle.std.proofs.Common.{◌≡◌, ℕ, List, drop}
use Rattle.semantics.specs.Graph.{Block}
use Rattle.graph_check.specs.FirstFault.{first_in, block_fault, all_blocks_fault}
use Rattle.graph_check.proofs.check_blocks.Given as goal

abbrev pub invariant-loop-i : goal.invariant-loop-i
invariant-loop-i g l =
    all_blocks_fault l.named l.blocks ≡ first_in (λ i (named : List ℕ × Block (List ℕ)). block_fault l.named i named.1) l.i (drop l.i l.blocks)
