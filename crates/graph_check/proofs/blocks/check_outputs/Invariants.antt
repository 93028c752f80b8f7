use Rattle.std.proofs.Common.{◌≡◌, drop}
use Rattle.semantics.specs.declared.graph.Region.TheVariants.{Root}
use Rattle.graph_check.specs.declared.faults.CheckFaultKind.TheVariants.{OutNotRoot}
use Rattle.graph_check.specs.FirstFault.{first_in, source_fault, outputs_fault}
use Rattle.graph_check.proofs.blocks.check_outputs.Given as goal

abbrev pub invariant-loop-source : goal.invariant-loop-source
invariant-loop-source g l =
    outputs_fault l.named l.block.1 l.n l.sources
    ≡ first_in (λ i s. source_fault l.named l.block.1 l.n Root OutNotRoot s) l.source-index (drop l.source-index l.sources)
