use Rattle.std.proofs.Common.{◌≡◌, drop}
use Rattle.graph_check.specs.declared.faults.CheckFaultKind.TheVariants.{CrossesRegion}
use Rattle.graph_check.specs.FirstFault.{first_in, source_fault, sources_fault, wanted_region}
use Rattle.graph_check.proofs.nodes.check_sources.Given as goal

abbrev pub invariant-loop-i : goal.invariant-loop-i
invariant-loop-i g l =
    sources_fault l.named l.block.1 l.n l.region l.kind l.sources
    ≡ first_in (λ i s. source_fault l.named l.block.1 l.n (wanted_region l.block.1 l.region l.kind i) CrossesRegion s) l.i (drop l.i l.sources)
