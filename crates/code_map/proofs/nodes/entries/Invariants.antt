use Rattle.std.proofs.Common.{◌≡◌}
use Rattle.semantics.specs.declared.graph.Region.TheVariants.{Root}
use Rattle.code_map.specs.declared.part.Part.TheVariants.{Continuation}
use Rattle.code_map.specs.Counts as Counts
use Rattle.code_map.proofs.nodes.entries.Given as goal

abbrev pub invariant-loop-input : goal.invariant-loop-input
invariant-loop-input g l = l.rows ≡ Counts.laid_inputs (Counts.laid Counts.no_rows 1 Continuation Root) l.input
