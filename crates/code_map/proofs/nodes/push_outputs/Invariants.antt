use Rattle.std.proofs.Common.{◌≡◌, drop}
use Rattle.code_map.specs.Counts as Counts
use Rattle.code_map.proofs.nodes.push_outputs.Given as goal

abbrev pub invariant-loop-index : goal.invariant-loop-index
invariant-loop-index g l = Counts.laid_outputs l.rows l.index (drop l.index l.results) ≡ Counts.laid_outputs l.fn.rows 0 l.results
