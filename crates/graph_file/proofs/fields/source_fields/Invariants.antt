use Rattle.std.proofs.Common.{◌≡◌, length}
use Rattle.graph_file.specs.Fields.{sources_from}
use Rattle.graph_file.proofs.Loops.{with_front}
use Rattle.graph_file.proofs.fields.source_fields.Given as goal

abbrev pub decreases-loop-field : goal.decreases-loop-field
decreases-loop-field g l = length l.rest

abbrev pub invariant-loop-field : goal.invariant-loop-field
invariant-loop-field g l = with_front l.sources.items (sources_from l.rest) ≡ sources_from l.fn.fields
