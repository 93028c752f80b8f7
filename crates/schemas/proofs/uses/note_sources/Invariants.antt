use Rattle.std.proofs.Common.{◌≡◌, false, drop}
use Rattle.schemas.specs.UseCounts.{noted_sources}
use Rattle.schemas.proofs.uses.note_sources.Given as goal

abbrev pub invariant-loop-source : goal.invariant-loop-source
invariant-loop-source l = noted_sources l.uses (drop l.source-index l.sources) false ≡ noted_sources l.fn.uses l.sources false
