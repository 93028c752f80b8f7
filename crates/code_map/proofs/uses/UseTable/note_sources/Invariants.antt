use Rattle.std.proofs.Common.{◌≡◌, drop}
use Rattle.schemas.specs.UseCounts.{noted_sources}
use Rattle.code_map.proofs.uses.UseTable.note_sources.Given as goal

abbrev pub invariant-loop-source : goal.invariant-loop-source
invariant-loop-source g l = noted_sources l.self (drop l.source-index l.sources) l.twice ≡ noted_sources l.fn.self l.sources l.twice
