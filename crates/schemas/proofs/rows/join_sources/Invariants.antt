use Rattle.std.proofs.Common.{◌≡◌, ◌+◌, drop, length}
use Rattle.schemas.specs.Rows.{join_sources}
use Rattle.schemas.proofs.rows.join_sources.Given as goal

abbrev pub invariant-loop-source : goal.invariant-loop-source
invariant-loop-source g l =
    (join_sources l.builder l.signal l.region (drop l.source-index l.sources) ≡ join_sources l.fn.builder l.fn.first l.region l.sources)
    × (length l.builder.instrs ≡ length l.fn.builder.instrs + l.source-index)
