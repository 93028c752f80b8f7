use Rattle.std.proofs.Common.{◌≡◌, drop, length}
use Rattle.schemas.specs.Builds.{alternatives}
use Rattle.schemas.proofs.builder.Builder.alternatives.Given as goal

abbrev pub invariant-loop-source : goal.invariant-loop-source
invariant-loop-source g l =
    (alternatives l.self l.place (drop l.source-index l.sources) ≡ alternatives l.fn.self l.place l.sources)
    × (length l.self.instrs ≡ length l.fn.self.instrs)
