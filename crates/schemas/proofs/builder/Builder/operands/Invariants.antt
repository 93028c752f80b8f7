use Rattle.std.proofs.Common.{◌≡◌, drop, length}
use Rattle.schemas.specs.Builds.{operands}
use Rattle.schemas.proofs.builder.Builder.operands.Given as goal

abbrev pub invariant-loop-position : goal.invariant-loop-position
invariant-loop-position g l =
    (operands l.self l.place l.position (drop l.position l.sources) ≡ operands l.fn.self l.place 0 l.sources)
    × (length l.self.instrs ≡ length l.fn.self.instrs)
