use Rattle.std.proofs.Common.{◌≡◌, ◌+◌, drop, length}
use Rattle.schemas.specs.Tails.{switches}
use Rattle.schemas.proofs.tail.switches.Given as goal

abbrev pub invariant-loop-source : goal.invariant-loop-source
invariant-loop-source g l =
    (switches l.builder l.flag (drop l.source-index l.values) ≡ switches l.fn.builder l.flag l.values)
    × (length l.builder.instrs ≡ length l.fn.builder.instrs + l.source-index)
