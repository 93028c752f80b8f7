use Rattle.std.proofs.Common.{◌≡◌, ◌+◌, drop, length}
use Rattle.schemas.specs.Rows.{sends}
use Rattle.schemas.proofs.rows.sends.Given as goal

abbrev pub invariant-loop-position : goal.invariant-loop-position
invariant-loop-position g l =
    (sends l.builder l.frame l.block l.region l.position (drop l.position l.sources) ≡ sends l.fn.builder l.frame l.block l.region 0 l.sources)
    × (length l.builder.instrs ≡ length l.fn.builder.instrs + l.position)
