use Rattle.std.proofs.Common.{◌≡◌, ◌+◌, length}
use Rattle.schemas.specs.Builds.{copies}
use Rattle.schemas.proofs.builder.Builder.copies.Given as goal

abbrev pub invariant-loop-copy : goal.invariant-loop-copy
invariant-loop-copy g l = (l.self ≡ copies l.fn.self l.region l._copy) × (length l.self.instrs ≡ length l.fn.self.instrs + l._copy)
