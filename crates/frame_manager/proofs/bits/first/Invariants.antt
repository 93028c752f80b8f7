use Rattle.std.proofs.Common.{◌*◌}
use Rattle.frame_manager.proofs.Words.{NoneBelow}
use Rattle.frame_manager.proofs.bits.first.Given as goal

abbrev pub invariant-loop-place : goal.invariant-loop-place
invariant-loop-place l = NoneBelow l.words (64 * l.place)
