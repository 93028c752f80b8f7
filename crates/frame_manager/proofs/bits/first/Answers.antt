use Rattle.std.proofs.Common.{refl, arith, get_or}
use Rattle.frame_manager.proofs.Words.{first_there}
use Rattle.frame_manager.proofs.bits.first.Goals as goal

pub returns-then-word-ne0-clause-some : goal.returns-then-word-ne0-clause-some
returns-then-word-ne0-clause-some c =
    first_there c.args.words.now c.loop-place.place (get_or c.args.words.now c.loop-place.place 0) c.loop-place.invariant refl (omega arith)
    (omega (arith, c.type_inv.words c.loop-place.place))
