use Rattle.desugar.specs.Passed.{AreFlags}
use Rattle.desugar.proofs.flagging.flags.Given as goal

abbrev pub invariant-loop-index : goal.invariant-loop-index
invariant-loop-index g l = AreFlags l.words l.index l.flags.items l.look

abbrev pub decreases-loop-index : goal.decreases-loop-index
decreases-loop-index g l = l.index
