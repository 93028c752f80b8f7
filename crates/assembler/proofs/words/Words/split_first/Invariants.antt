use Rattle.std.proofs.Common.{◌≡◌, length}
use Rattle.assembler.specs.Words.{kept}
use Rattle.assembler.proofs.words.Words.split_first.Given as goal

abbrev pub decreases-loop-part : goal.decreases-loop-part
decreases-loop-part l = length l.rest

abbrev pub invariant-loop-part : goal.invariant-loop-part
invariant-loop-part l = kept l.rest ≡ l.fn.self
