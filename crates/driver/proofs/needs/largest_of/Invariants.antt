use Rattle.std.proofs.Common.{◌≡◌, drop, max}
use Rattle.semantics.specs.Faithful.{largest}
use Rattle.driver.proofs.needs.largest_of.Given as goal

abbrev pub invariant-loop-block : goal.invariant-loop-block
invariant-loop-block g l = largest l.blocks ≡ max l.most (largest (drop l.block-index l.blocks))
