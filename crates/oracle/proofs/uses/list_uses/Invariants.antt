use Rattle.std.proofs.Common.{◌≡◌, ◌++◌, drop}
use Rattle.oracle.specs.Uses.{listed_in}
use Rattle.oracle.proofs.uses.list_uses.Given as goal

abbrev pub invariant-loop-block : goal.invariant-loop-block
invariant-loop-block g l = listed_in l.blocks ≡ l.uses.items ++ listed_in (drop l.block-index l.blocks)
