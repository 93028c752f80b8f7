use Rattle.std.proofs.Common.{◌≡◌, drop}
use Rattle.slot_alloc.specs.Words.{own_each}
use Rattle.slot_alloc.proofs.passes.own_each.Given as goal

abbrev pub invariant-loop-dest : goal.invariant-loop-dest
invariant-loop-dest l = own_each l.own l.lanes (drop l.dest-index l.dests) ≡ own_each l.fn.flows l.lanes l.dests
