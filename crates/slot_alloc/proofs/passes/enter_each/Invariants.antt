use Rattle.std.proofs.Common.{◌≡◌, drop}
use Rattle.slot_alloc.specs.Words.{enter_each}
use Rattle.slot_alloc.proofs.passes.enter_each.Given as goal

abbrev pub invariant-loop-dest : goal.invariant-loop-dest
invariant-loop-dest l = enter_each l.flows l.from l.lanes (drop l.dest-index l.dests) ≡ enter_each l.fn.flows l.from l.lanes l.dests
