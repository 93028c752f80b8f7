use Rattle.std.proofs.Common.{◌≡◌, drop}
use Rattle.slot_alloc.specs.Words.{enter_landings}
use Rattle.slot_alloc.proofs.passes.enter_landings.Given as goal

abbrev pub invariant-loop-dest : goal.invariant-loop-dest
invariant-loop-dest l = enter_landings l.flows l.from l.lanes l.size (drop l.dest-index l.dests) ≡ enter_landings l.fn.flows l.from l.lanes l.size l.dests
