use Rattle.std.proofs.Common.{◌≡◌, drop}
use Rattle.slot_alloc.specs.Words.{own_landings}
use Rattle.slot_alloc.proofs.passes.own_landings.Given as goal

abbrev pub invariant-loop-dest : goal.invariant-loop-dest
invariant-loop-dest l = own_landings l.own l.lanes l.size (drop l.dest-index l.dests) ≡ own_landings l.fn.flows l.lanes l.size l.dests
