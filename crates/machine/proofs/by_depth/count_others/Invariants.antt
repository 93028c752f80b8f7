use Rattle.std.proofs.Common.{◌≡◌, ◌≤◌, take}
use Rattle.machine.specs.ByDepth.{besides}
use Rattle.machine.proofs.by_depth.count_others.Given as goal

abbrev pub invariant-loop-at : goal.invariant-loop-at
invariant-loop-at g l = record { count : l.others ≡ besides (take l.at l.queue.items); few : l.others ≤ l.most }
