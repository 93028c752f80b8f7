use Rattle.machine.proofs.Passes.{FirstWait}
use Rattle.machine.proofs.free.all_wait.Given as goal

abbrev pub invariant-loop-at : goal.invariant-loop-at
invariant-loop-at g l = FirstWait {C = g.row.C.Denot} {A = g.row.A.Denot} {L = g.row.L.Denot} l.at l.runners
