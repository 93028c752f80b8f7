use Rattle.std.proofs.Common.{◌<◌, arith}
use Rattle.machine.proofs.Passes.{wait_more}
use Rattle.machine.proofs.free.all_wait.Goals as goal

pub loop-at-preserved : goal.loop-at-preserved
loop-at-preserved g c = wait_more {C = g.row.C.Denot} {A = g.row.A.Denot} {L = g.row.L.Denot} c.args.runners.now c.loop-at.at c.index-runners-at.result
    c.deref-runner.result.now c.loop-at-test.true c.index-runners-at.is c.deref-runner.ensures c.in-Waited.is c.loop-at.invariant
