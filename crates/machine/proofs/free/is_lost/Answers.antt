use Rattle.machine.proofs.Freeing.{found_more, none_lost}
use Rattle.machine.proofs.free.is_lost.Goals as goal

pub returns : goal.returns
returns g c = λ _. none_lost c.args.runners.now c.loop-at.at c.loop-at-test.false c.loop-at.invariant

pub loop-at-preserved : goal.loop-at-preserved
loop-at-preserved g c = found_more c.args.runners.now c.loop-at.at c.index-runners-at.result c.deref-runner.result.now c.loop-at-test.true
    c.index-runners-at.is c.deref-runner.ensures c.in_default.not-Lost c.loop-at.invariant
