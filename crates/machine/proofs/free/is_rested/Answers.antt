use Rattle.machine.specs.declared.runner.Departure.{Departure}
use Rattle.machine.proofs.Freeing.{left_is}
use Rattle.machine.proofs.free.is_rested.Goals as goal

pub returns-in-Rested : goal.returns-in-Rested
returns-in-Rested g c = λ _. (
  c.loop-at.at,
  left_is c.args.runners.now c.loop-at.at c.index-runners-at.result c.deref-runner.result.now
      Departure.Rested c.loop-at-test.true c.index-runners-at.is c.deref-runner.ensures c.in-Rested.is,
)
