use Rattle.machine.specs.declared.runner.Departure.{Departure}
use Rattle.machine.specs.Starts.{departures_in}
use Rattle.machine.proofs.Freeing.{left_is, reason_at, silent_more, none_halts}
use Rattle.machine.proofs.free.first_halt.Goals as goal

pub returns-in-Halted-clause-least : goal.returns-in-Halted-clause-least
returns-in-Halted-clause-least g c =
    let departure = Departure.Halted c.in-Halted.halt in (
      c.loop-at.at,
      reason_at (departures_in c.args.runners.now) c.loop-at.at departure
          (left_is c.args.runners.now c.loop-at.at c.index-runners-at.result c.deref-runner.result.now departure c.loop-at-test.true
          c.index-runners-at.is c.deref-runner.ensures c.in-Halted.is),
      c.loop-at.invariant,
    )

pub returns-clause-none : goal.returns-clause-none
returns-clause-none g c = none_halts c.args.runners.now c.loop-at.at c.loop-at-test.false c.loop-at.invariant

pub loop-at-preserved : goal.loop-at-preserved
loop-at-preserved g c = silent_more c.args.runners.now c.loop-at.at c.index-runners-at.result c.deref-runner.result.now c.loop-at-test.true
    c.index-runners-at.is c.deref-runner.ensures c.in_default.not-Halted c.loop-at.invariant
