use Rattle.std.proofs.Common.{false}
use Rattle.driver.proofs.ObjectRuns.{shows_object, runs_by_rounds}
use Rattle.driver.proofs.running.run_code_counted.Goals as goal

pub returns-clause-shows : goal.returns-clause-shows
returns-clause-shows g c =
    shows_object c.args.code.now.bytes c.args.inputs.now c.args.config c.in_ok-machine.machine c.in_ok-machine.ensures false g.G.Gate.may_stop
    c.run_counted_taking.result.report c.run_counted_taking.ensures.shows

pub returns-clause-rounds : goal.returns-clause-rounds
returns-clause-rounds g c =
    runs_by_rounds c.args.code.now.bytes c.args.inputs.now c.args.config c.in_ok-machine.machine c.in_ok-machine.ensures c.args.take g.G.Gate.may_stop
    c.run_counted_taking.result.rounds c.run_counted_taking.result.report c.run_counted_taking.ensures.truth
