use Rattle.std.proofs.Common.{false}
use Rattle.driver.specs.Headline.{stops_in}
use Rattle.driver.proofs.ObjectRuns.{shows_object, runs_by_turns}
use Rattle.driver.proofs.running.run_code.Goals as goal

pub returns-clause-shows : goal.returns-clause-shows
returns-clause-shows g c =
    shows_object c.args.code.now.bytes c.args.inputs.now c.args.config c.in_ok-machine.machine c.in_ok-machine.ensures false
    (stops_in c.args.order g.G.Gate.may_stop) c.run_in.result c.run_in.ensures.shows

pub returns-clause-turns : goal.returns-clause-turns
returns-clause-turns g c = λ take turns.
    runs_by_turns c.args.code.now.bytes c.args.inputs.now c.args.config c.in_ok-machine.machine c.in_ok-machine.ensures take c.run_in.result
    (c.run_in.ensures.turns take turns)
