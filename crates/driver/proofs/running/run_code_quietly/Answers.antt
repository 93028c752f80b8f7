use Rattle.driver.proofs.ObjectRuns.{shows_in_quietly}
use Rattle.driver.proofs.running.run_code_quietly.Goals as goal

pub returns : goal.returns
returns g c =
    shows_in_quietly c.args.code.now.bytes c.args.inputs.now c.args.config c.in_ok-machine.machine c.in_ok-machine.ensures c.args.order
    g.G.Gate.may_stop c.run_quietly_in.result
    c.run_quietly_in.ensures.shows c.run_quietly_in.ensures.turns
