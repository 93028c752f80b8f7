use Rattle.std.proofs.Common.{false}
use Rattle.driver.proofs.ObjectRuns.{shows_in_turn_quietly}
use Rattle.driver.proofs.running.run_code_quietly_in_turn.Goals as goal

pub returns : goal.returns
returns g c =
    shows_in_turn_quietly c.args.code.now.bytes c.args.inputs.now c.args.config c.in_ok-machine.machine c.in_ok-machine.ensures c.args.take false
    c.run_quietly_in_turn.result c.run_quietly_in_turn.ensures
