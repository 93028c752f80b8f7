use Rattle.driver.proofs.TextObjects.{object_is_ready}
use Rattle.driver.proofs.running.check_start.Goals as goal

pub returns : goal.returns
returns g c = object_is_ready c.args.code.now.bytes c.args.inputs.now c.args.config c.in_ok-_machine._machine c.in_ok-_machine.ensures
