use Rattle.std.proofs.Common.{false}
use Rattle.driver.proofs.ObjectRuns.{shows_object, runs_by_turns}
use Rattle.in_turn.proofs.running.run_code_in_turn.Goals as goal

pub returns : goal.returns
returns g c = (
  shows_object c.args.code.now.bytes c.args.inputs.now c.args.config c.in_ok-machine.machine c.in_ok-machine.ensures false false c.run_in_turn.result
      c.run_in_turn.ensures.shows,
  runs_by_turns c.args.code.now.bytes c.args.inputs.now c.args.config c.in_ok-machine.machine c.in_ok-machine.ensures c.args.take c.run_in_turn.result
      c.run_in_turn.ensures,
)
