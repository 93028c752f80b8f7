use Rattle.command_line.proofs.WordForms.{number_of-ok, number_of-err}
use Rattle.command_line.proofs.options.number_of.Goals as goal

pub returns-in-Ok : goal.returns-in-Ok
returns-in-Ok c = number_of-ok c.args.text.now c.in-Ok.number c.in-Ok.ensures.value.0

pub returns-in-Err : goal.returns-in-Err
returns-in-Err c = number_of-err c.args.text.now c.in-Err.ensures.value.0
