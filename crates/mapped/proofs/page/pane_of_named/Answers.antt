use Rattle.std.proofs.Common.{inr}
use Rattle.mapped.proofs.page.pane_of_named.Goals as goal

pub returns-in-Err : goal.returns-in-Err
returns-in-Err g c = λ text good. inr (c.in-Err.fault, c.in-Err.ensures text c.args.parts.inputs.now good, c.lower_refusal.ensures)

pub returns-in-Ok-pane_of_made : goal.returns-in-Ok-pane_of_made
returns-in-Ok-pane_of_made g c = λ text good. c.in-Ok-pane_of_made.ensures text good.text_is (c.in-Ok.ensures text c.args.parts.inputs.now good)
