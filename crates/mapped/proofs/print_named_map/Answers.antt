use Rattle.std.proofs.Common.{inl, inr}
use Rattle.mapped.proofs.print_named_map.Goals as goal

pub returns-in-Ok : goal.returns-in-Ok
returns-in-Ok g c = λ text good. c.print_made_map.ensures text good.text_is (c.in-Ok.ensures text c.args.parts.inputs.now good)

pub returns-in-Err : goal.returns-in-Err
returns-in-Err g c = λ text good.
    inr (c.lower_refusal.result, inl (c.in-Err.fault, c.in-Err.ensures text c.args.parts.inputs.now good, c.lower_refusal.ensures), c.refuse.ensures)
