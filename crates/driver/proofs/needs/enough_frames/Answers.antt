use Rattle.std.proofs.Common.{inr}
use Rattle.driver.proofs.TextNeeds.{enough_of}
use Rattle.driver.proofs.needs.enough_frames.Goals as goal

pub returns-in-Ok-Some : goal.returns-in-Ok-Some
returns-in-Ok-Some g c = inr
    (enough_of c.args.checked.now c.args.inputs.now c.args.activities c.args.elements c.in-Ok-Some.counts.invocations c.in-Ok-Some.counts.iterations
    (rw c.in-Ok-Some.field-0-is at c.in-Ok-Some.ensures.calls) c.frames_for.result c.frames_for.ensures)
