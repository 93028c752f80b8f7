use Rattle.driver.proofs.Needed.{untold}
use Rattle.driver.proofs.needs.machine_needs.Goals as goal

pub returns-clause-none : goal.returns-clause-none
returns-clause-none g c =
    untold c.args.checked.now c.args.inputs.now c.args.activities c.in-Ok-Some.counts.invocations c.in-Ok-Some.counts.iterations _ c.in_ok-plan.ensures
    (rw c.in-Ok-Some.field-0-is at c.in-Ok-Some.ensures.calls) c.needs_in.result c.needs_in.ensures.none
