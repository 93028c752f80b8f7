use Rattle.in_turn.specs.Printed.{PrintsObjectRunOn}
use Rattle.ets_core.specs.Taken.{PrintsTaking, config_of, take_of}
use Rattle.ets_core.proofs.Given.{given}
use Rattle.ets_core.proofs.texts.ets_exec_text.Goals as goal

pub returns : goal.returns
returns c =
    given (λ r old new. PrintsTaking (λ take. PrintsObjectRunOn c.args.object.now c.args.inputs.now (config_of c.args.how.now) take) (take_of c.args.how.now.take) r old new) c.args.object.now c.args.text.now c.give.new.buffer c.give.result c.print_object_run-outcome.result
    c.new-printed.result.items c.print_object_run-outcome.new.writer.items c.deref.result.now c.new-printed.ensures.items c.deref.ensures.value (c.is_too_long.ensures.short c.if-is_too_long.false)
    c.print_object_run-outcome.ensures c.give.ensures
