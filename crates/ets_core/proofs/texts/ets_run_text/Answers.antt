use Rattle.in_turn.specs.Printed.{PrintsRunOn}
use Rattle.ets_core.specs.Taken.{PrintsTaking, config_of, take_of}
use Rattle.ets_core.proofs.Given.{given}
use Rattle.ets_core.proofs.texts.ets_run_text.Goals as goal

pub returns : goal.returns
returns c =
    given (λ r old new. PrintsTaking (λ take. PrintsRunOn c.args.graph.now c.args.inputs.now (config_of c.args.how.now) take) (take_of c.args.how.now.take) r old new) c.args.graph.now c.args.text.now c.give.new.buffer c.give.result c.print_run-outcome.result
    c.new-printed.result.items c.print_run-outcome.new.writer.items c.deref.result.now c.new-printed.ensures.items c.deref.ensures.value (c.is_too_long.ensures.short c.if-is_too_long.false)
    c.print_run-outcome.ensures c.give.ensures
