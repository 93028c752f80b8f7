use Rattle.in_turn.specs.Printed.{PrintsMeaningOn}
use Rattle.ets_core.proofs.Given.{given}
use Rattle.ets_core.proofs.texts.ets_mean_text.Goals as goal

pub returns : goal.returns
returns c =
    given (λ r old new. PrintsMeaningOn c.args.graph.now c.args.inputs.now c.args.steps r old new) c.args.graph.now c.args.text.now c.give.new.buffer c.give.result c.print_meaning_on-outcome.result
    c.new-printed.result.items c.print_meaning_on-outcome.new.writer.items c.deref.result.now c.new-printed.ensures.items c.deref.ensures.value (c.is_too_long.ensures.short c.if-is_too_long.false)
    c.print_meaning_on-outcome.ensures c.give.ensures
