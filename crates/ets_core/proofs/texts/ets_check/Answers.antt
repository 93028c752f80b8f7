use Rattle.commands.specs.Served.{PrintsCheck}
use Rattle.ets_core.proofs.Given.{given}
use Rattle.ets_core.proofs.texts.ets_check.Goals as goal

pub returns : goal.returns
returns c =
    given (λ r old new. PrintsCheck r old new c.args.graph.now) c.args.graph.now c.args.text.now c.give.new.buffer c.give.result c.print_check-outcome.result
    c.new-printed.result.items c.print_check-outcome.new.writer.items c.deref.result.now c.new-printed.ensures.items c.deref.ensures.value (c.is_too_long.ensures.short c.if-is_too_long.false)
    c.print_check-outcome.ensures c.give.ensures
