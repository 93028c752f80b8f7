use Rattle.lowered_text.specs.Texts.{graph_and_inputs}
use Rattle.commands.specs.Lowered.{PrintsLowered}
use Rattle.ets_core.proofs.Given.{given}
use Rattle.ets_core.proofs.texts.ets_lower.Goals as goal

pub returns : goal.returns
returns c =
    given (λ r old new. PrintsLowered graph_and_inputs r old new c.args.program.now) c.args.program.now c.args.text.now c.give.new.buffer c.give.result c.print_lowered-outcome.result
    c.new-printed.result.items c.print_lowered-outcome.new.writer.items c.deref.result.now c.new-printed.ensures.items c.deref.ensures.value (c.is_too_long.ensures.short c.if-is_too_long.false)
    c.print_lowered-outcome.ensures c.give.ensures
