use Rattle.commands.specs.Assembled.{PrintsAssembled}
use Rattle.ets_core.proofs.Given.{given}
use Rattle.ets_core.proofs.texts.ets_assemble.Goals as goal

pub returns : goal.returns
returns c =
    given (λ r old new. PrintsAssembled r old new c.args.listing.now) c.args.listing.now c.args.text.now c.give.new.buffer c.give.result c.print_assembled-outcome.result
    c.new-printed.result.items c.print_assembled-outcome.new.writer.items c.deref.result.now c.new-printed.ensures.items c.deref.ensures.value (c.is_too_long.ensures.short c.if-is_too_long.false)
    c.print_assembled-outcome.ensures c.give.ensures
