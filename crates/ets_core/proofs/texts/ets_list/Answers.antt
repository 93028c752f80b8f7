use Rattle.driver.specs.Disassembled.{listing_of}
use Rattle.commands.specs.Served.{PrintsOf}
use Rattle.ets_core.proofs.Given.{given}
use Rattle.ets_core.proofs.texts.ets_list.Goals as goal

pub returns : goal.returns
returns c =
    given (λ r old new. PrintsOf listing_of r old new c.args.object.now) c.args.object.now c.args.text.now c.give.new.buffer c.give.result c.print_listing-outcome.result
    c.new-printed.result.items c.print_listing-outcome.new.writer.items c.deref.result.now c.new-printed.ensures.items c.deref.ensures.value (c.is_too_long.ensures.short c.if-is_too_long.false)
    c.print_listing-outcome.ensures c.give.ensures
