use Rattle.lowered_text.specs.Texts.{map_of}
use Rattle.commands.specs.Lowered.{PrintsLowered}
use Rattle.ets_core.proofs.Given.{given}
use Rattle.ets_core.proofs.texts.ets_map.Goals as goal

pub returns : goal.returns
returns c =
    given (λ r old new. PrintsLowered map_of r old new c.args.program.now) c.args.program.now c.args.text.now c.give.new.buffer c.give.result c.print_map-outcome.result
    c.new-printed.result.items c.print_map-outcome.new.writer.items c.deref.result.now c.new-printed.ensures.items c.deref.ensures.value (c.is_too_long.ensures.short c.if-is_too_long.false)
    c.print_map-outcome.ensures c.give.ensures
