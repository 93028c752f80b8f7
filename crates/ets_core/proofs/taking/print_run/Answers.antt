use Rattle.std.proofs.Common.{Option, sym, subst, ◌∙◌}
use Rattle.schedule.specs.declared.config.Config.{Config}
use Rattle.schedule.specs.declared.take.Take.{Take}
use Rattle.in_turn.specs.Printed.{PrintsRunOn}
use Rattle.ets_core.specs.Taken.{PrintsTaking, config_of}
use Rattle.ets_core.proofs.taking.print_run.Goals as goal

pub returns-in-Some : goal.returns-in-Some
returns-in-Some g c =
    let old = g.W.Write.contents c.args.writer.now in
    let new = g.W.Write.contents c.print_run_on.new.writer in
    let here = subst (λ (d : Config). PrintsRunOn c.args.text.now c.args.inputs.now d c.in-Some.take c.print_run_on.result old new) c.config_of.ensures
    c.print_run_on.ensures in
    subst (λ (o : Option Take). PrintsTaking (λ take. PrintsRunOn c.args.text.now c.args.inputs.now (config_of c.args.how.now) take) o
    c.print_run_on.result old new)
    (sym (sym c.take_of.ensures ∙ c.in-Some.is)) here
