use Rattle.std.proofs.Common.{ℤ, List, sym, ◌∙◌, subst}
use Rattle.driver.specs.ListedEvents.{IsWatched}
use Rattle.driver.specs.Refused.{IsRefused}
use Rattle.commands.proofs.Feeds.{IsRefusedOption, not_run, trace_of, run_refused, mode_refused}
use Rattle.commands.proofs.tracing.watch_input.Goals as goal

pub returns-in-Err : goal.returns-in-Err
returns-in-Err g c = not_run c.args.input.now c.in-Err.refusal c.in-Err.ensures c.args.options.now

pub returns-in_default : goal.returns-in_default
returns-in_default g c =
    mode_refused c.args.input.now _ _ c.in-Ok.ensures c.args.options.now c.config_of-config.result c.config_of-config.ensures (sym c.order_in.ensures ∙ c.in_default.is)
    c.option_refusal.result
    (subst (λ (zs : List ℤ). IsRefusedOption c.in-Ok.feed.text.now zs c.config_of-config.result c.option_refusal.result) c.deref.ensures.value
    c.option_refusal.ensures)

pub returns-in-Ok-watch_text : goal.returns-in-Ok-watch_text
returns-in-Ok-watch_text g c =
    let w = c.in-Ok-watch_text.traced in
    trace_of c.args.input.now _ _ c.in-Ok.ensures c.args.options.now w.compiled.checked w.compiled.object.bytes w.watched.report
    w.watched.moments.items c.in-Some.order (sym c.order_in.ensures ∙ c.in-Some.is) c.config_of-config.result c.config_of-config.ensures g.G.Gate.may_stop c.requires
    (subst (λ (zs : List ℤ). IsWatched c.in-Some.order c.in-Ok.feed.text.now w.compiled.checked w.compiled.object.bytes zs c.config_of-config.result
    g.G.Gate.may_stop w.watched.report w.watched.moments.items) c.deref-2.ensures.value c.in-Ok-watch_text.ensures)

pub returns : goal.returns
returns g c =
    run_refused c.args.input.now _ _ c.in-Ok.ensures c.args.options.now c.config_of-config.result c.config_of-config.ensures c.in-Err-watch_text.fault
    (subst (λ (zs : List ℤ). IsRefused c.in-Ok.feed.text.now zs c.config_of-config.result c.in-Err-watch_text.fault) c.deref-2.ensures.value
    c.in-Err-watch_text.ensures) c.fault_refusal.result c.fault_refusal.ensures
