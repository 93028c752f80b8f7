use Rattle.std.proofs.Common.{ℤ, List, sym, ◌∙◌, subst}
use Rattle.driver.specs.Headline.{ReportsQuietly}
use Rattle.driver.specs.Refused.{IsRefused}
use Rattle.commands.proofs.Feeds.{IsRefusedOption, not_run, run_of, run_refused, mode_refused}
use Rattle.commands.proofs.serving.run_input.Goals as goal

pub returns-in-Err : goal.returns-in-Err
returns-in-Err g c = not_run c.args.input.now c.in-Err.refusal c.in-Err.ensures c.args.options.now

pub returns-in_default : goal.returns-in_default
returns-in_default g c =
    mode_refused c.args.input.now _ _ c.in-Ok.ensures c.args.options.now c.config_of-config.result c.config_of-config.ensures (sym c.order_in.ensures ∙ c.in_default.is)
    c.option_refusal.result
    (subst (λ (zs : List ℤ). IsRefusedOption c.in-Ok.feed.text.now zs c.config_of-config.result c.option_refusal.result) c.deref.ensures.value
    c.option_refusal.ensures)

pub returns-in-Ok-run_text : goal.returns-in-Ok-run_text
returns-in-Ok-run_text g c =
    let e = c.in-Ok-run_text.emulated in
    run_of c.args.input.now _ _ c.in-Ok.ensures c.args.options.now e.checked e.report c.in-Some.order (sym c.order_in.ensures ∙ c.in-Some.is) c.config_of-config.result
    c.config_of-config.ensures
    g.G.Gate.may_stop c.requires
    (subst (λ (zs : List ℤ). ReportsQuietly c.in-Some.order c.in-Ok.feed.text.now e.checked zs c.config_of-config.result g.G.Gate.may_stop e.report)
    c.deref-2.ensures.value c.in-Ok-run_text.ensures)

pub returns : goal.returns
returns g c =
    run_refused c.args.input.now _ _ c.in-Ok.ensures c.args.options.now c.config_of-config.result c.config_of-config.ensures c.in-Err-run_text.fault
    (subst (λ (zs : List ℤ). IsRefused c.in-Ok.feed.text.now zs c.config_of-config.result c.in-Err-run_text.fault) c.deref-2.ensures.value
    c.in-Err-run_text.ensures) c.fault_refusal.result c.fault_refusal.ensures
