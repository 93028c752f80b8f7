use Rattle.std.proofs.Common.{ℤ, List, subst, arith}
use Rattle.schedule.specs.declared.config.Config.{Config}
use Rattle.driver.specs.Refused.{IsRefused}
use Rattle.commands.specs.Agreed.{IsFirstOther}
use Rattle.commands.proofs.Agreeing.{if_some}
use Rattle.commands.proofs.Feeds.{IsRefusedOption, not_ordered, order_refused, count_refused}
use Rattle.commands.proofs.orders.make_orders.Goals as goal
use Rattle.commands.proofs.orders.make_orders.Goals.{then-config-eq0-via-then-config-eq0, then-config-eq0-via-else-config-eq0+then-lacks_order}

pub returns-in-Err-clause-refused : goal.returns-in-Err-clause-refused
returns-in-Err-clause-refused g c = not_ordered c.args.input.now c.in-Err.refusal c.in-Err.ensures c.args.options.now c.args.count

pub returns-then-config-eq0-clause-refused : goal.returns-then-config-eq0-clause-refused
returns-then-config-eq0-clause-refused g c =
    count_refused c.args.input.now _ _ c.in-Ok.ensures c.args.options.now c.args.count c.config_of-config.result c.config_of-config.ensures
    (λ good. elim c.then-config-eq0.branch [
      | then-config-eq0-via-then-config-eq0 w ↦ absurd omega (arith, good.elements, w.if-config-eq0.true)
      | then-config-eq0-via-else-config-eq0+then-lacks_order w ↦ w.lacks_order.ensures.none w.if-lacks_order.true
    ])
    c.option_refusal.result
    (subst (λ (zs : List ℤ). IsRefusedOption c.in-Ok.feed.text.now zs c.config_of-config.result c.option_refusal.result) c.deref.ensures.value
    c.option_refusal.ensures)

pub returns-in-Ok-run_orders-clause-other : goal.returns-in-Ok-run_orders-clause-other
returns-in-Ok-run_orders-clause-other g c =
    let o = c.in-Ok-run_orders.orders in
    if_some _ _ o.reports.other
    (λ x h. record {
      text = c.in-Ok.feed.text.now;
      inputs = c.in-Ok.feed.integers.items;
      feed = c.in-Ok.ensures;
      ordered = c.lacks_order.ensures.ordered c.if-lacks_order.false;
      first_other = subst (λ (d : Config). IsFirstOther c.in-Ok.feed.text.now c.in-Ok.feed.integers.items d c.args.seed c.args.count o.checked
          o.reports.first x.number o.checked x.report) c.config_of-config.ensures
          (subst (λ (zs : List ℤ). IsFirstOther c.in-Ok.feed.text.now zs c.config_of-config.result c.args.seed c.args.count o.checked o.reports.first
          x.number o.checked x.report) c.deref-2.ensures.value h);
    })
    c.in-Ok-run_orders.ensures.other

pub returns-clause-refused : goal.returns-clause-refused
returns-clause-refused g c =
    order_refused c.args.input.now _ _ c.in-Ok.ensures c.args.options.now c.args.count c.config_of-config.result c.config_of-config.ensures
    c.in-Err-run_orders.fault
    (subst (λ (zs : List ℤ). IsRefused c.in-Ok.feed.text.now zs c.config_of-config.result c.in-Err-run_orders.fault) c.deref-2.ensures.value
    c.in-Err-run_orders.ensures.refused) c.fault_refusal.result c.fault_refusal.ensures
