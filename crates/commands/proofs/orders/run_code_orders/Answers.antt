use Rattle.std.proofs.Common.{◌<◌, rules, arith}
use Rattle.commands.specs.Agreed.{AreSame}
use Rattle.commands.proofs.Agreeing.{begin, go_on, all}
use Rattle.commands.proofs.orders.run_code_orders.Goals as goal

pub loop-number-init : goal.loop-number-init
loop-number-init g c = λ text gr compiled. begin _ _ _ _ _ _ (c.in_ok-first.ensures text gr compiled)

pub loop-number-preserved : goal.loop-number-preserved
loop-number-preserved g c = λ text gr compiled.
    let h = c.are_same.ensures in
    go_on _ _ _ _ _ _ c.loop-number.number (c.loop-number.invariant text gr compiled) _ _ (c.in_ok-report.ensures text gr compiled) (h.0 (search rules))

pub returns-clause-same : goal.returns-clause-same
returns-clause-same g c = λ text gr compiled none. all _ _ _ _ _ _ c.loop-number.number c.args.count c.loop-number-test.false
    (c.loop-number.invariant text gr compiled)

pub returns-then-not-are_same-clause-other : goal.returns-then-not-are_same-clause-other
returns-then-not-are_same-clause-other g c = λ text gr compiled.
    let low : 0 < c.loop-number.number = omega (arith, c.loop-number.auto.number) in
    let differ : AreSame c.loop-number.first c.in_ok-report.report → ⊥ = search rules in
    record {
      later = low;
      asked = c.loop-number-test.true;
      agreed = c.loop-number.invariant text gr compiled;
      other = c.in_ok-report.ensures text gr compiled;
      differ = differ;
    }
