use Rattle.std.proofs.Common.{sym, ◌∙◌, arith}
use Rattle.commands.proofs.Rowed.{none_below, none_more, none_in_all}
use Rattle.commands.proofs.profiling.has_none.Goals as goal

pub loop-elements-init : goal.loop-elements-init
loop-elements-init c = record { few = omega arith; none = none_below c.args.sizes }

pub loop-elements-preserved : goal.loop-elements-preserved
loop-elements-preserved c = record {
  few = omega (arith, c.loop-elements-test.true);
  none = none_more c.args.sizes c.loop-elements.elements
      c.has.result c.has.ensures c.if-has.false c.loop-elements.invariant.none;
}

pub returns-then-has-clause-some : goal.returns-then-has-clause-some
returns-then-has-clause-some c = λ yes. (c.loop-elements.elements, c.loop-elements-test.true, sym c.has.ensures ∙ c.if-has.true, c.loop-elements.invariant.none)

pub returns-clause-none : goal.returns-clause-none
returns-clause-none c = λ no. none_in_all c.args.sizes c.loop-elements.elements (omega (arith, c.loop-elements-test.false))
    c.loop-elements.invariant.few c.loop-elements.invariant.none
