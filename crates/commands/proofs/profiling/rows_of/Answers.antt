use Rattle.commands.proofs.Rowed.{no_rows, row_more, no_row_more}
use Rattle.std.proofs.Common.{ap, sym, ◌∙◌, inr}
use Rattle.commands.proofs.profiling.rows_of.Goals as goal
use Rattle.commands.proofs.profiling.rows_of.Goals.{then-has+in-Ok-measure+in-Ok-push, else-has}

pub loop-elements-init : goal.loop-elements-init
loop-elements-init g c = λ text gr compiled. no_rows _ _ _ c.args.sizes _ c.new-rows.ensures.items

pub loop-elements-preserved : goal.loop-elements-preserved
loop-elements-preserved g c = λ text gr compiled.
    elim c.if-has.branch [
      | then-has+in-Ok-measure+in-Ok-push w ↦ row_more _ _ _ c.args.sizes c.loop-elements.elements c.loop-elements.rows.items _ w.in-Ok-measure.row
          c.has.result c.has.ensures w.if-has.true (c.loop-elements.invariant text gr compiled)
          (w.in-Ok-measure.ensures text gr compiled) (ap (λ v. v.items) w.rows-is ∙ w.in-Ok-push.ensures.items)
      | else-has w ↦ no_row_more _ _ _ c.args.sizes c.loop-elements.elements c.loop-elements.rows.items _ c.has.result c.has.ensures w.if-has.false
          (c.loop-elements.invariant text gr compiled) (ap (λ v. v.items) w.rows-is)
    ]

pub returns-in-Err : goal.returns-in-Err
returns-in-Err g c = λ text gr compiled. inr (record {
  elements = c.loop-elements.elements;
  low = c.loop-elements-test.true;
  chosen = sym c.has.ensures ∙ c.if-has.true;
  refused = c.in-Err.ensures text gr compiled;
  rows = c.loop-elements.rows.items;
  earlier = c.loop-elements.invariant text gr compiled;
})
