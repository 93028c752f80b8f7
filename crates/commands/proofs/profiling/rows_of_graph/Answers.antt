use Rattle.std.proofs.Common.{List, ℕ, inr, sym, ap, ◌∙◌, subst}
use Rattle.object_view.specs.Reading.{Opened}
use Rattle.driver.specs.Refused.{IsCompiled}
use Rattle.commands.proofs.Rowed.{no_row_of, rows_of_none}
use Rattle.commands.proofs.profiling.rows_of_graph.Goals as goal

pub returns-then-has_none : goal.returns-then-has_none
returns-then-has_none g c = λ text good. rows_of_none text c.args.inputs.now c.args.options.now c.args.sizes _
    (c.has_none.ensures.none c.if-has_none.true) c.new.ensures.items

pub returns-in-Err : goal.returns-in-Err
returns-in-Err g c = λ text good. inr (no_row_of text c.args.inputs.now c.args.options.now c.args.sizes c.args.checked.now good
    (c.has_none.ensures.some c.if-has_none.false) c.in-Err.fault c.in-Err.ensures c.fault_refusal.result c.fault_refusal.ensures)

pub returns : goal.returns
returns g c = λ text good.
    let o = c.in-Ok-compile_graph.object in
    let same = ap (λ (x : Opened). x.bytes) (c.in-Ok-new.ensures ∙ c.as_object.ensures) in
    c.rows_of.ensures text c.args.checked.now (subst (λ (bs : List ℕ). IsCompiled text c.args.checked.now bs) (sym same)
    (record { good = good; object = c.in-Ok-compile_graph.ensures }))
