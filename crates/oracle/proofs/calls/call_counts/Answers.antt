use Rattle.std.proofs.Common.{◌≡◌, Some, None, length, sym, ap, ◌∙◌, arith}
use Rattle.oracle.specs.Lines.{inputs_at}
use Rattle.oracle.specs.Running.{main_place}
use Rattle.oracle.proofs.Called.{counts_told}
use Rattle.oracle.proofs.Resolved.{few_cells}
use Rattle.oracle.proofs.Whole.{runs_end}
use Rattle.oracle.proofs.calls.call_counts.Goals as goal

pub run_counted-requires-clause-few : goal.run_counted-requires-clause-few
run_counted-requires-clause-few g c = few_cells c.args.checked.now c.graph.ensures.limits

pub run_counted-requires-clause-has_end : goal.run_counted-requires-clause-has_end
run_counted-requires-clause-has_end g c =
    let checked = c.args.checked.now in
    let fit : length c.args.inputs.now ≡ inputs_at checked (main_place checked) = c.if-inputs-input_count.false ∙ c.input_count.ensures
    ∙ ap (λ g. inputs_at g c.main_place.result) c.graph.ensures.same ∙ ap (inputs_at checked) c.main_place.ensures in
    let low = c.ranges.steps.fits in
    let end = runs_end checked c.args.inputs.now c.args.steps c.graph.ensures.limits c.graph.ensures.well fit (omega (arith, low)) in
    λ e. let no : Some end.0 ≡ None = sym end.1 ∙ e in cc

pub returns-in-Ok-clause-calls : goal.returns-in-Ok-clause-calls
returns-in-Ok-clause-calls g c =
    let checked = c.args.checked.now in
    let fit : length c.args.inputs.now ≡ inputs_at checked (main_place checked) = c.if-inputs-input_count.false ∙ c.input_count.ensures
    ∙ ap (λ g. inputs_at g c.main_place.result) c.graph.ensures.same ∙ ap (inputs_at checked) c.main_place.ensures in
    let low = c.ranges.steps.fits in
    counts_told checked c.args.inputs.now c.args.steps c.graph.ensures.limits c.graph.ensures.well fit (omega (arith, low)) c.in-Ok.counts
    c.in-Ok.ensures.counts
