use Rattle.std.proofs.Common.{ap, sym, ◌∙◌, [], Some}
use Rattle.oracle.specs.Running.{plain, full_in, end_result_of}
use Rattle.oracle.proofs.RowRuns.{told_from, told_none}
use Rattle.oracle.proofs.runs.run_to_end.Goals as goal

pub run-requires-clause-has_end : goal.run-requires-clause-has_end
run-requires-clause-has_end g c =
    let s = c.in_ok-state.state in
    let first = plain s.invocations s.fresh.items [] s.deferred.items s.cells.items s.outputs.items in
    λ e. c.requires.has_end (told_none c.args.checked.now c.args.inputs.now c.args.steps first s.waiting.items (λ v. v.items) c.in_ok-state.ensures.0
    c.in_ok-state.ensures.1 e)

pub returns : goal.returns
returns g c =
    let s = c.in_ok-state.state in
    let n = c.run.new.state in
    let checked = c.args.checked.now in
    let first = plain s.invocations s.fresh.items [] s.deferred.items s.cells.items s.outputs.items in
    told_from checked c.args.inputs.now c.args.steps first s.waiting.items (λ v. v.items) c.in_ok-state.ensures.0 c.in_ok-state.ensures.1
    ∙ ap (end_result_of checked) c.in_ok-end.ensures
    ∙ ap (λ cells. Some (c.in_ok-end.end, n.outputs.items, cells))
    (sym (c.in_ok-cells.ensures ∙ ap (λ cells. full_in cells 0 0 c.arrays_of.result.now) c.deref-2.ensures.value
    ∙ ap (λ arrays. full_in n.cells.items 0 0 arrays) c.arrays_of.ensures))
